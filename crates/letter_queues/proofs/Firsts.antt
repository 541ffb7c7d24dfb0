-- The first of a queue among sorted letters.
use Rattle.std.proofs.Common.{◌≡◌, Bool, true, false, cond, ◌&&◌, List, [], ◌∷◌, filter, Option, Some, None, refl, ap, sym, ◌∙◌, subst}
use Rattle.std.specs.declared.cmp.Ordering.TheVariants.{Less}
use Rattle.std.specs.declared.ops.Bound.TheVariants.{Included, Unbounded}
use Rattle.std.specs.Ordering.{is_le}
use Rattle.std.specs.List.{AllByRecursion}
use Rattle.std.specs.List.Sorted.{IsStrictlySortedBy}
use Rattle.std.specs.Map.{keys_of, lookup, remove_entry}
use Rattle.std.specs.BTreeMap.{is_at}
use Rattle.std.specs.BTreeMap.Range.{entries_between}
use Rattle.lload_names.specs.declared.names.Letter.{Letter}
use Rattle.lload_names.specs.declared.names.PartName.{PartName}
use Rattle.part_spec.specs.World.{Flight, is_between, without_first}
use Rattle.letter_queues.specs.declared.spot.Spot.{Spot}
use Rattle.letter_queues.specs.Queues.{queue, first_letter}
use Rattle.letter_queues.specs.Rows.{spot_cmp, flight_at, flights_at, is_spot_between, first_spot, first_spot_between}
use Rattle.letter_queues.proofs.Spots.{spot-itself, at-spot, between-parts, first_between, reaches-queue, stays-in-queue}
use Rattle.letter_queues.proofs.QueueLaws.{queue-yes, queue-no}

-- the letters from a spot on
abbrev pub entries_on : Spot → List (Spot × Letter) → List (Spot × Letter)
entries_on from es = entries_between spot_cmp (Included from) Unbounded es

and-true : (b : Bool) → (b && true) ≡ b
and-true true = refl
and-true false = refl

pub on-yes : (from : Spot) (e : Spot × Letter) (es : List (Spot × Letter)) → is_le (spot_cmp from e.0) ≡ true → entries_on from (e ∷ es) ≡ e ∷ entries_on from es
on-yes from e es h = ap (λ b. cond b (e ∷ entries_on from es) (entries_on from es)) (and-true (is_le (spot_cmp from e.0)) ∙ h)

pub on-no : (from : Spot) (e : Spot × Letter) (es : List (Spot × Letter)) → is_le (spot_cmp from e.0) ≡ false → entries_on from (e ∷ es) ≡ entries_on from es
on-no from e es h = ap (λ b. cond b (e ∷ entries_on from es) (entries_on from es)) (and-true (is_le (spot_cmp from e.0)) ∙ h)

-- those of a queue
abbrev of_queue : PartName → PartName → List (Spot × Letter) → List (Spot × Letter)
of_queue s r es = filter (λ e. is_spot_between s r e.0) es

of-yes : (s r : PartName) (e : Spot × Letter) (es : List (Spot × Letter)) → is_spot_between s r e.0 ≡ true → of_queue s r (e ∷ es) ≡ e ∷ of_queue s r es
of-yes s r e es h = ap (λ b. cond b (e ∷ of_queue s r es) (of_queue s r es)) h

of-no : (s r : PartName) (e : Spot × Letter) (es : List (Spot × Letter)) → is_spot_between s r e.0 ≡ false → of_queue s r (e ∷ es) ≡ of_queue s r es
of-no s r e es h = ap (λ b. cond b (e ∷ of_queue s r es) (of_queue s r es)) h

-- the first from a spot on, where it is of the queue
abbrev pub checked : PartName → PartName → List (Spot × Letter) → Option Spot
checked s r [] = None
checked s r (e ∷ es) = cond (is_spot_between s r e.0) (Some e.0) None

none-behind : (s r : PartName) (k : Spot) (es : List (Spot × Letter)) → is_le (spot_cmp (first_between s r) k) ≡ true → is_spot_between s r k ≡ false → AllByRecursion (λ y. spot_cmp k y ≡ Less) (keys_of es) → of_queue s r es ≡ []
none-behind s r k [] l out above = refl
none-behind s r k (e ∷ es) l out above = by (is_spot_between s r e.0) refl (none-behind s r k es l out above.1)
  where
    by : (b : Bool) → is_spot_between s r e.0 ≡ b → (of_queue s r es ≡ []) → of_queue s r (e ∷ es) ≡ []
    by true h next =
        let p = between-parts s r e.0 h in
        absurd (let bad : false ≡ true = sym out ∙ stays-in-queue s r k e.0 l above.0 p.0 p.1 in cc)
    by false h next = of-no s r e es h ∙ next

pub first-on : (s r : PartName) (es : List (Spot × Letter)) → IsStrictlySortedBy spot_cmp (keys_of es) → first_spot_between s r es ≡ checked s r (entries_on (first_between s r) es)
unfolding IsStrictlySortedBy
first-on s r [] sorted = refl
first-on s r (e ∷ es) sorted = by (is_le (spot_cmp (first_between s r) e.0)) (is_spot_between s r e.0) refl refl (first-on s r es sorted.1)
  where
    by : (a b : Bool) → is_le (spot_cmp (first_between s r) e.0) ≡ a → is_spot_between s r e.0 ≡ b → (first_spot_between s r es ≡ checked s r (entries_on (first_between s r) es)) → first_spot_between s r (e ∷ es) ≡ checked s r (entries_on (first_between s r) (e ∷ es))
    by true true l h next =
        ap first_spot (of-yes s r e es h)
        ∙ sym (ap (checked s r) (on-yes (first_between s r) e es l) ∙ ap (λ b. cond b (Some e.0) None) h)
    by true false l h next =
        ap first_spot (of-no s r e es h ∙ none-behind s r e.0 es l h sorted.0)
        ∙ sym (ap (checked s r) (on-yes (first_between s r) e es l) ∙ ap (λ b. cond b (Some e.0) None) h)
    by false true l h next =
        let p = between-parts s r e.0 h in
        absurd (let bad : false ≡ true = sym l ∙ reaches-queue s r e.0 p.0 p.1 in cc)
    by false false l h next =
        ap first_spot (of-no s r e es h) ∙ next
        ∙ sym (ap (checked s r) (on-no (first_between s r) e es l))

pub none-first : (s r : PartName) (es range : List (Spot × Letter)) → IsStrictlySortedBy spot_cmp (keys_of es) → entries_on (first_between s r) es ≡ range → range ≡ [] → None ≡ first_spot_between s r es
none-first s r es range sorted e f = sym (first-on s r es sorted ∙ ap (checked s r) (e ∙ f))

pub some-first : (s r : PartName) (es range t : List (Spot × Letter)) (k : Spot × Letter) (b : Bool) → IsStrictlySortedBy spot_cmp (keys_of es) → entries_on (first_between s r) es ≡ range → range ≡ k ∷ t → is_spot_between s r k.0 ≡ b → cond b (Some k.0) None ≡ first_spot_between s r es
some-first s r es range t k b sorted e f h = sym (first-on s r es sorted ∙ ap (checked s r) (e ∙ f) ∙ ap (λ x. cond x (Some k.0) None) h)

-- the first spot of a queue is of it
some-is : (k q : Spot) → Some k ≡ Some q → k ≡ q
some-is k q e = cc

of-its-queue : (s r : PartName) (k : Spot) (es : List (Spot × Letter)) → first_spot_between s r es ≡ Some k → is_spot_between s r k ≡ true
of-its-queue s r k [] is = absurd (let bad : ◌≡◌ {A = Option Spot} None (Some k) = is in cc)
of-its-queue s r k (e ∷ es) is = by (is_spot_between s r e.0) refl (of-its-queue s r k es)
  where
    by : (b : Bool) → is_spot_between s r e.0 ≡ b → (first_spot_between s r es ≡ Some k → is_spot_between s r k ≡ true) → is_spot_between s r k ≡ true
    by true h next = subst (λ x. is_spot_between s r x ≡ true) (some-is e.0 k (sym (ap first_spot (of-yes s r e es h)) ∙ is)) h
    by false h next = next (sym (ap first_spot (of-no s r e es h)) ∙ is)

-- without the first that passes
without-yes : (test : Flight → Bool) (f : Flight) (fs : List Flight) → test f ≡ true → without_first test (f ∷ fs) ≡ fs
without-yes test f fs e = ap (λ b. elim b [ true ↦ fs | false ↦ f ∷ without_first test fs ]) e

without-no : (test : Flight → Bool) (f : Flight) (fs : List Flight) → test f ≡ false → without_first test (f ∷ fs) ≡ f ∷ without_first test fs
without-no test f fs e = ap (λ b. elim b [ true ↦ fs | false ↦ f ∷ without_first test fs ]) e

-- the letter at that spot is the first of the queue, and without it the first is gone
abbrev IsTaken : PartName → PartName → Spot → List (Spot × Letter) → Type 0
IsTaken s r k es =
    (lookup (is_at (spot_cmp k)) es ≡ first_letter (queue s r (flights_at es)))
    × (flights_at (remove_entry (is_at (spot_cmp k)) es) ≡ without_first (is_between s r) (flights_at es))

pub first-taken : (s r : PartName) (k : Spot) (es : List (Spot × Letter)) → first_spot_between s r es ≡ Some k → IsTaken s r k es
first-taken s r k [] is = absurd (let bad : ◌≡◌ {A = Option Spot} None (Some k) = is in cc)
first-taken s r k (e ∷ es) is = by (is_spot_between s r e.0) refl (first-taken s r k es)
  where
    not-there : (b : Bool) → is_at (spot_cmp k) e.0 ≡ b → is_spot_between s r e.0 ≡ false → is_at (spot_cmp k) e.0 ≡ false
    not-there true i out = absurd (let bad : true ≡ false = sym (of-its-queue s r k (e ∷ es) is) ∙ ap (is_spot_between s r) (at-spot k e.0 i) ∙ out in cc)
    not-there false i out = i

    by : (b : Bool) → is_spot_between s r e.0 ≡ b → (first_spot_between s r es ≡ Some k → IsTaken s r k es) → IsTaken s r k (e ∷ es)
    by true h next =
        let same = some-is e.0 k (sym (ap first_spot (of-yes s r e es h)) ∙ is) in
        let here : is_at (spot_cmp k) e.0 ≡ true = subst (λ x. is_at (spot_cmp x) e.0 ≡ true) same (spot-itself e.0) in (
          ap (λ b. cond b (Some e.1) (lookup (is_at (spot_cmp k)) es)) here ∙ sym (ap first_letter (queue-yes s r (flight_at e) (flights_at es) h)),
          ap (λ b. flights_at (cond b es (e ∷ remove_entry (is_at (spot_cmp k)) es))) here ∙ sym (without-yes (is_between s r) (flight_at e) (flights_at es) h),
        )
    by false h next =
        let rest = next (sym (ap first_spot (of-no s r e es h)) ∙ is) in
        let apart : is_at (spot_cmp k) e.0 ≡ false = not-there (is_at (spot_cmp k) e.0) refl h in (
          ap (λ b. cond b (Some e.1) (lookup (is_at (spot_cmp k)) es)) apart ∙ rest.0 ∙ sym (ap first_letter (queue-no s r (flight_at e) (flights_at es) h)),
          ap (λ b. flights_at (cond b es (e ∷ remove_entry (is_at (spot_cmp k)) es))) apart ∙ ap (λ l. flight_at e ∷ l) rest.1 ∙ sym (without-no (is_between s r) (flight_at e) (flights_at es) h),
        )

-- where there is no first spot, the queue is empty
abbrev IsNone : PartName → PartName → List (Spot × Letter) → Type 0
IsNone s r es = (first_letter (queue s r (flights_at es)) ≡ None) × (without_first (is_between s r) (flights_at es) ≡ flights_at es)

pub none-taken : (s r : PartName) (es : List (Spot × Letter)) → first_spot_between s r es ≡ None → IsNone s r es
none-taken s r [] is = (refl, refl)
none-taken s r (e ∷ es) is = by (is_spot_between s r e.0) refl (none-taken s r es)
  where
    by : (b : Bool) → is_spot_between s r e.0 ≡ b → (first_spot_between s r es ≡ None → IsNone s r es) → IsNone s r (e ∷ es)
    by true h next = absurd (let bad : ◌≡◌ {A = Option Spot} (Some e.0) None = sym (ap first_spot (of-yes s r e es h)) ∙ is in cc)
    by false h next =
        let rest = next (sym (ap first_spot (of-no s r e es h)) ∙ is) in
        (ap first_letter (queue-no s r (flight_at e) (flights_at es) h) ∙ rest.0, without-no (is_between s r) (flight_at e) (flights_at es) h ∙ ap (λ l. flight_at e ∷ l) rest.1)
