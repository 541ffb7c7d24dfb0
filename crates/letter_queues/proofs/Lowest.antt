-- The lowest of parts, and of the senders and receivers of letters.
use Rattle.std.proofs.Common.{◌≡◌, Bool, true, false, cond, ◌&&◌, ◌==◌, List, [], ◌∷◌, ◌++◌, length, filter, map, Option, Some, None, unwrap_or, refl, ap, sym, ◌∙◌, subst, arith}
use Rattle.std.proofs.lemmas.Bool.Decides.{nat_tests}
use Rattle.std.proofs.lemmas.List.{map-append}
use Rattle.std.proofs.lemmas.List.Elements.{filter-append}
use Rattle.std.specs.Prelude.{◌||◌, is_none, slice_get, ⊤}
use Rattle.std.specs.declared.cmp.Ordering.TheVariants.{Less}
use Rattle.std.specs.Ordering.{is_le}
use Rattle.std.specs.Cmp.{both_ways}
use Rattle.std.specs.List.{AllByRecursion, list_any}
use Rattle.std.specs.List.Sorted.{IsStrictlySortedBy}
use Rattle.std.specs.Map.{keys_of}
use Rattle.lload_names.specs.declared.names.Letter.{Letter}
use Rattle.lload_names.specs.declared.names.PartName.{PartName}
use Rattle.lload_names.specs.declared.names.Posted.{Posted}
use Rattle.lload_names.specs.Same.{same_part}
use Rattle.part_spec.specs.World.{Flight, flights, is_to, is_below, lower, lowest}
use Rattle.letter_queues.specs.declared.spot.Spot.{Spot}
use Rattle.letter_queues.specs.Queues.{queue, senders_to, receivers, lower_of, AreSame}
use Rattle.letter_queues.specs.Rows.{spot_cmp, flight_at, flights_at}
use Rattle.letter_queues.proofs.PartOrder.{part-is, part-refl, below-chain, below-split, not-below-itself, neither-below}
use Rattle.letter_queues.proofs.Spots.{receiver-not-below, sender-not-below, first_to, reaches-receiver, stays-of-receiver}
use Rattle.letter_queues.proofs.QueueLaws.{queue-yes, queue-no}
use Rattle.letter_queues.proofs.Firsts.{entries_on, on-yes, on-no}

-- whether a part is among these
abbrev is_among : PartName → List PartName → Bool
is_among p ps = list_any (λ q. same_part p q) ps

-- a part is the lowest that passes, or none passes
abbrev IsLowest : (PartName → Bool) → Option PartName → Type 0
IsLowest test None = (p : PartName) → test p ≡ false
IsLowest test (Some p) = (test p ≡ true) × ((q : PartName) → is_below q p ≡ true → test q ≡ false)

or-none : (a b : Bool) → a ≡ false → b ≡ false → (a || b) ≡ false
or-none a b e f = ap (λ x. x || b) e ∙ f

or-left : (a b : Bool) → a ≡ true → (a || b) ≡ true
or-left a b e = ap (λ x. x || b) e

or-right : (a b : Bool) → b ≡ true → (a || b) ≡ true
or-right true b e = refl
or-right false b e = e

lowest-join : (P Q : PartName → Bool) (a b : Option PartName) → IsLowest P a → IsLowest Q b → IsLowest (λ p. P p || Q p) (lower_of a b)
lowest-join P Q None None h k = λ p. or-none (P p) (Q p) (h p) (k p)
lowest-join P Q None (Some q) h k = (or-right (P q) (Q q) k.0, λ p l. or-none (P p) (Q p) (h p) (k.1 p l))
lowest-join P Q (Some p) None h k = (or-left (P p) (Q p) h.0, λ x l. or-none (P x) (Q x) (h.1 x l) (k x))
lowest-join P Q (Some p) (Some q) h k = by (is_below q p) refl
  where
    by : (b : Bool) → is_below q p ≡ b → IsLowest (λ x. P x || Q x) (Some (elim b [ true ↦ q | false ↦ p ]))
    by true e = (or-right (P q) (Q q) k.0, λ x l. or-none (P x) (Q x) (h.1 x (below-chain x q p l e)) (k.1 x l))
    by false e = (or-left (P p) (Q p) h.0, λ x l. or-none (P x) (Q x) (h.1 x l) (k.1 x (below-split x q p l e)))

below-apart : (q p : PartName) → is_below q p ≡ true → same_part q p ≡ false
below-apart q p l = by (same_part q p) refl
  where
    by : (b : Bool) → same_part q p ≡ b → same_part q p ≡ false
    by true e = absurd (let bad : true ≡ false = sym l ∙ ap (λ x. is_below x p) (part-is q p e) ∙ not-below-itself p in cc)
    by false e = e

lowest-is : (ps : List PartName) → IsLowest (λ p. is_among p ps) (lowest ps)
lowest-is [] = λ p. refl
lowest-is (p ∷ ps) = lowest-join (λ x. same_part x p) (λ x. is_among x ps) (Some p) (lowest ps) (part-refl p, λ q l. below-apart q p l) (lowest-is ps)

-- there is but one lowest
one-lowest : (P Q : PartName → Bool) (a b : Option PartName) → IsLowest P a → IsLowest Q b → ((p : PartName) → P p ≡ Q p) → a ≡ b
one-lowest P Q None None h k same = refl
one-lowest P Q None (Some q) h k same = absurd (let bad : false ≡ true = sym (h q) ∙ same q ∙ k.0 in cc)
one-lowest P Q (Some p) None h k same = absurd (let bad : false ≡ true = sym (k p) ∙ sym (same p) ∙ h.0 in cc)
one-lowest P Q (Some p) (Some q) h k same = ap Some (part-is p q (by (is_below p q) (is_below q p) refl refl))
  where
    by : (a b : Bool) → is_below p q ≡ a → is_below q p ≡ b → same_part p q ≡ true
    by true b e f = absurd (let bad : true ≡ false = sym h.0 ∙ same p ∙ k.1 p e in cc)
    by false true e f = absurd (let bad : false ≡ true = sym (h.1 q f) ∙ same q ∙ k.0 in cc)
    by false false e f = neither-below p q e f

among-append : (p : PartName) (ps qs : List PartName) → is_among p (ps ++ qs) ≡ (is_among p ps || is_among p qs)
among-append p [] qs = refl
among-append p (x ∷ ps) qs = by (same_part p x) (among-append p ps qs)
  where
    by : (b : Bool) → (is_among p (ps ++ qs) ≡ (is_among p ps || is_among p qs)) → (b || is_among p (ps ++ qs)) ≡ ((b || is_among p ps) || is_among p qs)
    by true next = refl
    by false next = next

pub lowest-append : (ps qs : List PartName) → lowest (ps ++ qs) ≡ lower_of (lowest ps) (lowest qs)
lowest-append ps qs = one-lowest (λ p. is_among p (ps ++ qs)) (λ p. is_among p ps || is_among p qs) (lowest (ps ++ qs)) (lower_of (lowest ps) (lowest qs)) (lowest-is (ps ++ qs)) (lowest-join (λ p. is_among p ps) (λ p. is_among p qs) (lowest ps) (lowest qs) (lowest-is ps) (lowest-is qs)) (λ p. among-append p ps qs)

lowest-same : (ps qs : List PartName) → ((p : PartName) → is_among p ps ≡ is_among p qs) → lowest ps ≡ lowest qs
lowest-same ps qs same = one-lowest (λ p. is_among p ps) (λ p. is_among p qs) (lowest ps) (lowest qs) (lowest-is ps) (lowest-is qs) same

-- more letters
pub receivers-append : (xs ys : List Flight) → lowest (receivers (xs ++ ys)) ≡ lower_of (lowest (receivers xs)) (lowest (receivers ys))
receivers-append xs ys = ap lowest (map-append (λ (f : Flight). f.posted.to) xs ys) ∙ lowest-append (receivers xs) (receivers ys)

pub senders-append : (r : PartName) (xs ys : List Flight) → lowest (senders_to r (xs ++ ys)) ≡ lower_of (lowest (senders_to r xs)) (lowest (senders_to r ys))
senders-append r xs ys =
    ap (λ fs. lowest (map (λ (f : Flight). f.from) fs)) (filter-append (is_to r) xs ys)
    ∙ ap lowest (map-append (λ (f : Flight). f.from) (filter (is_to r) xs) (filter (is_to r) ys))
    ∙ lowest-append (senders_to r xs) (senders_to r ys)

pub senders-yes : (r : PartName) (f : Flight) (fs : List Flight) → is_to r f ≡ true → senders_to r (f ∷ fs) ≡ f.from ∷ senders_to r fs
senders-yes r f fs e = ap (λ b. map (λ (x : Flight). x.from) (cond b (f ∷ filter (is_to r) fs) (filter (is_to r) fs))) e

pub senders-no : (r : PartName) (f : Flight) (fs : List Flight) → is_to r f ≡ false → senders_to r (f ∷ fs) ≡ senders_to r fs
senders-no r f fs e = ap (λ b. map (λ (x : Flight). x.from) (cond b (f ∷ filter (is_to r) fs) (filter (is_to r) fs))) e

-- a sender has a letter to a receiver exactly where their queue has some
abbrev has_some : List Letter → Bool
has_some [] = false
has_some (l ∷ ls) = true

and-none : (a b : Bool) → b ≡ false → (a && b) ≡ false
and-none true b e = e
and-none false b e = refl

sender-has : (p r : PartName) (fs : List Flight) → is_among p (senders_to r fs) ≡ has_some (queue p r fs)
sender-has p r [] = refl
sender-has p r (f ∷ fs) = by (is_to r f) (same_part p f.from) refl refl (sender-has p r fs)
  where
    by : (a b : Bool) → is_to r f ≡ a → same_part p f.from ≡ b → (is_among p (senders_to r fs) ≡ has_some (queue p r fs)) → is_among p (senders_to r (f ∷ fs)) ≡ has_some (queue p r (f ∷ fs))
    by true true t e next =
        ap (is_among p) (senders-yes r f fs t) ∙ or-left (same_part p f.from) (is_among p (senders_to r fs)) e
        ∙ sym (ap has_some (queue-yes p r f fs (ap (λ x. x && is_to r f) e ∙ t)))
    by true false t e next =
        ap (is_among p) (senders-yes r f fs t) ∙ ap (λ x. x || is_among p (senders_to r fs)) e ∙ next
        ∙ sym (ap has_some (queue-no p r f fs (ap (λ x. x && is_to r f) e)))
    by false b t e next =
        ap (is_among p) (senders-no r f fs t) ∙ next
        ∙ sym (ap has_some (queue-no p r f fs (and-none (same_part p f.from) (is_to r f) t)))

pub same-senders : (xs ys : List Flight) → AreSame xs ys → (r : PartName) → lowest (senders_to r xs) ≡ lowest (senders_to r ys)
same-senders xs ys same r = lowest-same (senders_to r xs) (senders_to r ys) (λ p. sender-has p r xs ∙ ap has_some (same p r) ∙ sym (sender-has p r ys))

-- a receiver is one of some letter exactly where some queue to it has some
queue-to : (p : PartName) (fs : List Flight) → is_among p (receivers fs) ≡ true → (s : PartName) × (has_some (queue s p fs) ≡ true)
queue-to p [] h = absurd (let bad : false ≡ true = h in cc)
queue-to p (f ∷ fs) h = by (same_part p f.posted.to) refl (queue-to p fs)
  where
    by : (b : Bool) → same_part p f.posted.to ≡ b → (is_among p (receivers fs) ≡ true → (s : PartName) × (has_some (queue s p fs) ≡ true)) → (s : PartName) × (has_some (queue s p (f ∷ fs)) ≡ true)
    by true e next = (f.from, ap has_some (queue-yes f.from p f fs (ap (λ x. x && same_part p f.posted.to) (part-refl f.from) ∙ e)))
    by false e next =
        let rest = next (sym (ap (λ x. x || is_among p (receivers fs)) e) ∙ h) in
        (rest.0, ap has_some (queue-no rest.0 p f fs (and-none (same_part rest.0 f.from) (same_part p f.posted.to) e)) ∙ rest.1)

to-queue : (s p : PartName) (fs : List Flight) → has_some (queue s p fs) ≡ true → is_among p (receivers fs) ≡ true
to-queue s p [] h = absurd (let bad : false ≡ true = h in cc)
to-queue s p (f ∷ fs) h = by (same_part p f.posted.to) refl (to-queue s p fs)
  where
    by : (b : Bool) → same_part p f.posted.to ≡ b → (has_some (queue s p fs) ≡ true → is_among p (receivers fs) ≡ true) → is_among p (receivers (f ∷ fs)) ≡ true
    by true e next = or-left (same_part p f.posted.to) (is_among p (receivers fs)) e
    by false e next = or-right (same_part p f.posted.to) (is_among p (receivers fs)) (next (sym (ap has_some (queue-no s p f fs (and-none (same_part s f.from) (same_part p f.posted.to) e))) ∙ h))

among-same : (xs ys : List Flight) → AreSame xs ys → (p : PartName) → is_among p (receivers xs) ≡ true → is_among p (receivers ys) ≡ true
among-same xs ys same p h =
    let q = queue-to p xs h in
    to-queue q.0 p ys (sym (ap has_some (same q.0 p)) ∙ q.1)

pub same-receivers : (xs ys : List Flight) → AreSame xs ys → lowest (receivers xs) ≡ lowest (receivers ys)
same-receivers xs ys same = lowest-same (receivers xs) (receivers ys) (λ p. both_ways (is_among p (receivers xs)) (is_among p (receivers ys)) (among-same xs ys same p) (among-same ys xs (λ s r. sym (same s r)) p))

-- no letter has the lowest receiver exactly where there is none
pub none-lowest : (fs : List Flight) → is_none (lowest (receivers fs)) ≡ (length fs == 0)
none-lowest [] = refl
none-lowest (f ∷ fs) = grind (arith, nat_tests)

-- one that none is below is the lowest
abbrev NotBelow : PartName → Option PartName → Type 0
NotBelow p None = ⊤
NotBelow p (Some q) = is_below q p ≡ false

none-below : (p : PartName) (ps : List PartName) → AllByRecursion (λ q. is_below q p ≡ false) ps → NotBelow p (lowest ps)
none-below p [] all = tt
none-below p (q ∷ ps) all = by (lowest ps) (none-below p ps all.1)
  where
    by : (o : Option PartName) → NotBelow p o → is_below (lower q o) p ≡ false
    by None h = all.0
    by (Some x) h = of (is_below x q)
      where
        of : (b : Bool) → is_below (elim b [ true ↦ x | false ↦ q ]) p ≡ false
        of true = h
        of false = all.0

pub lower-least : (p : PartName) (ps : List PartName) → AllByRecursion (λ q. is_below q p ≡ false) ps → lower p (lowest ps) ≡ p
lower-least p ps all = by (lowest ps) (none-below p ps all)
  where
    by : (o : Option PartName) → NotBelow p o → lower p o ≡ p
    by None h = refl
    by (Some q) h = ap (λ b. elim b [ true ↦ q | false ↦ p ]) h

-- sorted letters: the receivers behind a spot
receivers-above : (k : Spot) (es : List (Spot × Letter)) → AllByRecursion (λ y. spot_cmp k y ≡ Less) (keys_of es) → AllByRecursion (λ q. is_below q k.receiver ≡ false) (receivers (flights_at es))
receivers-above k [] above = tt
receivers-above k (e ∷ es) above = (receiver-not-below k e.0 above.0, receivers-above k es above.1)

pub first-receiver : (e : Spot × Letter) (es : List (Spot × Letter)) → IsStrictlySortedBy spot_cmp (keys_of (e ∷ es)) → Some e.0.receiver ≡ lowest (receivers (flights_at (e ∷ es)))
unfolding IsStrictlySortedBy
first-receiver e es sorted = ap Some (sym (lower-least e.0.receiver (receivers (flights_at es)) (receivers-above e.0 es sorted.0)))

pub first-of : (es : List (Spot × Letter)) (k : Spot) (l : Letter) → IsStrictlySortedBy spot_cmp (keys_of es) → slice_get es 0 ≡ Some (k, l) → Some k.receiver ≡ lowest (receivers (flights_at es))
first-of [] k l sorted h = absurd (let bad : ◌≡◌ {A = Option (Spot × Letter)} None (Some (k, l)) = h in cc)
first-of (e ∷ es) k l sorted h = ap (λ (x : Spot × Letter). Some x.0.receiver) (sym (ap (λ o. unwrap_or o e) h)) ∙ first-receiver e es sorted

senders-above : (r : PartName) (k : Spot) (es : List (Spot × Letter)) → r ≡ k.receiver → AllByRecursion (λ y. spot_cmp k y ≡ Less) (keys_of es) → AllByRecursion (λ q. is_below q k.sender ≡ false) (senders_to r (flights_at es))
senders-above r k [] is above = tt
senders-above r k (e ∷ es) is above = by (same_part r e.0.receiver) refl (senders-above r k es is above.1)
  where
    by : (b : Bool) → same_part r e.0.receiver ≡ b → (AllByRecursion (λ q. is_below q k.sender ≡ false) (senders_to r (flights_at es))) → AllByRecursion (λ q. is_below q k.sender ≡ false) (senders_to r (flights_at (e ∷ es)))
    by true h next = subst (AllByRecursion (λ q. is_below q k.sender ≡ false)) (sym (senders-yes r (flight_at e) (flights_at es) h)) (sender-not-below k e.0 (sym is ∙ part-is r e.0.receiver h) above.0, next)
    by false h next = subst (AllByRecursion (λ q. is_below q k.sender ≡ false)) (sym (senders-no r (flight_at e) (flights_at es) h)) next

none-to : (r : PartName) (k : Spot) (es : List (Spot × Letter)) → is_le (spot_cmp (first_to r) k) ≡ true → same_part r k.receiver ≡ false → AllByRecursion (λ y. spot_cmp k y ≡ Less) (keys_of es) → senders_to r (flights_at es) ≡ []
none-to r k [] l out above = refl
none-to r k (e ∷ es) l out above = by (same_part r e.0.receiver) refl (none-to r k es l out above.1)
  where
    by : (b : Bool) → same_part r e.0.receiver ≡ b → (senders_to r (flights_at es) ≡ []) → senders_to r (flights_at (e ∷ es)) ≡ []
    by true h next =
        let same = stays-of-receiver r (first_to r).sender k e.0 l above.0 (part-is r e.0.receiver h) in
        absurd (let bad : false ≡ true = sym out ∙ ap (same_part r) (sym same) ∙ part-refl r in cc)
    by false h next = senders-no r (flight_at e) (flights_at es) h ∙ next

-- the sender of the first letter from a spot on, where it is to the receiver
abbrev pub checked_sender : PartName → List (Spot × Letter) → Option PartName
checked_sender r [] = None
checked_sender r (e ∷ es) = cond (same_part r e.0.receiver) (Some e.0.sender) None

pub sender-on : (r : PartName) (es : List (Spot × Letter)) → IsStrictlySortedBy spot_cmp (keys_of es) → lowest (senders_to r (flights_at es)) ≡ checked_sender r (entries_on (first_to r) es)
unfolding IsStrictlySortedBy
sender-on r [] sorted = refl
sender-on r (e ∷ es) sorted = by (is_le (spot_cmp (first_to r) e.0)) (same_part r e.0.receiver) refl refl (sender-on r es sorted.1)
  where
    checks : (b : Bool) → same_part r e.0.receiver ≡ b → checked_sender r (e ∷ entries_on (first_to r) es) ≡ cond b (Some e.0.sender) None
    checks b h = ap (λ x. cond x (Some e.0.sender) None) h

    by : (a b : Bool) → is_le (spot_cmp (first_to r) e.0) ≡ a → same_part r e.0.receiver ≡ b → (lowest (senders_to r (flights_at es)) ≡ checked_sender r (entries_on (first_to r) es)) → lowest (senders_to r (flights_at (e ∷ es))) ≡ checked_sender r (entries_on (first_to r) (e ∷ es))
    by true true l h next =
        ap lowest (senders-yes r (flight_at e) (flights_at es) h)
        ∙ ap Some (lower-least e.0.sender (senders_to r (flights_at es)) (senders-above r e.0 es (part-is r e.0.receiver h) sorted.0))
        ∙ sym (ap (checked_sender r) (on-yes (first_to r) e es l) ∙ checks true h)
    by true false l h next =
        ap lowest (senders-no r (flight_at e) (flights_at es) h ∙ none-to r e.0 es l h sorted.0)
        ∙ sym (ap (checked_sender r) (on-yes (first_to r) e es l) ∙ checks false h)
    by false true l h next = absurd (let bad : false ≡ true = sym l ∙ reaches-receiver r e.0 (part-is r e.0.receiver h) in cc)
    by false false l h next =
        ap lowest (senders-no r (flight_at e) (flights_at es) h) ∙ next
        ∙ sym (ap (checked_sender r) (on-no (first_to r) e es l))

pub none-from : (r : PartName) (es range : List (Spot × Letter)) → IsStrictlySortedBy spot_cmp (keys_of es) → entries_on (first_to r) es ≡ range → range ≡ [] → None ≡ lowest (senders_to r (flights_at es))
none-from r es range sorted e f = sym (sender-on r es sorted ∙ ap (checked_sender r) (e ∙ f))

pub some-from : (r : PartName) (es range t : List (Spot × Letter)) (k : Spot × Letter) (b : Bool) → IsStrictlySortedBy spot_cmp (keys_of es) → entries_on (first_to r) es ≡ range → range ≡ k ∷ t → same_part r k.0.receiver ≡ b → cond b (Some k.0.sender) None ≡ lowest (senders_to r (flights_at es))
some-from r es range t k b sorted e f h = sym (sender-on r es sorted ∙ ap (checked_sender r) (e ∙ f) ∙ ap (λ x. cond x (Some k.0.sender) None) h)

-- a batch: its sender, where a letter goes to the receiver
pub batch-sender : (p r : PartName) (xs : List Posted) → lowest (senders_to r (flights p xs)) ≡ cond (list_any (λ x. same_part r x.to) xs) (Some p) None
batch-sender p r [] = refl
batch-sender p r (x ∷ xs) = by (same_part r x.to) refl (batch-sender p r xs)
  where
    least : (b : Bool) → lower p (cond b (Some p) None) ≡ p
    least true = ap (λ c. elim c [ true ↦ p | false ↦ p ]) (not-below-itself p)
    least false = refl

    by : (b : Bool) → same_part r x.to ≡ b → (lowest (senders_to r (flights p xs)) ≡ cond (list_any (λ y. same_part r y.to) xs) (Some p) None) → lowest (senders_to r (flights p (x ∷ xs))) ≡ cond (same_part r x.to || list_any (λ y. same_part r y.to) xs) (Some p) None
    by true h next =
        ap lowest (senders-yes r (record { from = p; posted = x }) (flights p xs) h)
        ∙ ap (λ o. Some (lower p o)) next
        ∙ ap Some (least (list_any (λ y. same_part r y.to) xs))
        ∙ sym (ap (λ b. cond (b || list_any (λ y. same_part r y.to) xs) (Some p) None) h)
    by false h next =
        ap lowest (senders-no r (record { from = p; posted = x }) (flights p xs) h) ∙ next
        ∙ sym (ap (λ b. cond (b || list_any (λ y. same_part r y.to) xs) (Some p) None) h)
