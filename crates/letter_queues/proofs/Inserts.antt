-- A sorted letter more, behind all others of its queue or in front of them.
use Rattle.std.proofs.Common.{◌≡◌, ℕ, ◌<◌, ◌≤◌, Bool, true, false, cond, List, [], ◌∷◌, ◌++◌, refl, ap, sym, ◌∙◌, append_assoc, arith}
use Rattle.std.proofs.lemmas.List.{append-nil}
use Rattle.std.proofs.lemmas.Bool.Decides.{nat_tests}
use Rattle.std.specs.declared.cmp.Ordering.{Ordering}
use Rattle.std.specs.declared.cmp.Ordering.TheVariants.{Less, Equal, Greater}
use Rattle.std.specs.Ordering.{nat_cmp, match_ordering}
use Rattle.std.specs.List.{AllByRecursion}
use Rattle.std.specs.List.Sorted.{IsStrictlySortedBy}
use Rattle.std.specs.Map.{keys_of, remove_entry}
use Rattle.std.specs.BTreeMap.{insert_entry}
use Rattle.lload_names.specs.declared.names.Letter.{Letter}
use Rattle.lload_names.specs.declared.names.PartName.{PartName}
use Rattle.letter_queues.specs.declared.spot.Spot.{Spot}
use Rattle.letter_queues.specs.Queues.{queue, AreSame}
use Rattle.letter_queues.specs.Rows.{spot_cmp, flight_at, flights_at, is_spot_between, AreNumbered}
use Rattle.letter_queues.proofs.Spots.{spot-total, equal-spot, by-number, between-parts}
use Rattle.letter_queues.proofs.QueueLaws.{queue-append, queue-cons, queue-no}

-- two lists, one of which is empty, in either order
swap-left : (xs ys : List Letter) → xs ≡ [] → xs ++ ys ≡ ys ++ xs
swap-left xs ys e = ap (λ l. l ++ ys) e ∙ sym (append-nil ys) ∙ sym (ap (λ l. ys ++ l) e)

swap-right : (xs ys : List Letter) → ys ≡ [] → xs ++ ys ≡ ys ++ xs
swap-right xs ys e = sym (swap-left ys xs e)

-- spots of one queue compare by their numbers
in-one-queue : (s r : PartName) (k q : Spot) → is_spot_between s r k ≡ true → is_spot_between s r q ≡ true → spot_cmp k q ≡ nat_cmp k.number q.number
in-one-queue s r k q h i =
    let a = between-parts s r k h in
    let b = between-parts s r q i in
    by-number k q (sym a.1 ∙ b.1) (sym a.0 ∙ b.0)

number-less : (n m : ℕ) → n < m → nat_cmp n m ≡ Less
number-less n m h = grind (arith, nat_tests, h)

number-greater : (n m : ℕ) → m < n → nat_cmp n m ≡ Greater
number-greater n m h = grind (arith, nat_tests, h)

-- what is above one spot is above a lower one
above-lower : (k e : Spot) (ks : List Spot) → spot_cmp k e ≡ Less → AllByRecursion (λ y. spot_cmp e y ≡ Less) ks → AllByRecursion (λ y. spot_cmp k y ≡ Less) ks
above-lower k e [] h all = tt
above-lower k e (q ∷ ks) h all = (spot-total.trans k e q h all.0, above-lower k e ks h all.1)

-- where all spots are above one, and their numbers below its, none is of its queue
none-of-queue : (s r : PartName) (k : Spot) (low : ℕ) (es : List (Spot × Letter)) → is_spot_between s r k ≡ true → AllByRecursion (λ y. spot_cmp k y ≡ Less) (keys_of es) → AreNumbered low k.number es → queue s r (flights_at es) ≡ []
none-of-queue s r k low [] h above numbered = refl
none-of-queue s r k low (e ∷ es) h above numbered = by (is_spot_between s r e.0) refl (none-of-queue s r k low es h above.1 numbered.1.1)
  where
    by : (b : Bool) → is_spot_between s r e.0 ≡ b → (queue s r (flights_at es) ≡ []) → queue s r (flights_at (e ∷ es)) ≡ []
    by true i next = absurd (let bad : Less ≡ Greater = sym above.0 ∙ in-one-queue s r k e.0 h i ∙ number-greater k.number e.0.number numbered.1.0 in cc)
    by false i next = queue-no s r (flight_at e) (flights_at es) i ∙ next

one-of : (s r : PartName) (k : Spot) (l : Letter) → is_spot_between s r k ≡ false → queue s r (flight_at (k, l) ∷ []) ≡ []
one-of s r k l h = queue-no s r (flight_at (k, l)) [] h

-- a letter stands behind all others of its queue
in-front : (s r : PartName) (k e : Spot) (l m : Letter) (low : ℕ) (es : List (Spot × Letter)) → spot_cmp k e ≡ Less → IsStrictlySortedBy spot_cmp (keys_of ((e, m) ∷ es)) → AreNumbered low k.number ((e, m) ∷ es) → queue s r (flight_at (k, l) ∷ flights_at ((e, m) ∷ es)) ≡ queue s r (flights_at ((e, m) ∷ es) ++ flight_at (k, l) ∷ [])
unfolding IsStrictlySortedBy
in-front s r k e l m low es h sorted numbered =
    queue-cons s r (flight_at (k, l)) (flights_at ((e, m) ∷ es)) ∙ by (is_spot_between s r k) refl ∙ sym (queue-append s r (flights_at ((e, m) ∷ es)) (flight_at (k, l) ∷ []))
  where
    by : (b : Bool) → is_spot_between s r k ≡ b → queue s r (flight_at (k, l) ∷ []) ++ queue s r (flights_at ((e, m) ∷ es)) ≡ queue s r (flights_at ((e, m) ∷ es)) ++ queue s r (flight_at (k, l) ∷ [])
    by true i = swap-right (queue s r (flight_at (k, l) ∷ [])) (queue s r (flights_at ((e, m) ∷ es))) (none-of-queue s r k low ((e, m) ∷ es) i (h, above-lower k e (keys_of es) h sorted.0) numbered)
    by false i = swap-left (queue s r (flight_at (k, l) ∷ [])) (queue s r (flights_at ((e, m) ∷ es))) (one-of s r k l i)

same-number : (k q : Spot) → spot_cmp k q ≡ Equal → k.number ≡ q.number
same-number k q e = ap (λ (x : Spot). x.number) (equal-spot k q e)

pub insert-last : (k : Spot) (l : Letter) (low : ℕ) (es : List (Spot × Letter)) → IsStrictlySortedBy spot_cmp (keys_of es) → AreNumbered low k.number es → AreSame (flights_at es ++ flight_at (k, l) ∷ []) (flights_at (insert_entry spot_cmp es k l))
unfolding IsStrictlySortedBy
insert-last k l low [] sorted numbered s r = refl
insert-last k l low (e ∷ es) sorted numbered s r = by (spot_cmp k e.0) refl (insert-last k l low es sorted.1 numbered.1.1 s r)
  where
    by : (o : Ordering) → spot_cmp k e.0 ≡ o → (queue s r (flights_at es ++ flight_at (k, l) ∷ []) ≡ queue s r (flights_at (insert_entry spot_cmp es k l))) → queue s r (flights_at (e ∷ es) ++ flight_at (k, l) ∷ []) ≡ queue s r (flights_at (match_ordering o ((k, l) ∷ e ∷ es) ((e.0, l) ∷ es) (e ∷ insert_entry spot_cmp es k l)))
    by Less h next = sym (in-front s r k e.0 l e.1 low es h sorted numbered)
    by Equal h next = let is = same-number k e.0 h in absurd (omega (arith, numbered.1.0, is))
    by Greater h next =
        queue-cons s r (flight_at e) (flights_at es ++ flight_at (k, l) ∷ [])
        ∙ ap (λ q. queue s r (flight_at e ∷ []) ++ q) next
        ∙ sym (queue-cons s r (flight_at e) (flights_at (insert_entry spot_cmp es k l)))

-- a letter stands in front of all others of its queue
pass-by : (s r : PartName) (k : Spot) (e : Spot × Letter) (l : Letter) → spot_cmp k e.0 ≡ Greater → k.number < e.0.number → queue s r (flight_at e ∷ []) ++ queue s r (flight_at (k, l) ∷ []) ≡ queue s r (flight_at (k, l) ∷ []) ++ queue s r (flight_at e ∷ [])
pass-by s r k e l h less = by (is_spot_between s r k) (is_spot_between s r e.0) refl refl
  where
    by : (a b : Bool) → is_spot_between s r k ≡ a → is_spot_between s r e.0 ≡ b → queue s r (flight_at e ∷ []) ++ queue s r (flight_at (k, l) ∷ []) ≡ queue s r (flight_at (k, l) ∷ []) ++ queue s r (flight_at e ∷ [])
    by true true i j = absurd (let bad : Greater ≡ Less = sym h ∙ in-one-queue s r k e.0 i j ∙ number-less k.number e.0.number less in cc)
    by true false i j = swap-left (queue s r (flight_at e ∷ [])) (queue s r (flight_at (k, l) ∷ [])) (queue-no s r (flight_at e) [] j)
    by false b i j = swap-right (queue s r (flight_at e ∷ [])) (queue s r (flight_at (k, l) ∷ [])) (one-of s r k l i)

pub insert-first : (k : Spot) (l : Letter) (high : ℕ) (es : List (Spot × Letter)) → AreNumbered k.number high es → AreSame (flight_at (k, l) ∷ flights_at es) (flights_at (insert_entry spot_cmp es k l))
insert-first k l high [] numbered s r = refl
insert-first k l high (e ∷ es) numbered s r = by (spot_cmp k e.0) refl (insert-first k l high es numbered.1.1 s r)
  where
    by : (o : Ordering) → spot_cmp k e.0 ≡ o → (queue s r (flight_at (k, l) ∷ flights_at es) ≡ queue s r (flights_at (insert_entry spot_cmp es k l))) → queue s r (flight_at (k, l) ∷ flights_at (e ∷ es)) ≡ queue s r (flights_at (match_ordering o ((k, l) ∷ e ∷ es) ((e.0, l) ∷ es) (e ∷ insert_entry spot_cmp es k l)))
    by Less h next = refl
    by Equal h next = let is = same-number k e.0 h in absurd (omega (arith, numbered.0, is))
    by Greater h next =
        queue-cons s r (flight_at (k, l)) (flights_at (e ∷ es))
        ∙ ap (λ q. queue s r (flight_at (k, l) ∷ []) ++ q) (queue-cons s r (flight_at e) (flights_at es))
        ∙ sym (append_assoc (queue s r (flight_at (k, l) ∷ [])) (queue s r (flight_at e ∷ [])) (queue s r (flights_at es)))
        ∙ ap (λ q. q ++ queue s r (flights_at es)) (sym (pass-by s r k e l h numbered.0))
        ∙ append_assoc (queue s r (flight_at e ∷ [])) (queue s r (flight_at (k, l) ∷ [])) (queue s r (flights_at es))
        ∙ ap (λ q. queue s r (flight_at e ∷ []) ++ q) (sym (queue-cons s r (flight_at (k, l)) (flights_at es)) ∙ next)
        ∙ sym (queue-cons s r (flight_at e) (flights_at (insert_entry spot_cmp es k l)))

-- the numbers behind such a letter
pub numbered-wider : (low high lower higher : ℕ) (es : List (Spot × Letter)) → AreNumbered low high es → lower ≤ low → high ≤ higher → AreNumbered lower higher es
numbered-wider low high lower higher [] numbered l h = tt
numbered-wider low high lower higher (e ∷ es) numbered l h = (omega (arith, numbered.0, l), (omega (arith, numbered.1.0, h), numbered-wider low high lower higher es numbered.1.1 l h))

pub numbered-insert : (k : Spot) (l : Letter) (low high : ℕ) (es : List (Spot × Letter)) → AreNumbered low high es → low < k.number → k.number < high → AreNumbered low high (insert_entry spot_cmp es k l)
numbered-insert k l low high [] numbered a b = (a, (b, tt))
numbered-insert k l low high (e ∷ es) numbered a b = by (spot_cmp k e.0) (numbered-insert k l low high es numbered.1.1 a b)
  where
    by : (o : Ordering) → (AreNumbered low high (insert_entry spot_cmp es k l)) → AreNumbered low high (match_ordering o ((k, l) ∷ e ∷ es) ((e.0, l) ∷ es) (e ∷ insert_entry spot_cmp es k l))
    by Less next = (a, (b, numbered))
    by Equal next = numbered
    by Greater next = (numbered.0, (numbered.1.0, next))

-- the numbers behind a letter that left
pub numbered-remove : (test : Spot → Bool) (low high : ℕ) (es : List (Spot × Letter)) → AreNumbered low high es → AreNumbered low high (remove_entry test es)
numbered-remove test low high [] numbered = tt
numbered-remove test low high (e ∷ es) numbered = by (test e.0) (numbered-remove test low high es numbered.1.1)
  where
    by : (b : Bool) → (AreNumbered low high (remove_entry test es)) → AreNumbered low high (cond b es (e ∷ remove_entry test es))
    by true next = numbered.1.1
    by false next = (numbered.0, (numbered.1.0, next))
