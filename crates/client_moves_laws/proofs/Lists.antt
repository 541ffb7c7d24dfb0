-- Lists of numbers that rise, and what holds of each element.
use Rattle.std.proofs.Common.{◌≡◌, ℕ, ◌<◌, Bool, true, false, ◌==◌, ◌||◌, if◌then◌else◌, List, [], ◌∷◌, ◌++◌, Some, refl, ap, ◌∙◌, sym, subst, inl, inr, arith}
use Rattle.std.specs.Prelude.{nat_lt, find}
use Rattle.std.specs.List.{list_any}
use Rattle.std.proofs.lemmas.Bool.{eqb-true, eqb-false, ltb-true, ltb-false, cases_lt}
use Rattle.lload_spec.specs.Lists.{put_number, rising_once}
use Rattle.stands_laws.specs.Lists.{Each, EachTwo}
use Rattle.stands_laws.proofs.Tests.{same_self}

pub each_imply : {A : Type 0} (P Q : A → Type 0) (xs : List A) → ((x : A) → P x → Q x) → Each P xs → Each Q xs
each_imply P Q [] f h = tt
each_imply P Q (x ∷ xs) f h = (f x h.0, each_imply P Q xs f h.1)

pub each_all : {A : Type 0} (P : A → Type 0) (xs : List A) → ((x : A) → P x) → Each P xs
each_all P [] f = tt
each_all P (x ∷ xs) f = (f x, each_all P xs f)

or_here : (a b : Bool) → a ≡ true → (a || b) ≡ true
or_here true b e = refl
or_here false b e = absurd (cc)

or_there : (a b : Bool) → b ≡ true → (a || b) ≡ true
or_there true b e = refl
or_there false b e = e

-- each is among them
pub each_among : (ns : List ℕ) → Each (λ n. list_any (λ m. m == n) ns ≡ true) ns
each_among [] = tt
each_among (n ∷ ns) = (or_here (n == n) _ (same_self n), each_imply (λ m. list_any (λ k. k == m) ns ≡ true) (λ m. list_any (λ k. k == m) (n ∷ ns) ≡ true) ns (λ m e. or_there (n == m) _ e) (each_among ns))

-- what is found passes, and what holds of each holds of it
pub find_each : {A : Type 0} (P : A → Type 0) (t : A → Bool) (xs : List A) (x : A) → Each P xs → find t xs ≡ Some x → P x × (t x ≡ true)
find_each P t [] x h e = absurd (cc)
find_each P t (y ∷ ys) x h e = go (t y) refl e (λ i. find_each P t ys x h.1 i)
  where
    go : (q : Bool) → t y ≡ q → (if q then Some y else find t ys) ≡ Some x → (find t ys ≡ Some x → P x × (t x ≡ true)) → P x × (t x ≡ true)
    go true i e ih = let same : y ≡ x = cc in (subst P same h.0, ap t (sym same) ∙ i)
    go false i e ih = ih e

-- A number put among rising ones.
pub among_put : (n m : ℕ) (ns : List ℕ) → list_any (λ k. k == m) (put_number n ns) ≡ ((n == m) || list_any (λ k. k == m) ns)
among_put n m [] = refl
among_put n m (k ∷ ks) = by (n == k) refl (nat_lt n k) (among_put n m ks)
  where
    twice : (a b : Bool) → (a || b) ≡ (a || (a || b))
    twice true b = refl
    twice false b = refl

    swap : (a b d : Bool) → (a || (b || d)) ≡ (b || (a || d))
    swap true true d = refl
    swap true false d = refl
    swap false true d = refl
    swap false false d = refl

    by : (t : Bool) → (n == k) ≡ t → (u : Bool) → list_any (λ k. k == m) (put_number n ks) ≡ ((n == m) || list_any (λ k. k == m) ks) → list_any (λ k. k == m) (elim t [ true ↦ k ∷ ks | false ↦ elim u [ true ↦ n ∷ k ∷ ks | false ↦ k ∷ put_number n ks ] ]) ≡ ((n == m) || ((k == m) || list_any (λ k. k == m) ks))
    by true e u ih = twice (k == m) (list_any (λ k. k == m) ks) ∙ ap (λ (i : ℕ). (i == m) || ((k == m) || list_any (λ k. k == m) ks)) (sym (eqb-true n k e))
    by false e true ih = refl
    by false e false ih = ap (λ (t : Bool). (k == m) || t) ih ∙ swap (k == m) (n == m) (list_any (λ k. k == m) ks)

pub among_rising : (m : ℕ) (ns : List ℕ) → list_any (λ k. k == m) (rising_once ns) ≡ list_any (λ k. k == m) ns
among_rising m [] = refl
among_rising m (n ∷ ns) = among_put n m (rising_once ns) ∙ ap (λ (t : Bool). (n == m) || t) (among_rising m ns)

above_put : (k n : ℕ) (ns : List ℕ) → k < n → Each (λ m. k < m) ns → Each (λ m. k < m) (put_number n ns)
above_put k n [] l h = (l, tt)
above_put k n (m ∷ ms) l h = by (n == m) (nat_lt n m) (above_put k n ms l h.1)
  where
    by : (t u : Bool) → Each (λ m. k < m) (put_number n ms) → Each (λ m. k < m) (elim t [ true ↦ m ∷ ms | false ↦ elim u [ true ↦ n ∷ m ∷ ms | false ↦ m ∷ put_number n ms ] ])
    by true u ih = h
    by false true ih = (l, h)
    by false false ih = (h.0, ih)

not_below : (n m : ℕ) → (n == m) ≡ false → nat_lt n m ≡ false → m < n
not_below n m e i = let apart = eqb-false n m e in let least = ltb-false n m i in elim (cases_lt m n) [ inl l ↦ l | inr l ↦ absurd (apart (omega arith)) ]

pub rises_put : (n : ℕ) (ns : List ℕ) → EachTwo (λ a b. a < b) ns → EachTwo (λ a b. a < b) (put_number n ns)
rises_put n [] h = (tt, tt)
rises_put n (m ∷ ms) h = by (n == m) refl (nat_lt n m) refl (rises_put n ms h.1)
  where
    by : (t : Bool) → (n == m) ≡ t → (u : Bool) → nat_lt n m ≡ u → EachTwo (λ a b. a < b) (put_number n ms) → EachTwo (λ a b. a < b) (elim t [ true ↦ m ∷ ms | false ↦ elim u [ true ↦ n ∷ m ∷ ms | false ↦ m ∷ put_number n ms ] ])
    by true e u i ih = h
    by false e true i ih = let less = ltb-true n m i in ((less, each_imply (λ k. m < k) (λ k. n < k) ms (λ k j. let both : n < k = omega (arith, less, j) in both) h.0), h)
    by false e false i ih = (above_put m n ms (not_below n m e i) h.0, ih)

pub rises_once : (ns : List ℕ) → EachTwo (λ a b. a < b) (rising_once ns)
rises_once [] = tt
rises_once (n ∷ ns) = rises_put n (rising_once ns) (rises_once ns)

pub each_append : {A : Type 0} (P : A → Type 0) (xs ys : List A) → Each P xs → Each P ys → Each P (xs ++ ys)
each_append P [] ys h k = k
each_append P (x ∷ xs) ys h k = (h.0, each_append P xs ys h.1 k)
