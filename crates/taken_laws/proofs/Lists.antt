-- How often a test passes in a list, where it is at most once.
use Rattle.std.proofs.Common.{◌≡◌, ◌≤◌, Bool, true, false, ◌||◌, List, [], ◌∷◌, ◌++◌, length, refl, arith, sym, subst}
use Rattle.std.specs.Prelude.{cond, filter}
use Rattle.std.specs.List.{list_any}
use Rattle.std.proofs.lemmas.List.{append-nil}
use Rattle.std.proofs.lemmas.List.Elements.{filter-append}

-- none passes
pub none_pass : {A : Type 0} (t : A → Bool) (xs : List A) → list_any t xs ≡ false → filter t xs ≡ []
none_pass t [] h = refl
none_pass t (x ∷ xs) h = by (t x) h (none_pass t xs)
  where
    by : (b : Bool) → (b || list_any t xs) ≡ false → (list_any t xs ≡ false → filter t xs ≡ []) → cond b (x ∷ filter t xs) (filter t xs) ≡ []
    by true k more = absurd (let bad : true ≡ false = k in cc)
    by false k more = more k

-- one passes
pub some_pass : {A : Type 0} (t : A → Bool) (xs : List A) → list_any t xs ≡ true → 1 ≤ length (filter t xs)
some_pass t [] h = absurd (let bad : false ≡ true = h in cc)
some_pass t (x ∷ xs) h = by (t x) h (some_pass t xs)
  where
    by : (b : Bool) → (b || list_any t xs) ≡ true → (list_any t xs ≡ true → 1 ≤ length (filter t xs)) → 1 ≤ length (cond b (x ∷ filter t xs) (filter t xs))
    by true k more = omega arith
    by false k more = more k

-- at most one passes, and one does
pub one_passes : {A : Type 0} (t : A → Bool) (xs : List A) → list_any t xs ≡ true → length (filter t xs) ≤ 1 → length (filter t xs) ≡ 1
one_passes t xs h k = let one = some_pass t xs h in omega (arith, one, k)

-- with one more at the end, where none passed if it does
pub once_push : {A : Type 0} (t : A → Bool) (xs : List A) (x : A) → (t x ≡ true → list_any t xs ≡ false) → length (filter t xs) ≤ 1 → length (filter t (xs ++ x ∷ [])) ≤ 1
once_push t xs x none h = subst (λ l. length l ≤ 1) (sym (filter-append t xs (x ∷ []))) (by (t x) none)
  where
    by : (b : Bool) → (b ≡ true → list_any t xs ≡ false) → length (filter t xs ++ cond b (x ∷ []) []) ≤ 1
    by true k = subst (λ l. length (l ++ x ∷ []) ≤ 1) (sym (none_pass t xs (k refl))) (omega arith)
    by false k = subst (λ l. length l ≤ 1) (sym (append-nil (filter t xs))) h

-- with fewer elements
fewer : {A : Type 0} (t q : A → Bool) (xs : List A) → length (filter t (filter q xs)) ≤ length (filter t xs)
fewer t q [] = omega arith
fewer t q (x ∷ xs) = by (q x) (t x) refl (fewer t q xs)
  where
    by : (a b : Bool) → t x ≡ b → length (filter t (filter q xs)) ≤ length (filter t xs) → length (filter t (cond a (x ∷ filter q xs) (filter q xs))) ≤ length (cond b (x ∷ filter t xs) (filter t xs))
    by true true e h = subst (λ b. length (cond b (x ∷ filter t (filter q xs)) (filter t (filter q xs))) ≤ length (x ∷ filter t xs)) (sym e) (omega (arith, h))
    by true false e h = subst (λ b. length (cond b (x ∷ filter t (filter q xs)) (filter t (filter q xs))) ≤ length (filter t xs)) (sym e) h
    by false true e h = omega (arith, h)
    by false false e h = h

pub once_filtered : {A : Type 0} (t q : A → Bool) (xs : List A) → length (filter t xs) ≤ 1 → length (filter t (filter q xs)) ≤ 1
once_filtered t q xs h = let less = fewer t q xs in omega (arith, less, h)
