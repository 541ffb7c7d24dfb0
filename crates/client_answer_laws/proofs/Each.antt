-- What holds of each element of a list, as a type.
use Rattle.std.proofs.Common.{◌≡◌, Bool, true, false, List, [], ◌∷◌, ◌++◌, refl, subst}
use Rattle.part_laws.proofs.ListLaws.{not_both}
use Rattle.std.specs.Prelude.{Some, None, map, filter, find, cond}

abbrev pub Each : {A : Type 0} → (A → Type 0) → List A → Type 0
Each P [] = Unit {0}
Each P (x ∷ xs) = P x × Each P xs

pub each_imply : {A : Type 0} (P Q : A → Type 0) (xs : List A) → ((x : A) → P x → Q x) → Each P xs → Each Q xs
each_imply P Q [] f h = tt
each_imply P Q (x ∷ xs) f h = (f x h.0, each_imply P Q xs f h.1)

pub each_both : {A : Type 0} (P Q : A → Type 0) (xs : List A) → Each P xs → Each Q xs → Each (λ x. P x × Q x) xs
each_both P Q [] h k = tt
each_both P Q (x ∷ xs) h k = ((h.0, k.0), each_both P Q xs h.1 k.1)

pub each_always : {A : Type 0} (P : A → Type 0) (xs : List A) → ((x : A) → P x) → Each P xs
each_always P [] f = tt
each_always P (x ∷ xs) f = (f x, each_always P xs f)

pub each_append : {A : Type 0} (P : A → Type 0) (xs ys : List A) → Each P xs → Each P ys → Each P (xs ++ ys)
each_append P [] ys h k = k
each_append P (x ∷ xs) ys h k = (h.0, each_append P xs ys h.1 k)

pub each_map : {A B : Type 0} (P : B → Type 0) (f : A → B) (xs : List A) → Each (λ x. P (f x)) xs → Each P (map f xs)
each_map P f [] h = tt
each_map P f (x ∷ xs) h = (h.0, each_map P f xs h.1)

-- of those that pass a test
pub each_filter : {A : Type 0} (P Q : A → Type 0) (t : A → Bool) (xs : List A) → ((x : A) → t x ≡ true → P x → Q x) → Each P xs → Each Q (filter t xs)
each_filter P Q t [] f h = tt
each_filter P Q t (x ∷ xs) f h = by (t x) (f x) (each_filter P Q t xs f h.1)
  where
    by : (b : Bool) → (b ≡ true → P x → Q x) → Each Q (filter t xs) → Each Q (cond b (x ∷ filter t xs) (filter t xs))
    by true g k = (g refl h.0, k)
    by false g k = k

-- of all, where it holds of those that pass the test
pub each_unfilter : {A : Type 0} (P : A → Type 0) (t : A → Bool) (xs : List A) → Each P (filter t xs) → Each (λ x. t x ≡ true → P x) xs
each_unfilter P t [] h = tt
each_unfilter P t (x ∷ xs) h = by (t x) refl (each_unfilter P t xs) h
  where
    by : (b : Bool) → t x ≡ b → (Each P (filter t xs) → Each (λ y. t y ≡ true → P y) xs) → Each P (cond b (x ∷ filter t xs) (filter t xs)) → (t x ≡ true → P x) × Each (λ y. t y ≡ true → P y) xs
    by true e f k = (λ j. k.0, f k.1)
    by false e f k = (λ j. not_both (t x) j e, f k)

-- of the one that is found
pub each_found : {A : Type 0} (P : A → Type 0) (t : A → Bool) (xs : List A) (y : A) → find t xs ≡ Some y → Each P xs → P y
each_found P t [] y e h = absurd (let bad : None ≡ Some y = e in cc)
each_found P t (x ∷ xs) y e h = by (t x) e (λ g. each_found P t xs y g h.1)
  where
    by : (b : Bool) → cond b (Some x) (find t xs) ≡ Some y → (find t xs ≡ Some y → P y) → P y
    by true g ih = let same : x ≡ y = cc in subst P same h.0
    by false g ih = ih g
