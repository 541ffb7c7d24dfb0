-- That an element stands in a list, as a type.
use Rattle.std.proofs.Common.{◌≡◌, inl, inr, Bool, true, false, ◌||◌, List, [], ◌∷◌, refl, ap, ◌∙◌, subst}
use Rattle.std.specs.List.{list_any, list_all}
use Rattle.lload_spec.proofs.Growth.{both}
use Rattle.client_answer_laws.proofs.Each.{Each}
use Rattle.rows_laws.proofs.Somewhere.{OneIn, one_each, one_passes}

abbrev pub Among : {A : Type 0} → A → List A → Type 0
Among z xs = OneIn (λ x. x ≡ z) xs

-- an element that is so
pub record Such {A : Type 0} (P : A → Type 0) (xs : List A) : Type 0 where
  pub it : A
  pub among : Among it xs
  pub so : P it

pub among_one : {A : Type 0} (P : A → Type 0) (xs : List A) → OneIn P xs → Such P xs
among_one P [] h = absurd h
among_one P (x ∷ xs) (inl h) = record { it = x; among = inl refl; so = h }
among_one P (x ∷ xs) (inr h) = let k : Such P xs = among_one P xs h in record { it = k.it; among = inr k.among; so = k.so }

pub among_passing : {A : Type 0} (t : A → Bool) (xs : List A) → list_any t xs ≡ true → Such (λ x. t x ≡ true) xs
among_passing t [] h = absurd (let bad : false ≡ true = h in cc)
among_passing t (x ∷ xs) h = by (t x) refl h (among_passing t xs)
  where
    by : (b : Bool) → t x ≡ b → (b || list_any t xs) ≡ true → (list_any t xs ≡ true → Such (λ y. t y ≡ true) xs) → Such (λ y. t y ≡ true) (x ∷ xs)
    by true e k more = record { it = x; among = inl refl; so = e }
    by false e k more = let found : Such (λ y. t y ≡ true) xs = more k in record { it = found.it; among = inr found.among; so = found.so }

-- what is so of each is so of it
pub of_each : {A : Type 0} (P : A → Type 0) (xs : List A) (z : A) → Each P xs → Among z xs → P z
of_each P xs z h a = one_each P (λ x. x ≡ z) xs h (λ x p e. subst P e p) a

-- a test of some, and of each
pub any_among : {A : Type 0} (t : A → Bool) (xs : List A) (z : A) → Among z xs → t z ≡ true → list_any t xs ≡ true
any_among t xs z a h = one_passes (λ x. x ≡ z) t xs (λ x e. ap t e ∙ h) a

pub all_among : {A : Type 0} (t : A → Bool) (xs : List A) → ((z : A) → Among z xs → t z ≡ true) → list_all t xs ≡ true
all_among t [] f = refl
all_among t (x ∷ xs) f = both (t x) _ (f x (inl refl)) (all_among t xs (λ z a. f z (inr a)))
