-- Lists of the live ones among numbers.
use Rattle.std.proofs.Common.{◌≡◌, ℕ, zero, suc, ◌<◌, Bool, true, false, ◌==◌, ◌&&◌, if◌then◌else◌, List, [], ◌∷◌, ◌++◌, Some, None, refl, ap, ◌∙◌, subst, inl, inr, arith, rules, append-nil}
use Rattle.std.specs.Prelude.{filter, map, find, flat_map}
use Rattle.std.specs.Prelude.{◌||◌}
use Rattle.std.specs.List.{list_any}
use Rattle.std.specs.Option.{option_or}
use Rattle.std.proofs.lemmas.Bool.{cases_lt, ne_eqb, eq-eqb}
use Rattle.std.proofs.lemmas.List.Elements.{filter-append}
use Rattle.std.proofs.lemmas.List.Folds.{list_any-append, find-append}
use Rattle.std.proofs.lemmas.Grind.{flat_map-append}
use Rattle.std.proofs.lemmas.List.{map-append}
use Rattle.stands_laws.specs.ClientStands.{live_upto}

-- those that are live and as they are below n decide
one_same : {A : Type 0} (a b : Bool) (x y : A) → a ≡ b → (b ≡ true → x ≡ y) → (if a then x ∷ [] else []) ≡ (if b then y ∷ [] else [])
one_same a true x y e f = let g = f refl in rw (e, g)
one_same a false x y e f = rw e

pub live_same : {A : Type 0} (p q : ℕ → Bool) (f g : ℕ → A) (n : ℕ) → ((k : ℕ) → k < n → p k ≡ q k) → ((k : ℕ) → k < n → q k ≡ true → f k ≡ g k) → live_upto p f n ≡ live_upto q g n
live_same p q f g zero e h = refl
live_same p q f g (suc n) e h =
    ap (λ xs. xs ++ (if p n then f n ∷ [] else [])) (live_same p q f g n (λ k l. e k (omega arith)) (λ k l. h k (omega arith)))
    ∙ ap (λ xs. live_upto q g n ++ xs) (one_same (p n) (q n) (f n) (g n) (e n (omega arith)) (h n (omega arith)))

pub live_none : {A : Type 0} (p : ℕ → Bool) (f : ℕ → A) (n : ℕ) → ((k : ℕ) → k < n → p k ≡ false) → live_upto p f n ≡ []
live_none p f zero e = refl
live_none p f (suc n) e = let z = e n (omega arith) in rw (live_none p f n (λ k l. e k (omega arith)), z)

filter_one : {A : Type 0} (t : A → Bool) (b : Bool) (x : A) → filter t (if b then x ∷ [] else []) ≡ (if b && t x then x ∷ [] else [])
filter_one t true x = refl
filter_one t false x = refl

pub live_filter : {A : Type 0} (t : A → Bool) (p : ℕ → Bool) (f : ℕ → A) (n : ℕ) → filter t (live_upto p f n) ≡ live_upto (λ k. p k && t (f k)) f n
live_filter t p f zero = refl
live_filter t p f (suc n) = filter-append t (live_upto p f n) (if p n then f n ∷ [] else []) ∙ (ap (λ xs. xs ++ filter t (if p n then f n ∷ [] else [])) (live_filter t p f n) ∙ ap (λ xs. live_upto (λ k. p k && t (f k)) f n ++ xs) (filter_one t (p n) (f n)))

map_one : {A : Type 0} (g : A → A) (b : Bool) (x : A) → map g (if b then x ∷ [] else []) ≡ (if b then g x ∷ [] else [])
map_one g true x = refl
map_one g false x = refl

pub live_map : {A : Type 0} (g : A → A) (p : ℕ → Bool) (f : ℕ → A) (n : ℕ) → map g (live_upto p f n) ≡ live_upto p (λ k. g (f k)) n
live_map g p f zero = refl
live_map g p f (suc n) = map-append g (live_upto p f n) (if p n then f n ∷ [] else []) ∙ (ap (λ xs. xs ++ map g (if p n then f n ∷ [] else [])) (live_map g p f n) ∙ ap (λ xs. live_upto p (λ k. g (f k)) n ++ xs) (map_one g (p n) (f n)))

any_one : {A : Type 0} (t : A → Bool) (b : Bool) (x : A) → list_any t (if b then x ∷ [] else []) ≡ (b && t x)
any_one t true x = search rules
any_one t false x = refl

last_case : (n k : ℕ) (P : ℕ → Type 0) → k < suc n → (k < n → P k) → P n → P k
last_case n k P l f h = elim (cases_lt k n) [ inl m ↦ f m | inr m ↦ let e : n ≡ k = omega arith in subst P e h ]

any_split : (a b p t : Bool) → a ≡ (b || (p && t)) → a ≡ false → (b ≡ false) × (p ≡ true → t ≡ false)
any_split a true p t e z = absurd (cc)
any_split a false true true e z = absurd (cc)
any_split a false true false e z = (refl, λ _. refl)
any_split a false false t e z = (refl, λ h. absurd (cc))

-- where none passes, a live one doesn't
pub live_any : {A : Type 0} (t : A → Bool) (p : ℕ → Bool) (f : ℕ → A) (n k : ℕ) → list_any t (live_upto p f n) ≡ false → k < n → p k ≡ true → t (f k) ≡ false
live_any t p f zero k e l = absurd (omega arith)
live_any t p f (suc n) k e l =
    let h = any_split _ (list_any t (live_upto p f n)) (p n) (t (f n)) (list_any-append t (live_upto p f n) (if p n then f n ∷ [] else []) ∙ ap (λ x. list_any t (live_upto p f n) || x) (any_one t (p n) (f n))) e in
    last_case n k (λ k. p k ≡ true → t (f k) ≡ false) l (λ m. live_any t p f n k h.0 m) h.1

find_one : {A : Type 0} (t : A → Bool) (b : Bool) (x : A) → find t (if b then x ∷ [] else []) ≡ (if b && t x then Some x else None)
find_one t true x = refl
find_one t false x = refl

-- none is found where the test tells another number
find_none : {A : Type 0} (t : A → Bool) (p : ℕ → Bool) (f : ℕ → A) (n : ℕ) → ((k : ℕ) → k < n → p k ≡ true → t (f k) ≡ false) → find t (live_upto p f n) ≡ None
find_none t p f zero e = refl
find_none t p f (suc n) e =
    find-append t (live_upto p f n) (if p n then f n ∷ [] else [])
    ∙ (ap (λ o. option_or o (find t (if p n then f n ∷ [] else []))) (find_none t p f n (λ k l. e k (omega arith)))
    ∙ (find_one t (p n) (f n) ∙ none_one (p n) (t (f n)) (f n) (e n (omega arith))))
  where
    none_one : {A : Type 0} (b q : Bool) (x : A) → (b ≡ true → q ≡ false) → (if b && q then Some x else None) ≡ None
    none_one true q x e = rw (e refl)
    none_one false q x e = refl

-- what is found is the live one of the number that the test tells
pub live_find : {A : Type 0} (t : A → Bool) (p : ℕ → Bool) (f : ℕ → A) (n j : ℕ) → ((k : ℕ) → p k ≡ true → t (f k) ≡ (k == j)) → j < n → find t (live_upto p f n) ≡ (if p j then Some (f j) else None)
live_find t p f zero j e l = absurd (omega arith)
live_find t p f (suc n) j e l =
    find-append t (live_upto p f n) (if p n then f n ∷ [] else [])
    ∙ (ap (λ o. option_or (find t (live_upto p f n)) o) (find_one t (p n) (f n))
    ∙ elim (cases_lt j n) [
      | inl m ↦ ap (λ o. option_or o (if p n && t (f n) then Some (f n) else None)) (live_find t p f n j e m) ∙ first_stays (p j) (p n) (t (f n)) (f j) (f n) (λ h. e n h ∙ ne_eqb n j (λ z. omega arith))
      | inr m ↦ ap (λ o. option_or o (if p n && t (f n) then Some (f n) else None)) (find_none t p f n (λ k below h. e k h ∙ ne_eqb k j (λ z. omega arith))) ∙ (last_stays (p n) (t (f n)) (f n) (λ h. e n h ∙ eq-eqb n j (omega arith)) ∙ ap (λ i. if p i then Some (f i) else None) (let same : n ≡ j = omega arith in same))
    ])
  where
    first_stays : {A : Type 0} (a b q : Bool) (x y : A) → (b ≡ true → q ≡ false) → option_or (if a then Some x else None) (if b && q then Some y else None) ≡ (if a then Some x else None)
    first_stays true b q x y e = refl
    first_stays false true q x y e = rw (e refl)
    first_stays false false q x y e = refl

    last_stays : {A : Type 0} (b q : Bool) (x : A) → (b ≡ true → q ≡ true) → (if b && q then Some x else None) ≡ (if b then Some x else None)
    last_stays true q x e = rw (e refl)
    last_stays false q x e = refl

flat_one : {A B : Type 0} (g : A → List B) (b : Bool) (x : A) → flat_map g (if b then x ∷ [] else []) ≡ (if b then g x else [])
flat_one g true x = append-nil (g x)
flat_one g false x = refl

pub live_flat : {A B : Type 0} (g : A → List B) (p : ℕ → Bool) (f : ℕ → A) (n : ℕ) → flat_map g (live_upto p f (suc n)) ≡ flat_map g (live_upto p f n) ++ (if p n then g (f n) else [])
live_flat g p f n = flat_map-append g (live_upto p f n) (if p n then f n ∷ [] else []) ∙ ap (λ xs. flat_map g (live_upto p f n) ++ xs) (flat_one g (p n) (f n))
