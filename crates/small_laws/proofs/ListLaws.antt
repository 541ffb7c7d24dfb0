-- Laws of lists and tests that std doesn't have. std has, for the same uses: append-nil, map-append, length-map and
-- length-append in lemmas.List; append_assoc in Common; filter-append in lemmas.List.Elements; list_all-append,
-- list_any-append, list_all-map and find-append in lemmas.List.Folds; or_assoc and or-false in Math.Bool. What is said
-- of a Bool is `b ≡ true`, which IsTrue b is: the parts of a conjunction are `left`, `right` and `both`, and the cases
-- of a disjunction `either`, of small_spec's proofs.Growth.
use Rattle.std.proofs.Common.{◌≡◌, ℕ, Bool, true, false, ◌&&◌, ◌||◌, List, [], ◌∷◌, refl, ap, ◌∙◌, sym}
use Rattle.std.specs.Prelude.{Option, Some, None, map, filter, find, cond, option_map}
use Rattle.std.specs.List.{list_all, list_any}
use Rattle.std.specs.Option.{option_or}
use Rattle.std.specs.Str.{bytes_eq}
use Rattle.std.proofs.lemmas.Slice.Eq.{bytes_eq-Decides}
use Rattle.small_spec.specs.Lists.{passes, is_prefix, implies}
use Rattle.small_spec.proofs.Growth.{left, right, both}

-- the second of an implication that holds, where the first does
pub implied : (a b : Bool) → implies a b ≡ true → a ≡ true → b ≡ true
implied true b h k = h
implied false b h k = absurd (let bad : false ≡ true = k in cc)

-- an implication, where the second follows from the first
pub implies_by : (a b : Bool) → (a ≡ true → b ≡ true) → implies a b ≡ true
implies_by true b h = h refl
implies_by false b h = refl

-- a test of all, where each that passes one passes the other
pub all_imply : {A : Type 0} (t t' : A → Bool) (xs : List A) → ((x : A) → t x ≡ true → t' x ≡ true) → list_all t xs ≡ true → list_all t' xs ≡ true
all_imply t t' [] h k = refl
all_imply t t' (x ∷ xs) h k = both (t' x) _ (h x (left (t x) _ k)) (all_imply t t' xs h (right (t x) _ k))

-- a test of all through a map, where what passes one before passes the other behind
pub all-map : {A B : Type 0} (t : A → Bool) (t' : B → Bool) (f : A → B) (xs : List A) → ((x : A) → t x ≡ true → t' (f x) ≡ true) → list_all t xs ≡ true → list_all t' (map f xs) ≡ true
all-map t t' f [] h k = refl
all-map t t' f (x ∷ xs) h k = both (t' (f x)) _ (h x (left (t x) _ k)) (all-map t t' f xs h (right (t x) _ k))

-- two tests of all
pub all_both : {A : Type 0} (t t' : A → Bool) (xs : List A) → list_all t xs ≡ true → list_all t' xs ≡ true → list_all (λ x. t x && t' x) xs ≡ true
all_both t t' [] h k = refl
all_both t t' (x ∷ xs) h k = both (t x && t' x) _ (both (t x) (t' x) (left (t x) _ h) (left (t' x) _ k)) (all_both t t' xs (right (t x) _ h) (right (t' x) _ k))

-- a test that passes everywhere
pub all_always : {A : Type 0} (t : A → Bool) (xs : List A) → ((x : A) → t x ≡ true) → list_all t xs ≡ true
all_always t [] h = refl
all_always t (x ∷ xs) h = both (t x) _ (h x) (all_always t xs h)

-- a test of some through a map
pub any-map : {A B : Type 0} (t : B → Bool) (f : A → B) (xs : List A) → list_any t (map f xs) ≡ list_any (λ x. t (f x)) xs
any-map t f [] = refl
any-map t f (x ∷ xs) = ap (λ b. t (f x) || b) (any-map t f xs)

-- a filter through a map
pub filter-map : {A B : Type 0} (t : B → Bool) (f : A → B) (xs : List A) → filter t (map f xs) ≡ map f (filter (λ x. t (f x)) xs)
filter-map t f [] = refl
filter-map t f (x ∷ xs) = more (t (f x)) (filter-map t f xs)
  where
    more : (b : Bool) → filter t (map f xs) ≡ map f (filter (λ y. t (f y)) xs) → cond b (f x ∷ filter t (map f xs)) (filter t (map f xs)) ≡ map f (cond b (x ∷ filter (λ y. t (f y)) xs) (filter (λ y. t (f y)) xs))
    more true e = ap (λ l. f x ∷ l) e
    more false e = e

-- the first that passes, through a map
pub find-map : {A B : Type 0} (t : B → Bool) (f : A → B) (xs : List A) → find t (map f xs) ≡ option_map f (find (λ x. t (f x)) xs)
find-map t f [] = refl
find-map t f (x ∷ xs) = more (t (f x)) (find-map t f xs)
  where
    more : (b : Bool) → find t (map f xs) ≡ option_map f (find (λ y. t (f y)) xs) → cond b (Some (f x)) (find t (map f xs)) ≡ option_map f (cond b (Some x) (find (λ y. t (f y)) xs))
    more true e = refl
    more false e = e

pub passes-ext : {A : Type 0} (t t' : A → Bool) (o : Option A) → ((x : A) → t x ≡ t' x) → passes t o ≡ passes t' o
passes-ext t t' None h = refl
passes-ext t t' (Some x) h = h x

pub passes_imply : {A : Type 0} (t t' : A → Bool) (o : Option A) → ((x : A) → t x ≡ true → t' x ≡ true) → passes t o ≡ true → passes t' o ≡ true
passes_imply t t' None h k = k
passes_imply t t' (Some x) h k = h x k

pub any-filter : {A : Type 0} (q t : A → Bool) (xs : List A) → list_any q (filter t xs) ≡ list_any (λ x. t x && q x) xs
any-filter q t [] = refl
any-filter q t (x ∷ xs) = more (t x) (any-filter q t xs)
  where
    more : (b : Bool) → list_any q (filter t xs) ≡ list_any (λ y. t y && q y) xs → list_any q (cond b (x ∷ filter t xs) (filter t xs)) ≡ ((b && q x) || list_any (λ y. t y && q y) xs)
    more true e = ap (λ c. q x || c) e
    more false e = e

-- what holds of each holds of the one that is found, and that one passes the test
pub found : {A : Type 0} (q t : A → Bool) (xs : List A) (y : A) → find t xs ≡ Some y → list_all q xs ≡ true → q y ≡ true
found q t [] y f k = absurd (let bad : None ≡ Some y = f in cc)
found q t (x ∷ xs) y f k = more (t x) f (λ g. found q t xs y g (right (q x) _ k))
  where
    more : (b : Bool) → cond b (Some x) (find t xs) ≡ Some y → (find t xs ≡ Some y → q y ≡ true) → q y ≡ true
    more true g rest = let same : x ≡ y = cc in ap q (sym same) ∙ left (q x) _ k
    more false g rest = rest g

pub found_passes : {A : Type 0} (t : A → Bool) (xs : List A) (y : A) → find t xs ≡ Some y → t y ≡ true
found_passes t [] y f = absurd (let bad : None ≡ Some y = f in cc)
found_passes t (x ∷ xs) y f = more (t x) refl f (found_passes t xs y)
  where
    more : (b : Bool) → t x ≡ b → cond b (Some x) (find t xs) ≡ Some y → (find t xs ≡ Some y → t y ≡ true) → t y ≡ true
    more true e g rest = let same : x ≡ y = cc in ap t (sym same) ∙ e
    more false e g rest = rest g

-- nothing is found where what holds of each fails the test
pub none_found : {A : Type 0} (q t : A → Bool) (xs : List A) → ((x : A) → q x ≡ true → t x ≡ false) → list_all q xs ≡ true → find t xs ≡ None
none_found q t [] h k = refl
none_found q t (x ∷ xs) h k = ap (λ b. cond b (Some x) (find t xs)) (h x (left (q x) _ k)) ∙ none_found q t xs h (right (q x) _ k)

-- a first that there is or isn't, before none
pub or_none : {A : Type 0} (o : Option A) → option_or o None ≡ o
or_none None = refl
or_none (Some x) = refl

-- texts begin themselves
pub bytes_same : (xs : List ℕ) → bytes_eq xs xs ≡ true
bytes_same xs = (bytes_eq-Decides xs xs).1 refl

pub prefix_same : (xs : List (List ℕ)) → is_prefix xs xs ≡ true
prefix_same [] = refl
prefix_same (x ∷ xs) = both (bytes_eq x x) _ (bytes_same x) (prefix_same xs)
