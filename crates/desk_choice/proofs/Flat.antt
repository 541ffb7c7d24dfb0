-- Lists by index.
use Rattle.std.proofs.Common.{◌≡◌, ◌≢◌, ℕ, zero, suc, ◌+◌, ◌<◌, ◌≤◌, Bool, true, false, ◌==◌, nat_lt, List, [], ◌∷◌, ◌++◌, length, filter, map, take, drop, slice_get, Option, Some, None, refl, sym, ap, ◌∙◌, ⊎_elim, arith, length-append}
use Rattle.std.proofs.lemmas.Bool.{cases_eq, or_right}
use Rattle.std.proofs.lemmas.Bool.Decides.{nat_tests}
use Rattle.std.specs.List.{list_any}
use Rattle.std.specs.Option.{option_map}
use Rattle.lload_names.specs.declared.plans.TierPlan.{TierPlan}
use Rattle.lload_names.specs.declared.plans.BackendPlan.{BackendPlan}
use Rattle.lload_names.specs.Plans.{backends_of, NumberedFrom}
use Rattle.lload_spec.specs.Picks.{rising}
use Rattle.ready_set.specs.Keys.{is_in}

module _ {A B : Type 0} where
  pub get-map : (f : A → B) (xs : List A) (i : ℕ) → slice_get (map f xs) i ≡ option_map f (slice_get xs i)
  get-map f [] i = refl
  get-map f (x ∷ xs) zero = refl
  get-map f (x ∷ xs) (suc i) = get-map f xs i

module _ {A : Type 0} where
  get-front : (xs ys : List A) (i : ℕ) (x : A) → slice_get xs i ≡ Some x → slice_get (xs ++ ys) i ≡ Some x
  get-front [] ys i x e = absurd (cc)
  get-front (z ∷ xs) ys zero x e = e
  get-front (z ∷ xs) ys (suc i) x e = get-front xs ys i x e

  get-behind : (xs ys : List A) (i : ℕ) → slice_get (xs ++ ys) (length xs + i) ≡ slice_get ys i
  get-behind [] ys i = ap (slice_get ys) (let e : 0 + i ≡ i = omega arith in e)
  get-behind (x ∷ xs) ys i = let e : suc (length xs) + i ≡ suc (length xs + i) = omega arith in ap (slice_get (x ∷ (xs ++ ys))) e ∙ get-behind xs ys i

  pub any-count : (p : A → Bool) (xs : List A) → list_any p xs ≡ nat_lt 0 (length (filter p xs))
  any-count p [] = refl
  any-count p (x ∷ xs) = grind (arith, nat_tests, any-count p xs)

  pub drop-at : (xs : List A) (i : ℕ) (x : A) → slice_get xs i ≡ Some x → drop i xs ≡ x ∷ drop (i + 1) xs
  drop-at [] i x e = absurd (cc)
  drop-at (y ∷ ys) zero x e = let same : y ≡ x = cc in ap (λ z. z ∷ ys) same
  drop-at (y ∷ ys) (suc i) x e = let same : suc i + 1 ≡ suc (i + 1) = omega arith in drop-at ys i x e ∙ ap (λ k. x ∷ drop k (y ∷ ys)) (sym same)

-- the backend at a place of a tier, among all
pub tier-backend : (ts : List TierPlan) (i j : ℕ) (t : TierPlan) (b : BackendPlan) → slice_get ts i ≡ Some t → slice_get t.backends j ≡ Some b → slice_get (backends_of ts) (length (backends_of (take i ts)) + j) ≡ Some b
tier-backend [] i j t b e h = absurd (cc)
tier-backend (u ∷ ts) zero j t b e h =
    let same : u ≡ t = cc in
    let here : slice_get u.backends j ≡ Some b = ap (λ (x : TierPlan). slice_get x.backends j) same ∙ h in
    let at : 0 + j ≡ j = omega arith in
    ap (slice_get (u.backends ++ backends_of ts)) at ∙ get-front u.backends (backends_of ts) j b here
tier-backend (u ∷ ts) (suc i) j t b e h =
    let more : length (u.backends ++ backends_of (take i ts)) + j ≡ length u.backends + (length (backends_of (take i ts)) + j) = omega (arith, length-append u.backends (backends_of (take i ts))) in
    ap (slice_get (u.backends ++ backends_of ts)) more
    ∙ get-behind u.backends (backends_of ts) (length (backends_of (take i ts)) + j)
    ∙ tier-backend ts i j t b e h

number-above : (n : ℕ) (bs : List BackendPlan) (m : ℕ) → NumberedFrom n bs → m < n → filter (λ b. b.number == m) bs ≡ []
number-above n [] m h l = refl
number-above n (b ∷ bs) m h l = let apart : (b.number == m) ≡ false = grind (arith, nat_tests, h.0, l) in grind (arith, apart, number-above (suc n) bs m h.1 (omega (arith, l)))

-- of backends that are numbered in order one has a number
pub one-numbered : (n : ℕ) (bs : List BackendPlan) (j : ℕ) (b : BackendPlan) → NumberedFrom n bs → slice_get bs j ≡ Some b → filter (λ c. c.number == b.number) bs ≡ b ∷ []
one-numbered n [] j b h e = absurd (cc)
one-numbered n (c ∷ bs) zero b h e =
    let same : c ≡ b = cc in
    let is : (c.number == b.number) ≡ true = grind (arith, nat_tests, ap (λ (x : BackendPlan). x.number) same) in
    let below : b.number < suc n = omega (arith, h.0, ap (λ (x : BackendPlan). x.number) same) in
    let none = number-above (suc n) bs b.number h.1 below in
    rw is (λ i. same i ∷ none i)
one-numbered n (c ∷ bs) (suc j) b h e =
    let rest = one-numbered (suc n) bs j b h.1 e in
    let above : n < b.number = number-behind (suc n) bs j b h.1 e in
    let apart : (c.number == b.number) ≡ false = grind (arith, nat_tests, h.0, above) in
    rw apart rest
  where
    number-behind : (n : ℕ) (bs : List BackendPlan) (j : ℕ) (b : BackendPlan) → NumberedFrom n bs → slice_get bs j ≡ Some b → n ≤ b.number
    number-behind n [] j b h e = absurd (cc)
    number-behind n (c ∷ bs) zero b h e = let same : c ≡ b = cc in omega (arith, h.0, ap (λ (x : BackendPlan). x.number) same)
    number-behind n (c ∷ bs) (suc j) b h e = omega (arith, number-behind (suc n) bs j b h.1 e)

-- a number that lies within rising ones is among them
pub in-rising : (from k i : ℕ) → from ≤ i → i < from + k → is_in i (rising from k) ≡ true
in-rising from zero i l u = absurd (omega (arith, l, u))
in-rising from (suc k) i l u =
    ⊎_elim
    (λ (is : from ≡ i). grind (arith, nat_tests, is))
    (λ (ne : from ≢ i). or_right (from == i) (is_in i (rising (suc from) k)) (in-rising (suc from) k i (omega (arith, l, ne)) (omega (arith, u))))
    (cases_eq from i)
