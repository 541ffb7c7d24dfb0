-- What is picked from an order of the numbers below one: it is below too, and there is none exactly where none passes.
use Rattle.std.proofs.Common.{◌≡◌, ℕ, zero, suc, ◌+◌, ◌<◌, ◌≤◌, Bool, true, false, nat_lt, List, [], ◌∷◌, length, filter, get_or, Some, None, if◌then◌else◌, refl, ap, ◌∙◌, arith}
use Rattle.std.proofs.lemmas.List.{nil_from_length}
use Rattle.std.proofs.lemmas.List.Sums.{length-filter}
use Rattle.std.proofs.lemmas.List.Sorted.{All-permutation, IsPermutation-sym, sum_by-IsPermutation}
use Rattle.std.specs.Prelude.{cond}
use Rattle.std.specs.List.{All}
use Rattle.std.specs.List.Sorted.{IsPermutation}
use Rattle.lload_names.specs.declared.plans.TierKind.{TierKind}
use Rattle.lload_names.specs.declared.plans.TierKind.TheVariants.{RoundRobin, Weighted, BestOf}
use Rattle.lload_spec.specs.Lists.{first}
use Rattle.lload_spec.specs.Picks.{rising, tier_pick}

-- all of these are below a number
abbrev pub Below : ℕ → List ℕ → Type 0
Below n [] = Unit {0}
Below n (x ∷ xs) = (x < n) × Below n xs

Below-all : (n : ℕ) (xs : List ℕ) → All (λ x. x < n) xs → Below n xs
Below-all n [] h = tt
Below-all n (x ∷ xs) h = (h 0 x (omega arith), Below-all n xs (λ k d l. h (suc k) d (omega arith)))

get_or-rising : (a n k d : ℕ) → k < n → get_or (rising a n) k d ≡ a + k
get_or-rising a zero k d h = absurd (omega arith)
get_or-rising a (suc n) zero d h = omega arith
get_or-rising a (suc n) (suc k) d h = let e = get_or-rising (suc a) n k d (omega arith) in omega arith

pub length-rising : (a n : ℕ) → length (rising a n) ≡ n
length-rising a zero = refl
length-rising a (suc n) = ap suc (length-rising (suc a) n)

-- an order of the numbers below one
pub Below-order : (n : ℕ) (order : List ℕ) → IsPermutation (rising 0 n) order → Below n order
Below-order n order h =
    Below-all n order (All-permutation (λ x. x < n) (rising 0 n) order h (λ k d l. omega (arith, get_or-rising 0 n k d (omega (arith, length-rising 0 n)), length-rising 0 n)))

pub Below-filter : (n : ℕ) (p : ℕ → Bool) (xs : List ℕ) → Below n xs → Below n (filter p xs)
Below-filter n p [] h = tt
Below-filter n p (x ∷ xs) h =
    elim (p x) as (λ b. Below n (cond b (x ∷ filter p xs) (filter p xs))) [ true ↦ (h.0, Below-filter n p xs h.1) | false ↦ Below-filter n p xs h.1 ]

Below-better : (n : ℕ) (b : Bool) (x y z : ℕ) → x < n → y < n → Some (if b then y else x) ≡ Some z → z < n
Below-better n true x y z h k e = let same : y ≡ z = cc in omega arith
Below-better n false x y z h k e = let same : x ≡ z = cc in omega arith

Below-first : (n : ℕ) (xs : List ℕ) (z : ℕ) → Below n xs → first xs ≡ Some z → z < n
Below-first n [] z h e = cc
Below-first n (x ∷ xs) z h e = let same : x ≡ z = cc in omega (arith, h.0)

pub Below-pick : (n : ℕ) (kind : TierKind) (mean : ℕ → ℕ) (xs : List ℕ) (z : ℕ) → Below n xs → tier_pick kind mean xs ≡ Some z → z < n
Below-pick n RoundRobin mean xs z h e = Below-first n xs z h e
Below-pick n Weighted mean xs z h e = Below-first n xs z h e
Below-pick n BestOf mean [] z h e = cc
Below-pick n BestOf mean (x ∷ []) z h e = let same : x ≡ z = cc in omega (arith, h.0)
Below-pick n BestOf mean (x ∷ y ∷ xs) z h e = Below-better n (nat_lt (mean y) (mean x)) x y z h.0 h.1.0 e

-- a pick asks the means of what it picks from alone
pub pick-same : (n : ℕ) (kind : TierKind) (f g : ℕ → ℕ) → ((i : ℕ) → i < n → f i ≡ g i) → (xs : List ℕ) → Below n xs → tier_pick kind f xs ≡ tier_pick kind g xs
pick-same n RoundRobin f g e xs h = refl
pick-same n Weighted f g e xs h = refl
pick-same n BestOf f g e [] h = refl
pick-same n BestOf f g e (x ∷ []) h = refl
pick-same n BestOf f g e (x ∷ y ∷ xs) h = rw (e x h.0, e y h.1.0) refl

pub pick-none : (kind : TierKind) (mean : ℕ → ℕ) (xs : List ℕ) → tier_pick kind mean xs ≡ None → xs ≡ []
pick-none RoundRobin mean [] e = refl
pick-none RoundRobin mean (x ∷ xs) e = cc
pick-none Weighted mean [] e = refl
pick-none Weighted mean (x ∷ xs) e = cc
pick-none BestOf mean [] e = refl
pick-none BestOf mean (x ∷ []) e = cc
pick-none BestOf mean (x ∷ y ∷ xs) e = cc

pub none-pick : (kind : TierKind) (mean : ℕ → ℕ) (xs : List ℕ) → xs ≡ [] → tier_pick kind mean xs ≡ None
none-pick kind mean xs e = rw e (none-of kind)
  where
    none-of : (kind : TierKind) → tier_pick {A = ℕ} kind mean [] ≡ None
    none-of RoundRobin = refl
    none-of Weighted = refl
    none-of BestOf = refl

-- an order has none that passes exactly where the numbers have none
filter-order : (p : ℕ → Bool) (xs ys : List ℕ) → IsPermutation xs ys → filter p xs ≡ [] → filter p ys ≡ []
filter-order p xs ys h e =
    let same = sum_by-IsPermutation (λ x. cond (p x) 1 0) xs ys h in
    let none = ap (length {A = ℕ}) e in
    nil_from_length (filter p ys) (omega (arith, length-filter p xs, length-filter p ys, same, none))

none-rising : (p : ℕ → Bool) (a n : ℕ) → ((i : ℕ) → a ≤ i → i < a + n → p i ≡ false) → filter p (rising a n) ≡ []
none-rising p a zero h = refl
none-rising p a (suc n) h = rw (h a (omega arith) (omega arith)) (none-rising p (suc a) n (λ i k l. h i (omega arith) (omega arith)))

filter-none : (p : ℕ → Bool) (x : ℕ) (xs : List ℕ) → filter p (x ∷ xs) ≡ [] → (p x ≡ false) × (filter p xs ≡ [])
filter-none p x xs e = step (p x) refl e
  where
    step : (b : Bool) → p x ≡ b → cond b (x ∷ filter p xs) (filter p xs) ≡ [] → (p x ≡ false) × (filter p xs ≡ [])
    step true here e = cc
    step false here e = (here, e)

rising-none : (p : ℕ → Bool) (a n : ℕ) → filter p (rising a n) ≡ [] → (k : ℕ) → k < n → p (a + k) ≡ false
rising-none p a zero e k h = absurd (omega arith)
rising-none p a (suc n) e zero h = let here : a + 0 ≡ a = omega arith in ap p here ∙ (filter-none p a (rising (suc a) n) e).0
rising-none p a (suc n) e (suc k) h =
    let next : a + suc k ≡ suc a + k = omega arith in
    ap p next ∙ rising-none p (suc a) n (filter-none p a (rising (suc a) n) e).1 k (omega arith)

pub order-none : (p : ℕ → Bool) (n : ℕ) (order : List ℕ) → IsPermutation (rising 0 n) order → ((i : ℕ) → i < n → p i ≡ false) → filter p order ≡ []
order-none p n order h none = filter-order p (rising 0 n) order h (none-rising p 0 n (λ i k l. none i (omega arith)))

pub none-order : (p : ℕ → Bool) (n : ℕ) (order : List ℕ) → IsPermutation (rising 0 n) order → filter p order ≡ [] → (i : ℕ) → i < n → p i ≡ false
none-order p n order h e i l =
    let here : i ≡ 0 + i = omega arith in
    ap p here ∙ rising-none p 0 n (filter-order p order (rising 0 n) (IsPermutation-sym (rising 0 n) order h) e) i l
