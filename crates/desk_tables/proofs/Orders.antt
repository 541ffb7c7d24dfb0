-- The order of a tier by places is its order by backends.
use Rattle.std.proofs.Common.{◌≡◌, ℕ, zero, suc, ◌+◌, ◌-◌, ◌<◌, ◌≤◌, true, false, ◌==◌, List, [], ◌∷◌, ◌++◌, length, map, get_or, slice_get, Option, Some, None, refl, sym, ap, ◌∙◌, arith}
use Rattle.std.proofs.lemmas.Bool.Decides.{nat_tests}
use Rattle.std.proofs.lemmas.List.Sorted.{All-permutation}
use Rattle.std.specs.List.{All}
use Rattle.std.specs.Option.{option_map}
use Rattle.lload_names.specs.declared.plans.BackendPlan.{BackendPlan}
use Rattle.lload_names.specs.declared.plans.TierKind.{TierKind}
use Rattle.lload_names.specs.declared.plans.TierKind.TheVariants.{RoundRobin, Weighted, BestOf}
use Rattle.lload_names.specs.Plans.{NumberedFrom}
use Rattle.lload_spec.proofs.PickLemmas.{tier_order-map, tier_order-permutes}
use Rattle.lload_spec.specs.Picks.{from_successor, tier_order}
use Rattle.tier_select.specs.declared.draws.Member.{Member}
use Rattle.tier_select.specs.Members.{weight, place, places, members_from}
use Rattle.tier_select.specs.Calls.{order_of}

-- a backend by its place behind the first
abbrev pub place_of : ℕ → BackendPlan → ℕ
place_of first b = b.number - first

abbrev member_of : ℕ → BackendPlan → Member
member_of first b = record { place = b.number - first; weight = b.weight }

abbrev number_of : BackendPlan → ℕ
number_of b = b.number

abbrev weight_of : BackendPlan → ℕ
weight_of b = b.weight

members-are : (first i n : ℕ) (bs : List BackendPlan) → NumberedFrom n bs → n ≡ first + i → map (member_of first) bs ≡ members_from i (map weight_of bs)
members-are first i n [] h e = refl
members-are first i n (b ∷ bs) h e =
    let at : b.number - first ≡ i = omega (arith, h.0, e) in
    let next : suc n ≡ first + suc i = omega (arith, e) in
    (λ k. record { place = at k; weight = b.weight } ∷ members-are first (suc i) (suc n) bs h.1 next k)

places-are : (first : ℕ) (bs : List BackendPlan) → places (map (member_of first) bs) ≡ map (place_of first) bs
places-are first [] = refl
places-are first (b ∷ bs) = ap (λ is. (b.number - first) ∷ is) (places-are first bs)

successor-same : (first i n : ℕ) (before bs : List BackendPlan) → NumberedFrom n bs → first ≤ n → from_successor (λ b. b.number - first == i) before bs ≡ from_successor (λ b. b.number == first + i) before bs
successor-same first i n before [] h l = refl
successor-same first i n before (b ∷ bs) h l =
    let same : (b.number - first == i) ≡ (b.number == first + i) = grind (arith, nat_tests, h.0, l) in
    ap (λ t. elim t [ true ↦ bs ++ (before ++ b ∷ []) | false ↦ from_successor (λ b. b.number - first == i) (before ++ b ∷ []) bs ]) same
    ∙ ap (λ xs. elim (b.number == first + i) [ true ↦ bs ++ (before ++ b ∷ []) | false ↦ xs ]) (successor-same first i (suc n) (before ++ b ∷ []) bs h.1 (omega (arith, l)))

order-same : (kind : TierKind) (first w : ℕ) (chosen : Option ℕ) (bs : List BackendPlan) → NumberedFrom first bs → tier_order kind (place_of first) weight_of chosen w bs ≡ tier_order kind number_of weight_of (option_map (λ i. first + i) chosen) w bs
order-same RoundRobin first w None bs h = refl
order-same RoundRobin first w (Some i) bs h = successor-same first i first [] bs h (omega arith)
order-same Weighted first w chosen bs h = refl
order-same BestOf first w chosen bs h = refl

pub ordered : (kind : TierKind) (first w : ℕ) (chosen : Option ℕ) (bs : List BackendPlan) → NumberedFrom first bs → order_of kind (map weight_of bs) chosen w ≡ map (place_of first) (tier_order kind number_of weight_of (option_map (λ i. first + i) chosen) w bs)
ordered kind first w chosen bs h =
    ap (λ ms. places (tier_order kind place weight chosen w ms)) (sym (members-are first 0 first bs h (omega arith)))
    ∙ ap places (sym (tier_order-map (member_of first) kind place weight chosen w bs))
    ∙ places-are first (tier_order kind (place_of first) weight_of chosen w bs)
    ∙ ap (map (place_of first)) (order-same kind first w chosen bs h)

-- a backend stands at its place
pub record IsAt (first : ℕ) (bs : List BackendPlan) (b : BackendPlan) : Type 0 where
  pub at : slice_get bs (b.number - first) ≡ Some b
  pub above : first ≤ b.number
  pub below : b.number - first < length bs

number-at : (n i : ℕ) (bs : List BackendPlan) (d : BackendPlan) → NumberedFrom n bs → i < length bs → (get_or bs i d).number ≡ n + i
number-at n i [] d h l = absurd (omega arith)
number-at n zero (b ∷ bs) d h l = omega (arith, h.0)
number-at n (suc i) (b ∷ bs) d h l = omega (arith, number-at (suc n) i bs d h.1 (omega (arith, l)))

get-at : (i : ℕ) (bs : List BackendPlan) (d : BackendPlan) → i < length bs → slice_get bs i ≡ Some (get_or bs i d)
get-at i [] d l = absurd (omega arith)
get-at zero (b ∷ bs) d l = refl
get-at (suc i) (b ∷ bs) d l = get-at i bs d (omega (arith, l))

all-at : (first : ℕ) (bs : List BackendPlan) → NumberedFrom first bs → All (IsAt first bs) bs
all-at first bs h = λ i d l.
    let number = number-at first i bs d h l in
    let back : (get_or bs i d).number - first ≡ i = omega (arith, number) in
    record {
      at = ap (slice_get bs) back ∙ get-at i bs d l;
      above = omega (arith, number);
      below = omega (arith, back, l);
    }

pub order-at : (kind : TierKind) (first w : ℕ) (last : Option ℕ) (bs : List BackendPlan) → NumberedFrom first bs → All (IsAt first bs) (tier_order kind number_of weight_of last w bs)
order-at kind first w last bs h = All-permutation (IsAt first bs) bs (tier_order kind number_of weight_of last w bs) (tier_order-permutes kind number_of weight_of last w bs) (all-at first bs h)
