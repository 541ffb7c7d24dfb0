-- The order of a tier, by places.
use Rattle.std.proofs.Common.{◌≡◌, ℕ, suc, ◌+◌, ◌<◌, ◌≤◌, Bool, List, [], ◌∷◌, ◌++◌, length, map, filter, replicate, take, get_or, Option, Some, None, refl, ap, subst, ◌∙◌, arith}
use Rattle.std.proofs.lemmas.List.{map-append, length-map, length-take-le, replicate_more, take_more}
use Rattle.std.proofs.lemmas.List.Sorted.{IsPermutation-map}
use Rattle.std.specs.List.Sorted.{IsPermutation}
use Rattle.lload_names.specs.declared.plans.BackendPlan.{BackendPlan}
use Rattle.lload_names.specs.declared.plans.TierKind.{TierKind}
use Rattle.lload_names.specs.declared.plans.TierKind.TheVariants.{RoundRobin}
use Rattle.lload_spec.proofs.PickLemmas.{in_turn-map, tier_order-permutes}
use Rattle.lload_spec.specs.Picks.{rising, in_turn, total_weight, tier_order}
use Rattle.tier_select.specs.declared.draws.Member.{Member}
use Rattle.tier_select.specs.Flags.{is_set, NoneSet}
use Rattle.tier_select.specs.Members.{weight, place, places, members_from}
use Rattle.tier_select.specs.Calls.{Standing, order_of, mean_at, choice}
use Rattle.tier_select.proofs.Drawing.{total-append}
use Rattle.tier_select.proofs.Candidates.{Below-order, Below-filter, Below-pick, pick-none, none-pick, order-none, none-order}

pub weights-members : (i : ℕ) (ws : List ℕ) → map weight (members_from i ws) ≡ ws
weights-members i [] = refl
weights-members i (w ∷ ws) = ap (λ vs. w ∷ vs) (weights-members (suc i) ws)

pub places-members : (i : ℕ) (ws : List ℕ) → places (members_from i ws) ≡ rising i (length ws)
places-members i [] = refl
places-members i (w ∷ ws) = ap (λ ps. i ∷ ps) (places-members (suc i) ws)

pub length-members : (i : ℕ) (ws : List ℕ) → length (members_from i ws) ≡ length ws
length-members i [] = refl
length-members i (w ∷ ws) = ap suc (length-members (suc i) ws)

members-push : (i : ℕ) (ws : List ℕ) (w n : ℕ) → n ≡ i + length ws → members_from i (ws ++ w ∷ []) ≡ members_from i ws ++ record { place = n; weight = w } ∷ []
members-push i [] w n e = let same : i ≡ n = omega arith in rw same refl
members-push i (v ∷ ws) w n e = ap (λ ms. record { place = i; weight = v } ∷ ms) (members-push (suc i) ws w n (omega arith))

abbrev weight_of : BackendPlan → ℕ
weight_of b = b.weight

-- the members of one backend more
pub members_more : (bs xs : List BackendPlan) (i : ℕ) (d : BackendPlan) (ms : List Member) (n : ℕ) → xs ≡ bs → i < length xs → ms ≡ members_from 0 (map (λ b. b.weight) (take i bs)) → n ≡ length ms → ms ++ record { place = n; weight = (get_or xs i d).weight } ∷ [] ≡ members_from 0 (map (λ b. b.weight) (take (i + 1) bs))
members_more bs xs i d ms n same h e k =
    let within : i < length bs = omega (arith, h, ap (length {A = BackendPlan}) same) in
    let ws = map weight_of (take i bs) in
    let long : n ≡ 0 + length ws = omega (arith, k, ap (length {A = Member}) e, length-members 0 ws) in
    rw (same, take_more bs i d within, map-append weight_of (take i bs) (get_or bs i d ∷ []), members-push 0 ws (get_or bs i d).weight n long, e) refl

pub total_more : (ms : List Member) (m : Member) (total : ℕ) → total ≡ total_weight weight ms → total + m.weight ≡ total_weight weight (ms ++ m ∷ [])
total_more ms m total e = omega (arith, e, total-append weight ms (m ∷ []))

pub rings_more : (rings more : List (List ℕ)) (ring : List ℕ) (i : ℕ) → more ≡ rings ++ ring ∷ [] → ring ≡ [] → rings ≡ replicate i [] → more ≡ replicate (i + 1) []
rings_more rings more ring i e r h = e ∙ rw (r, h) (replicate_more i [])

-- members stand in their places
pub members_stand : (ms : List Member) (ws : List ℕ) → ms ≡ members_from 0 ws → map weight ms ≡ ws
members_stand ms ws e = ap (map weight) e ∙ weights-members 0 ws

pub length_stand : (bs : List BackendPlan) (i : ℕ) (ms : List Member) → i ≤ length bs → ms ≡ members_from 0 (map (λ b. b.weight) (take i bs)) → length ms ≡ i
length_stand bs i ms h e =
    ap (length {A = Member}) e ∙ (length-members 0 (map weight_of (take i bs)) ∙ (length-map (take i bs) weight_of ∙ length-take-le i bs h))

pub in_turn_order : (ws : List ℕ) (chosen : Option ℕ) (w : ℕ) → order_of RoundRobin ws chosen w ≡ in_turn (λ i. i) chosen (rising 0 (length ws))
in_turn_order ws chosen w = in_turn-map place (λ i. i) chosen (members_from 0 ws) ∙ ap (in_turn (λ i. i) chosen) (places-members 0 ws)

pub order-permutes : (kind : TierKind) (ws : List ℕ) (chosen : Option ℕ) (w : ℕ) → IsPermutation (rising 0 (length ws)) (order_of kind ws chosen w)
order-permutes kind ws chosen w =
    let ms = members_from 0 ws in
    let ordered = tier_order kind place weight chosen w ms in
    subst (λ ps. IsPermutation ps (places ordered)) (places-members 0 ws) (IsPermutation-map place ms ordered (tier_order-permutes kind place weight chosen w ms))

-- a choice is a place of the tier
pub choice_within : (t : Standing) (eligible : List Bool) (w i : ℕ) → choice t eligible w ≡ Some i → i < length t.weights
choice_within t eligible w i e =
    let n = length t.weights in
    let order = order_of t.kind t.weights t.chosen w in
    let below = Below-filter n (is_set eligible) order (Below-order n order (order-permutes t.kind t.weights t.chosen w)) in
    Below-pick n t.kind (mean_at t.latencies) (filter (is_set eligible) order) i below e

-- there is none exactly where no place is eligible
pub choice_none : (t : Standing) (eligible : List Bool) (w : ℕ) → choice t eligible w ≡ None → NoneSet (length t.weights) eligible
choice_none t eligible w e =
    let order = order_of t.kind t.weights t.chosen w in
    none-order (is_set eligible) (length t.weights) order (order-permutes t.kind t.weights t.chosen w) (pick-none t.kind (mean_at t.latencies) (filter (is_set eligible) order) e)

pub none_choice : (t : Standing) (eligible : List Bool) (w : ℕ) → NoneSet (length t.weights) eligible → choice t eligible w ≡ None
none_choice t eligible w none =
    let order = order_of t.kind t.weights t.chosen w in
    none-pick t.kind (mean_at t.latencies) (filter (is_set eligible) order) (order-none (is_set eligible) (length t.weights) order (order-permutes t.kind t.weights t.chosen w) none)
