-- What a tier comes to with one call more.
use Rattle.std.proofs.Common.{◌≡◌, ◌≢◌, ℕ, zero, suc, ◌+◌, ◌-◌, ◌<◌, ◌≤◌, Bool, true, false, ◌==◌, List, [], ◌∷◌, ◌++◌, length, map, filter, drop, set, get_or, replicate, take, Option, Some, None, refl, sym, ap, ◌∙◌, arith, length-append, length-drop}
use Rattle.std.proofs.lemmas.Bool.Decides.{nat_tests}
use Rattle.std.proofs.lemmas.List.{append-nil, length-map, drop-append-le, drop-drop, get_or_read, take_all}
use Rattle.std.proofs.lemmas.List.Elements.{filter_map-append}
use Rattle.std.specs.List.{filter_map}
use Rattle.std.specs.Option.{option_or}
use Rattle.lload_names.specs.declared.plans.TierPlan.{TierPlan}
use Rattle.lload_spec.specs.Lists.{last}
use Rattle.lload_spec.specs.Picks.{rising, last_of, mean, mean_of_last}
use Rattle.tier_select.specs.declared.draws.Member.{Member}
use Rattle.tier_select.specs.Flags.{is_set}
use Rattle.tier_select.specs.Members.{weight, members_from}
use Rattle.tier_select.specs.Calls.{Call, Heard, picked_place, told_latency, last_picked, latencies_at, pick_made, Standing, weights_of, standing, order_of, mean_at, choice, pick}
use Rattle.tier_select.proofs.Candidates.{length-rising, Below-order, Below-filter, pick-same}
use Rattle.tier_select.proofs.Firsts.{last-push}
use Rattle.tier_select.proofs.Orders.{members_stand, order-permutes}

-- a pick changes what was picked last alone
pub standing-picked : (plan : TierPlan) (calls : List Call) (o : Option ℕ) → standing plan (calls ++ pick_made o) ≡ record (standing plan calls) { chosen = option_or o (last_picked calls) }
standing-picked plan calls None = rw append-nil refl
standing-picked plan calls (Some i) = simp (filter_map-append, append-nil, last-push) refl

-- the last so many of a list and one more, from the last so many of the list
pub last_of-push : (n : ℕ) (xs : List ℕ) (x : ℕ) → last_of n (last_of n xs ++ x ∷ []) ≡ last_of n (xs ++ x ∷ [])
last_of-push n xs x =
    let m = length xs - n in
    let front = drop-append-le m xs (x ∷ []) (omega arith) in
    let count : m + (length (drop m (xs ++ x ∷ [])) - n) ≡ length (xs ++ x ∷ []) - n = omega (arith, length-drop m (xs ++ x ∷ []), length-append xs (x ∷ [])) in
    rw (← front) (drop-drop (length (drop m (xs ++ x ∷ [])) - n) m (xs ++ x ∷ []) ∙ ap (λ k. drop k (xs ++ x ∷ [])) count)

module _ {X : Type 0} (F G : ℕ → X) where
  map-above : (a n : ℕ) → ((i : ℕ) → a ≤ i → F i ≡ G i) → map F (rising a n) ≡ map G (rising a n)
  map-above a zero h = refl
  map-above a (suc n) h = rw (h a (omega arith), map-above (suc a) n (λ i k. h i (omega arith))) refl

  -- functions that differ at one number differ there alone in what they make of the numbers
  set-map : (a k n : ℕ) (v : X) → k < n → G (a + k) ≡ v → ((i : ℕ) → i ≢ a + k → F i ≡ G i) → set (map F (rising a n)) k v ≡ map G (rising a n)
  set-map a k zero v h e others = absurd (omega arith)
  set-map a zero (suc n) v h e others =
      let at : a ≡ a + 0 = omega arith in
      let here : v ≡ G a = sym (ap G at ∙ e) in
      rw (here, map-above (suc a) n (λ i k. others i (λ q. omega arith))) refl
  set-map a (suc k) (suc n) v h e others =
      let next : suc a + k ≡ a + suc k = omega arith in
      rw (others a (λ q. omega arith), set-map (suc a) k n v (omega arith) (ap G next ∙ e) (λ i q. others i (λ r. q (r ∙ sym next)))) refl

get_or-map : {X : Type 0} (F : ℕ → X) (a n k : ℕ) (d : X) → k < n → get_or (map F (rising a n)) k d ≡ F (a + k)
get_or-map F a zero k d h = absurd (omega arith)
get_or-map F a (suc n) zero d h = let at : a ≡ a + 0 = omega arith in ap F at
get_or-map F a (suc n) (suc k) d h =
    let next : suc a + k ≡ a + suc k = omega arith in
    get_or-map F (suc a) n k d (omega arith) ∙ ap F next

heard-here : (calls : List Call) (i latency : ℕ) → latencies_at i (calls ++ Heard i latency ∷ []) ≡ latencies_at i calls ++ latency ∷ []
heard-here calls i latency = let here : (i == i) ≡ true = grind (arith, nat_tests) in rw (filter_map-append (told_latency i) calls (Heard i latency ∷ []), here) refl

heard-elsewhere : (calls : List Call) (i p latency : ℕ) → i ≢ p → latencies_at i (calls ++ Heard p latency ∷ []) ≡ latencies_at i calls
heard-elsewhere calls i p latency h = let other : (p == i) ≡ false = grind (arith, nat_tests, h) in rw (filter_map-append (told_latency i) calls (Heard p latency ∷ []), other, append-nil) refl

-- the latencies that are kept, with one more
pub heard-kept : (calls : List Call) (p latency n : ℕ) (old new : List ℕ) (kept : List (List ℕ)) → p < n → kept ≡ map (λ i. last_of 16 (latencies_at i calls)) (rising 0 n) → old ≡ get_or kept p [] → new ≡ last_of 16 (old ++ latency ∷ []) → set kept p new ≡ map (λ i. last_of 16 (latencies_at i (calls ++ Heard p latency ∷ []))) (rising 0 n)
heard-kept calls p latency n old new kept h e o k =
    let before = λ (i : ℕ). last_of 16 (latencies_at i calls) in
    let after = λ (i : ℕ). last_of 16 (latencies_at i (calls ++ Heard p latency ∷ [])) in
    let at : 0 + p ≡ p = omega arith in
    let had : old ≡ before p = o ∙ (ap (λ ls. get_or ls p []) e ∙ (get_or-map before 0 n p [] h ∙ ap before at)) in
    let grown : after p ≡ new = ap (last_of 16) (heard-here calls p latency) ∙ (sym (last_of-push 16 (latencies_at p calls) latency) ∙ (ap (λ ls. last_of 16 (ls ++ latency ∷ [])) (sym had) ∙ sym k)) in
    ap (λ ls. set ls p new) e ∙ set-map before after 0 p n new h (ap after at ∙ grown) (λ i q. ap (last_of 16) (sym (heard-elsewhere calls i p latency (λ r. q (r ∙ sym at)))))

-- a latency changes what is kept of its place alone
pub standing-heard : (plan : TierPlan) (calls : List Call) (p latency : ℕ) (s : Standing) (old new : List ℕ) → s ≡ standing plan calls → p < length s.weights → old ≡ get_or s.latencies p old → new ≡ last_of 16 (old ++ latency ∷ []) → record s { latencies = set s.latencies p new } ≡ standing plan (calls ++ Heard p latency ∷ [])
standing-heard plan calls p latency s old new e h o k =
    let n = length (weights_of plan) in
    let kept = ap (λ (t : Standing). t.latencies) e in
    let within : p < n = omega (arith, h, ap (λ (t : Standing). length t.weights) e) in
    let long : length s.latencies ≡ n = ap (length {A = List ℕ}) kept ∙ (length-map (rising 0 n) (λ i. last_of 16 (latencies_at i calls)) ∙ length-rising 0 n) in
    let had = get_or_read s.latencies p old (omega (arith, within, long)) o [] in
    let grown = heard-kept calls p latency n old new s.latencies within kept had k in
    let picks : filter_map picked_place (calls ++ Heard p latency ∷ []) ≡ filter_map picked_place calls = filter_map-append picked_place calls (Heard p latency ∷ []) ∙ append-nil (filter_map picked_place calls) in
    let chosen : s.chosen ≡ last_picked (calls ++ Heard p latency ∷ []) = ap (λ (t : Standing). t.chosen) e ∙ ap (last {A = ℕ}) (sym picks) in
    λ i. record { kind = (e i).kind; weights = (e i).weights; chosen = chosen i; latencies = grown i }

none-heard : (a n : ℕ) → replicate n [] ≡ map (λ i. last_of 16 (latencies_at i [])) (rising a n)
none-heard a zero = refl
none-heard a (suc n) = ap (λ xs. [] ∷ xs) (none-heard (suc a) n)

-- a tier before any call
pub standing-new : (plan : TierPlan) (ms : List Member) (i : ℕ) (rings : List (List ℕ)) → ms ≡ members_from 0 (map (λ b. b.weight) (take i plan.backends)) → i ≡ length plan.backends → rings ≡ replicate i [] → record { kind = plan.kind; weights = map weight ms; chosen = None; latencies = rings } ≡ standing plan []
standing-new plan ms i rings e all none =
    let ws = members_stand ms (map (λ b. b.weight) (take i plan.backends)) e ∙ ap (map (λ b. b.weight)) (take_all i plan.backends (omega arith)) in
    let n : i ≡ length (weights_of plan) = omega (arith, all, length-map plan.backends (λ b. b.weight)) in
    let rest = none ∙ (none-heard 0 i ∙ ap (λ k. map (λ j. last_of 16 (latencies_at j [])) (rising 0 k)) n) in
    λ k. record { kind = plan.kind; weights = ws k; chosen = None; latencies = rest k }

-- the choice of what calls come to is the pick behind them
pub choice_standing : (plan : TierPlan) (calls : List Call) (eligible : List Bool) (w : ℕ) → choice (standing plan calls) eligible w ≡ pick plan calls eligible w
choice_standing plan calls eligible w =
    let ws = weights_of plan in
    let n = length ws in
    let order = order_of plan.kind ws (last_picked calls) w in
    let below = Below-filter n (is_set eligible) order (Below-order n order (order-permutes plan.kind ws (last_picked calls) w)) in
    let kept = λ (i : ℕ). last_of 16 (latencies_at i calls) in
    pick-same n plan.kind (mean_at (map kept (rising 0 n))) (λ i. mean_of_last (latencies_at i calls)) (λ i h. let at : 0 + i ≡ i = omega arith in ap mean (get_or-map kept 0 n i [] h ∙ ap kept at)) (filter (is_set eligible) order) below
