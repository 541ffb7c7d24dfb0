use Rattle.std.specs.Prelude.{ℕ, Bool, ◌==◌, List, [], ◌∷◌, map, filter, length, Option, Some, None, if◌then◌else◌, slice_index_or}
use Rattle.std.specs.List.{filter_map}
use Rattle.lload_names.specs.declared.plans.TierKind.{TierKind}
use Rattle.lload_names.specs.declared.plans.TierPlan.{TierPlan}
use Rattle.lload_spec.specs.Lists.{last}
use Rattle.lload_spec.specs.Picks.{rising, tier_order, tier_pick, last_of, mean, mean_of_last}
use Rattle.tier_select.specs.Flags.{is_set}
use Rattle.tier_select.specs.Members.{weight, place, places, members_from}

-- what happened at a tier: a backend was picked, or a latency of a backend was heard, each by its place in the tier
pub data Call : Type 0 where
  Picked : ℕ → Call
  Heard : ℕ → ℕ → Call

-- the place that a call picked
abbrev pub picked_place : Call → Option ℕ
picked_place (Picked place) = Some place
picked_place (Heard place latency) = None

-- the latency of a place that a call told
abbrev pub told_latency : ℕ → Call → Option ℕ
told_latency i (Picked place) = None
told_latency i (Heard place latency) = if place == i then Some latency else None

-- the place that was picked last
abbrev pub last_picked : List Call → Option ℕ
last_picked calls = last (filter_map picked_place calls)

-- the latencies of a place that were heard, in order
abbrev pub latencies_at : ℕ → List Call → List ℕ
latencies_at i calls = filter_map (told_latency i) calls

-- what one pick adds to the calls
abbrev pub pick_made : Option ℕ → List Call
pick_made None = []
pick_made (Some place) = Picked place ∷ []

-- what some calls come to: the kind of the tier and the weights of its backends, the place that was picked last, and the last 16 latencies of each place
pub record Standing : Type 0 where
  pub kind : TierKind
  pub weights : List ℕ
  pub chosen : Option ℕ
  pub latencies : List (List ℕ)

-- the weights of the backends of a tier, by place
abbrev pub weights_of : TierPlan → List ℕ
weights_of plan = map (λ b. b.weight) plan.backends

abbrev pub standing : TierPlan → List Call → Standing
standing plan calls =
    record {
      kind = plan.kind;
      weights = weights_of plan;
      chosen = last_picked calls;
      latencies = map (λ i. last_of 16 (latencies_at i calls)) (rising 0 (length (weights_of plan)));
    }

-- the order of the places of a tier with these weights, by the place that was chosen last and a random word
abbrev pub order_of : TierKind → List ℕ → Option ℕ → ℕ → List ℕ
order_of kind weights chosen w = places (tier_order kind place weight chosen w (members_from 0 weights))

-- the order of a tier behind these calls
abbrev pub order : TierPlan → List Call → ℕ → List ℕ
order plan calls w = order_of plan.kind (weights_of plan) (last_picked calls) w

-- the pick of a tier behind these calls
abbrev pub pick : TierPlan → List Call → List Bool → ℕ → Option ℕ
pick plan calls eligible w = tier_pick plan.kind (λ i. mean_of_last (latencies_at i calls)) (filter (is_set eligible) (order plan calls w))

-- the mean of the latencies that are kept of a place
abbrev pub mean_at : List (List ℕ) → ℕ → ℕ
mean_at latencies i = mean (slice_index_or latencies i [])

-- the pick of a tier that stands so
abbrev pub choice : Standing → List Bool → ℕ → Option ℕ
choice t eligible w = tier_pick t.kind (mean_at t.latencies) (filter (is_set eligible) (order_of t.kind t.weights t.chosen w))
