-- The latencies of backends, of which the last 16 are kept.
use Rattle.std.specs.Prelude.{◌≡◌, ℕ, true, false, List, [], ◌∷◌, ◌++◌, slice_get, slice_index_or, Option, Some}
use Rattle.lload_names.specs.declared.plans.BackendPlan.{BackendPlan}
use Rattle.lload_names.specs.declared.plans.TierPlan.{TierPlan}
use Rattle.lload_spec.specs.Picks.{last_of, mean}
use Rattle.lload_spec.specs.Settings.{Settings, is_of_backend}
use Rattle.lload_spec.specs.Choice.{DeskFacts}
use Rattle.tier_select.specs.Calls.{Call, Heard, standing}
use Rattle.desk_tables.specs.Turns.{Turn}

-- the facts, with the means of these latencies of each backend
abbrev pub with_means : DeskFacts → (ℕ → List ℕ) → DeskFacts
with_means f latencies = record f { mean = λ b. mean (latencies b) }

-- the tiers keep these latencies of each of their backends
abbrev pub AreRings : List TierPlan → (ℕ → List ℕ) → List Turn → Type 0
AreRings ts latencies rounds =
    (i j : ℕ) (t : TierPlan) (x : Turn) (b : BackendPlan) → slice_get ts i ≡ Some t → slice_get rounds i ≡ Some x → slice_get t.backends j ≡ Some b
    → slice_index_or x.tier.latencies j [] ≡ latencies b.number

-- the backend of a connection has one latency more
abbrev pub IsTold : Settings → ℕ → ℕ → (ℕ → List ℕ) → (ℕ → List ℕ) → Type 0
IsTold s conn latency before after =
    (b : ℕ) → after b ≡ (elim (is_of_backend s b conn) [ true ↦ last_of 16 (before b ++ latency ∷ []) | false ↦ before b ])

-- a tier stands with one latency more
abbrev pub IsHeard : ℕ → ℕ → Turn → Option Turn → Type 0
IsHeard place latency x o =
    (y : Turn) × (o ≡ Some y) × (y.first ≡ x.first) × ((plan : TierPlan) (calls : List Call) → x.tier ≡ standing plan calls → y.tier ≡ standing plan (calls ++ Heard place latency ∷ []))
