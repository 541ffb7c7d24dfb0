-- Where a connection's place is in the tiers in force.
use Rattle.std.specs.Prelude.{◌≡◌, ◌≤◌, ◌<◌, ℕ, ◌+◌, ◌-◌, ◌==◌, ◌&&◌, List, length, drop, slice_get, Some}
use Rattle.lload_names.specs.declared.names.ConnKind.{ConnKind}
use Rattle.lload_names.specs.declared.plans.BackendPlan.{BackendPlan}
use Rattle.lload_names.specs.declared.plans.TierPlan.{TierPlan}
use Rattle.lload_names.specs.declared.plans.Place.{Place}
use Rattle.lload_names.specs.Same.{is_kind}
use Rattle.lload_names.specs.Plans.{backends_of, places_for}
use Rattle.lload_spec.specs.Settings.{Settings, plan_in_force}
use Rattle.lload_reload.specs.Bases.{AreNotBelow}
use Rattle.ready_set.specs.Keys.{is_in}
use Rattle.desk_tables.specs.Turns.{Turn}
use Rattle.desk_tables.specs.declared.conns.Spot.{Spot}

-- a place is one of its backend's for its kind, and of no other backend or kind; its backend is in force
pub record IsPlaced (ts : List TierPlan) (place : Place) : Type 0 where
  pub placed : (b : ℕ) (k : ConnKind) → is_in (place.place - 1) (places_for ts b k) ≡ (place.backend == b && is_kind k place.kind)
  pub index : ℕ
  pub backend : BackendPlan
  pub at : slice_get (backends_of ts) index ≡ Some backend
  pub number : backend.number ≡ place.backend

-- a spot is that of the backend with this index, by the turns of the tiers
pub record IsSpot (rounds : List Turn) (index : ℕ) (spot : Spot) : Type 0 where
  pub server : spot.server ≡ index
  pub turn : Turn
  pub at : slice_get rounds spot.tier ≡ Some turn
  pub among : turn.first + spot.place ≡ index
  pub within : spot.place < length turn.tier.weights

-- a tier doesn't have the backend with this index
abbrev pub IsElsewhere : ℕ → Turn → Type 0
IsElsewhere index x = length x.tier.weights ≤ 64 → x.first ≤ index → x.first + length x.tier.weights ≤ index

-- a connection is above the base of the plan with this number, counted from 1, and above that of no later plan
pub record IsOfPlan (s : Settings) (k n : ℕ) : Type 0 where
  pub begun : 1 ≤ k
  pub some : k ≤ length s.plans
  pub above : (plan_in_force s k).base < n
  pub no_later : AreNotBelow n (drop k s.plans)
