-- How the turns of places and of backends go on.
use Rattle.std.specs.Prelude.{◌≡◌, ℕ, ◌&&◌, true, false, List, [], ◌∷◌, ◌++◌, slice_get, Option, Some}
use Rattle.lload_names.specs.declared.plans.TierPlan.{TierPlan}
use Rattle.lload_spec.specs.Choice.{DeskFacts}
use Rattle.lload_spec.specs.Order.{has_backend}
use Rattle.tier_select.specs.Calls.{Call, Picked, standing}
use Rattle.desk_tables.specs.Turns.{Turn}
use Rattle.lload_names.specs.declared.names.ConnKind.{ConnKind}
use Rattle.lload_spec.specs.Settings.{Settings, place_index, backend_of, is_of_backend, is_of_kind}

-- the place of a connection was chosen last of those of its backend and kind; of the others it is the one that it was
abbrev pub IsTurn : Settings → ℕ → (ℕ → ConnKind → Option ℕ) → (ℕ → ConnKind → Option ℕ) → Type 0
IsTurn s conn before after =
    (b : ℕ) (k : ConnKind) → after b k ≡ (elim (is_of_kind s k conn && is_of_backend s b conn) [ true ↦ Some (place_index s conn) | false ↦ before b k ])

-- the backend of a connection was picked last in its tier; of the other tiers it is the one that it was
abbrev pub IsPick : Settings → ℕ → DeskFacts → (TierPlan → Option ℕ) → Type 0
IsPick s conn f last =
    (i : ℕ) (t : TierPlan) → slice_get f.tiers i ≡ Some t → last t ≡ (elim (has_backend t (backend_of s conn)) [ true ↦ Some (backend_of s conn) | false ↦ f.last_backend t ])

-- a tier stands with one pick more
abbrev pub IsPicked : ℕ → Turn → Option Turn → Type 0
IsPicked place x o =
    (y : Turn) × (o ≡ Some y) × (y.first ≡ x.first) × ((plan : TierPlan) (calls : List Call) → x.tier ≡ standing plan calls → y.tier ≡ standing plan (calls ++ Picked place ∷ []))
