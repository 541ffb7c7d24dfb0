-- What the choice of a tier comes to, by the facts that the desk has.
use Rattle.std.specs.Prelude.{◌≡◌, ℕ, ◌+◌, ◌<◌, Bool, List, [], ◌∷◌, length, slice_get, is_some, Option, Some, None}
use Rattle.std.specs.Option.{option_map}
use Rattle.lload_names.specs.declared.names.ConnKind.{ConnKind}
use Rattle.lload_names.specs.declared.names.Answer.TheVariants.{Busy}
use Rattle.lload_names.specs.declared.plans.TierPlan.{TierPlan}
use Rattle.lload_names.specs.declared.plans.BackendPlan.{BackendPlan}
use Rattle.lload_names.specs.Plans.{NumberedFrom}
use Rattle.lload_spec.specs.Lists.{first}
use Rattle.lload_spec.specs.Settings.{Settings}
use Rattle.lload_spec.specs.Picks.{mean_of_last}
use Rattle.lload_spec.specs.Choice.{DeskFacts, connection_for, candidates, or_busy, pick}
use Rattle.tier_select.specs.Flags.{is_set}
use Rattle.tier_select.specs.Calls.{Call, Standing, standing, last_picked, latencies_at}

-- a tier stands by the facts: its calls picked the backend that they say was last, and heard latencies with these means;
-- its backends are numbered one after the other
pub record TierTells (f : DeskFacts) (t : TierPlan) (x : Standing) : Type 0 where
  pub calls : List Call
  pub stands : x ≡ standing t calls
  pub first : ℕ
  pub numbered : NumberedFrom first t.backends
  pub last_is : f.last_backend t ≡ option_map (λ i. first + i) (last_picked calls)
  pub means_are : (i : ℕ) → i < length t.backends → f.mean (first + i) ≡ mean_of_last (latencies_at i calls)

-- the places that are set are those of the backends that have an eligible connection of a kind
abbrev pub AreEligible : Settings → DeskFacts → ConnKind → TierPlan → List Bool → Type 0
AreEligible s f kind t flags =
    (i : ℕ) (b : BackendPlan) → slice_get t.backends i ≡ Some b → is_set flags i ≡ is_some (connection_for s f kind b)

-- a place of a tier is that of its pick, which is Busy where there is none
abbrev pub IsPick : Settings → DeskFacts → ConnKind → TierPlan → ℕ → Option ℕ → Type 0
IsPick s f kind t w None = pick s f t kind w ≡ Busy
IsPick s f kind t w (Some i) =
    (b : BackendPlan) → slice_get t.backends i ≡ Some b
    → pick s f t kind w ≡ or_busy (first (candidates s f kind (b ∷ [])))
