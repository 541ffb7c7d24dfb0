use Rattle.std.proofs.Common.{◌≡◌, ◌<◌, ℕ, slice_get, is_some, Some}
use Rattle.lload_names.specs.declared.plans.TierPlan.{TierPlan}
use Rattle.lload_names.specs.declared.plans.BackendPlan.{BackendPlan}
use Rattle.lload_spec.specs.Settings.{Settings}
use Rattle.lload_spec.specs.Choice.{DeskFacts, connection_for}
use Rattle.tier_select.specs.Flags.{is_set}
use Rattle.desk_choice.specs.Tells.{Tells, IsTier}
use Rattle.desk_choice.proofs.tables.Tables.eligible.Given as goal

abbrev pub invariant-loop-place : goal.invariant-loop-place
invariant-loop-place l = (s : Settings) (f : DeskFacts) (i : ℕ) (t : TierPlan) → Tells s f l.self → IsTier f l.self i t l.round → (j : ℕ) (b : BackendPlan) → j < l.place → slice_get t.backends j ≡ Some b → is_set l.eligible j ≡ is_some (connection_for s f l.kind b)
