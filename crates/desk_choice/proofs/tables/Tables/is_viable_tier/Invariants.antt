use Rattle.std.proofs.Common.{◌≡◌, ℕ, drop}
use Rattle.std.specs.List.{list_any}
use Rattle.lload_names.specs.declared.plans.TierPlan.{TierPlan}
use Rattle.lload_spec.specs.Settings.{Settings}
use Rattle.lload_spec.specs.Choice.{DeskFacts, is_viable, is_viable_tier}
use Rattle.desk_choice.specs.Tells.{Tells, IsTier}
use Rattle.desk_choice.proofs.tables.Tables.is_viable_tier.Given as goal

abbrev pub invariant-loop-place : goal.invariant-loop-place
invariant-loop-place l = (s : Settings) (f : DeskFacts) (i : ℕ) (t : TierPlan) → Tells s f l.self → IsTier f l.self i t l.round → list_any (λ b. is_viable s f l.kind b.number) (drop l.place t.backends) ≡ is_viable_tier s f l.kind t
