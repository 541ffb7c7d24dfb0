use Rattle.std.proofs.Common.{◌≡◌, ◌+◌, length, drop}
use Rattle.lload_names.specs.Plans.{backends_of}
use Rattle.lload_reload.proofs.plans.backends_in.Given as goal

abbrev pub invariant-loop-tier : goal.invariant-loop-tier
invariant-loop-tier l = l.count + length (backends_of (drop l.tier-index l.tier-items)) ≡ length (backends_of l.plan)
