use Rattle.std.proofs.Common.{◌≡◌, take}
use Rattle.lload_reload.proofs.plans.copied.Given as goal

abbrev pub invariant-loop-planned : goal.invariant-loop-planned
invariant-loop-planned l = l.copy ≡ take l.planned-index l.plans
