use Rattle.std.proofs.Common.{◌≡◌, ◌++◌, map, drop}
use Rattle.lload_names.specs.Plans.{raised}
use Rattle.load_desk.proofs.raises.raised.Given as goal

abbrev pub invariant-loop-tier : goal.invariant-loop-tier
invariant-loop-tier l = l.raised ++ map (raised l.before) (drop l.tier-index l.plan) ≡ map (raised l.before) l.plan
