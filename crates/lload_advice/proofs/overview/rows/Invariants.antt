use Rattle.std.proofs.Common.{◌≡◌, take}
use Rattle.lload_names.specs.Plans.{backends_of}
use Rattle.lload_advice.specs.Overview.{backends_in}
use Rattle.lload_advice.proofs.overview.rows.Given as goal

abbrev pub invariant-loop-tier : goal.invariant-loop-tier
invariant-loop-tier l = backends_in l.rows ≡ backends_of (take l.tier-index l.tier-items)
