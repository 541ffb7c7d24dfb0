use Rattle.std.proofs.Common.{◌≡◌, ◌++◌, take}
use Rattle.lload_advice.specs.Overview.{backends_in}
use Rattle.lload_advice.proofs.overview.with_tier.Given as goal

abbrev pub invariant-loop-backend : goal.invariant-loop-backend
invariant-loop-backend l = backends_in l.rows ≡ backends_in l.fn.rows ++ take l.backend-index l.backends
