use Rattle.std.proofs.Common.{◌≡◌, ◌++◌, map, drop}
use Rattle.lload_names.specs.Plans.{raised_backend}
use Rattle.load_desk.proofs.raises.raised_backends.Given as goal

abbrev pub invariant-loop-backend : goal.invariant-loop-backend
invariant-loop-backend l = l.raised ++ map (raised_backend l.before) (drop l.backend-index l.backends) ≡ map (raised_backend l.before) l.backends
