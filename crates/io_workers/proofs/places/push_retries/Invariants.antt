use Rattle.std.proofs.Common.{◌≡◌, ◌++◌, take}
use Rattle.std.specs.Prelude.{flat_map}
use Rattle.io_workers.specs.Configured.{retries_of}
use Rattle.io_workers.proofs.places.push_retries.Given as goal

abbrev pub invariant-loop-backend : goal.invariant-loop-backend
invariant-loop-backend l = l.waits.items ≡ l.fn.waits.items ++ flat_map (retries_of l.hosts) (take l.backend-index l.backends)
