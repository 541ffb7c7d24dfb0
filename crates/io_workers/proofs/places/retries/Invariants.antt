use Rattle.std.proofs.Common.{◌≡◌, ◌++◌, drop}
use Rattle.std.specs.Prelude.{flat_map}
use Rattle.lload_names.specs.Plans.{backends_of}
use Rattle.io_workers.specs.Configured.{retries, retries_of}
use Rattle.io_workers.proofs.places.retries.Given as goal

abbrev pub invariant-loop-tier : goal.invariant-loop-tier
invariant-loop-tier l =
    (l.tier-items ≡ l.config.plan)
    × (l.waits.items ++ flat_map (retries_of l.config.hosts) (backends_of (drop l.tier-index l.tier-items)) ≡ retries l.config)
