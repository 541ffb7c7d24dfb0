-- The places of a configuration.
use Rattle.std.specs.Prelude.{ℕ, ◌+◌, ◌-◌, List, replicate, slice_get, flat_map}
use Rattle.std.specs.Option.{option_map_or}
use Rattle.lload_names.specs.Plans.{backends_of}
use Rattle.lload_names.specs.declared.plans.BackendPlan.{BackendPlan}
use Rattle.lload_conf.specs.declared.config.Config.{Config}
use Rattle.lload_conf.specs.declared.config.Host.{Host}
use Rattle.io_workers.specs.Places.{fresh}
use Rattle.io_workers.specs.declared.rows.Row.{Row}

-- how long a backend's places wait, by its number
abbrev pub retry_of : List Host → ℕ → ℕ
retry_of hosts number = option_map_or (λ host. host.retry) (slice_get hosts (number - 1)) 0

-- the same for each of its places
abbrev pub retries_of : List Host → BackendPlan → List ℕ
retries_of hosts backend = replicate (backend.numconns + backend.bindconns) (retry_of hosts backend.number)

-- how long each place of a configuration waits
abbrev pub retries : Config → List ℕ
retries config = flat_map (retries_of config.hosts) (backends_of config.plan)

-- the places of a configuration
abbrev pub places_of : Config → List Row
places_of config = fresh 1 (retries config)
