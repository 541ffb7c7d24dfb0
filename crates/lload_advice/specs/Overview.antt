-- The rows that a configuration comes to.
use Rattle.std.specs.Prelude.{ℕ, ◌+◌, ◌-◌, ◌^◌, min, List, length, slice_get}
use Rattle.std.specs.List.{flat_map}
use Rattle.std.specs.Option.{option_to_list, option_map_or}
use Rattle.lload_names.specs.declared.plans.BackendPlan.{BackendPlan}
use Rattle.lload_advice.specs.declared.overview.Row.{Row}

-- the backends in some rows
abbrev pub backends_in : List Row → List BackendPlan
backends_in rows = flat_map (λ row. option_to_list row.backend) rows

-- how many places a row has
abbrev pub places_in : Row → ℕ
places_in row = option_map_or (λ backend. backend.numconns + backend.bindconns) row.backend 0

-- how many places there are in some rows, by the last of them; the largest number of 64 bits stands for more
abbrev pub places_behind : List Row → ℕ
places_behind rows =
    option_map_or (λ row. min (row.places_before + places_in row) (2 ^ 64 - 1)) (slice_get rows (length rows - 1)) 0
