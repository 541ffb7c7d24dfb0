use Rattle.std.specs.Prelude.{ℕ, Bool, false, List, slice_get, Option, Some, None}
use Rattle.lload_names.specs.declared.names.ConnKind.{ConnKind}
use Rattle.desk_tables.specs.declared.servers.Server.{Server}
use Rattle.desk_tables.specs.Lanes.{has_viable}

-- whether there is a backend that has a viable connection of a kind
abbrev pub some_viable : ConnKind → Option Server → Bool
some_viable wanted None = false
some_viable wanted (Some v) = has_viable wanted v

-- whether the backend with this index has one
abbrev pub viable_at : List Server → ℕ → ConnKind → Bool
viable_at servers j kind = some_viable kind (slice_get servers j)
