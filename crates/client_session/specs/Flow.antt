-- The regular connections of a client, as its part keeps its operations.
use Rattle.std.specs.Prelude.{ℕ, true, false, List, [], ◌∷◌, flat_map, Option, Some, None}
use Rattle.lload_spec.specs.Lists.{put_number}
use Rattle.client_rows.specs.Rows.{is_bind, went_to}
use Rattle.client_rows.specs.declared.row.Row.{Row}

-- the regular connection that an operation was forwarded to
abbrev pub connection_of : Row → List ℕ
connection_of r = elim (is_bind r) [ true ↦ [] | false ↦ elim (went_to r.way) [ None ↦ [] | Some u ↦ u ∷ [] ] ]

abbrev pub connections : List Row → List ℕ
connections rows = flat_map connection_of rows

-- these numbers put among rising ones
abbrev pub put_all : List ℕ → List ℕ → List ℕ
put_all [] us = us
put_all (n ∷ ns) us = put_number n (put_all ns us)
