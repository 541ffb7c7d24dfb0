-- How much a bind connection's turn gives at most.
use Rattle.std.specs.Prelude.{ℕ, ◌+◌, ◌*◌, length}
use Rattle.part_spec.specs.ConnectionState.{ConnectionState}

-- two for each live operation, and four beside them
abbrev pub most_of : ConnectionState → ℕ
most_of p = 2 * length p.rows + 4
