-- How much a regular connection's turn gives at most.
use Rattle.std.specs.Prelude.{ℕ, ◌+◌, ◌*◌, length}
use Rattle.part_spec.specs.ConnectionState.{ConnectionState}

-- three for each live operation, and four beside them
abbrev pub most_of : ConnectionState → ℕ
most_of p = 3 * length p.rows + 4
