-- What rows say where there may be none.
use Rattle.std.specs.Prelude.{ℕ, Option, Some, None}
use Rattle.desk_tables.specs.declared.conns.Conn.{Conn}

-- how many operations are pending by a row
abbrev pub pending_of : Option Conn → ℕ
pending_of None = 0
pending_of (Some r) = r.pending
