-- What the desk keeps of connections.
use Rattle.std.specs.Prelude.{ℕ, ◌-◌, Bool, ◌&&◌, ◌==◌, not, if◌then◌else◌, Option, Some, None}
use Rattle.std.specs.Ordering.{nat_cmp}
use Rattle.std.specs.BTreeMap.{get}
use Rattle.lload_names.specs.declared.names.ConnKind.{ConnKind}
use Rattle.lload_names.specs.Same.{is_kind}
use Rattle.lload_spec.specs.Choice.{is_within_limit}
use Rattle.desk_tables.specs.declared.conns.Conn.{Conn}
use Rattle.desk_tables.specs.declared.conns.Conns.{Conns}

-- the row of a connection
abbrev pub row_of : Conns → ℕ → Option Conn
row_of c n = get nat_cmp c.rows n

-- the index of its place
abbrev pub index_of : Conn → ℕ
index_of r = r.place.place - 1

-- whether it is viable and has room
abbrev pub is_ready : Conn → Bool
is_ready r = r.viable && is_within_limit r.most r.pending

-- whether it is viable, and of a kind
abbrev pub is_usable : ConnKind → Conn → Bool
is_usable kind r = r.viable && is_kind kind r.place.kind

-- a row, where it says something of its connection
abbrev pub kept : Conn → Option Conn
kept r = if r.pending == 0 && not r.viable then None else Some r
