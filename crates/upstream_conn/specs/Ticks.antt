-- What a clock step does at a regular connection.
use Rattle.std.specs.Prelude.{ℕ, List, map, filter}
use Rattle.ldap_spec.specs.Bodies.{abandon}
use Rattle.lload_spec.specs.Settings.{Settings}
use Rattle.op_deadlines.specs.Due.{is_due as is_past}
use Rattle.part_spec.specs.Inputs.{Act}
use Rattle.part_spec.specs.ConnectionState.{ConnectionState}
use Rattle.part_spec.specs.ConnectionTurn.{is_due}
use Rattle.part_spec.specs.RegularTurn.{expire}
use Rattle.conn_core.specs.Conn.{Conn}
use Rattle.upstream_conn.specs.declared.clock.Abandon.{Abandon}

-- the Abandon of an identifier
abbrev pub abandon_of : ℕ → Abandon
abandon_of id = record { id = id; rest = abandon id }

-- the identifiers of the operations that are due
abbrev pub due_ids : Conn → ℕ → List ℕ
due_ids c at = map (λ r. r.id) (filter (λ r. is_past c.timeout at r.last) c.table.rows)

-- what becomes of all that are due
abbrev pub rest_act : Settings → ℕ → ConnectionState → Act
rest_act s at p = expire s p p.ids.next (filter (is_due s at) p.rows)
