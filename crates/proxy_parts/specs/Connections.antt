-- The parts of all upstream connections, by number, and what a step of one makes.
use Rattle.std.specs.Prelude.{◌≡◌, ◌≢◌, ◌++◌, ℕ, Bool, true, false, Option, Some, None, ⊤}
use Rattle.std.specs.Ordering.{nat_cmp}
use Rattle.std.specs.BTreeMap.{get}
use Rattle.std.specs.BTreeSet.{btree_set_len, contains}
use Rattle.lload_names.specs.declared.inputs.Input.{Input}
use Rattle.lload_names.specs.declared.inputs.Input.TheVariants.{LinkUp}
use Rattle.lload_spec.specs.Settings.{Settings, place_at}
use Rattle.part_spec.specs.ConnectionState.{ConnectionState, empty_connection}
use Rattle.part_spec.specs.Turn.{connection_turn}
use Rattle.outbox.specs.declared.outbox.Outbox.{Outbox}
use Rattle.proxy_parts.specs.States.{Stands}
use Rattle.conn_core.specs.Turned.{behind}
use Rattle.proxy_parts.specs.declared.connection.Connection.{Connection}
use Rattle.proxy_parts.specs.declared.connections.Connections.{Connections}

-- the part of a connection, where there is one
abbrev pub connection_part : Connections → ℕ → Option Connection
connection_part t u = get nat_cmp t.parts u

-- whether the end of a connection's link may still give something, and of how many it may
abbrev pub may_end : Connections → ℕ → Bool
may_end t u = contains nat_cmp t.standing u

abbrev pub ends_left : Connections → ℕ
ends_left t = btree_set_len t.standing

-- a part stands for a state; where there is none, for that of a connection that was never linked
abbrev pub IsConnection : Settings → ℕ → ConnectionState → Option Connection → Type 0
IsConnection s u p None = p ≡ empty_connection s u
IsConnection s u p (Some c) = Stands s p c

-- a connection stands for a state in a table: its part does, and its end may give something where it isn't down
pub record ConnectionIs (s : Settings) (u : ℕ) (p : ConnectionState) (t : Connections) : Type 0 where
  pub part : IsConnection s u p (connection_part t u)
  pub ending : connection_part t u ≢ None → p.down ≡ false → may_end t u ≡ true

-- a connection is the same in two tables
pub record IsSameConnection (n : ℕ) (t u : Connections) : Type 0 where
  pub part : connection_part u n ≡ connection_part t n
  pub ending : may_end u n ≡ may_end t n

-- a connection without a part has no place where its link comes up
abbrev pub IsUnplaced : Settings → ℕ → Input → Option Connection → Type 0
IsUnplaced s u (LinkUp now) None = place_at s u ≡ None
IsUnplaced s u _ _ = ⊤

-- what was appended is the turn of an input, and the connection stands for the state behind it
pub record Took (s : Settings) (u : ℕ) (p : ConnectionState) (input : Input) (old new : Outbox) (t : Connections) : Type 0 where
  pub entries : new.entries.items ≡ old.entries.items ++ (connection_turn s p input).entries
  pub letters : new.letters.items ≡ old.letters.items ++ (connection_turn s p input).letters
  pub stands : ConnectionIs s u (behind s p input) t
