-- A connection that is retired and has nothing left to do goes down within the turn: no message comes to it.
use Rattle.std.specs.Prelude.{ℕ, Bool, not, List, IsTrue, is_some}
use Rattle.lload_spec.specs.Entries.{got_message}
use Rattle.lload_spec.specs.Lists.{implies}
use Rattle.lload_spec.specs.Settings.{Settings}
use Rattle.part_spec.specs.ConnectionState.{ConnectionState, empty_connection, step_connection}
use Rattle.part_spec.specs.ConnectionTurn.{is_drained}
use Rattle.part_spec.specs.Marked.{Marked}
use Rattle.part_spec.specs.Marks.{each_from}
use Rattle.part_laws.specs.Turns.{Event}
use Rattle.connection_laws.specs.Turns.{connection_list}

-- whether an entry, where it is a message, comes where the connection has something left to do, by the state before it
abbrev pub is_undrained : ConnectionState → Marked → Bool
is_undrained p m = implies (is_some (got_message m.entry.what)) (not (is_drained p))

-- whether each message of a list does
abbrev pub none_comes_drained : Settings → ℕ → List Marked → Bool
none_comes_drained s u list = each_from (step_connection s) is_undrained (empty_connection s u) list

-- each of every list that a connection's turns make does, whatever comes to it
abbrev pub NoneComesDrained : Type 0
NoneComesDrained = (s : Settings) (u : ℕ) (xs : List Event) → IsTrue (none_comes_drained s u (connection_list s u xs))
