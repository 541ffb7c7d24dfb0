-- A request that goes on, as the part keeps it.
use Rattle.std.specs.Prelude.{ℕ, Bool, List, [], Option, Some, None}
use Rattle.ldap_spec.specs.Messages.{Message}
use Rattle.lload_names.specs.declared.names.OpKind.TheVariants.{Bind}
use Rattle.lload_names.specs.declared.names.OpName.{OpName}
use Rattle.lload_names.specs.declared.names.Posted.{Posted}
use Rattle.lload_spec.specs.Settings.{Settings}
use Rattle.part_spec.specs.ClientState.{ClientState, ClientRow, new_row}
use Rattle.client_rows.specs.Rows.{sent_on, body_of}
use Rattle.client_rows.specs.declared.row.Row.{Row}
use Rattle.client_session.specs.Choices.{forward_of}
use Rattle.client_session.specs.declared.part.Held.{Held}

-- its row while it has no connection
abbrev pub waiting_row : Settings → ClientState → Message → ClientRow
waiting_row s p m = record (new_row s p m) { connection = None }

-- an operation, which goes to the connection that is held, and its request
abbrev pub sent_to : Option Held → Row → Row
sent_to None row = row
sent_to (Some h) row = record row { way = sent_on h.conn row.way }

abbrev pub body_to : Option Held → Row → Option (List ℕ)
body_to None row = None
body_to (Some h) row = body_of row.way

-- the Forward of a Bind with this request to the connection that is held
abbrev pub goes_of : OpName → Option Held → Option (List ℕ) → Bool → List Posted
goes_of op None rest ask_who = []
goes_of op (Some h) rest ask_who = forward_of op Bind rest ask_who h.holder h.conn
