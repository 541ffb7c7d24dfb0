-- The letters that a part's own list stands for, each with its receiver, in order: a fold over the list with its marks.
-- At each entry the letters go by the state before it, the entry and its mark, so no other part's list is looked at.
use Rattle.std.specs.Prelude.{ℕ, true, false, ◌&&◌, List, [], ◌∷◌, ◌++◌, flat_map, Option, Some, None}
use Rattle.ldap_spec.specs.Messages.{Message}
use Rattle.lload_names.specs.declared.names.OpName.{OpName}
use Rattle.lload_names.specs.declared.names.OpKind.TheVariants.{Bind}
use Rattle.lload_names.specs.declared.names.ConnKind.TheVariants.{Regular, Bind as BindKind}
use Rattle.lload_names.specs.declared.names.Refusal.TheVariants.{C5}
use Rattle.lload_names.specs.declared.names.PartName.{PartName}
use Rattle.lload_names.specs.declared.names.PartName.TheVariants.{Desk, Client, Up as Connection}
use Rattle.lload_names.specs.declared.names.Posted.{Posted}
use Rattle.lload_names.specs.declared.names.Letter.{Letter}
use Rattle.lload_names.specs.declared.names.Letter.TheVariants.{Choice, Forward, IsUp, IsRetired}
use Rattle.lload_names.specs.declared.names.What.{What}
use Rattle.lload_names.specs.declared.names.What.TheVariants as what
use Rattle.lload_spec.specs.Settings.{Settings}
use Rattle.lload_spec.specs.Entries.{makes_operation}
use Rattle.lload_spec.specs.Operations.{is_request_of}
use Rattle.lload_spec.specs.FirstCheck.{Check, Ends, Unbinds}
use Rattle.part_spec.specs.Marked.{Marked, Taken}
use Rattle.part_spec.specs.Inputs.{letters_alone, to, failed}
use Rattle.part_spec.specs.ClientState.{ClientState, empty_client, step_client, check_at, row_named}
use Rattle.part_spec.specs.ClientTurn.{drops, closing, stall_letters, resumes, letters_by, letters_for}
use Rattle.part_spec.specs.ConnectionState.{ConnectionState, UpRow, empty_connection, step_connection, is_abandoned_by}
use Rattle.part_spec.specs.ConnectionTurn.{ended, row_ended, down_letters, takes_down}
use Rattle.part_spec.specs.RegularTurn.{answered, missed_letters}
use Rattle.part_spec.specs.BindTurn.{answered as bind_answered, missed_letters as missed_bind_letters}
use Rattle.part_spec.specs.DeskState.{DeskState, empty_desk, step_desk}

-- A client.

-- the Drops at a message that ends its client: a Bind ends all other operations by itself (RFC 4511, 4.2.1)
abbrev pub ending_letters : ClientState → Message → List Posted
ending_letters p m = elim (makes_operation m && is_request_of Bind m) [ true ↦ drops p | false ↦ [] ]

-- the letters at the In of a message, by the first check that holds of it; those of the client's end stand at Gone
abbrev pub message_letters : Settings → ClientState → ℕ → Message → Check → List Posted
message_letters s p at m (Ends why) = ending_letters p m
message_letters s p at m Unbinds = []
message_letters s p at m found = letters_by s p at m found

-- the letters at what happened to a client at a moment
abbrev pub client_letters : Settings → ClientState → ℕ → What → List Posted
client_letters s p at (what.In id rest) =
    message_letters s p at (record { id = id; rest = rest }) (check_at s p (record { id = id; rest = rest }))
client_letters s p at (what.Chosen op answer) = letters_for s p op (row_named p op) answer
client_letters s p at (what.Gone why) = closing p
client_letters s p at what.Stalled = stall_letters p
client_letters s p at what.Flowing = resumes p
client_letters s p at _ = []

-- A connection.

-- the letters at a message: those of the operation that it answers; what happens behind it gives its own
abbrev pub got_letters : Settings → ConnectionState → ℕ → Message → List Posted
got_letters s p at m =
    letters_alone (takes_down p m (elim p.kind [ Regular ↦ answered p at m | BindKind ↦ bind_answered s p m ]))

-- the end of a live operation that an own message abandons
abbrev pub abandoned_ended : ConnectionState → List ℕ → UpRow → List Posted
abandoned_ended p rest r = elim (is_abandoned_by rest r) [ true ↦ row_ended p r None | false ↦ [] ]

-- the refusal of an operation that expired, and its end, which of a Bind is that of its connection
abbrev pub expired_letters : ConnectionState → OpName → List Posted
expired_letters p op = failed op C5 ++ elim p.kind [ Regular ↦ ended p op None | BindKind ↦ [] ]

-- the refusal of an operation that was missed, and its end, which of a Bind is that of its Forward's holder
abbrev pub missed_of : ConnectionState → OpName → Letter → List Posted
missed_of p op (Forward o _ rest ask_who holder) =
    elim p.kind [ Regular ↦ missed_letters p op | BindKind ↦ missed_bind_letters p op holder ]
missed_of p op _ = []

-- and those by the letter of a mark
abbrev pub missed_by : ConnectionState → OpName → Option Taken → List Posted
missed_by p op mark = elim mark [ None ↦ [] | Some t ↦ missed_of p op t.letter ]

-- the letters at what happened to a connection at a moment, with the letter of which it is the mark
abbrev pub connection_letters : Settings → ConnectionState → ℕ → Option Taken → What → List Posted
connection_letters s p at mark (what.Got id rest) = got_letters s p at (record { id = id; rest = rest })
connection_letters s p at mark (what.Own id rest) = flat_map (abandoned_ended p rest) p.rows
connection_letters s p at mark (what.Expired op) = expired_letters p op
connection_letters s p at mark (what.Missed op) = missed_by p op mark
connection_letters s p at mark what.Up = to Desk (IsUp p.number)
connection_letters s p at mark what.Retired = to Desk (IsRetired p.number)
connection_letters s p at mark (what.Down why) = down_letters p
connection_letters s p at mark _ = []

-- The desk.

-- the letters at what happened to the desk
abbrev pub desk_letters : What → List Posted
desk_letters (what.Chose op answer word) = to (Client op.client) (Choice op answer)
desk_letters _ = []

-- The fold.

-- what is given at each of these entries, by the state before it
abbrev pub gives_from : {A : Type 0} → (A → Marked → A) → (A → Marked → List Posted) → A → List Marked → List Posted
gives_from step letters state [] = []
gives_from step letters state (m ∷ ms) = letters state m ++ gives_from step letters (step state m) ms

abbrev pub client_gives : Settings → ClientState → List Marked → List Posted
client_gives s p list = gives_from (step_client s) (λ q m. client_letters s q m.entry.at m.entry.what) p list

abbrev pub connection_gives : Settings → ConnectionState → List Marked → List Posted
connection_gives s p list =
    gives_from (step_connection s) (λ q m. connection_letters s q m.entry.at m.mark m.entry.what) p list

abbrev pub desk_gives : Settings → DeskState → List Marked → List Posted
desk_gives s p list = gives_from (step_desk s) (λ q m. desk_letters m.entry.what) p list

-- what a part's list gives
abbrev pub gives : Settings → PartName → List Marked → List Posted
gives s Desk list = desk_gives s empty_desk list
gives s (Client c) list = client_gives s (empty_client c) list
gives s (Connection u) list = connection_gives s (empty_connection s u) list
