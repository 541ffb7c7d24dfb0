-- What the reader of entries says of its steps: what is read, or that nothing is there, or that there was no memory for
-- it, where something is there by a reader that takes any octets for a message.
use Rattle.std.specs.Prelude.{◌≡◌, ℕ, List, Some, None, IsSome, IsTrue, Result, Ok, Err}
use Rattle.std.specs.Option.{option_and_then}
use Rattle.lload_names.specs.declared.names.Entry.{Entry}
use Rattle.lload_names.specs.declared.names.What.{What}
use Rattle.lload_spec.specs.Writable.{can_be_spelled, can_be_written}
use Rattle.replay_script.specs.EntryFields.{first_by, event_by, sent_of, next_op, fields_by, message_in, octets_in}
use Rattle.replay_script.specs.EntryLines.{HasLine, HasMessage, IsSpelled}
use Rattle.replay_script.specs.declared.read.LineFault.{LineFault}
use Rattle.replay_script.specs.declared.read.LineFault.TheVariants.{NotACommand, NoMemory}

-- the message of the first word
abbrev pub ReadsMessage : List (List ℕ) → Result (ℕ × List ℕ) LineFault → Type 0
ReadsMessage ws (Ok m) =
    (first_by message_in ws ≡ Some (record { id = m.0; rest = m.1 })) × IsSome (first_by octets_in ws)
    × IsTrue (can_be_spelled m.0 m.1) × IsSpelled m.0 m.1
ReadsMessage ws (Err NotACommand) = first_by message_in ws ≡ None
ReadsMessage ws (Err NoMemory) = IsSome (first_by octets_in ws)

-- what happened
abbrev pub ReadsWhat : List (List ℕ) → Result What LineFault → Type 0
ReadsWhat ws (Ok what) =
    (event_by message_in ws ≡ Some what) × IsSome (event_by octets_in ws) × IsTrue (can_be_written what)
    × HasMessage what
ReadsWhat ws (Err NotACommand) = event_by message_in ws ≡ None
ReadsWhat ws (Err NoMemory) = IsSome (event_by octets_in ws)

-- an operation, and the message that was sent for it
abbrev pub ReadsSent : List (List ℕ) → Result What LineFault → Type 0
ReadsSent ws (Ok what) =
    (option_and_then (sent_of message_in) (next_op ws) ≡ Some what)
    × IsSome (option_and_then (sent_of octets_in) (next_op ws)) × IsTrue (can_be_written what) × HasMessage what
ReadsSent ws (Err NotACommand) = option_and_then (sent_of message_in) (next_op ws) ≡ None
ReadsSent ws (Err NoMemory) = IsSome (option_and_then (sent_of octets_in) (next_op ws))

-- the entry of the fields of a line
abbrev pub ReadsFields : List ℕ → Result Entry LineFault → Type 0
ReadsFields line (Ok e) =
    (fields_by message_in line ≡ Some e) × IsSome (fields_by octets_in line) × HasLine e
ReadsFields line (Err NotACommand) = fields_by message_in line ≡ None
ReadsFields line (Err NoMemory) = IsSome (fields_by octets_in line)
