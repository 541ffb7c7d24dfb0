-- Which entry a line of a journal is (this project's own), and the entries that have a line.
use Rattle.std.specs.Prelude.{◌≡◌, ◌≢◌, ℕ, ◌^◌, ◌<◌, if◌then◌else◌, List, Option, Some, None, IsTrue}
use Rattle.std.specs.Option.{option_and_then}
use Rattle.std.specs.Str.{bytes_eq}
use Rattle.ldap_spec.specs.Laws.{AreOctets}
use Rattle.ldap_spec.specs.Messages.{IsMessage}
use Rattle.lload_names.specs.declared.names.Entry.{Entry}
use Rattle.lload_names.specs.declared.names.OpName.{OpName}
use Rattle.lload_names.specs.declared.names.PartName.{PartName}
use Rattle.lload_names.specs.declared.names.PartName.TheVariants.{Desk, Client, Up as Connection}
use Rattle.lload_names.specs.declared.names.Answer.{Answer}
use Rattle.lload_names.specs.declared.names.Answer.TheVariants.{Go}
use Rattle.lload_names.specs.declared.names.Bound.{Bound}
use Rattle.lload_names.specs.declared.names.Bound.TheVariants.{Free, Backend, Conn}
use Rattle.lload_names.specs.declared.names.Letter.{Letter}
use Rattle.lload_names.specs.declared.names.Letter.TheVariants.{Returned, Ended, IsUp, IsRetired, IsDown}
use Rattle.lload_names.specs.declared.names.What.{What}
use Rattle.lload_names.specs.declared.names.What.TheVariants.{In, Chosen, Out, Late, Sent, Own, Got, Expired, Missed, Idle, Asked, Chose, Heard, Paused, Resumed, Replanned}
use Rattle.lload_spec.specs.Transcript.{entry_text}
use Rattle.lload_spec.specs.Writable.{can_be_written}
use Rattle.replay_script.specs.EntryFields.{fields_by, message_in}

-- the entry, where the line is its text
abbrev pub own_line : List ℕ → Entry → Option Entry
own_line line e = if bytes_eq (entry_text e) line then Some e else None

-- the entry that a line is, with its end
abbrev pub entry_of : List ℕ → Option Entry
entry_of line = option_and_then (own_line line) (fields_by message_in line)

-- the messages of what happened are some (RFC 4511, section 4.1.1)
abbrev pub IsSpelled : ℕ → List ℕ → Type 0
IsSpelled id rest = IsMessage (record { id = id; rest = rest })

abbrev pub HasMessage : What → Type 0
HasMessage (In id rest) = IsSpelled id rest
HasMessage (Out id rest) = IsSpelled id rest
HasMessage (Sent id op rest) = IsSpelled id rest
HasMessage (Own id rest) = IsSpelled id rest
HasMessage (Got id rest) = IsSpelled id rest
HasMessage _ = Unit {0}

-- an entry has a line: it can be written, and its message is one
pub record HasLine (e : Entry) : Type 0 where
  pub writable : IsTrue (can_be_written e.what)
  pub message : HasMessage e.what

-- the numbers are such as the entry's types hold
abbrev pub HoldsOp : OpName → Type 0
HoldsOp op = (op.client < 2 ^ 32) × (op.k < 2 ^ 64)

abbrev pub HoldsPart : PartName → Type 0
HoldsPart Desk = Unit {0}
HoldsPart (Client n) = n < 2 ^ 32
HoldsPart (Connection n) = n < 2 ^ 32

abbrev pub HoldsAnswer : Answer → Type 0
HoldsAnswer (Go conn backend) = (conn < 2 ^ 32) × (backend < 2 ^ 32)
HoldsAnswer _ = Unit {0}

abbrev pub HoldsBound : Bound → Type 0
HoldsBound Free = Unit {0}
HoldsBound (Backend b) = b < 2 ^ 32
HoldsBound (Conn n) = n < 2 ^ 32

abbrev pub HoldsLatency : Option ℕ → Type 0
HoldsLatency None = Unit {0}
HoldsLatency (Some n) = n < 2 ^ 32

abbrev pub HoldsLetter : Letter → Type 0
HoldsLetter (IsUp conn) = conn < 2 ^ 32
HoldsLetter (IsRetired conn) = conn < 2 ^ 32
HoldsLetter (IsDown conn) = conn < 2 ^ 32
HoldsLetter (Returned op conn) = HoldsOp op × (conn < 2 ^ 32)
HoldsLetter (Ended op conn latency) = HoldsOp op × (conn < 2 ^ 32) × HoldsLatency latency
HoldsLetter _ = Unit {0}

abbrev pub HoldsWhat : What → Type 0
HoldsWhat (In id rest) = AreOctets rest
HoldsWhat (Chosen op answer) = HoldsOp op × HoldsAnswer answer
HoldsWhat (Out id rest) = AreOctets rest
HoldsWhat (Late op) = HoldsOp op
HoldsWhat (Sent id op rest) = HoldsOp op × AreOctets rest
HoldsWhat (Own id rest) = AreOctets rest
HoldsWhat (Got id rest) = AreOctets rest
HoldsWhat (Expired op) = HoldsOp op
HoldsWhat (Missed op) = HoldsOp op
HoldsWhat (Idle op) = HoldsOp op
HoldsWhat (Asked op want) = HoldsOp op × HoldsBound want.bound
HoldsWhat (Chose op answer word) = HoldsOp op × HoldsAnswer answer × (word < 2 ^ 64)
HoldsWhat (Heard letter) = HoldsLetter letter
HoldsWhat (Paused client) = client < 2 ^ 32
HoldsWhat (Resumed client) = client < 2 ^ 32
HoldsWhat (Replanned plan base) = (plan < 2 ^ 32) × (base < 2 ^ 32)
HoldsWhat _ = Unit {0}

pub record HoldsEntry (e : Entry) : Type 0 where
  pub at : e.at < 2 ^ 64
  pub part : HoldsPart e.part
  pub what : HoldsWhat e.what

-- what was written of an entry is read as this entry
abbrev pub WrittenIsRead : Type 0
WrittenIsRead = (e : Entry) → HoldsEntry e → HasLine e → entry_of (entry_text e) ≡ Some e

-- what is read of a line is written as this line
abbrev pub ReadIsWritten : Type 0
ReadIsWritten = (line : List ℕ) (e : Entry) → entry_of line ≡ Some e → entry_text e ≡ line

-- where no entry is read of a line, no entry has it
abbrev pub NoneHasTheLine : Type 0
NoneHasTheLine = (line : List ℕ) (e : Entry) → entry_of line ≡ None → HoldsEntry e → HasLine e → entry_text e ≢ line
