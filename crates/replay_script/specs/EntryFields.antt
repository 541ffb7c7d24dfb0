-- The fields of a journal's entry among the words of its line (this project's own), each at its place, and which entry
-- these fields are. A message is read by a reader that is given.
use Rattle.std.specs.Prelude.{ℕ, ◌+◌, ◌-◌, ◌^◌, ◌==◌, Bool, if◌then◌else◌, List, [], ◌∷◌, Option, Some, None, codes, length, take, drop}
use Rattle.std.specs.List.{position}
use Rattle.std.specs.Option.{option_map, option_and_then}
use Rattle.std.specs.Str.{bytes_eq}
use Rattle.ldap_spec.specs.Messages.{Message}
use Rattle.ldap_spec.specs.Streams.{Whole, Short, Bad, TooBig, read}
use Rattle.lload_names.specs.declared.names.Entry.{Entry}
use Rattle.lload_names.specs.declared.names.OpName.{OpName}
use Rattle.lload_names.specs.declared.names.PartName.{PartName}
use Rattle.lload_names.specs.declared.names.PartName.TheVariants.{Desk, Client, Up as Connection}
use Rattle.lload_names.specs.declared.names.Answer.{Answer}
use Rattle.lload_names.specs.declared.names.Answer.TheVariants.{Go, Busy, Unavailable}
use Rattle.lload_names.specs.declared.names.ConnKind.{ConnKind}
use Rattle.lload_names.specs.declared.names.ConnKind.TheVariants.{Regular, Bind}
use Rattle.lload_names.specs.declared.names.Bound.{Bound}
use Rattle.lload_names.specs.declared.names.Bound.TheVariants.{Free, Backend, Conn}
use Rattle.lload_names.specs.declared.names.Want.{Want}
use Rattle.lload_names.specs.declared.names.EndWhy.{EndWhy}
use Rattle.lload_names.specs.declared.names.EndWhy.TheVariants.{Left, Lost, Bad as BadMessage, TooBig as MessageTooBig, ZeroId, IdInUse, Unreadable, IoTimeout, Memory, Stopped, OwnBind, TimedOut, Unfinished, Drained}
use Rattle.lload_names.specs.declared.names.Letter.{Letter}
use Rattle.lload_names.specs.declared.names.Letter.TheVariants.{Returned, Ended, IsUp, IsRetired, IsDown}
use Rattle.lload_names.specs.declared.names.What.{What}
use Rattle.lload_names.specs.declared.names.What.TheVariants.{Arrived, In, Chosen, Out, Late, Gone, Linked, Up, Retired, Sent, Own, Got, Expired, Missed, Idle, Down, Asked, Chose, Heard, Stalled, Flowing, Paused, Resumed, Replanned}
use Rattle.lload_spec.specs.Script.{words, number_of, bytes_of}
use Rattle.lload_spec.specs.Writable.{can_be_spelled}

-- a word that is read by itself, and the words behind it
abbrev pub next_by : {A : Type 0} → (List ℕ → Option A) → List (List ℕ) → Option (A × List (List ℕ))
next_by read [] = None
next_by read (w ∷ ws) = option_map (λ a. (a, ws)) (read w)

-- the first word, as it is read by itself
abbrev pub first_by : {A : Type 0} → (List ℕ → Option A) → List (List ℕ) → Option A
first_by read [] = None
first_by read (w ∷ ws) = read w

-- what is read behind this word
abbrev pub behind : {A : Type 0} → List ℕ → (List (List ℕ) → Option A) → List (List ℕ) → Option A
behind key read [] = None
behind key read (w ∷ ws) = if bytes_eq w key then read ws else None

-- a number of 32 bits and one of 64
abbrev pub short_of : List ℕ → Option ℕ
short_of w = number_of 0 (2 ^ 32) w

abbrev pub long_of : List ℕ → Option ℕ
long_of w = number_of 0 (2 ^ 64) w

abbrev pub next_short : List (List ℕ) → Option (ℕ × List (List ℕ))
next_short ws = next_by short_of ws

-- the part that words name: `desk`, `client N` or `up N`
abbrev pub numbered_part : (ℕ → PartName) → List (List ℕ) → Option (PartName × List (List ℕ))
numbered_part kind ws = option_map (λ n. (kind n.0, n.1)) (next_short ws)

abbrev pub next_part : List (List ℕ) → Option (PartName × List (List ℕ))
next_part [] = None
next_part (w ∷ ws) =
    if bytes_eq w (codes "desk") then Some (Desk, ws)
    else if bytes_eq w (codes "client") then numbered_part Client ws
    else if bytes_eq w (codes "up") then numbered_part Connection ws
    else None

-- the operation that a word says as `C.K`, where its dot is here
abbrev pub op_around : ℕ → List ℕ → Option OpName
op_around dot w =
    option_and_then (λ client. option_map (λ k. record { client = client; k = k }) (long_of (drop (dot + 1) w)))
    (short_of (take dot w))

abbrev pub is_dot : ℕ → Bool
is_dot c = c == 46

abbrev pub op_of : List ℕ → Option OpName
op_of w = option_and_then (λ dot. op_around dot w) (position is_dot w)

abbrev pub next_op : List (List ℕ) → Option (OpName × List (List ℕ))
next_op ws = next_by op_of ws

-- the desk's answer: `up N of B`, `busy` or `unavailable`
abbrev pub go_to : ℕ × List (List ℕ) → Option (Answer × List (List ℕ))
go_to (conn, ws) = option_map (λ b. (Go conn b.0, b.1)) (behind (codes "of") next_short ws)

abbrev pub next_answer : List (List ℕ) → Option (Answer × List (List ℕ))
next_answer [] = None
next_answer (w ∷ ws) =
    if bytes_eq w (codes "up") then option_and_then go_to (next_short ws)
    else if bytes_eq w (codes "busy") then Some (Busy, ws)
    else if bytes_eq w (codes "unavailable") then Some (Unavailable, ws)
    else None

-- the kind of a wanted connection, and what the client is bound to: `free`, `backend B` or `conn N`
abbrev pub kind_of : List ℕ → Option ConnKind
kind_of w =
    if bytes_eq w (codes "regular") then Some Regular
    else if bytes_eq w (codes "bind") then Some Bind
    else None

abbrev pub bound_of : List (List ℕ) → Option Bound
bound_of [] = None
bound_of (w ∷ ws) =
    if bytes_eq w (codes "free") then Some Free
    else if bytes_eq w (codes "backend") then option_map (λ b. Backend b.0) (next_short ws)
    else if bytes_eq w (codes "conn") then option_map (λ n. Conn n.0) (next_short ws)
    else None

abbrev pub want_of : List (List ℕ) → Option Want
want_of ws =
    option_and_then (λ kind. option_map (λ bound. record { kind = kind.0; bound = bound }) (bound_of kind.1))
    (next_by kind_of ws)

-- the reason of an end
abbrev pub late_why_of : List ℕ → Option EndWhy
late_why_of w =
    if bytes_eq w (codes "iotimeout") then Some IoTimeout
    else if bytes_eq w (codes "memory") then Some Memory
    else if bytes_eq w (codes "stopped") then Some Stopped
    else if bytes_eq w (codes "ownbind") then Some OwnBind
    else if bytes_eq w (codes "timedout") then Some TimedOut
    else if bytes_eq w (codes "unfinished") then Some Unfinished
    else if bytes_eq w (codes "drained") then Some Drained
    else None

abbrev pub why_of : List ℕ → Option EndWhy
why_of w =
    if bytes_eq w (codes "left") then Some Left
    else if bytes_eq w (codes "lost") then Some Lost
    else if bytes_eq w (codes "bad") then Some BadMessage
    else if bytes_eq w (codes "toobig") then Some MessageTooBig
    else if bytes_eq w (codes "zeroid") then Some ZeroId
    else if bytes_eq w (codes "idinuse") then Some IdInUse
    else if bytes_eq w (codes "unreadable") then Some Unreadable
    else late_why_of w

-- a latency in milliseconds, or `none`
abbrev pub latency_of : List ℕ → Option (Option ℕ)
latency_of w = if bytes_eq w (codes "none") then Some None else option_map (λ n. Some n) (short_of w)

-- an operation, and the connection behind it as `up N`
abbrev pub op_and_conn : List (List ℕ) → Option (OpName × ℕ × List (List ℕ))
op_and_conn ws =
    option_and_then (λ op. option_map (λ conn. (op.0, conn.0, conn.1)) (behind (codes "up") next_short op.1))
    (next_op ws)

-- the letter that the desk heard
abbrev pub ended_of : OpName × ℕ × List (List ℕ) → Option Letter
ended_of (op, conn, ws) = option_map (λ l. Ended op conn l) (behind (codes "latency") (first_by latency_of) ws)

abbrev pub letter_of : List (List ℕ) → Option Letter
letter_of [] = None
letter_of (w ∷ ws) =
    if bytes_eq w (codes "up") then option_map (λ n. IsUp n.0) (next_short ws)
    else if bytes_eq w (codes "retired") then option_map (λ n. IsRetired n.0) (next_short ws)
    else if bytes_eq w (codes "down") then option_map (λ n. IsDown n.0) (next_short ws)
    else if bytes_eq w (codes "returned") then option_map (λ r. Returned r.0 r.1) (op_and_conn ws)
    else if bytes_eq w (codes "ended") then option_and_then ended_of (op_and_conn ws)
    else None

-- an operation, and the desk's answer
abbrev pub op_and_answer : List (List ℕ) → Option (OpName × Answer × List (List ℕ))
op_and_answer ws =
    option_and_then (λ op. option_map (λ answer. (op.0, answer.0, answer.1)) (next_answer op.1)) (next_op ws)

abbrev pub chose_of : OpName × Answer × List (List ℕ) → Option What
chose_of (op, answer, ws) = option_map (λ n. Chose op answer n) (behind (codes "word") (first_by long_of) ws)

abbrev pub asked_of : OpName × List (List ℕ) → Option What
asked_of (op, ws) = option_map (λ want. Asked op want) (want_of ws)

abbrev pub replanned_of : ℕ × List (List ℕ) → Option What
replanned_of (plan, ws) = option_map (λ base. Replanned plan base.0) (behind (codes "base") next_short ws)

-- what happened at the desk, or between it and a client, by the first word and those behind it
abbrev pub desk_event : List ℕ → List (List ℕ) → Option What
desk_event w ws =
    if bytes_eq w (codes "chosen") then option_map (λ c. Chosen c.0 c.1) (op_and_answer ws)
    else if bytes_eq w (codes "chose") then option_and_then chose_of (op_and_answer ws)
    else if bytes_eq w (codes "asked") then option_and_then asked_of (next_op ws)
    else if bytes_eq w (codes "heard") then option_map (λ letter. Heard letter) (letter_of ws)
    else if bytes_eq w (codes "replanned") then option_and_then replanned_of (next_short ws)
    else None

-- what happened to an operation or to a part, or between a client and a connection
abbrev pub end_event : List ℕ → List (List ℕ) → Option What
end_event w ws =
    if bytes_eq w (codes "late") then option_map (λ op. Late op.0) (next_op ws)
    else if bytes_eq w (codes "expired") then option_map (λ op. Expired op.0) (next_op ws)
    else if bytes_eq w (codes "missed") then option_map (λ op. Missed op.0) (next_op ws)
    else if bytes_eq w (codes "idle") then option_map (λ op. Idle op.0) (next_op ws)
    else if bytes_eq w (codes "gone") then option_map (λ why. Gone why) (first_by why_of ws)
    else if bytes_eq w (codes "down") then option_map (λ why. Down why) (first_by why_of ws)
    else if bytes_eq w (codes "paused") then option_map (λ n. Paused n.0) (next_short ws)
    else if bytes_eq w (codes "resumed") then option_map (λ n. Resumed n.0) (next_short ws)
    else desk_event w ws

-- what happened by a word alone, or by one of those
abbrev pub plain_event : List ℕ → List (List ℕ) → Option What
plain_event w ws =
    if bytes_eq w (codes "arrived") then Some Arrived
    else if bytes_eq w (codes "stalled") then Some Stalled
    else if bytes_eq w (codes "flowing") then Some Flowing
    else if bytes_eq w (codes "linked") then Some Linked
    else if bytes_eq w (codes "up") then Some Up
    else if bytes_eq w (codes "retired") then Some Retired
    else end_event w ws

-- an operation and the message that was sent for it, by a reader of messages
abbrev pub sent_of : (List ℕ → Option Message) → OpName × List (List ℕ) → Option What
sent_of reader (op, ws) = option_map (λ m. Sent m.id op m.rest) (first_by reader ws)

-- what happened, by a reader of messages
abbrev pub event_by : (List ℕ → Option Message) → List (List ℕ) → Option What
event_by reader [] = None
event_by reader (w ∷ ws) =
    if bytes_eq w (codes "in") then option_map (λ m. In m.id m.rest) (first_by reader ws)
    else if bytes_eq w (codes "out") then option_map (λ m. Out m.id m.rest) (first_by reader ws)
    else if bytes_eq w (codes "own") then option_map (λ m. Own m.id m.rest) (first_by reader ws)
    else if bytes_eq w (codes "got") then option_map (λ m. Got m.id m.rest) (first_by reader ws)
    else if bytes_eq w (codes "sent") then option_and_then (sent_of reader) (next_op ws)
    else plain_event w ws

-- the moment and the part, and the words behind them
abbrev pub head_of : List (List ℕ) → Option (ℕ × PartName × List (List ℕ))
head_of ws =
    option_and_then (λ at. option_map (λ part. (at.0, part.0, part.1)) (next_part at.1)) (next_by long_of ws)

-- the entry of this moment and part, with what the words behind say
abbrev pub entry_by : (List ℕ → Option Message) → ℕ × PartName × List (List ℕ) → Option Entry
entry_by reader (at, part, ws) =
    option_map (λ what. record { part = part; at = at; what = what }) (event_by reader ws)

-- the words of a line without its last byte
abbrev pub line_words : List ℕ → List (List ℕ)
line_words line = words (take (length line - 1) line)

-- the entry of the fields of a line, by a reader of its message
abbrev pub fields_by : (List ℕ → Option Message) → List ℕ → Option Entry
fields_by reader line = option_and_then (entry_by reader) (head_of (line_words line))

-- the most octets of the contents of a message whose rest has at most 1,073,741,823 octets
abbrev pub longest : ℕ
longest = 2 ^ 30 + 5

-- the message that bytes begin with, where it can be spelled
abbrev pub spellable : Message → Option Message
spellable m = if can_be_spelled m.id m.rest then Some m else None

abbrev pub message_at_front : List ℕ → Option Message
message_at_front bytes =
    elim (read longest bytes) [ Whole m more ↦ spellable m | Short n ↦ None | Bad n ↦ None | TooBig n ↦ None ]

-- the message that a word spells in hexadecimal
abbrev pub message_in : List ℕ → Option Message
message_in w = option_and_then message_at_front (bytes_of w)

-- any octets that a word says in hexadecimal
abbrev pub octets_in : List ℕ → Option Message
octets_in w = option_map (λ bytes. record { id = 0; rest = bytes }) (bytes_of w)
