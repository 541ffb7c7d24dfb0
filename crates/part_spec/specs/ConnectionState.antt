-- What an upstream connection's list says at a place, as one record: the connection's part holds this, and its turns
-- look at nothing else. Where each letter was fit, a regular connection has no holder, and a bind connection has one
-- live Bind at most.
use Rattle.std.specs.Prelude.{ℕ, Bool, true, false, ◌==◌, ◌&&◌, ◌||◌, not, nat_lt, if◌then◌else◌, List, [], ◌∷◌, filter, flat_map, find, map, Option, Some, None, is_some, is_none}
use Rattle.std.specs.List.{list_any}
use Rattle.std.specs.Str.{bytes_eq}
use Rattle.ldap_spec.specs.Messages.{Message}
use Rattle.ldap_spec.specs.Kinds.{is_final, fits, same_kind, tag_of}
use Rattle.ldap_spec.specs.Responses.{result_code, has_code}
use Rattle.ldap_spec.specs.Bodies.{who_am_i, abandon}
use Rattle.lload_names.specs.declared.names.Entry.{Entry}
use Rattle.lload_names.specs.declared.names.OpName.{OpName}
use Rattle.lload_names.specs.declared.names.OpKind.{OpKind}
use Rattle.lload_names.specs.declared.names.OpKind.TheVariants.{Bind}
use Rattle.lload_names.specs.declared.names.ConnKind.{ConnKind}
use Rattle.lload_names.specs.declared.names.ConnKind.TheVariants.{Regular, Bind as BindKind}
use Rattle.lload_names.specs.declared.names.Letter.{Letter}
use Rattle.lload_names.specs.declared.names.Letter.TheVariants.{Forward}
use Rattle.lload_names.specs.declared.names.What.{What}
use Rattle.lload_names.specs.declared.names.What.TheVariants as what
use Rattle.lload_spec.specs.Lists.{passes}
use Rattle.lload_spec.specs.Settings.{Settings, is_of_kind, is_kind}
use Rattle.lload_spec.specs.Journal.{same_op}
use Rattle.lload_spec.specs.Identifiers.{Ids, no_ids, with_sent_id, with_own_id, with_freed}
use Rattle.lload_spec.specs.Answers.{is_kept_back}
use Rattle.lload_spec.specs.BadMessages.{OpenRequest, MessageFacts}
use Rattle.lload_spec.specs.BadMessages as bad
use Rattle.lload_spec.specs.Pauses.{waiting_behind, is_waiting}
use Rattle.lload_spec.specs.OneEach.{begins_with_bind, is_own_bind}
use Rattle.part_spec.specs.Marked.{Marked, Taken}

-- a Bind's success that is kept back until its identity is known, and the identifier of the Who Am I that asks for it
pub record Kept : Type 0 where
  pub rest : List ℕ
  pub who : Option ℕ

-- a live operation: its identifier here, its name and kind, whether the identity behind its success is asked for, the
-- moments of its Sent and of its last answer, and the answer that is kept back
pub record UpRow : Type 0 where
  pub id : ℕ
  pub op : OpName
  pub kind : OpKind
  pub ask_who : Bool
  pub sent : ℕ
  pub answered : ℕ
  pub kept : Option Kept

-- the own Bind that waits for its answer: its identifier and moment
pub record OwnWait : Type 0 where
  pub id : ℕ
  pub at : ℕ

-- the connection's number and kind, the moment of its last entry, whether it is linked, up, retired and down, its
-- identifiers, the live operations by rising identifier, the own Bind that waits; of a bind connection the operation
-- that holds it, and the one that held it when it went down; of a regular one the clients for which it pauses
pub record ConnectionState : Type 0 where
  pub number : ℕ
  pub kind : ConnKind
  pub moment : ℕ
  pub linked : Bool
  pub up : Bool
  pub retired : Bool
  pub down : Bool
  pub ids : Ids
  pub rows : List UpRow
  pub own_bind : Option OwnWait
  pub holder : Option OpName
  pub lost : Option OpName
  pub waiting : List ℕ

-- the kind of a connection, by the plan
abbrev pub kind_at : Settings → ℕ → ConnKind
kind_at s u = if is_of_kind s BindKind u then BindKind else Regular

-- of the empty list
abbrev pub empty_connection : Settings → ℕ → ConnectionState
empty_connection s u =
    record {
      number = u;
      kind = kind_at s u;
      moment = 0;
      linked = false;
      up = false;
      retired = false;
      down = false;
      ids = no_ids;
      rows = [];
      own_bind = None;
      holder = None;
      lost = None;
      waiting = [];
    }

-- whether the connection is there
abbrev pub is_there : ConnectionState → Bool
is_there p = p.linked && not p.down

-- whether it takes no further operations
abbrev pub is_stopped : ConnectionState → Bool
is_stopped p = p.retired || p.down

abbrev pub is_bind : ConnectionState → Bool
is_bind p = is_kind BindKind p.kind

-- whether a regular connection holds: then no message is handed to it
abbrev pub is_holding : ConnectionState → Bool
is_holding p = is_kind Regular p.kind && not p.down && is_waiting p.waiting

-- whether the operation of a row is a Bind
abbrev pub is_bind_row : UpRow → Bool
is_bind_row r = same_kind Bind r.kind

-- the live operation of a name
abbrev pub row_named : ConnectionState → OpName → Option UpRow
row_named p op = find (λ r. same_op op r.op) p.rows

-- whether a row's answer is kept back
abbrev pub is_kept : UpRow → Bool
is_kept r = is_some r.kept

-- a row as a message finds it
abbrev pub open_request : UpRow → OpenRequest
open_request r =
    record { id = r.id; kind = Some r.kind; kept = is_kept r; who = elim r.kept [ None ↦ None | Some k ↦ k.who ] }

-- whether a message is under a row's identifier, and answers it
abbrev pub is_under : ℕ → UpRow → Bool
is_under id r = bad.is_under id (open_request r)

-- whether a message is under the identifier of a row's Who Am I
abbrev pub is_under_who : ℕ → UpRow → Bool
is_under_who id r = bad.is_under_who id (open_request r)

-- whether a message is under the identifier of the own Bind that waits
abbrev pub is_under_own : ConnectionState → ℕ → Bool
is_under_own p id = passes (λ own. own.id == id) p.own_bind

-- whether the answer to a Bind is kept back: a success whose identity is asked for
abbrev pub keeps_back : UpRow → List ℕ → Bool
keeps_back r rest = is_kept_back r.ask_who rest

-- The fold: the state behind an entry, from the state before it.

-- a row behind the final answer of its operation: none, but of a Bind whose answer can't be read or is kept back
abbrev pub behind_final : ℕ → List ℕ → UpRow → List UpRow
behind_final at rest r =
    elim (is_bind_row r) [
      | false ↦ []
      | true ↦ elim (keeps_back r rest) [
        | true ↦ record r { answered = at; kept = Some (record { rest = rest; who = None }) } ∷ []
        | false ↦ elim (is_none (result_code rest)) [ true ↦ record r { answered = at } ∷ [] | false ↦ [] ]
      ]
    ]

-- a row behind an answer of its operation
abbrev pub behind_answer : ℕ → List ℕ → UpRow → List UpRow
behind_answer at rest r =
    elim (fits r.kind rest) [
      | false ↦ r ∷ []
      | true ↦ elim (is_final r.kind rest) [ true ↦ behind_final at rest r | false ↦ record r { answered = at } ∷ [] ]
    ]

-- a row behind an answer to its Who Am I: an extended response settles it
abbrev pub behind_who : ℕ → List ℕ → UpRow → List UpRow
behind_who at rest r = elim (tag_of rest == 0x78) [ true ↦ [] | false ↦ record r { answered = at } ∷ [] ]

-- a row behind a message
abbrev pub behind_message : ℕ → Message → UpRow → List UpRow
behind_message at m r =
    elim (is_under m.id r) [
      | true ↦ behind_answer at m.rest r
      | false ↦ elim (is_under_who m.id r) [ true ↦ behind_who at m.rest r | false ↦ r ∷ [] ]
    ]

-- whether a message settles the Bind of a row so that its holder lets go of the connection: by a code other than
-- saslBindInProgress, or by what it tells of the identity
abbrev pub lets_go : Message → UpRow → Bool
lets_go m r =
    is_bind_row r
    && (is_under m.id r
    && (is_final Bind m.rest && is_some (result_code m.rest) && not (has_code 14 m.rest) && not (keeps_back r m.rest))
    || is_under_who m.id r && tag_of m.rest == 0x78)

-- the identifier of a row whose operation a message settles, which is freed
abbrev pub freed_id : ℕ → Message → UpRow → List ℕ
freed_id at m r = elim (behind_message at m r) [ [] ↦ r.id ∷ [] | x ∷ xs ↦ [] ]

-- whether a message lets the holder go; the own Bind's has none
abbrev pub frees_holder : ConnectionState → Message → Bool
frees_holder p m = not (is_under_own p m.id) && list_any (lets_go m) p.rows

-- a message came
abbrev pub with_got : ℕ → Message → ConnectionState → ConnectionState
with_got at m p =
    record p {
      own_bind = if is_under_own p m.id then None else p.own_bind;
      rows = if is_under_own p m.id then p.rows else flat_map (behind_message at m) p.rows;
      ids = if is_under_own p m.id then p.ids else with_freed (flat_map (freed_id at m) p.rows) p.ids;
      holder = if frees_holder p m then None else p.holder;
    }

-- a row put among rows by rising identifier
abbrev pub put_row : UpRow → List UpRow → List UpRow
put_row r [] = r ∷ []
put_row r (x ∷ xs) = elim (nat_lt x.id r.id) [ true ↦ x ∷ put_row r xs | false ↦ r ∷ x ∷ xs ]

-- the rows behind the Sent of a letter: with one for its operation, as a Forward says
abbrev pub rows_sent : ℕ → ℕ → List UpRow → Letter → List UpRow
rows_sent at id rows (Forward op kind rest ask_who holder) =
    put_row (record { id = id; op = op; kind = kind; ask_who = ask_who; sent = at; answered = at; kept = None }) rows
rows_sent at id rows _ = rows

-- who holds the connection behind it: of a bind connection the Forward's holder
abbrev pub holder_sent : ConnectionState → Letter → Option OpName
holder_sent p (Forward op _ rest ask_who holder) = if is_bind p then Some holder else None
holder_sent p _ = p.holder

-- an operation went upstream
abbrev pub with_sent : ℕ → ℕ → Option Taken → ConnectionState → ConnectionState
with_sent at id mark p =
    record p {
      ids = with_sent_id id p.ids;
      rows = elim mark [ None ↦ p.rows | Some t ↦ rows_sent at id p.rows t.letter ];
      holder = elim mark [ None ↦ p.holder | Some t ↦ holder_sent p t.letter ];
    }

-- an operation was missed: of a bind connection its holder is let go
abbrev pub with_missed : ConnectionState → ConnectionState
with_missed p = record p { holder = None }

-- whether an own message abandons the operation of a row, which isn't a Bind (RFC 4511, 4.11)
abbrev pub is_abandoned_by : List ℕ → UpRow → Bool
is_abandoned_by rest r = not (is_bind_row r) && bytes_eq rest (abandon r.id)

-- a row behind an own message: a Who Am I is asked for it, or an Abandon ends it
abbrev pub behind_own : Message → UpRow → List UpRow
behind_own m r =
    elim (bytes_eq m.rest who_am_i && passes (λ k. is_none k.who) r.kept) [
      | true ↦ record r { kept = elim r.kept [ None ↦ None | Some k ↦ Some (record k { who = Some m.id }) ] } ∷ []
      | false ↦ elim (is_abandoned_by m.rest r) [ true ↦ [] | false ↦ r ∷ [] ]
    ]

-- whether an own message is the own Bind, behind Linked
abbrev pub is_first_bind : Settings → ConnectionState → Entry → Bool
is_first_bind s p e = begins_with_bind s p.number && p.ids.next == 1 && is_own_bind s e

-- a message of the proxy's own went upstream
abbrev pub with_own : Settings → Entry → Message → ConnectionState → ConnectionState
with_own s e m p =
    record p {
      ids = with_own_id m.id p.ids;
      rows = flat_map (behind_own m) p.rows;
      own_bind = if is_first_bind s p e then Some (record { id = m.id; at = e.at }) else p.own_bind;
    }

-- the connection ended: nothing is live, and nobody holds it
abbrev pub with_down : ConnectionState → ConnectionState
with_down p = record p { down = true; rows = []; holder = None; lost = p.holder }

-- behind what an entry says, with the letter of which it is the mark
abbrev pub connection_behind : Settings → Entry → Option Taken → ConnectionState → What → ConnectionState
connection_behind s e mark p what.Linked = record p { linked = true }
connection_behind s e mark p what.Up = record p { up = true }
connection_behind s e mark p what.Retired = record p { retired = true }
connection_behind s e mark p (what.Sent id op rest) = with_sent e.at id mark p
connection_behind s e mark p (what.Own id rest) = with_own s e (record { id = id; rest = rest }) p
connection_behind s e mark p (what.Got id rest) = with_got e.at (record { id = id; rest = rest }) p
connection_behind s e mark p (what.Expired op) = record p { rows = filter (λ r. not (same_op op r.op)) p.rows }
connection_behind s e mark p (what.Missed op) = with_missed p
connection_behind s e mark p (what.Paused client) =
    record p { waiting = waiting_behind p.waiting (what.Paused client) }
connection_behind s e mark p (what.Resumed client) =
    record p { waiting = waiting_behind p.waiting (what.Resumed client) }
connection_behind s e mark p (what.Down why) = with_down p
connection_behind s e mark p _ = p

-- behind an entry
abbrev pub step_connection : Settings → ConnectionState → Marked → ConnectionState
step_connection s p m = record (connection_behind s m.entry m.mark p m.entry.what) { moment = m.entry.at }

-- behind these entries
abbrev pub step_connections : Settings → ConnectionState → List Marked → ConnectionState
step_connections s p [] = p
step_connections s p (m ∷ ms) = step_connections s (step_connection s p m) ms

-- what a connection's list says
abbrev pub connection_of : Settings → ℕ → List Marked → ConnectionState
connection_of s u list = step_connections s (empty_connection s u) list

-- what a message meets
abbrev pub message_facts : ConnectionState → MessageFacts
message_facts p =
    record {
      own = elim p.own_bind [ None ↦ None | Some own ↦ Some own.id ];
      requests = map open_request p.rows;
      given = λ id. nat_lt 0 id && nat_lt id p.ids.next;
    }
