-- What a client's list says at a place, as one record: the client's part holds this, and its turns look at nothing
-- else.
use Rattle.std.specs.Prelude.{ℕ, suc, Bool, true, false, ◌==◌, ◌&&◌, ◌||◌, not, nat_le, max, if◌then◌else◌, List, [], ◌∷◌, ◌++◌, length, filter, map, flat_map, find, Option, Some, None, is_some, unwrap_or}
use Rattle.std.specs.List.{list_any}
use Rattle.ldap_spec.specs.Messages.{Message}
use Rattle.ldap_spec.specs.Requests.{request}
use Rattle.ldap_spec.specs.Responses.{has_code}
use Rattle.lload_names.specs.declared.names.OpName.{OpName}
use Rattle.lload_names.specs.declared.names.OpKind.TheVariants.{Bind}
use Rattle.lload_names.specs.declared.names.ConnKind.{ConnKind}
use Rattle.lload_names.specs.declared.names.Answer.{Answer}
use Rattle.lload_names.specs.declared.names.Answer.TheVariants.{Go}
use Rattle.lload_names.specs.declared.names.Bound.{Bound}
use Rattle.lload_names.specs.declared.names.Want.{Want}
use Rattle.lload_names.specs.declared.names.Letter.{Letter}
use Rattle.lload_names.specs.declared.names.Letter.TheVariants.{Reply}
use Rattle.lload_names.specs.declared.names.What.{What}
use Rattle.lload_names.specs.declared.names.What.TheVariants as what
use Rattle.lload_spec.specs.Lists.{last}
use Rattle.lload_spec.specs.Settings.{Settings, Action, Write, BindBackend, BindConnection}
use Rattle.lload_spec.specs.Journal.{same_op}
use Rattle.lload_spec.specs.Entries.{makes_operation}
use Rattle.lload_spec.specs.Operations.{is_request_of, is_final_for, abandons_id}
use Rattle.lload_spec.specs.Identity.{carried_for, identity_of}
use Rattle.lload_spec.specs.Window.{Standing, binding_of}
use Rattle.lload_spec.specs.Binding.{action, is_action, kind_wanted, makes_wait, want_by}
use Rattle.lload_spec.specs.FirstCheck.{Check, ClientFacts, live_request, check, is_pinned_by, asks_desk}
use Rattle.lload_spec.specs.Pauses.{Pausing, no_pause, stalling, forwarding}
use Rattle.part_spec.specs.Marked.{Marked, Taken}

-- a live operation: its number, its request as it goes upstream under the client's identifier, its effective action,
-- and the connection that it was forwarded to
pub record ClientRow : Type 0 where
  pub k : ℕ
  pub request : Message
  pub action : Action
  pub connection : Option ℕ

-- the bind connection that the client holds, and the operation that it was chosen for
pub record Held : Type 0 where
  pub connection : ℕ
  pub holder : OpName

-- what binds the client since its last Bind: the connection, and the backend, of the first choice whose action says so;
-- the backend of the last write that was chosen a connection, and the last moment at which such a write ended, or 0
-- (restrict_exop, restrict_control, write_coherence in lloadd.conf(5))
pub record Window : Type 0 where
  pub connection : Option ℕ
  pub backend : Option ℕ
  pub write : Option ℕ
  pub write_ended : ℕ

-- an operation that the desk was asked for, and the kind of connection that was wanted
pub record AskedFor : Type 0 where
  pub op : OpName
  pub kind : ConnKind

-- the client's number, the moment of its last entry, whether it arrived and is gone, how many operations came, the live
-- ones by rising number, what the desk was asked for and didn't choose yet, its identity, whether it is between the
-- steps of a SASL exchange, what it holds, what binds it, and which connections it pauses
pub record ClientState : Type 0 where
  pub number : ℕ
  pub moment : ℕ
  pub arrived : Bool
  pub gone : Bool
  pub count : ℕ
  pub rows : List ClientRow
  pub asked : List AskedFor
  pub identity : List ℕ
  pub in_exchange : Bool
  pub hold : Option Held
  pub window : Window
  pub pausing : Pausing

abbrev pub unbound : Window
unbound = record { connection = None; backend = None; write = None; write_ended = 0 }

-- of the empty list
abbrev pub empty_client : ℕ → ClientState
empty_client c =
    record {
      number = c;
      moment = 0;
      arrived = false;
      gone = false;
      count = 0;
      rows = [];
      asked = [];
      identity = [];
      in_exchange = false;
      hold = None;
      window = unbound;
      pausing = no_pause;
    }

-- whether the client is there
abbrev pub is_present : ClientState → Bool
is_present p = p.arrived && not p.gone

-- whether the operation of a row is a Bind
abbrev pub is_bind_row : ClientRow → Bool
is_bind_row r = is_request_of Bind r.request

-- the name of a row's operation
abbrev pub name_of : ClientState → ClientRow → OpName
name_of p r = record { client = p.number; k = r.k }

-- the live operation of a name
abbrev pub row_named : ClientState → OpName → Option ClientRow
row_named p op = find (λ r. p.number == op.client && r.k == op.k) p.rows

-- the live operation that came last under an identifier
abbrev pub row_under : ClientState → ℕ → Option ClientRow
row_under p id = last (filter (λ r. r.request.id == id) p.rows)

-- whether a row is of a write that was forwarded
abbrev pub is_written : ClientRow → Bool
is_written r = is_action Write r.action && is_some r.connection

-- what its window says
abbrev pub standing_of : Settings → ClientState → Standing
standing_of s p =
    record {
      seconds = s.write_coherence;
      connection = p.window.connection;
      backend = p.window.backend;
      write = p.window.write;
      live = length (filter is_written p.rows);
      ended = p.window.write_ended;
    }

-- what the client is bound to at a moment
abbrev pub target : Settings → ClientState → ℕ → Bound
target s p t = binding_of (standing_of s p) t

-- what the desk is asked for a request at a moment
abbrev pub want_for : Settings → ClientState → ℕ → Message → Want
want_for s p t m = want_by m (target s p t)

-- whether a row lets later messages wait
abbrev pub lets_wait : Settings → ClientRow → Bool
lets_wait s r = makes_wait s (is_bind_row r) r.action (is_some r.connection)

-- whether the client's part holds: then no message is handed to it; the last number of an operation is 2 ^ 64 - 1
abbrev pub is_holding : Settings → ClientState → Bool
is_holding s p = list_any (lets_wait s) p.rows || nat_le 18446744073709551615 p.count

-- what the checks ask of the client
abbrev pub facts_of : ClientState → ClientFacts
facts_of p =
    record { live = map (λ r. live_request r.request) p.rows; identity = p.identity; in_exchange = p.in_exchange }

-- what the first check does that holds of a message
abbrev pub check_at : Settings → ClientState → Message → Check
check_at s p m = check s (facts_of p) m

-- whether a request is a Bind that goes on with the exchange that the client is in
abbrev pub is_pinned : Settings → ClientState → Message → Bool
is_pinned s p m = is_pinned_by s (facts_of p) m

-- the regular connections that live operations were forwarded to
abbrev pub regular_connections : ClientState → List ℕ
regular_connections p =
    flat_map
    (λ r. elim (is_bind_row r) [ true ↦ [] | false ↦ elim r.connection [ None ↦ [] | Some u ↦ u ∷ [] ] ]) p.rows

-- The fold: the state behind an entry, from the state before it.

-- the connection that the client holds
abbrev pub held_connection : ClientState → Option ℕ
held_connection p = elim p.hold [ None ↦ None | Some h ↦ Some h.connection ]

-- a request as it goes upstream, under the client's identifier
abbrev pub carried : Settings → ClientState → Message → Message
carried s p m = record m { rest = carried_for s m p.identity }

-- the row of a request that makes an operation
abbrev pub new_row : Settings → ClientState → Message → ClientRow
new_row s p m =
    record {
      k = suc p.count;
      request = carried s p m;
      action = action s m.rest;
      connection = elim (is_pinned s p m) [ true ↦ held_connection p | false ↦ None ];
    }

-- without the live operations that pass the test, which end at a moment
abbrev pub without : (ClientRow → Bool) → ℕ → ClientState → ClientState
without test at p =
    record p {
      rows = filter (λ r. not (test r)) p.rows;
      window =
          record p.window {
            write_ended =
                if list_any (λ r. test r && is_written r) p.rows then max at p.window.write_ended
                else p.window.write_ended;
          };
    }

-- whether a message abandons the operation of a row (RFC 4511, 4.11)
abbrev pub abandons : Message → ClientRow → Bool
abandons m r = not (m.id == 0) && not (is_bind_row r) && abandons_id r.request.id (request m.rest)

-- a Bind has come: it ends the other operations, empties the identity, and binds anew (RFC 4511, 4.2.1)
abbrev pub with_bind : Settings → Message → ClientState → ClientState
with_bind s m p =
    record p { count = suc p.count; rows = new_row s p m ∷ []; identity = []; in_exchange = false; window = unbound }

-- another request has come
abbrev pub with_request : Settings → Message → ClientState → ClientState
with_request s m p = record p { count = suc p.count; rows = p.rows ++ new_row s p m ∷ [] }

-- a message has come: an operation begins, or an Abandon ends one
abbrev pub with_message : Settings → ℕ → Message → ClientState → ClientState
with_message s at m p =
    elim (makes_operation m) [
      | false ↦ without (abandons m) at p
      | true ↦ elim (is_request_of Bind m) [ true ↦ with_bind s m p | false ↦ with_request s m p ]
    ]

-- what a choice of a connection and its backend binds to, for an operation with this action: an earlier one stays, but
-- of writes the last one counts
abbrev pub chosen_window : Action → ℕ → ℕ → Window → Window
chosen_window BindConnection u b w = record w { connection = Some (unwrap_or w.connection u) }
chosen_window BindBackend u b w = record w { backend = Some (unwrap_or w.backend b) }
chosen_window Write u b w = record w { write = Some b }
chosen_window _ u b w = w

-- a row, which goes to the connection where it is the one of this number and didn't go to another before
abbrev pub forwarded : ℕ → ℕ → ClientRow → ClientRow
forwarded k u r = if r.k == k then record r { connection = Some (unwrap_or r.connection u) } else r

-- a choice was learned for the operation of this row: it goes to the connection, which a Bind's client then holds
abbrev pub with_connection : ℕ → ℕ → ClientState → ClientRow → ClientState
with_connection u b p r =
    record p {
      rows = map (forwarded r.k u) p.rows;
      hold = if is_bind_row r then Some (record { connection = u; holder = name_of p r }) else p.hold;
      window = chosen_window r.action u b p.window;
      pausing = elim (is_bind_row r) [ true ↦ p.pausing | false ↦ forwarding u p.pausing ];
    }

abbrev pub with_choice : OpName → Answer → ClientState → ClientState
with_choice op (Go u b) p = elim (row_named p op) [ None ↦ p | Some r ↦ with_connection u b p r ]
with_choice op _ p = p

-- the identity that a letter tells
abbrev pub identity_told : Letter → Option (List ℕ)
identity_told (Reply op rest is_last who) = who
identity_told _ = None

-- the identity that came with a letter, if it did
abbrev pub who_told : Option Taken → Option (List ℕ)
who_told mark = elim mark [ None ↦ None | Some t ↦ identity_told t.letter ]

-- a Bind's final answer went out: at saslBindInProgress its exchange goes on, else the connection is let go, and
-- success gives an identity
abbrev pub with_bind_answer : Settings → Option Taken → Message → List ℕ → ClientState → ClientState
with_bind_answer s mark bind rest p =
    elim (has_code 14 rest) [
      | true ↦ record p { in_exchange = true }
      | false ↦
          record p {
            hold = None;
            identity = if has_code 0 rest then identity_of s (who_told mark) (request bind.rest) else [];
          }
    ]

-- an Out for the operation of this row: a final one ends it
abbrev pub with_answer : Settings → ℕ → Option Taken → List ℕ → ClientState → ClientRow → ClientState
with_answer s at mark rest p r =
    elim (is_final_for r.request rest) [
      | false ↦ p
      | true ↦ elim (is_bind_row r) [
        | true ↦ with_bind_answer s mark r.request rest (without (λ x. x.k == r.k) at p)
        | false ↦ without (λ x. x.k == r.k) at p
      ]
    ]

-- the client is gone: nothing is live, and it holds and pauses nothing
abbrev pub with_end : ClientState → ClientState
with_end p = record p { gone = true; rows = []; hold = None; pausing = no_pause }

-- behind what happened at a moment, with the letter of which it is the mark
abbrev pub client_behind : Settings → ℕ → Option Taken → ClientState → What → ClientState
client_behind s at mark p what.Arrived = record p { arrived = true }
client_behind s at mark p (what.In id rest) = with_message s at (record { id = id; rest = rest }) p
client_behind s at mark p (what.Chosen op answer) = with_choice op answer p
client_behind s at mark p (what.Out id rest) =
    elim (row_under p id) [ None ↦ p | Some r ↦ with_answer s at mark rest p r ]
client_behind s at mark p (what.Gone why) = with_end p
client_behind s at mark p what.Stalled = record p { pausing = stalling (regular_connections p) p.pausing }
client_behind s at mark p what.Flowing = record p { pausing = no_pause }
client_behind s at mark p _ = p

-- the name of the next operation
abbrev pub next_name : ClientState → OpName
next_name p = record { client = p.number; k = suc p.count }

-- whether the desk is asked for a request
abbrev pub is_asked_for : Settings → ClientState → Message → Bool
is_asked_for s p m = asks_desk s (facts_of p) m

-- what the desk was asked for and didn't choose yet
abbrev pub asked_behind : Settings → ClientState → What → List AskedFor
asked_behind s p (what.In id rest) =
    if is_asked_for s p (record { id = id; rest = rest }) then
    p.asked ++ record { op = next_name p; kind = kind_wanted (record { id = id; rest = rest }) } ∷ []
    else p.asked
asked_behind s p (what.Chosen op answer) = filter (λ a. not (same_op op a.op)) p.asked
asked_behind s p _ = p.asked

-- behind an entry
abbrev pub step_client : Settings → ClientState → Marked → ClientState
step_client s p m =
    record (client_behind s m.entry.at m.mark p m.entry.what) {
      moment = m.entry.at;
      asked = asked_behind s p m.entry.what;
    }

-- behind these entries
abbrev pub step_clients : Settings → ClientState → List Marked → ClientState
step_clients s p [] = p
step_clients s p (m ∷ ms) = step_clients s (step_client s p m) ms

-- what a client's list says
abbrev pub client_of : Settings → ℕ → List Marked → ClientState
client_of s c list = step_clients s (empty_client c) list
