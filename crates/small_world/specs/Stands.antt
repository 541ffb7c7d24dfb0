-- For which journals a world stands: what its rows say is what the definitions say of the journal's lists.
use Rattle.std.specs.Prelude.{◌≡◌, ℕ, suc, Bool, true, false, ◌==◌, ◌&&◌, ◌||◌, not, nat_lt, nat_le, if◌then◌else◌, List, [], ◌∷◌, length, map, find, Option, Some, None}
use Rattle.std.specs.List.{list_any, list_all}
use Rattle.ldap_spec.specs.Kinds.{kind_of}
use Rattle.lload_names.specs.declared.names.Entry.{Entry}
use Rattle.lload_names.specs.declared.names.OpName.{OpName}
use Rattle.lload_names.specs.declared.names.OpKind.TheVariants.{Delete}
use Rattle.lload_names.specs.declared.names.PartName.TheVariants.{Desk, Client, Up as Connection}
use Rattle.small_spec.specs.Lists.{passes, each_entry, some_entry, agrees, implies}
use Rattle.small_spec.specs.Journal.{of_part, clients_from, connections_from}
use Rattle.small_spec.specs.Entries.{Named, is_arrived, is_linked, is_up, is_gone, is_choice_of, heard}
use Rattle.small_spec.specs.Operations.{Operation, operations, operation_in, is_of, is_live, is_live_at, outs, takes_id}
use Rattle.small_spec.specs.Answers.{Sending, sendings, answers}
use Rattle.small_spec.specs.Fifo.{allowed, is_ended_once, is_out_of_some, is_out_entry, is_sent_entry}
use Rattle.small_spec.specs.Identifiers.{has_next_id, given_count}
use Rattle.small_spec.specs.Standing.{arrivals}
use Rattle.small_spec.specs.Follows.{says_up}
use Rattle.small_world.specs.declared.world.Forwarded.{Forwarded}
use Rattle.small_world.specs.States.{WorldState, is_linked_state, is_heard_state}

-- the row of the operation with this number, if it was sent
abbrev pub row_of : ℕ → List Forwarded → Option Forwarded
row_of k rows = find (λ f. f.k == k) rows

-- an operation that was not sent has ended, and its client got what no answers allow: one refusal
abbrev pub is_refused : Operation → Bool
is_refused o = not (is_live o) && allowed (kind_of o.request.rest) [] (outs o)

-- an operation that was sent has its row's identifier, is live exactly where it isn't answered, and then its client got
-- nothing
abbrev pub is_forwarded_as : Forwarded → Operation → Bool
is_forwarded_as f o = f.id == o.request.id && agrees (is_live o) (not f.answered) && implies (not f.answered) (length (outs o) == 0)

-- an operation is a Delete, got nothing behind its end, and is as its row says, or was refused where it has none
abbrev pub is_told : List Forwarded → Operation → Bool
is_told rows o = is_of Delete o && is_ended_once o && elim (row_of o.name.k rows) [ None ↦ is_refused o | Some f ↦ is_forwarded_as f o ]

-- of the operations with a row's identifier, the row's own alone isn't followed by another with it
abbrev pub is_latest : Forwarded → Operation → Bool
is_latest f o = implies (o.request.id == f.id) (agrees (list_any (takes_id f.id) o.behind) (not (o.name.k == f.k)))

-- this holds of a row that isn't answered, of each operation
abbrev pub is_latest_of : List Operation → Forwarded → Bool
is_latest_of os f = implies (not f.answered) (list_all (is_latest f) os)

-- an Out is for an operation, and none stands behind Gone
abbrev pub is_owned : List Entry → Entry → Bool
is_owned place e = implies (is_out_entry e) (is_out_of_some 1 place e && not (list_any is_gone place))

-- client 1's list, with so many operations and these rows
pub record ClientList (rows : List Forwarded) (made : ℕ) (C : List Entry) : Type 0 where
  pub count : length (operations 1 C) ≡ made
  pub each_told : list_all (is_told rows) (operations 1 C) ≡ true
  pub each_latest : list_all (is_latest_of (operations 1 C)) rows ≡ true
  pub each_owned : each_entry is_owned C ≡ true
  pub none_gone : list_any is_gone C ≡ false
  pub none_sent : list_any is_sent_entry C ≡ false

-- the operation that a Sent is of, with its identifier
abbrev pub sent_name : Sending → Named ℕ
sent_name s = record { op = s.op; value = s.id }

-- the operations of these rows, with their identifiers from this one on
abbrev pub numbered : ℕ → List Forwarded → List (Named ℕ)
numbered n [] = []
numbered n (f ∷ fs) = record { op = record { client = 1; k = f.k }; value = n } ∷ numbered (suc n) fs

-- connection 1's list, with these rows
pub record ConnectionList (rows : List Forwarded) (U : List Entry) : Type 0 where
  pub names : map sent_name (sendings 1 U) ≡ numbered 1 rows
  pub ids_rise : each_entry has_next_id U ≡ true
  pub given : given_count U ≡ length rows
  pub none_out : list_any is_out_entry U ≡ false

-- the client learned the choice of connection 1 for the operation while it was live
abbrev pub is_chosen : List Entry → OpName → Bool
is_chosen C op = some_entry (λ place e. is_choice_of op 1 e && is_live_at place op) C

-- what an operation's client got is allowed by the answers, and there are none where its row isn't answered
abbrev pub is_answered_as : List Forwarded → Sending → Operation → Bool
is_answered_as rows s o = allowed (kind_of o.request.rest) (answers o s) (outs o) && passes (λ f. implies (not f.answered) (length (answers o s) == 0)) (row_of s.op.k rows)

-- a Sent is of an operation for which connection 1 was chosen, and whose client got what the answers allow
abbrev pub is_sent_rightly : List Forwarded → List Entry → Sending → Bool
is_sent_rightly rows C s = is_chosen C s.op && passes (is_answered_as rows s) (operation_in C s.op)

-- the numbers of the rows rise from above this one to at most that one
abbrev pub are_rising : ℕ → ℕ → List Forwarded → Bool
are_rising low most [] = true
are_rising low most (f ∷ fs) = nat_lt low f.k && nat_le f.k most && are_rising f.k most fs

-- the number 1 alone, or none
abbrev pub one_if : Bool → List ℕ
one_if b = if b then 1 ∷ [] else []

-- whether there are no rows
abbrev pub is_empty : List Forwarded → Bool
is_empty [] = true
is_empty (f ∷ fs) = false

-- the world stands for the journal
pub record StandsFor (w : WorldState) (J : List Entry) : Type 0 where
  pub clients : clients_from [] J ≡ one_if w.arrived
  pub connections : connections_from [] J ≡ one_if (is_linked_state w.link)
  pub arrivals : arrivals J ≡ (if w.arrived then 1 else 0)
  pub arrived : list_any (λ e. is_arrived e.what) (of_part (Client 1) J) ≡ w.arrived
  pub linked : list_any (λ e. is_linked e.what) (of_part (Connection 1) J) ≡ is_linked_state w.link
  pub up : list_any (λ e. is_up e.what) (of_part (Connection 1) J) ≡ is_linked_state w.link
  pub heard : list_any (λ e. passes (says_up 1) (heard e.what)) (of_part Desk J) ≡ is_heard_state w.link
  pub desk : list_any (λ e. is_out_entry e || is_sent_entry e) (of_part Desk J) ≡ false
  pub client : ClientList w.forwarded w.made (of_part (Client 1) J)
  pub connection : ConnectionList w.forwarded (of_part (Connection 1) J)
  pub each_sent : list_all (is_sent_rightly w.forwarded (of_part (Client 1) J)) (sendings 1 (of_part (Connection 1) J)) ≡ true
  pub rising : are_rising 0 w.made w.forwarded ≡ true
  pub behind_link : (is_linked_state w.link || is_empty w.forwarded) ≡ true
  pub behind_arrival : (w.arrived || is_empty w.forwarded) ≡ true
