-- When a letter is fit for its receiver, by what the receiver's list says, gave and took before it: a table. The parts'
-- turns are looked at for fit letters alone.
use Rattle.std.specs.Prelude.{ℕ, Bool, true, false, ◌==◌, ◌&&◌, ◌||◌, not, if◌then◌else◌, List, [], ◌∷◌, ◌++◌, length, filter, find, Option, Some, None, is_some, is_none}
use Rattle.std.specs.List.{list_any}
use Rattle.ldap_spec.specs.Messages.{Message}
use Rattle.ldap_spec.specs.Kinds.{kind_of, same_kind, fits}
use Rattle.lload_names.specs.declared.names.OpName.{OpName}
use Rattle.lload_names.specs.declared.names.OpKind.{OpKind}
use Rattle.lload_names.specs.declared.names.OpKind.TheVariants.{Bind}
use Rattle.lload_names.specs.declared.names.ConnKind.{ConnKind}
use Rattle.lload_names.specs.declared.names.Answer.{Answer}
use Rattle.lload_names.specs.declared.names.Answer.TheVariants.{Go}
use Rattle.lload_names.specs.declared.names.Refusal.{Refusal}
use Rattle.lload_names.specs.declared.names.Refusal.TheVariants.{C4, C5, C9}
use Rattle.lload_names.specs.declared.names.PartName.{PartName}
use Rattle.lload_names.specs.declared.names.PartName.TheVariants.{Desk, Client, Up as Connection}
use Rattle.lload_names.specs.declared.names.Letter.{Letter}
use Rattle.lload_names.specs.declared.names.Letter.TheVariants.{Ask, Choice, Returned, Forward, Reply, Failed, Drop, Leave, Ended, IsUp, IsRetired, IsDown, Pause, Resume}
use Rattle.lload_names.specs.declared.names.What.{What}
use Rattle.lload_names.specs.declared.names.What.TheVariants as what
use Rattle.lload_spec.specs.Lists.{passes, last, agrees, implies}
use Rattle.lload_spec.specs.Settings.{Settings, is_of_kind, is_of_backend, place_at}
use Rattle.lload_spec.specs.Journal.{same_part, same_op}
use Rattle.lload_spec.specs.Operations.{is_final_for}
use Rattle.lload_spec.specs.Answers.{wants_identity}
use Rattle.lload_spec.specs.FirstCheck.{lets_go_on}
use Rattle.lload_spec.specs.News.{tells_up, tells_down, tells_stopped}
use Rattle.ldap_spec.specs.Responses.{has_code, is_readable_who}
use Rattle.part_spec.specs.Marked.{Marked, Taken}
use Rattle.part_spec.specs.ClientState.{ClientState, empty_client, step_client, check_at, is_pinned, new_row, row_named, next_name, held_connection}
use Rattle.part_spec.specs.ConnectionState.{ConnectionState, empty_connection, step_connection, is_bind}
use Rattle.part_spec.specs.DeskState.{DeskState, empty_desk, step_desk}

-- What a client waits for: choices of what it asked for, as its state says, and answers to what it forwarded.

-- an operation that was forwarded, its request, and where it went
pub record Expected : Type 0 where
  pub op : OpName
  pub request : Message
  pub connection : ℕ

-- a client's state, and what was forwarded and has no last answer yet
pub record ClientLedger : Type 0 where
  pub state : ClientState
  pub expected : List Expected

abbrev pub empty_client_ledger : ℕ → ClientLedger
empty_client_ledger c = record { state = empty_client c; expected = [] }

-- an operation is forwarded to a connection, where there is one
abbrev pub with_forward : OpName → Message → Option ℕ → List Expected → List Expected
with_forward op m None expected = expected
with_forward op m (Some u) expected = expected ++ record { op = op; request = m; connection = u } ∷ []

-- whether a request goes on to its exchange, and the desk isn't asked
abbrev pub goes_on_pinned : Settings → ClientState → Message → Bool
goes_on_pinned s p m = lets_go_on (check_at s p m) && is_pinned s p m

-- the connection of an answer
abbrev pub going_to : Answer → Option ℕ
going_to (Go u b) = Some u
going_to _ = None

-- whether a letter is the last answer to an operation
abbrev pub is_last_of : OpName → Letter → Bool
is_last_of op (Reply o rest is_last who) = same_op op o && is_last
is_last_of op (Failed o which) = same_op op o
is_last_of op _ = false

abbrev pub is_last_by : OpName → Option Taken → Bool
is_last_by op mark = passes (λ t. is_last_of op t.letter) mark

-- what is expected, behind an entry: a request that goes on to its exchange, and a live operation that was chosen a
-- connection, go there
abbrev pub expected_behind : Settings → ClientState → List Expected → What → List Expected
expected_behind s p expected (what.In id rest) =
    if goes_on_pinned s p (record { id = id; rest = rest }) then
    with_forward (next_name p) (new_row s p (record { id = id; rest = rest })).request (held_connection p) expected
    else expected
expected_behind s p expected (what.Chosen op answer) =
    elim (row_named p op) [ None ↦ expected | Some r ↦ with_forward op r.request (going_to answer) expected ]
expected_behind s p expected _ = expected

-- the ledger behind an entry
abbrev pub step_client_ledger : Settings → ClientLedger → Marked → ClientLedger
step_client_ledger s l m =
    record {
      state = step_client s l.state m;
      expected =
          filter (λ x. not (is_last_by x.op m.mark)) (expected_behind s l.state l.expected m.entry.what);
    }

-- a connection's state, and the letters that it took
pub record ConnectionLedger : Type 0 where
  pub state : ConnectionState
  pub taken : List Taken

abbrev pub empty_connection_ledger : Settings → ℕ → ConnectionLedger
empty_connection_ledger s u = record { state = empty_connection s u; taken = [] }

-- these letters, and that of a mark
abbrev pub with_mark : Option Taken → List Taken → List Taken
with_mark None taken = taken
with_mark (Some t) taken = taken ++ t ∷ []

abbrev pub step_connection_ledger : Settings → ConnectionLedger → Marked → ConnectionLedger
step_connection_ledger s l m = record { state = step_connection s l.state m; taken = with_mark m.mark l.taken }

-- the desk's state, and the letters that it took
pub record DeskLedger : Type 0 where
  pub state : DeskState
  pub taken : List Taken

abbrev pub empty_desk_ledger : DeskLedger
empty_desk_ledger = record { state = empty_desk; taken = [] }

abbrev pub step_desk_ledger : Settings → DeskLedger → Marked → DeskLedger
step_desk_ledger s l m = record { state = step_desk s l.state m; taken = with_mark m.mark l.taken }

-- The table: a client.

-- a connection chosen is of the wanted kind, and the backend is its own
abbrev pub is_choice_for : Settings → ConnKind → Answer → Bool
is_choice_for s wanted (Go u b) = is_of_kind s wanted u && is_of_backend s b u
is_choice_for s wanted _ = true

-- an answer fits the request, and is the last exactly where it is final
abbrev pub answers : Message → List ℕ → Bool → Bool
answers m rest is_last = passes (λ kind. fits kind rest) (kind_of m.rest) && agrees is_last (is_final_for m rest)

-- whether an answer that is a success whose identity is asked for comes with a readable one
abbrev pub is_known : Settings → Message → List ℕ → Option (List ℕ) → Bool
is_known s m rest who = implies (wants_identity s m && has_code 0 rest && is_final_for m rest) (is_readable_who who)

-- whether a refusal is one that a connection gives to a request: that no identity is known only to one whose is asked
-- for
abbrev pub is_loss : Settings → Message → Refusal → Bool
is_loss s m C4 = true
is_loss s m C5 = true
is_loss s m C9 = wants_identity s m
is_loss s m _ = false

-- what is expected from a sender for an operation
abbrev pub expected_from : ClientLedger → PartName → OpName → Option Expected
expected_from l sender op = find (λ x. same_op op x.op && same_part sender (Connection x.connection)) l.expected

abbrev pub fits_client : Settings → ClientLedger → PartName → Letter → Bool
fits_client s l sender (Choice op answer) =
    same_part sender Desk && passes (λ a. is_choice_for s a.kind answer) (find (λ a. same_op op a.op) l.state.asked)
fits_client s l sender (Reply op rest is_last who) =
    passes (λ x. answers x.request rest is_last && is_known s x.request rest who) (expected_from l sender op)
fits_client s l sender (Failed op which) = passes (λ x. is_loss s x.request which) (expected_from l sender op)
fits_client s l sender _ = false

-- The table: a connection.

-- whether a letter is a Forward of this operation, or for this holder
abbrev pub is_forward_of : OpName → Letter → Bool
is_forward_of op (Forward o _ rest _ holder) = same_op op o
is_forward_of op _ = false

abbrev pub is_forward_for : OpName → Letter → Bool
is_forward_for h (Forward o _ rest _ holder) = same_op h holder
is_forward_for h _ = false

-- whether a letter is a Drop of this operation, or a Leave of this holder
abbrev pub is_drop_of : OpName → Letter → Bool
is_drop_of op (Drop o) = same_op op o
is_drop_of op _ = false

abbrev pub is_leave_of : OpName → Letter → Bool
is_leave_of h (Leave o) = same_op h o
is_leave_of h _ = false

-- whether a letter is a Pause, or a Resume
abbrev pub is_pause : Letter → Bool
is_pause (Pause client) = true
is_pause _ = false

abbrev pub is_resume : Letter → Bool
is_resume (Resume client) = true
is_resume _ = false

-- whether one that passes the first test was taken from a sender, and none since that passes the second
abbrev pub is_taken_last : (Letter → Bool) → (Letter → Bool) → PartName → List Taken → Bool
is_taken_last first second sender taken =
    passes (λ t. first t.letter)
    (last (filter (λ t. same_part sender t.sender && (first t.letter || second t.letter)) taken))

-- whether a bind connection is free for a holder: no Bind is live on it, and nobody else holds it
abbrev pub is_free_for : ConnectionState → OpName → Bool
is_free_for p holder = length p.rows == 0 && (is_none p.holder || passes (same_op holder) p.holder)

-- whether an operation may go on under a holder: it is its own, or the one that holds the connection, or held it when it
-- went down
abbrev pub is_held_for : ConnectionState → OpName → OpName → Bool
is_held_for p op holder = same_op op holder || passes (same_op holder) p.holder || passes (same_op holder) p.lost

-- whether a Forward's kind is that of its rest, and serves this connection, and it says rightly whether the identity is
-- asked for
abbrev pub is_of_its_kind : Settings → ConnectionState → OpKind → List ℕ → Bool → Bool
is_of_its_kind s p kind rest ask_who =
    passes (same_kind kind) (kind_of rest) && agrees (same_kind Bind kind) (is_bind p)
    && agrees ask_who (wants_identity s (record { id = 0; rest = rest }))

abbrev pub fits_connection : Settings → ConnectionLedger → PartName → Letter → Bool
fits_connection s l sender (Forward op kind rest ask_who holder) =
    same_part sender (Client op.client) && same_part sender (Client holder.client)
    && not (list_any (λ t. is_forward_of op t.letter) l.taken)
    && l.state.up && is_of_its_kind s l.state kind rest ask_who
    && (not (is_bind l.state) || is_free_for l.state holder && is_held_for l.state op holder)
fits_connection s l sender (Drop op) =
    not (is_bind l.state) && is_taken_last (is_forward_of op) (is_drop_of op) sender l.taken
fits_connection s l sender (Leave holder) =
    is_bind l.state && is_taken_last (is_forward_for holder) (is_leave_of holder) sender l.taken
fits_connection s l sender (Pause client) =
    not (is_bind l.state) && same_part sender (Client client) && not (is_taken_last is_pause is_resume sender l.taken)
fits_connection s l sender (Resume client) =
    not (is_bind l.state) && same_part sender (Client client) && is_taken_last is_pause is_resume sender l.taken
fits_connection s l sender _ = false

-- The table: the desk.

abbrev pub is_ask_of : OpName → Letter → Bool
is_ask_of op (Ask o want) = same_op op o
is_ask_of op _ = false

-- whether none was taken that passes the test
abbrev pub is_none_taken : (Letter → Bool) → List Taken → Bool
is_none_taken test taken = not (list_any (λ t. test t.letter) taken)

-- whether an operation is pending on a connection
abbrev pub is_pending : DeskState → OpName → ℕ → Bool
is_pending p op u = list_any (λ x. same_op op x.op && x.value == u) p.pending

-- whether a letter of a connection's state comes from it, and it has a place
abbrev pub is_of_sender : Settings → PartName → ℕ → Bool
is_of_sender s sender u = same_part sender (Connection u) && is_some (place_at s u)

abbrev pub fits_desk : Settings → DeskLedger → PartName → Letter → Bool
fits_desk s l sender (Ask op want) = same_part sender (Client op.client) && is_none_taken (is_ask_of op) l.taken
fits_desk s l sender (Returned op u) = same_part sender (Client op.client) && is_pending l.state op u
fits_desk s l sender (Ended op u latency) = same_part sender (Connection u) && is_pending l.state op u
fits_desk s l sender (IsUp u) =
    is_of_sender s sender u && is_none_taken (λ x. tells_up u x || tells_stopped u x) l.taken
fits_desk s l sender (IsRetired u) =
    is_of_sender s sender u && is_none_taken (tells_stopped u) l.taken
fits_desk s l sender (IsDown u) = is_of_sender s sender u && is_none_taken (tells_down u) l.taken
fits_desk s l sender _ = false

-- A list by a ledger of any kind.

-- whether the letter of a mark isn't fit
abbrev pub is_unfit : {A : Type 0} → (A → PartName → Letter → Bool) → A → Option Taken → Bool
is_unfit fits ledger None = false
is_unfit fits ledger (Some t) = not (fits ledger t.sender t.letter)

-- the ledger behind these entries
abbrev pub ledger_behind : {A : Type 0} → (A → Marked → A) → A → List Marked → A
ledger_behind step ledger [] = ledger
ledger_behind step ledger (m ∷ ms) = ledger_behind step (step ledger m) ms

-- whether each letter of these entries was fit where it was taken
abbrev pub are_fit_from : {A : Type 0} → (A → PartName → Letter → Bool) → (A → Marked → A) → A → List Marked → Bool
are_fit_from fits step ledger [] = true
are_fit_from fits step ledger (m ∷ ms) = not (is_unfit fits ledger m.mark) && are_fit_from fits step (step ledger m) ms

-- these entries up to the first letter that isn't fit
abbrev pub fit_from : {A : Type 0} → (A → PartName → Letter → Bool) → (A → Marked → A) → A → List Marked → List Marked
fit_from fits step ledger [] = []
fit_from fits step ledger (m ∷ ms) =
    elim (is_unfit fits ledger m.mark) [ true ↦ [] | false ↦ m ∷ fit_from fits step (step ledger m) ms ]

-- the ledger behind a part's list
abbrev pub client_ledger : Settings → ℕ → List Marked → ClientLedger
client_ledger s c list = ledger_behind (step_client_ledger s) (empty_client_ledger c) list

abbrev pub connection_ledger : Settings → ℕ → List Marked → ConnectionLedger
connection_ledger s u list = ledger_behind (step_connection_ledger s) (empty_connection_ledger s u) list

abbrev pub desk_ledger : Settings → List Marked → DeskLedger
desk_ledger s list = ledger_behind (step_desk_ledger s) empty_desk_ledger list

-- whether a letter is fit for a part behind its list
abbrev pub is_fit : Settings → PartName → List Marked → PartName → Letter → Bool
is_fit s Desk list sender letter = fits_desk s (desk_ledger s list) sender letter
is_fit s (Client c) list sender letter = fits_client s (client_ledger s c list) sender letter
is_fit s (Connection u) list sender letter = fits_connection s (connection_ledger s u list) sender letter

-- whether each letter of a part's list was fit where it was taken
abbrev pub is_all_fit : Settings → PartName → List Marked → Bool
is_all_fit s Desk list = are_fit_from (fits_desk s) (step_desk_ledger s) empty_desk_ledger list
is_all_fit s (Client c) list = are_fit_from (fits_client s) (step_client_ledger s) (empty_client_ledger c) list
is_all_fit s (Connection u) list =
    are_fit_from (fits_connection s) (step_connection_ledger s) (empty_connection_ledger s u) list

-- the beginning of a part's list up to the first letter that isn't fit where it was taken
abbrev pub fit_beginning : Settings → PartName → List Marked → List Marked
fit_beginning s Desk list = fit_from (fits_desk s) (step_desk_ledger s) empty_desk_ledger list
fit_beginning s (Client c) list = fit_from (fits_client s) (step_client_ledger s) (empty_client_ledger c) list
fit_beginning s (Connection u) list =
    fit_from (fits_connection s) (step_connection_ledger s) (empty_connection_ledger s u) list
