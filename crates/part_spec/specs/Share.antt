-- One part's share of the promises: all of them that is said of the one list with what its letters carry, up to the
-- first letter that isn't fit. What a promise says of another part's list is said here of the letters that were taken.
use Rattle.std.specs.Prelude.{ℕ, Bool, true, false, ◌==◌, ◌&&◌, ◌||◌, not, if◌then◌else◌, List, [], ◌∷◌, ◌++◌, length, take, Option, Some, None, IsTrue, is_some, is_none}
use Rattle.std.specs.List.{list_any, list_all}
use Rattle.ldap_spec.specs.Messages.{Message}
use Rattle.ldap_spec.specs.Kinds.{is_final}
use Rattle.ldap_spec.specs.Responses.{has_code, is_readable_who}
use Rattle.ldap_spec.specs.Bodies.{abandon, who_am_i}
use Rattle.lload_names.specs.declared.names.Entry.{Entry}
use Rattle.lload_names.specs.declared.names.OpName.{OpName}
use Rattle.lload_names.specs.declared.names.Answer.TheVariants.{Busy, Unavailable}
use Rattle.lload_names.specs.declared.names.EndWhy.{EndWhy}
use Rattle.lload_names.specs.declared.names.EndWhy.TheVariants.{Bad, OwnBind, TimedOut, Unfinished, Drained}
use Rattle.lload_names.specs.declared.names.Refusal.{Refusal}
use Rattle.lload_names.specs.declared.names.Refusal.TheVariants.{C1, C3, C4, C5, C9}
use Rattle.lload_names.specs.declared.names.CancelAnswer.{CancelAnswer}
use Rattle.lload_names.specs.declared.names.CancelAnswer.TheVariants.{C13}
use Rattle.lload_names.specs.declared.names.ConnKind.TheVariants.{Regular}
use Rattle.lload_names.specs.declared.names.PartName.{PartName}
use Rattle.lload_names.specs.declared.names.PartName.TheVariants.{Desk, Client, Up as Connection}
use Rattle.lload_names.specs.declared.names.Letter.{Letter}
use Rattle.lload_names.specs.declared.names.Letter.TheVariants.{Forward, Reply, Failed, Drop, Leave}
use Rattle.lload_spec.specs.Lists.{passes, first_passes, last_passes, each_entry, each_split, some_split, implies}
use Rattle.lload_spec.specs.Settings.{Settings, is_kind}
use Rattle.lload_spec.specs.Journal.{family, same_op}
use Rattle.lload_spec.specs.Entries.{in_message, sent_message, own_message, got_message, expired_op, idle_op, gone_why, down_why, is_up, is_retired, is_down_by, is_link_reason, is_own, is_expired, is_of_client, is_of_desk, is_of_connection}
use Rattle.lload_spec.specs.Operations.{Operation, operations, outs}
use Rattle.lload_spec.specs.Answers.{sendings, asks_who}
use Rattle.lload_spec.specs.Fifo.{allowed, is_refused_by_outs, is_canceled_by_outs, is_ended_once, has_own_outs}
use Rattle.lload_spec.specs.Right.{each_chosen_rightly}
use Rattle.lload_spec.specs.Identifiers.{has_right_id}
use Rattle.lload_spec.specs.OneEach.{is_bind_due, is_own_bind, is_named_once}
use Rattle.lload_spec.specs.FirstCheck.{Check}
use Rattle.lload_spec.specs.Caused.{Troubles, is_followed_up, have_causes, is_cause, answers_with, is_checked_so, is_canceled_by, same_refusal, is_choice_told, is_ended_by_check, is_gone_cause, is_late_caused, is_stall_caused, is_later}
use Rattle.lload_spec.specs.CausedUp.{is_missed_caused, exactly_behind, is_up_due, is_retirement_due, is_refused_own_bind, is_own_bind_due}
use Rattle.lload_spec.specs.Strict.{has_place_in_client, has_place_in_desk, lives_as_connection, may_pass, got_kept_success}
use Rattle.lload_spec.specs.BadMessages.{is_bad}
use Rattle.part_spec.specs.Marked.{Marked, Taken, entries}
use Rattle.part_spec.specs.Marks.{has_right_marks}
use Rattle.part_spec.specs.ClientState.{ClientState, empty_client, step_client, client_of, check_at}
use Rattle.part_spec.specs.ConnectionState.{ConnectionState, UpRow, empty_connection, step_connection, is_bind_row, is_under, row_named, keeps_back, is_bind, is_there, is_holding, message_facts}
use Rattle.part_spec.specs.ConnectionTurn.{is_due, is_drained}
use Rattle.part_spec.specs.Fit.{is_free_for, fit_beginning}

-- whether a test passes at each entry, by the state before it and with what stands before and behind it
abbrev pub each_place :
    {A : Type 0} → (A → Marked → A) → (A → List Marked → Marked → List Marked → Bool) → A → List Marked → List Marked
    → Bool
each_place step test state before [] = true
each_place step test state before (m ∷ ms) =
    test state before m ms && each_place step test (step state m) (before ++ m ∷ []) ms

-- whether the letter of a mark passes
abbrev pub has_letter : (Letter → Bool) → Marked → Bool
has_letter test m = passes (λ t. test t.letter) m.mark

-- A client.

-- the rest of an answer to this operation, if a letter is one
abbrev pub answer_told : OpName → Letter → List (List ℕ)
answer_told op (Reply o rest is_last who) = if same_op op o then rest ∷ [] else []
answer_told op _ = []

-- and if the letter of a mark is one
abbrev pub reply_rest : OpName → Option Taken → List (List ℕ)
reply_rest op mark = elim mark [ None ↦ [] | Some t ↦ answer_told op t.letter ]

-- the answers to an operation that were taken, in order
abbrev pub replies : List Marked → OpName → List (List ℕ)
replies [] op = []
replies (m ∷ ms) op = reply_rest op m.mark ++ replies ms op

-- what the client got for the operation is a beginning of the answers that were taken, or such a beginning without a
-- final one and then one refusal
abbrev pub is_answered_by : List Marked → Operation → Bool
is_answered_by list o = allowed o.request.rest (replies list o.name) (outs o)

-- whether an operation is refused so, or as a Cancel answered so, by the answers that were taken
abbrev pub is_refused_with : List Marked → Refusal → Operation → Bool
is_refused_with list which o = is_refused_by_outs (replies list o.name) which o

abbrev pub is_canceled_with : List Marked → CancelAnswer → Operation → Bool
is_canceled_with list which o = is_canceled_by_outs (replies list o.name) which o

-- whether a letter refuses this operation so
abbrev pub is_failure : OpName → Refusal → Letter → Bool
is_failure op which (Failed o other) = same_op op o && same_refusal which other
is_failure op which _ = false

-- the first check of a message behind so many of a client's entries
abbrev pub check_behind : Settings → ℕ → List Marked → ℕ → Message → Check
check_behind s c list n m = check_at s (client_of s c (take n list)) m

-- the first check of a message at a place of the list
abbrev pub check_in : Settings → ℕ → List Marked → List Entry → Message → Check
check_in s c list place m = check_behind s c list (length place) m

-- the check at an operation's In
abbrev pub check_of : Settings → List Marked → Operation → Check
check_of s list o = check_in s o.name.client list o.before o.request

-- what came of an operation at its connection, by the letters that were taken
abbrev pub troubles : Settings → List Marked → Operation → Troubles
troubles s list o =
    record {
      lost = list_any (has_letter (is_failure o.name C4)) list;
      expired = list_any (has_letter (is_failure o.name C5)) list;
      unknown = list_any (has_letter (is_failure o.name C9)) list && asks_who s o;
    }

-- the cause of a refusal: a choice, a letter of a connection, or the first check
abbrev pub has_cause : Settings → List Marked → Operation → Refusal → Bool
has_cause s list o which = is_cause (family (entries list)) (troubles s list o) (check_of s list o) o which

-- the cause of an answer to a Cancel
abbrev pub has_cancel_cause : Settings → List Marked → Operation → CancelAnswer → Bool
has_cancel_cause s list o C13 = some_split (is_canceled_by (check_in s o.name.client list) o) (entries list)
has_cancel_cause s list o which = is_checked_so (check_of s list o) (answers_with which) o

-- each operation that got an answer of the proxy's own has its cause
abbrev pub has_causes : Settings → List Marked → Operation → Bool
has_causes s list o =
    have_causes (λ which. is_refused_with list which o) (has_cause s list o)
    (λ which. is_canceled_with list which o) (has_cancel_cause s list o)

-- each In has directly behind it what its first check wants
abbrev pub is_checked : Settings → ClientState → Marked → List Marked → Bool
is_checked s p m behind =
    elim (in_message m.entry.what) [ None ↦ true | Some x ↦ is_followed_up x (entries behind) (check_at s p x) ]

-- the cause of a client's end
abbrev pub has_gone_cause : Settings → ℕ → List Marked → EndWhy → Bool
has_gone_cause s c before why =
    is_gone_cause (is_ended_by_check (check_in s c before) (entries before)) (entries before) why

abbrev pub is_gone_caused : Settings → ℕ → List Marked → Marked → Bool
is_gone_caused s c before m = elim (gone_why m.entry.what) [ None ↦ true | Some why ↦ has_gone_cause s c before why ]

-- whether a letter is an answer with a readable identity
abbrev pub tells_identity : OpName → Letter → Bool
tells_identity op (Reply o rest is_last who) = same_op op o && (has_code 0 rest && is_readable_who who)
tells_identity op _ = false

-- a success that was kept back goes out only with a readable identity
abbrev pub is_success_known : Settings → List Marked → Operation → Bool
is_success_known s list o =
    implies (got_kept_success s o) (list_any (has_letter (tells_identity o.name)) list)

-- each operation's Outs are a beginning of the answers that were taken, or such a beginning and one refusal
abbrev pub each_answered : ℕ → List Marked → Bool
each_answered c list = list_all (is_answered_by list) (operations c (entries list))

-- no Out of an operation stands behind its end
abbrev pub each_ended_once : ℕ → List Marked → Bool
each_ended_once c list = list_all is_ended_once (operations c (entries list))

-- each Out is of an operation, or is the notice of the end
abbrev pub each_out_owned : ℕ → List Marked → Bool
each_out_owned c list = has_own_outs (family (entries list)) c

-- each refused operation has the refusal's cause
abbrev pub each_refusal_caused : Settings → ℕ → List Marked → Bool
each_refusal_caused s c list = list_all (has_causes s list) (operations c (entries list))

-- each In has directly behind it what its first check wants
abbrev pub each_check_followed : Settings → ℕ → List Marked → Bool
each_check_followed s c list =
    each_place (step_client s) (λ p before m behind. is_checked s p m behind) (empty_client c) [] list

-- each Busy, and each Unavailable, for a live operation is told directly behind it
abbrev pub each_busy_told : ℕ → List Marked → Bool
each_busy_told c list = each_split (is_choice_told c Busy C1) (entries list)

abbrev pub each_unavailable_told : ℕ → List Marked → Bool
each_unavailable_told c list = each_split (is_choice_told c Unavailable C3) (entries list)

-- each Gone has its cause, and each Late is of an operation that isn't live
abbrev pub each_gone_caused : Settings → ℕ → List Marked → Bool
each_gone_caused s c list = each_entry (is_gone_caused s c) list

abbrev pub each_late_caused : ℕ → List Marked → Bool
each_late_caused c list = each_entry (is_late_caused c) (entries list)

-- each Stalled is of a client that is there and isn't stalled, and each Flowing of one that is there and stalled
abbrev pub each_stall_caused : ℕ → List Marked → Bool
each_stall_caused c list = each_entry (is_stall_caused c) (entries list)

-- the list has a client's entries alone, and is one of a client's life, with choices and requests where they may stand
abbrev pub lives_as_a_client : Settings → ℕ → List Marked → Bool
lives_as_a_client s c list =
    each_split (λ place e behind. is_of_client e.what && has_place_in_client s c place e behind) (entries list)

-- each success that was kept back went out with a readable identity
abbrev pub each_success_known : Settings → ℕ → List Marked → Bool
each_success_known s c list = list_all (is_success_known s list) (operations c (entries list))

-- the moment never falls
abbrev pub moments_never_fall : List Marked → Bool
moments_never_fall list = each_entry is_later (entries list)

-- a client's share: of the answers, of their causes, and of what is promised beside
abbrev pub keeps_client_share : Settings → ℕ → List Marked → Bool
keeps_client_share s c list =
    has_right_marks s (Client c) list && each_answered c list && each_ended_once c list && each_out_owned c list
    && each_refusal_caused s c list
    && each_check_followed s c list && each_busy_told c list && each_unavailable_told c list
    && each_gone_caused s c list && each_late_caused c list
    && each_stall_caused c list && moments_never_fall list && lives_as_a_client s c list && each_success_known s c list

-- A connection.

-- whether a letter is a Forward for whose holder the connection is free
abbrev pub is_free_by : ConnectionState → Letter → Bool
is_free_by p (Forward op _ rest ask_who holder) = is_free_for p holder
is_free_by p _ = false

-- each Sent is the first of its operation, and on a bind connection no Bind is live and nobody else holds it
abbrev pub is_sent_once : ConnectionState → List Entry → Marked → Bool
is_sent_once p place m =
    elim (sent_message m.entry.what) [
      | None ↦ true
      | Some x ↦ not (list_any (λ e. passes (λ y. same_op x.op y.op) (sent_message e.what)) place)
          && implies (is_bind p) (has_letter (is_free_by p) m)
    ]

-- whether a message is the success of the live Bind that is kept back
abbrev pub succeeds : Message → UpRow → Bool
succeeds m r = is_under m.id r && (is_final r.kind m.rest && (is_bind_row r && keeps_back r m.rest))

abbrev pub is_who_due : ConnectionState → Entry → Bool
is_who_due p e = passes (λ m. list_any (succeeds m) p.rows) (got_message e.what)

-- the own Bind stands directly behind Linked where one is configured, and Who Am I behind a success that is kept back
abbrev pub has_due_messages : Settings → ConnectionState → Marked → List Marked → Bool
has_due_messages s p m behind =
    implies (is_bind_due s p.number m.entry) (first_passes (is_own_bind s) (entries behind))
    && implies (is_who_due p m.entry) (first_passes (is_own who_am_i) (entries behind))

-- whether a Who Am I is due: a Bind's success is kept back, and its identity wasn't asked for yet
abbrev pub is_who_awaited : UpRow → Bool
is_who_awaited r = passes (λ k. is_none k.who) r.kept

-- whether a letter drops this operation
abbrev pub drops : OpName → Letter → Bool
drops op (Drop o) = same_op op o
drops op _ = false

-- whether an own message abandons a live operation by its Drop, or one that expired directly before
abbrev pub is_due_abandon : ConnectionState → List Entry → Marked → Bool
is_due_abandon p place m =
    list_any
    (λ sent.
    is_own (abandon sent.id) m.entry
    && (is_some (row_named p sent.op) && has_letter (drops sent.op) m || last_passes (is_expired sent.op) place))
    (sendings p.number place)

-- each own message has its reason
abbrev pub has_reason : Settings → ConnectionState → List Entry → Marked → Bool
has_reason s p place m =
    implies (is_some (own_message m.entry.what))
    (is_own_bind s m.entry && last_passes (is_bind_due s p.number) place
    || is_own who_am_i m.entry && list_any is_who_awaited p.rows || is_due_abandon p place m)

-- what stands directly behind Expired: the end of the connection for a Bind, else the Abandon
abbrev pub is_expiry_told : List Entry → UpRow → Bool
is_expiry_told behind r =
    if is_bind_row r then first_passes (is_down_by TimedOut) behind else first_passes (is_own (abandon r.id)) behind

-- each Expired is of a live operation that is due, and is followed up
abbrev pub is_expired_due : Settings → ConnectionState → Marked → List Marked → Bool
is_expired_due s p m behind =
    elim (expired_op m.entry.what) [
      | None ↦ true
      | Some op ↦ passes (λ r. is_due s m.entry.at r && is_expiry_told (entries behind) r) (row_named p op)
    ]

-- each Idle is of an operation that isn't live, or of one that doesn't hold the connection
abbrev pub is_idle_caused : ConnectionState → Marked → Bool
is_idle_caused p m =
    elim (idle_op m.entry.what) [
      | None ↦ true
      | Some op ↦ if is_bind p then not (passes (same_op op) p.holder) else is_none (row_named p op)
    ]

-- each bad message that comes while the connection takes messages has Down for a bad message directly behind it
abbrev pub is_bad_told : ConnectionState → Marked → List Marked → Bool
is_bad_told p m behind =
    implies (passes (is_bad (message_facts p)) (got_message m.entry.what) && is_there p && not (is_holding p))
    (first_passes (is_down_by Bad) (entries behind))

-- whether the last entry is Expired of a Bind
abbrev pub is_bind_expired : ConnectionState → List Entry → Bool
is_bind_expired p place = is_bind p && last_passes (λ e. is_some (expired_op e.what)) place

-- whether a letter is the Leave of the holder
abbrev pub leaves : ConnectionState → Letter → Bool
leaves p (Leave holder) = passes (same_op holder) p.holder
leaves p _ = false

-- the cause of a connection's end
abbrev pub has_down_cause : Settings → ConnectionState → List Entry → Marked → EndWhy → Bool
has_down_cause s p place m TimedOut = is_bind_expired p place || is_own_bind_due s p.number place m.entry.at
has_down_cause s p place m Unfinished = has_letter (leaves p) m
has_down_cause s p place m Drained = is_drained p
has_down_cause s p place m OwnBind = true
has_down_cause s p place m why = is_link_reason why

abbrev pub is_down_caused : Settings → ConnectionState → List Entry → Marked → Bool
is_down_caused s p place m = elim (down_why m.entry.what) [ None ↦ true | Some why ↦ has_down_cause s p place m why ]

-- whether the test passes at each entry of a connection's list, by the state before it
abbrev pub each_by_state :
    Settings → ℕ → (ConnectionState → List Entry → Marked → List Marked → Bool) → List Marked → Bool
each_by_state s u test list =
    each_place (step_connection s) (λ p before m behind. test p (entries before) m behind)
    (empty_connection s u) [] list

-- each operation and each own message has the right identifier
abbrev pub each_id_right : Settings → ℕ → List Marked → Bool
each_id_right s u list = each_by_state s u (λ p place m behind. has_right_id p.ids m.entry.what) list

-- no message comes while the connection holds, and it pauses and resumes in turn
abbrev pub each_passed : Settings → ℕ → List Marked → Bool
each_passed s u list =
    each_by_state s u (λ p place m behind. may_pass (is_kind Regular p.kind) p.waiting m.entry.what) list

-- each operation is sent once, and on a bind connection only where that is free
abbrev pub each_sent_once : Settings → ℕ → List Marked → Bool
each_sent_once s u list = each_by_state s u (λ p place m behind. is_sent_once p place m) list

-- each own message has its reason, stands where it is due, and none names an operation twice
abbrev pub each_own_reasoned : Settings → ℕ → List Marked → Bool
each_own_reasoned s u list =
    each_by_state s u (λ p place m behind. has_due_messages s p m behind && has_reason s p place m) list
    && list_all (is_named_once (entries list)) (sendings u (entries list))

-- the connection is up, retires, and goes down for its own Bind exactly where it is due
abbrev pub each_up_due : Settings → ℕ → List Marked → Bool
each_up_due s u list = exactly_behind (is_up_due s u) (λ e. is_up e.what) (entries list)

abbrev pub each_retirement_due : Settings → List Marked → Bool
each_retirement_due s list = exactly_behind (is_retirement_due s) (λ e. is_retired e.what) (entries list)

abbrev pub each_own_bind_end_due : Settings → ℕ → List Marked → Bool
each_own_bind_end_due s u list = exactly_behind (is_refused_own_bind s u) (is_down_by OwnBind) (entries list)

-- each Expired is due and followed up
abbrev pub each_expired_due : Settings → ℕ → List Marked → Bool
each_expired_due s u list = each_by_state s u (λ p place m behind. is_expired_due s p m behind) list

-- each Missed stands behind Retired or Down, and no Sent does
abbrev pub each_missed_caused : List Marked → Bool
each_missed_caused list = each_entry is_missed_caused (entries list)

-- each Idle has nothing to end
abbrev pub each_idle_caused : Settings → ℕ → List Marked → Bool
each_idle_caused s u list = each_by_state s u (λ p place m behind. is_idle_caused p m) list

-- each bad message takes the connection down, and each Down has its cause
abbrev pub each_bad_told : Settings → ℕ → List Marked → Bool
each_bad_told s u list = each_by_state s u (λ p place m behind. is_bad_told p m behind) list

abbrev pub each_down_caused : Settings → ℕ → List Marked → Bool
each_down_caused s u list = each_by_state s u (λ p place m behind. is_down_caused s p place m) list

-- the list has a connection's entries alone, and is one of a connection's life
abbrev pub lives_as_a_connection : List Marked → Bool
lives_as_a_connection list =
    each_entry (λ place e. is_of_connection e.what && lives_as_connection place e) (entries list)

-- a connection's share: of its identifiers, holders and own messages, of the causes, and of what is promised beside
abbrev pub keeps_connection_share : Settings → ℕ → List Marked → Bool
keeps_connection_share s u list =
    has_right_marks s (Connection u) list && each_id_right s u list && each_passed s u list && each_sent_once s u list
    && each_own_reasoned s u list && each_up_due s u list
    && each_retirement_due s list && each_own_bind_end_due s u list && each_expired_due s u list
    && each_missed_caused list && each_idle_caused s u list
    && each_bad_told s u list && each_down_caused s u list && moments_never_fall list && lives_as_a_connection list

-- The desk.

-- the list has the desk's entries alone, and is one of its life: it is asked once for each operation, and hears each
-- letter once
abbrev pub lives_as_a_desk : List Marked → Bool
lives_as_a_desk list = each_entry (λ place e. is_of_desk e.what && has_place_in_desk place e) (entries list)

-- each choice is the right one
abbrev pub each_choice_right : Settings → List Marked → Bool
each_choice_right s list = each_chosen_rightly s (entries list)

-- the desk's share: of the choices, and of what is promised beside
abbrev pub keeps_desk_share : Settings → List Marked → Bool
keeps_desk_share s list =
    has_right_marks s Desk list && each_choice_right s list && moments_never_fall list && lives_as_a_desk list

-- whether a part's list keeps its share of the promises, where each of its letters was fit
abbrev pub keeps_part_share : Settings → PartName → List Marked → Bool
keeps_part_share s Desk list = keeps_desk_share s list
keeps_part_share s (Client c) list = keeps_client_share s c list
keeps_part_share s (Connection u) list = keeps_connection_share s u list

-- whether it keeps its share up to the first letter that isn't fit
abbrev pub keeps_share : Settings → PartName → List Marked → Bool
keeps_share s p list = keeps_part_share s p (fit_beginning s p list)

-- The shares with a fact in each field.

pub record ClientShare (s : Settings) (c : ℕ) (list : List Marked) : Type 0 where
  pub marks : IsTrue (has_right_marks s (Client c) list)
  pub answered : IsTrue (each_answered c list)
  pub ended_once : IsTrue (each_ended_once c list)
  pub outs_owned : IsTrue (each_out_owned c list)
  pub refusals : IsTrue (each_refusal_caused s c list)
  pub checks : IsTrue (each_check_followed s c list)
  pub busy : IsTrue (each_busy_told c list)
  pub unavailable : IsTrue (each_unavailable_told c list)
  pub gone : IsTrue (each_gone_caused s c list)
  pub late : IsTrue (each_late_caused c list)
  pub stalls : IsTrue (each_stall_caused c list)
  pub moments : IsTrue (moments_never_fall list)
  pub life : IsTrue (lives_as_a_client s c list)
  pub successes_known : IsTrue (each_success_known s c list)

pub record ConnectionShare (s : Settings) (u : ℕ) (list : List Marked) : Type 0 where
  pub marks : IsTrue (has_right_marks s (Connection u) list)
  pub ids_right : IsTrue (each_id_right s u list)
  pub passed : IsTrue (each_passed s u list)
  pub sent_once : IsTrue (each_sent_once s u list)
  pub own_reasoned : IsTrue (each_own_reasoned s u list)
  pub ups : IsTrue (each_up_due s u list)
  pub retirements : IsTrue (each_retirement_due s list)
  pub own_bind_ends : IsTrue (each_own_bind_end_due s u list)
  pub expired : IsTrue (each_expired_due s u list)
  pub missed : IsTrue (each_missed_caused list)
  pub idle : IsTrue (each_idle_caused s u list)
  pub bad_messages : IsTrue (each_bad_told s u list)
  pub downs : IsTrue (each_down_caused s u list)
  pub moments : IsTrue (moments_never_fall list)
  pub life : IsTrue (lives_as_a_connection list)

pub record DeskShare (s : Settings) (list : List Marked) : Type 0 where
  pub marks : IsTrue (has_right_marks s Desk list)
  pub choices : IsTrue (each_choice_right s list)
  pub moments : IsTrue (moments_never_fall list)
  pub life : IsTrue (lives_as_a_desk list)

-- what a part's list keeps of the promises, where each of its letters was fit
abbrev pub PartShare : Settings → PartName → List Marked → Type 0
PartShare s Desk list = DeskShare s list
PartShare s (Client c) list = ClientShare s c list
PartShare s (Connection u) list = ConnectionShare s u list

-- a part's share of the promises, up to the first letter of its list that isn't fit
abbrev pub Share : Settings → PartName → List Marked → Type 0
Share s p list = PartShare s p (fit_beginning s p list)
