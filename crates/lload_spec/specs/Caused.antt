-- Every refusal and every change of state has its cause.
use Rattle.std.specs.Prelude.{ℕ, Bool, true, false, ◌==◌, ◌&&◌, ◌||◌, not, nat_le, List, [], ◌∷◌, length, Option, Some, None}
use Rattle.std.specs.List.{list_any, list_all}
use Rattle.ldap_spec.specs.Tags.{extended_response}
use Rattle.ldap_spec.specs.Messages.{Message}
use Rattle.ldap_spec.specs.Kinds.{kind_of, is_unbind, tag_of}
use Rattle.ldap_spec.specs.Responses.{tells_who}
use Rattle.ldap_spec.specs.Bodies.{refusal, cancel_answer}
use Rattle.lload_names.specs.declared.names.Entry.{Entry}
use Rattle.lload_names.specs.declared.names.OpKind.{OpKind}
use Rattle.lload_names.specs.declared.names.Answer.{Answer}
use Rattle.lload_names.specs.declared.names.Answer.TheVariants.{Busy, Unavailable}
use Rattle.lload_names.specs.declared.names.EndWhy.{EndWhy}
use Rattle.lload_names.specs.declared.names.EndWhy.TheVariants.{Left, ZeroId, IdInUse, Unreadable}
use Rattle.lload_names.specs.declared.names.Refusal.{Refusal}
use Rattle.lload_names.specs.declared.names.Refusal.TheVariants.{C1, C3, C4, C5, C9}
use Rattle.lload_names.specs.declared.names.CancelAnswer.{CancelAnswer}
use Rattle.lload_names.specs.declared.names.CancelAnswer.TheVariants.{S1, C13}
use Rattle.lload_names.specs.declared.names.What.{What}
use Rattle.lload_names.specs.declared.names.What.TheVariants.{Stalled, Flowing}
pub use Rattle.lload_names.specs.Same.{refusal_number, same_refusal, same_cancel_answer}
use Rattle.lload_spec.specs.Lists.{passes, last, first_passes, last_passes, each_split, each_entry, some_split, some_entry, implies, where_there}
use Rattle.lload_spec.specs.Settings.{Settings}
use Rattle.lload_spec.specs.Journal.{Family, same_op, same_answer}
use Rattle.lload_spec.specs.Entries.{in_message, is_arrived, is_gone, chosen, late_op, gone_why, is_gone_by, is_down, same_why, is_link_reason, is_out, is_notice, is_expired, is_missed, is_of_client, is_of_desk, is_of_connection}
use Rattle.lload_spec.specs.Operations.{Operation, operations, all_operations, outs, is_live_at}
use Rattle.lload_spec.specs.Answers.{sendings, answers_to, closing, is_open}
use Rattle.lload_spec.specs.FirstCheck.{Check, Ends, Unbinds, Abandons, Refuses, Answers, Cancels, GoesOn, first_check}
use Rattle.lload_spec.specs.Fifo.{refusals, cancel_answers, is_refused_with, is_canceled_by_outs, is_chosen_for, is_pinned_to}
use Rattle.lload_spec.specs.Pauses.{pausing_at}

-- whether an entry is the refusal of a request of this identifier and kind
abbrev pub is_refusal_of : Refusal → ℕ → Option OpKind → Entry → Bool
is_refusal_of which id None e = false
is_refusal_of which id (Some kind) e = is_out id (refusal kind which) e

-- whether the entries begin with the notice and the end of the client for this reason
abbrev pub begin_with_notice : EndWhy → List Entry → Bool
begin_with_notice why [] = false
begin_with_notice why (e ∷ es) = is_notice e && first_passes (is_gone_by why) es

-- whether an entry answers a Cancel so to a request of this identifier and kind
abbrev pub is_cancel_answer_of : CancelAnswer → ℕ → Option OpKind → Entry → Bool
is_cancel_answer_of which id None e = false
is_cancel_answer_of which id (Some kind) e = is_out id (cancel_answer kind which) e

-- whether the entries begin with the end of the live operation of this identifier and kind, and the success of the
-- Cancel with this message
abbrev pub begin_with_cancel : Message → ℕ → OpKind → List Entry → Bool
begin_with_cancel m id which [] = false
begin_with_cancel m id which (e ∷ es) =
    is_cancel_answer_of C13 id (Some which) e && first_passes (is_cancel_answer_of S1 m.id (kind_of m.rest)) es

-- what a check that holds of a message wants directly behind its In
abbrev pub is_followed_up : Message → List Entry → Check → Bool
is_followed_up m behind (Ends why) = begin_with_notice why behind
is_followed_up m behind Unbinds = first_passes (is_gone_by Left) behind
is_followed_up m behind (Refuses which) = first_passes (is_refusal_of which m.id (kind_of m.rest)) behind
is_followed_up m behind (Answers which) = first_passes (is_cancel_answer_of which m.id (kind_of m.rest)) behind
is_followed_up m behind (Cancels id its_kind) = begin_with_cancel m id its_kind behind
is_followed_up m behind (Abandons id) = true
is_followed_up m behind GoesOn = true

-- each In has directly behind it what its first check wants: a refusal, the answers to a Cancel, the notice and the
-- end, or the end
abbrev pub is_checked : Settings → Family → ℕ → List Entry → Entry → List Entry → Bool
is_checked s F c place e behind =
    where_there (λ m. is_followed_up m behind (first_check s F c place m)) (in_message e.what)

-- whether a check refuses so, or answers a Cancel so
abbrev pub refuses_with : Refusal → Check → Bool
refuses_with which (Refuses other) = same_refusal which other
refuses_with which _ = false

abbrev pub answers_with : CancelAnswer → Check → Bool
answers_with S1 (Cancels id its_kind) = true
answers_with which (Answers other) = same_cancel_answer which other
answers_with which _ = false

-- the check at the In of an operation
abbrev pub check_of : Settings → Family → Operation → Check
check_of s F o = first_check s F o.name.client o.before o.request

-- whether the operation's only Out stands where the check at its In wants it, where that check is this
abbrev pub is_checked_so : Check → (Check → Bool) → Operation → Bool
is_checked_so found test o = length (outs o) == 1 && is_followed_up o.request o.behind found && test found

-- whether an entry marks this answer for an operation that is live
abbrev pub is_live_choice : Answer → Operation → List Entry → Entry → Bool
is_live_choice answer o place e =
    passes (λ c. same_op o.name c.op && same_answer answer c.value) (chosen e.what)
    && is_live_at o.name.client place o.name

-- each Busy for a live operation has its refusal directly behind it, and each Unavailable
abbrev pub is_choice_told : ℕ → Answer → Refusal → List Entry → Entry → List Entry → Bool
is_choice_told c answer which place e behind =
    list_all
    (λ o.
    implies (is_live_choice answer o place e)
    (first_passes (is_refusal_of which o.request.id (kind_of o.request.rest)) behind))
    (operations c place)

-- whether the operation was refused directly behind such an answer
abbrev pub is_refused_by_choice : Family → Answer → Refusal → Operation → Bool
is_refused_by_choice F answer which o =
    some_split
    (λ place e behind.
    is_live_choice answer o place e && first_passes (is_refusal_of which o.request.id (kind_of o.request.rest)) behind)
    (F.client o.name.client)

-- whether the operation was forwarded to this connection: by a choice, or by an exchange that goes on
abbrev pub is_forwarded_to : Family → Operation → ℕ → Bool
is_forwarded_to F o u = is_chosen_for F o u || is_pinned_to F o u

-- whether an entry ends a connection where the operation was open
abbrev pub is_lost_by : Settings → Operation → ℕ → List Entry → Entry → Bool
is_lost_by s o u place e = is_down e && list_any (λ sent. same_op o.name sent.op && is_open s o sent) (sendings u place)

-- whether a connection lost the operation: it missed the Forward, or went down where the operation was open
abbrev pub is_lost_at : Settings → Family → Operation → ℕ → Bool
is_lost_at s F o u =
    is_forwarded_to F o u && some_entry (λ place e. is_missed o.name e || is_lost_by s o u place e) (F.connection u)

-- whether the operation expired at a connection that it was forwarded to
abbrev pub is_expired_at : Family → Operation → ℕ → Bool
is_expired_at F o u = is_forwarded_to F o u && list_any (is_expired o.name) (F.connection u)

-- whether an answer to Who Am I tells no identity: an extended response that isn't a success with a readable value
abbrev pub tells_no_identity : List ℕ → Bool
tells_no_identity answer = tag_of answer == extended_response && not (tells_who answer)

-- what came of an operation at its connection: whether it was lost, expired, or was asked in vain for its identity
pub record Troubles : Type 0 where
  pub lost : Bool
  pub expired : Bool
  pub unknown : Bool

-- whether a refusal has its cause: a choice, what came of the operation at its connection, or the check at its In
abbrev pub is_cause : Family → Troubles → Check → Operation → Refusal → Bool
is_cause F came found o C1 = is_refused_by_choice F Busy C1 o
is_cause F came found o C3 = is_refused_by_choice F Unavailable C3 o
is_cause F came found o C4 = came.lost
is_cause F came found o C5 = came.expired
is_cause F came found o C9 = came.unknown
is_cause F came found o which = is_checked_so found (refuses_with which) o

-- what came of an operation by the lists of all parts
abbrev pub troubles : Settings → Family → Operation → Troubles
troubles s F o =
    record {
      lost = list_any (is_lost_at s F o) F.connections;
      expired = list_any (is_expired_at F o) F.connections;
      unknown = passes tells_no_identity (closing s F o);
    }

-- the cause of a refusal
abbrev pub has_cause : Settings → Family → Operation → Refusal → Bool
has_cause s F o which = is_cause F (troubles s F o) (check_of s F o) o which

-- whether a check is of a Cancel that ends the live operation with this identifier
abbrev pub cancels_id : ℕ → Check → Bool
cancels_id id (Cancels named its_kind) = named == id
cancels_id id _ = false

-- whether the operation is told that it is canceled directly behind the In of a Cancel that ends it, by these checks at
-- a place
abbrev pub is_canceled_by : (List Entry → Message → Check) → Operation → List Entry → Entry → List Entry → Bool
is_canceled_by found o place e behind =
    elim (in_message e.what) [
      | None ↦ false
      | Some m ↦
          elim
          (is_live_at o.name.client place o.name
          && first_passes (is_cancel_answer_of C13 o.request.id (kind_of o.request.rest)) behind) [
            | true ↦ cancels_id o.request.id (found place m)
            | false ↦ false
          ]
    ]

-- the cause of an answer to a Cancel
abbrev pub has_cancel_cause : Settings → Family → Operation → CancelAnswer → Bool
has_cancel_cause s F o C13 = some_split (is_canceled_by (first_check s F o.name.client) o) (F.client o.name.client)
has_cancel_cause s F o which = is_checked_so (check_of s F o) (answers_with which) o

-- whether the operation got this answer to a Cancel, by its one upstream's answers
abbrev pub is_canceled_with : Family → CancelAnswer → Operation → Bool
is_canceled_with F which o = is_canceled_by_outs (answers_to F o) which o

-- whether each refusal that an operation got has its cause, and each answer to a Cancel
abbrev pub have_causes : (Refusal → Bool) → (Refusal → Bool) → (CancelAnswer → Bool) → (CancelAnswer → Bool) → Bool
have_causes refused cause canceled cancel_cause =
    list_all (λ which. implies (refused which) (cause which)) refusals
    && list_all (λ which. implies (canceled which) (cancel_cause which)) (C13 ∷ cancel_answers)

-- each operation that got an answer of the proxy's own has its cause
abbrev pub has_causes : Settings → Family → Operation → Bool
has_causes s F o =
    have_causes (λ which. is_refused_with F which o) (has_cause s F o) (λ which. is_canceled_with F which o)
    (has_cancel_cause s F o)

-- whether a check ends the client so
abbrev pub ends_for : EndWhy → Check → Bool
ends_for why (Ends other) = same_why why other
ends_for why _ = false

-- whether the last entry is the notice behind an In that the check at its place ends for this reason
abbrev pub is_ended_by_check : (List Entry → Message → Check) → List Entry → EndWhy → Bool
is_ended_by_check found list why =
    some_split
    (λ place e behind.
    passes (λ m. ends_for why (found place m)) (in_message e.what)
    && (length behind == 1 && first_passes is_notice behind))
    list

-- whether the last entry is the In of an Unbind whose identifier isn't 0
abbrev pub is_unbound : List Entry → Bool
is_unbound place = last_passes (λ e. passes (λ m. not (m.id == 0) && is_unbind m.rest) (in_message e.what)) place

-- whether a client may end so at a place, by what its check ends it for: for that, for its Unbind, or by an event of its
-- link
abbrev pub is_gone_cause : (EndWhy → Bool) → List Entry → EndWhy → Bool
is_gone_cause ends place ZeroId = ends ZeroId
is_gone_cause ends place IdInUse = ends IdInUse
is_gone_cause ends place Unreadable = ends Unreadable
is_gone_cause ends place Left = is_unbound place
is_gone_cause ends place why = is_link_reason why

-- the cause of a client's end
abbrev pub has_gone_cause : Settings → Family → ℕ → List Entry → EndWhy → Bool
has_gone_cause s F c place why = is_gone_cause (is_ended_by_check (first_check s F c) place) place why

-- each Gone has its cause
abbrev pub is_gone_caused : Settings → Family → ℕ → List Entry → Entry → Bool
is_gone_caused s F c place e = where_there (λ why. has_gone_cause s F c place why) (gone_why e.what)

-- each Late is of an operation that isn't live
abbrev pub is_late_caused : ℕ → List Entry → Entry → Bool
is_late_caused c place e = where_there (λ op. not (is_live_at c place op)) (late_op e.what)

-- whether a client is there at a place: it has arrived and isn't gone
abbrev pub is_there : List Entry → Bool
is_there place = list_any (λ e. is_arrived e.what) place && not (list_any is_gone place)

-- each Stalled is of a client that is there and isn't stalled, and each Flowing of one that is there and stalled
abbrev pub is_stall_caused : ℕ → List Entry → Entry → Bool
is_stall_caused c place e = caused e.what
  where
    caused : What → Bool
    caused Stalled = is_there place && not (pausing_at c place).stalled
    caused Flowing = is_there place && (pausing_at c place).stalled
    caused _ = true

-- the moment never falls within one list
abbrev pub is_later : List Entry → Entry → Bool
is_later place e = where_there (λ before. nat_le before.at e.at) (last place)

-- each refused operation has the refusal's cause
abbrev pub each_refusal_caused : Settings → Family → Bool
each_refusal_caused s F = list_all (has_causes s F) (all_operations F)

-- each In has directly behind it what its first check wants
abbrev pub each_check_followed : Settings → Family → Bool
each_check_followed s F = list_all (λ c. each_split (is_checked s F c) (F.client c)) F.clients

-- each Busy for a live operation is told directly behind it
abbrev pub each_busy_told : Family → Bool
each_busy_told F = list_all (λ c. each_split (is_choice_told c Busy C1) (F.client c)) F.clients

-- each Unavailable for a live operation is told directly behind it
abbrev pub each_unavailable_told : Family → Bool
each_unavailable_told F = list_all (λ c. each_split (is_choice_told c Unavailable C3) (F.client c)) F.clients

-- each Gone has its cause
abbrev pub each_gone_caused : Settings → Family → Bool
each_gone_caused s F = list_all (λ c. each_entry (is_gone_caused s F c) (F.client c)) F.clients

-- each Late is of an operation that isn't live
abbrev pub each_late_caused : Family → Bool
each_late_caused F = list_all (λ c. each_entry (is_late_caused c) (F.client c)) F.clients

-- each Stalled and each Flowing has its cause
abbrev pub each_stall_caused : Family → Bool
each_stall_caused F = list_all (λ c. each_entry (is_stall_caused c) (F.client c)) F.clients

-- each entry stands in the list of a part of its sort
abbrev pub each_entry_placed : Family → Bool
each_entry_placed F =
    list_all (λ e. is_of_desk e.what) F.desk
    && list_all (λ c. list_all (λ e. is_of_client e.what) (F.client c)) F.clients
    && list_all (λ u. list_all (λ e. is_of_connection e.what) (F.connection u)) F.connections

-- within each list the moment never falls
abbrev pub moments_never_fall : Family → Bool
moments_never_fall F =
    each_entry is_later F.desk && list_all (λ c. each_entry is_later (F.client c)) F.clients
    && list_all (λ u. each_entry is_later (F.connection u)) F.connections
