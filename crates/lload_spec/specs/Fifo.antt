-- Each client gets a prefix of one upstream's answers, or that and one refusal.
use Rattle.std.specs.Prelude.{ℕ, Bool, true, false, ◌==◌, ◌&&◌, ◌||◌, not, nat_le, List, [], ◌∷◌, ◌++◌, length, map, Some, None, IsTrue, is_none}
use Rattle.std.specs.List.{list_any, list_all}
use Rattle.std.specs.Str.{bytes_eq}
use Rattle.ldap_spec.specs.Tags.{bind_in_progress}
use Rattle.ldap_spec.specs.Messages.{Message}
use Rattle.ldap_spec.specs.Kinds.{kind_of, same_kind}
use Rattle.ldap_spec.specs.Responses.{has_code}
use Rattle.ldap_spec.specs.Bodies.{refusal, cancel_answer}
use Rattle.ldap_spec.specs.Requests.{is_cancel}
use Rattle.lload_names.specs.declared.names.Entry.{Entry}
use Rattle.lload_names.specs.declared.names.OpKind.{OpKind}
use Rattle.lload_names.specs.declared.names.OpKind.TheVariants.{Bind}
use Rattle.lload_names.specs.declared.names.Refusal.{Refusal}
use Rattle.lload_names.specs.declared.names.Refusal.TheVariants.{C1, C2, C3, C4, C5, C6, C7, C8, C9, C10, C11}
use Rattle.lload_names.specs.declared.names.CancelAnswer.{CancelAnswer}
use Rattle.lload_names.specs.declared.names.CancelAnswer.TheVariants.{S1, C13, C14, C15, C16}
use Rattle.lload_spec.specs.Lists.{passes, last_passes, first_passes, each_entry, each_split, some_entry, is_prefix, implies}
use Rattle.lload_spec.specs.Journal.{Family}
use Rattle.lload_spec.specs.Entries.{out_message, sent_message, is_notice, is_gone, is_choice_of}
use Rattle.lload_spec.specs.Operations.{Operation, operations, operation, all_operations, is_of, is_out_for, outs, ending_from, is_live_at, last_bind, got_final, is_final_to}
use Rattle.lload_spec.specs.Answers.{Sending, sendings_of, all_sendings, answers, answers_to}

-- the refusals
abbrev pub refusals : List Refusal
refusals = C1 ∷ C2 ∷ C3 ∷ C4 ∷ C5 ∷ C6 ∷ C7 ∷ C8 ∷ C9 ∷ C10 ∷ C11 ∷ []

-- the answers that a Cancel alone gets
abbrev pub cancel_answers : List CancelAnswer
cancel_answers = S1 ∷ C14 ∷ C15 ∷ C16 ∷ []

-- what the proxy may answer of its own to a request of a kind with this rest: the refusals; that it was canceled, but
-- to a Bind; and to a Cancel the answers that it alone gets
abbrev pub own_answers_of : OpKind → List ℕ → List (List ℕ)
own_answers_of kind rest =
    map (refusal kind) refusals ++ ((elim (same_kind Bind kind) [ true ↦ [] | false ↦ cancel_answer kind C13 ∷ [] ])
    ++ (elim (is_cancel rest) [ true ↦ map (cancel_answer kind) cancel_answers | false ↦ [] ]))

abbrev pub own_answers : List ℕ → List (List ℕ)
own_answers rest = elim (kind_of rest) [ None ↦ [] | Some kind ↦ own_answers_of kind rest ]

-- whether a rest is one of them
abbrev pub is_own_answer : List ℕ → List ℕ → Bool
is_own_answer request rest = list_any (bytes_eq rest) (own_answers request)

-- whether these Outs are such a beginning of the answers without a final message, and then one answer of the proxy's
-- own
abbrev pub is_prefix_and_own : List ℕ → List (List ℕ) → List (List ℕ) → Bool
is_prefix_and_own _ answers [] = false
is_prefix_and_own request answers (r ∷ []) = is_own_answer request r
is_prefix_and_own _ [] (r ∷ q ∷ rs) = false
is_prefix_and_own request (a ∷ as') (r ∷ q ∷ rs) =
    bytes_eq r a && not (is_final_to request a) && is_prefix_and_own request as' (q ∷ rs)

-- whether the client may get these Outs for a request with this rest to which these are the answers: a prefix of them,
-- or such a prefix without a final message and then one answer of the proxy's own
abbrev pub allowed : List ℕ → List (List ℕ) → List (List ℕ) → Bool
allowed request answers outs = is_prefix outs answers || is_prefix_and_own request answers outs

-- whether Outs end with an answer of the proxy's own, and aren't themselves a prefix of the answers
abbrev pub end_with_own : List (List ℕ) → List (List ℕ) → List ℕ → Bool
end_with_own answers outs own = last_passes (bytes_eq own) outs && not (is_prefix outs answers)

-- whether Outs, for an operation to which these are the answers, end with this refusal of its request
abbrev pub is_refused_by_outs : List (List ℕ) → Refusal → Operation → Bool
is_refused_by_outs answers which o =
    passes (λ kind. end_with_own answers (outs o) (refusal kind which)) (kind_of o.request.rest)

-- or with this answer to a Cancel, where its request may get it
abbrev pub is_canceled_by_outs : List (List ℕ) → CancelAnswer → Operation → Bool
is_canceled_by_outs answers which o =
    passes
    (λ kind.
    is_own_answer o.request.rest (cancel_answer kind which)
    && end_with_own answers (outs o) (cancel_answer kind which))
    (kind_of o.request.rest)

-- whether the operation is refused so, by its one upstream's answers
abbrev pub is_refused_with : Family → Refusal → Operation → Bool
is_refused_with F which o = is_refused_by_outs (answers_to F o) which o

-- whether the client got an answer of the proxy's own for the operation
abbrev pub is_told_own : Family → Operation → Bool
is_told_own F o = list_any (end_with_own (answers_to F o) (outs o)) (own_answers o.request.rest)

-- at most one Sent of the operation stands in all lists
abbrev pub is_sent_once : Family → Operation → Bool
is_sent_once F o = nat_le (length (sendings_of F o.name)) 1

-- where the operation was Sent, its Outs are allowed by the answers there
abbrev pub is_answered_by : Family → Sending → Bool
is_answered_by F sent = passes (λ o. allowed o.request.rest (answers o sent) (outs o)) (operation F sent.op)

-- where the operation was not Sent, its Outs are allowed by no answers: none, or one refusal
abbrev pub is_unanswered : Family → Operation → Bool
is_unanswered F o = implies (length (sendings_of F o.name) == 0) (allowed o.request.rest [] (outs o))

-- whether an entry, where it is an Out for the operation with this request, stands before that operation's end
abbrev pub is_out_before_end : Message → List Entry → Entry → Bool
is_out_before_end request since e = implies (is_out_for request since e) (is_none (ending_from request [] since))

-- no Out of the operation stands behind its end
abbrev pub is_ended_once : Operation → Bool
is_ended_once o = each_entry (is_out_before_end o.request) o.behind

-- whether an entry is one of a client alone, as an Out is, or of a connection alone, as a Sent is
abbrev pub is_out_entry : Entry → Bool
is_out_entry e = passes (λ _. true) (out_message e.what)

abbrev pub is_sent_entry : Entry → Bool
is_sent_entry e = passes (λ _. true) (sent_message e.what)

-- whether an entry is an Out of one of the operations at this place
abbrev pub is_out_of_some : ℕ → List Entry → Entry → Bool
is_out_of_some c place e = list_any (λ o. is_out_for o.request o.behind e) (operations c place)

-- whether an Out is of an operation, or is the protocol error notice with Gone directly behind it
abbrev pub is_owned : ℕ → List Entry → Entry → List Entry → Bool
is_owned c place e behind = is_out_of_some c place e || is_notice e && first_passes is_gone behind

-- each Out is so, and none stands behind Gone
abbrev pub has_own_outs : Family → ℕ → Bool
has_own_outs F c =
    each_split
    (λ place e behind. implies (is_out_entry e) (is_owned c place e behind && not (list_any is_gone place)))
    (F.client c)

-- whether the client learned the choice of this connection for the operation while it was live
abbrev pub is_chosen_for : Family → Operation → ℕ → Bool
is_chosen_for F o u =
    some_entry (λ place e. is_choice_of o.name u e && is_live_at o.name.client place o.name) (F.client o.name.client)

-- whether an operation was Sent at this connection
abbrev pub is_sent_at : Family → ℕ → Operation → Bool
is_sent_at F u o = list_any (λ s. s.connection == u) (sendings_of F o.name)

-- whether a Bind was answered to its client with saslBindInProgress (RFC 4511, 4.2.1 and appendix A)
abbrev pub is_in_progress : Operation → Bool
is_in_progress b = got_final (has_code bind_in_progress) b

-- whether the operation is a Bind that goes on with the exchange that the Bind before it began at this connection
abbrev pub is_pinned_to : Family → Operation → ℕ → Bool
is_pinned_to F o u =
    is_of Bind o && passes (λ b. is_in_progress b && is_sent_at F u b) (last_bind o.name.client o.before)

-- a Sent needs the choice of its connection while the operation was live; or it goes on with an exchange there
abbrev pub has_choice : Family → Sending → Bool
has_choice F sent =
    passes (λ o. is_chosen_for F o sent.connection || is_pinned_to F o sent.connection) (operation F sent.op)

-- Outs stand in clients' lists alone, and Sent entries in connections' lists alone
abbrev pub has_outs_and_sents_in_place : Family → Bool
has_outs_and_sents_in_place F =
    not (list_any (λ e. is_out_entry e || is_sent_entry e) F.desk)
    && not (list_any (λ c. list_any is_sent_entry (F.client c)) F.clients)
    && not (list_any (λ u. list_any is_out_entry (F.connection u)) F.connections)

-- at most one Sent of each operation stands in all lists
abbrev pub each_sent_once : Family → Bool
each_sent_once F = list_all (is_sent_once F) (all_operations F)

-- where an operation was Sent, what its client got is allowed by the answers there
abbrev pub each_answered : Family → Bool
each_answered F = list_all (is_answered_by F) (all_sendings F)

-- where an operation was not Sent, its client got nothing or one refusal
abbrev pub each_unanswered : Family → Bool
each_unanswered F = list_all (is_unanswered F) (all_operations F)

-- no client gets anything for an operation behind its end
abbrev pub each_ended_once : Family → Bool
each_ended_once F = list_all is_ended_once (all_operations F)

-- each Out is of an operation or the notice with Gone behind it, and none stands behind Gone
abbrev pub each_out_owned : Family → Bool
each_out_owned F = list_all (has_own_outs F) F.clients

-- each Sent has its choice
abbrev pub each_sent_chosen : Family → Bool
each_sent_chosen F = list_all (has_choice F) (all_sendings F)

-- whether each client gets a prefix of one upstream's answers, or that and one refusal
abbrev pub keeps_fifo : Family → Bool
keeps_fifo F =
    each_sent_once F && each_answered F && each_unanswered F && each_ended_once F && each_out_owned F
    && each_sent_chosen F && has_outs_and_sents_in_place F

-- each client gets a prefix of one upstream's answers, or that and one refusal, and nothing behind the end
pub record Fifo (F : Family) : Type 0 where
  pub sent_once : IsTrue (each_sent_once F)
  pub answered : IsTrue (each_answered F)
  pub unanswered : IsTrue (each_unanswered F)
  pub ended_once : IsTrue (each_ended_once F)
  pub outs_owned : IsTrue (each_out_owned F)
  pub sent_chosen : IsTrue (each_sent_chosen F)
  pub in_place : IsTrue (has_outs_and_sents_in_place F)
