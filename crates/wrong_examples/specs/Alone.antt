-- The clauses of the promises, one by one, so that a wrong journal can be refused by one of them alone.
use Rattle.std.specs.Prelude.{Bool, ◌==◌, ◌&&◌, not, List, [], ◌∷◌, ◌++◌, filter, length, take, None}
use Rattle.lload_names.specs.declared.names.Entry.{Entry}
use Rattle.lload_spec.specs.Lists.{each_split}
use Rattle.lload_spec.specs.Settings.{Settings}
use Rattle.lload_spec.specs.Journal.{Family, family}
use Rattle.lload_spec.specs.Fifo.{each_sent_once, each_answered, each_unanswered, each_ended_once, each_out_owned, each_sent_chosen, has_outs_and_sents_in_place}
use Rattle.lload_spec.specs.Right.{is_answered, is_right_choice, is_right_plan}
use Rattle.lload_spec.specs.Identifiers.{each_id_right}
use Rattle.lload_spec.specs.OneEach.{each_holder_alone, each_own_reasoned}
use Rattle.lload_spec.specs.Caused.{each_refusal_caused, each_check_followed, each_busy_told, each_unavailable_told, each_gone_caused, each_late_caused, each_stall_caused, moments_never_fall, each_entry_placed}
use Rattle.lload_spec.specs.CausedUp.{each_up_due, each_retirement_due, each_own_bind_end_due, each_expired_due, each_missed_caused, each_bad_told, each_down_caused, each_bind_expiry_told}
use Rattle.lload_spec.specs.Settled.{each_dealt_with, each_told_all, each_told_upstream, each_state_heard, each_end_heard, each_return_heard, each_pause_settled, each_leave_told}
use Rattle.lload_spec.specs.Identity.{each_sent_identified}
use Rattle.lload_spec.specs.Binding.{each_asked_rightly}
use Rattle.lload_names.specs.declared.names.What.TheVariants.{In, Chosen, Out, Late, Sent, Own, Missed, Asked, Chose, Heard, Replanned, Arrived, Retired}
use Rattle.lload_names.specs.declared.names.Answer.TheVariants.{Go, Busy, Unavailable}
use Rattle.lload_names.specs.declared.names.Letter.TheVariants.{Ended}
use Rattle.spec_examples.specs.Entries.{client, up, desk, op, bind, regular}
use Rattle.spec_examples.specs.Octets.{delete_body, delete_busy, delete_done, sasl_first, who_am_i_body}
use Rattle.spec_examples.specs.Binds.{within_exchange}
use Rattle.spec_examples.specs.Connections.{bind_timed_out}
use Rattle.spec_examples.specs.Deletes.{delete_answered}
use Rattle.spec_examples.specs.Reloads.{not_ready_yet}
use Rattle.spec_examples.specs.Stalls.{stalled_and_gone}
use Rattle.wrong_examples.specs.Beside.{clauses}

-- each Asked has its Chose directly behind it, each Chose is right, and each plan is the next one
abbrev pub each_answered_there : Family → Bool
each_answered_there F = each_split (λ place e behind. is_answered e behind) F.desk

abbrev pub each_choice_right : Settings → Family → Bool
each_choice_right s F = each_split (λ place e behind. is_right_choice s place e) F.desk

abbrev pub each_plan_right : Settings → Family → Bool
each_plan_right s F = each_split (λ place e behind. is_right_plan s place e) F.desk

-- the clauses of each promise
abbrev pub fifo_clauses : Family → List Bool
fifo_clauses F =
    each_sent_once F ∷ each_answered F ∷ each_unanswered F ∷ each_ended_once F ∷ each_out_owned F ∷ each_sent_chosen F
    ∷ has_outs_and_sents_in_place F ∷ []

abbrev pub right_clauses : Settings → Family → List Bool
right_clauses s F = each_answered_there F ∷ each_choice_right s F ∷ each_plan_right s F ∷ []

abbrev pub one_each_clauses : Settings → Family → List Bool
one_each_clauses s F = each_id_right s F ∷ each_holder_alone s F ∷ each_own_reasoned s F ∷ []

abbrev pub caused_clauses : Settings → Family → List Bool
caused_clauses s F =
    each_refusal_caused s F ∷ each_check_followed s F ∷ each_busy_told F ∷ each_unavailable_told F ∷ each_gone_caused s F
    ∷ each_late_caused F ∷ each_up_due s F ∷ each_retirement_due s F ∷ each_own_bind_end_due s F ∷ each_expired_due s F
    ∷ each_missed_caused F ∷ each_bad_told s F ∷ each_down_caused s F ∷ each_stall_caused F ∷ moments_never_fall F
    ∷ each_bind_expiry_told F ∷ each_entry_placed F ∷ []

abbrev pub settled_clauses : Settings → Family → List Bool
settled_clauses s F =
    each_dealt_with F ∷ each_told_all s F ∷ each_told_upstream s F ∷ each_state_heard s F ∷ each_end_heard s F
    ∷ each_return_heard F ∷ each_pause_settled s F ∷ each_leave_told s F ∷ []

-- the clauses of the six promises, with those of what is promised beside them, and with those of rest
abbrev pub good_clauses : Settings → Family → List Bool
good_clauses s F =
    fifo_clauses F ++ each_sent_identified s F ∷ each_asked_rightly s F ∷ right_clauses s F ++ one_each_clauses s F
    ++ caused_clauses s F

abbrev pub all_clauses : Settings → Family → List Bool
all_clauses s F = good_clauses s F ++ clauses s F

abbrev pub resting_clauses : Settings → Family → List Bool
resting_clauses s F = all_clauses s F ++ settled_clauses s F

-- whether this clause refuses a journal, and of these clauses it alone
abbrev pub refuses_alone : (Family → Bool) → (Family → List Bool) → List Entry → Bool
refuses_alone clause all journal =
    not (clause (family journal)) && length (filter not (all (family journal))) == 1

-- a Delete is sent a second time, before its answer
abbrev pub sent_again : List Entry
sent_again = take 9 delete_answered ++ up 1 (Sent 2 (op 1 1) delete_body) ∷ []

-- a bind connection is given back between the steps of an exchange, and another client's Bind is sent there under the
-- freed identifier
abbrev pub exchange_given_back : List Entry
exchange_given_back =
    take 15 within_exchange
    ++ desk (Heard (Ended (op 1 1) 2 None))
    ∷ client 2 (In 1 sasl_first)
    ∷ desk (Asked (op 2 1) bind)
    ∷ desk (Chose (op 2 1) (Go 2 1) 0)
    ∷ client 2 (Chosen (op 2 1) (Go 2 1))
    ∷ up 2 (Sent 1 (op 2 1) sasl_first)
    ∷ []

-- a request is missed though its connection is up
abbrev pub missed_needlessly : List Entry
missed_needlessly = take 8 delete_answered ++ up 1 (Missed (op 1 1)) ∷ []

-- a Delete is answered that was not sent
abbrev pub unsent_answered : List Entry
unsent_answered = take 8 delete_answered ++ client 1 (Out 5 delete_done) ∷ []

-- a Who Am I is sent for no Bind
abbrev pub asked_for_nobody : List Entry
asked_for_nobody = delete_answered ++ up 1 (Own 2 who_am_i_body) ∷ []

-- a Delete is refused as busy behind its choice
abbrev pub busy_behind_choice : List Entry
busy_behind_choice = take 9 delete_answered ++ client 1 (Out 5 delete_busy) ∷ []

-- an answer comes too late though its Delete is live
abbrev pub late_and_live : List Entry
late_and_live = take 11 delete_answered ++ client 1 (Late (op 1 1)) ∷ []

-- the desk is asked, and does not choose
abbrev pub asked_alone : List Entry
asked_alone = take 6 delete_answered

-- the desk chooses none though one is eligible
abbrev pub none_chosen : List Entry
none_chosen = take 6 delete_answered ++ desk (Chose (op 1 1) Busy 0) ∷ []

-- the desk takes a plan with another base
abbrev pub base_changed : List Entry
base_changed = take 4 not_ready_yet ++ desk (Replanned 2 0) ∷ []

-- a Delete wants a bind connection, and there is none
abbrev pub bind_wanted : List Entry
bind_wanted =
    take 5 delete_answered ++ desk (Asked (op 1 1) bind) ∷ desk (Chose (op 1 1) Unavailable 0) ∷ []

-- a connection is not read again behind the end of the client that paused it
abbrev pub never_read_again : List Entry
never_read_again = take 14 stalled_and_gone

-- an entry of the desk stands in a client's list, one of a client in a connection's, one of a connection in the desk's
abbrev pub asked_at_client : List Entry
asked_at_client = delete_answered ++ client 1 (Asked (op 1 2) regular) ∷ []

abbrev pub arrived_at_connection : List Entry
arrived_at_connection = delete_answered ++ up 1 Arrived ∷ []

abbrev pub retired_at_desk : List Entry
retired_at_desk = delete_answered ++ desk Retired ∷ []

-- a Bind expires, and its connection stays
abbrev pub expired_and_left : List Entry
expired_and_left = take 13 bind_timed_out
