-- Wrong journals of identifiers that are used again, of clients that don't read, of Cancels and of other plans, each made
-- from a worked one by a small change.
use Rattle.std.specs.Prelude.{List, slice_set, remove, insert, take, [], ◌∷◌, ◌++◌}
use Rattle.lload_names.specs.declared.names.Entry.{Entry}
use Rattle.lload_names.specs.declared.names.What.TheVariants.{Out, Sent, Own, Got, Chose, Stalled, Paused, Replanned, Asked}
use Rattle.lload_names.specs.declared.names.Answer.TheVariants.{Go, Busy}
use Rattle.spec_examples.specs.Entries.{client, up, desk, op, regular}
use Rattle.spec_examples.specs.Octets.{cancel_done, delete_body, delete_done, no_such_operation, search_body, search_entry, who_am_i_body, sasl_first}
use Rattle.spec_examples.specs.Binds.{sasl_exchange, chosen_behind_loss}
use Rattle.spec_examples.specs.Cancels.{search_ended, none_named, bind_answered_named, canceled_by_upstream}
use Rattle.spec_examples.specs.Reloads.{taken_while_running, not_ready_yet, written_before, restricted_before, picked_anew}
use Rattle.spec_examples.specs.Reuses.{freed_identifier, freed_first, abandoned_not_freed, binds_again}
use Rattle.spec_examples.specs.Stalls.{stalled_and_flowing, stalled_and_gone, forwarded_while_stalled, two_stalled, paused_behind_loss}

-- a freed identifier is passed over
abbrev pub freed_passed_over : List Entry
freed_passed_over = slice_set freed_identifier 16 (up 1 (Sent 2 (op 1 2) delete_body))

-- the identifier that was freed last is used first
abbrev pub later_freed_first : List Entry
later_freed_first = slice_set freed_first 24 (up 1 (Sent 1 (op 1 3) search_body))

-- the identifier of an operation that was abandoned is used again
abbrev pub abandoned_again : List Entry
abandoned_again = slice_set abandoned_not_freed 16 (up 1 (Sent 1 (op 1 2) delete_body))

-- the identifier of an own message is used again
abbrev pub own_again : List Entry
own_again = slice_set abandoned_not_freed 25 (up 1 (Sent 2 (op 1 3) delete_body))

-- an own message takes a freed identifier
abbrev pub own_freed : List Entry
own_freed = slice_set sasl_exchange 17 (up 2 (Own 1 who_am_i_body))

-- a message is taken while the connection is paused
abbrev pub got_while_paused : List Entry
got_while_paused = insert stalled_and_flowing 11 (up 1 (Got 1 search_entry))

-- the connection is never read again
abbrev pub resumed_never : List Entry
resumed_never = remove stalled_and_gone 14

-- a client stalls that is stalled
abbrev pub stalled_twice : List Entry
stalled_twice = insert stalled_and_flowing 10 (client 1 Stalled)

-- a client flows that is not stalled
abbrev pub flowing_unstalled : List Entry
flowing_unstalled = remove stalled_and_flowing 9

-- a connection is paused twice for one client
abbrev pub paused_twice : List Entry
paused_twice = insert stalled_and_flowing 11 (up 1 (Paused 1))

-- the connection of a stalled client goes on
abbrev pub paused_never : List Entry
paused_never = remove forwarded_while_stalled 10

-- a Delete is told the success of a Cancel that no upstream sent
abbrev pub success_forged : List Entry
success_forged = slice_set not_ready_yet 9 (client 1 (Out 5 delete_done))

-- a Cancel that ended a Search is not answered
abbrev pub success_untold : List Entry
success_untold = remove search_ended 13

-- a Search that a Cancel ended is not told so
abbrev pub canceled_untold : List Entry
canceled_untold = remove search_ended 12

-- a Search is told that it is canceled without a Cancel
abbrev pub canceled_uncaused : List Entry
canceled_uncaused = remove search_ended 11

-- an entry goes out behind the Cancel
abbrev pub entry_behind_cancel : List Entry
entry_behind_cancel = insert search_ended 14 (client 1 (Out 7 search_entry))

-- a canceled Search is not abandoned
abbrev pub canceled_left_running : List Entry
canceled_left_running = take 14 search_ended

-- a Cancel of a live Search is told that there is none
abbrev pub other_answer : List Entry
other_answer = slice_set search_ended 13 (client 1 (Out 8 no_such_operation))

-- a Cancel that names no live operation is told success
abbrev pub none_named_ended : List Entry
none_named_ended = slice_set none_named 10 (client 1 (Out 8 cancel_done))

-- a connection of an earlier plan is chosen
abbrev pub earlier_chosen : List Entry
earlier_chosen = slice_set taken_while_running 15 (desk (Chose (op 1 2) (Go 1 1) 0))

-- the backends of a later plan are numbered from 1
abbrev pub numbered_anew : List Entry
numbered_anew = slice_set taken_while_running 15 (desk (Chose (op 1 2) (Go 2 1) 0))

-- a request is busy though no connection of the plan in force is up
abbrev pub busy_for_earlier : List Entry
busy_for_earlier = slice_set not_ready_yet 7 (desk (Chose (op 1 1) Busy 0))

-- a plan is taken with another base
abbrev pub other_base : List Entry
other_base = slice_set not_ready_yet 4 (desk (Replanned 2 0))

-- a plan is left out
abbrev pub plan_left_out : List Entry
plan_left_out = slice_set not_ready_yet 4 (desk (Replanned 3 1))

-- a plan is taken twice
abbrev pub plan_taken_twice : List Entry
plan_taken_twice = insert not_ready_yet 5 (desk (Replanned 2 1))

-- another plan is taken in a run that has one
abbrev pub no_other_plan : List Entry
no_other_plan = insert freed_identifier 4 (desk (Replanned 2 1))

-- the identifier of a Who Am I is used again
abbrev pub who_again : List Entry
who_again = take 25 binds_again ++ up 2 (Sent 2 (op 1 3) sasl_first) ∷ []

-- a Search that its upstream says is canceled keeps its identifier
abbrev pub told_canceled_kept : List Entry
told_canceled_kept = take 16 canceled_by_upstream ++ up 1 (Sent 2 (op 1 2) delete_body) ∷ []

-- a connection is read when one of the two clients that paused it reads
abbrev pub one_still_stalled : List Entry
one_still_stalled = take 21 two_stalled ++ up 1 (Got 1 search_entry) ∷ []

-- a connection pauses behind its end for a client that never stalled
abbrev pub paused_behind_loss_for_none : List Entry
paused_behind_loss_for_none = remove (remove paused_behind_loss 11) 10

-- a Cancel that names an answered Bind succeeds
abbrev pub bind_canceled : List Entry
bind_canceled = slice_set bind_answered_named 16 (client 1 (Out 8 cancel_done))

-- a client that is bound to a backend of the plan before gets another one, and one that is bound to a connection gets
-- this
abbrev pub bound_moved : List Entry
bound_moved = take 18 written_before ++ desk (Chose (op 1 2) (Go 2 2) 0) ∷ []

abbrev pub bound_kept : List Entry
bound_kept = take 18 restricted_before ++ desk (Chose (op 1 2) (Go 1 1) 0) ∷ []

-- another plan sets a client free
abbrev pub set_free : List Entry
set_free = take 17 written_before ++ desk (Asked (op 1 2) regular) ∷ desk (Chose (op 1 2) (Go 2 2) 0) ∷ []

-- the order of backends goes on behind another plan
abbrev pub order_kept : List Entry
order_kept = take 21 picked_anew ++ desk (Chose (op 1 2) (Go 4 4) 0) ∷ []

-- the desk doesn't hear of a Bind that its connection missed
abbrev pub missed_end_unheard : List Entry
missed_end_unheard = remove chosen_behind_loss 23
