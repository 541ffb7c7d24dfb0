-- Nothing is left to be taken: what holds of a family where no letter waits and no part has a message to take.
use Rattle.std.specs.Prelude.{ℕ, Bool, true, false, ◌==◌, ◌&&◌, ◌||◌, not, List, [], ◌∷◌, length, filter, IsTrue, is_some}
use Rattle.std.specs.List.{list_any, list_all}
use Rattle.lload_names.specs.declared.names.Entry.{Entry}
use Rattle.lload_names.specs.declared.names.OpName.{OpName}
use Rattle.lload_names.specs.declared.names.OpKind.TheVariants.{Bind}
use Rattle.lload_names.specs.declared.names.ConnKind.TheVariants.{Regular}
use Rattle.lload_names.specs.declared.names.Answer.{Answer}
use Rattle.lload_names.specs.declared.names.Answer.TheVariants.{Go}
use Rattle.lload_names.specs.declared.names.Refusal.{Refusal}
use Rattle.lload_names.specs.declared.names.Refusal.TheVariants.{C4, C5, C9}
use Rattle.lload_names.specs.declared.names.Letter.{Letter}
use Rattle.lload_spec.specs.Lists.{each_entry, some_entry, implies, agrees, is_prefix, where_there}
use Rattle.lload_spec.specs.Settings.{Settings, is_of_kind}
use Rattle.lload_spec.specs.Journal.{Family}
use Rattle.lload_spec.specs.Entries.{chosen, chose, is_up, is_retired, is_down}
use Rattle.lload_spec.specs.Operations.{Operation, all_operations, is_of, is_live_at, is_ended_by_client, is_final_for, outs}
use Rattle.lload_spec.specs.Answers.{Sending, sendings, of_operation, all_sendings, sendings_of, answers, final_answer, is_open}
use Rattle.lload_spec.specs.Fifo.{is_refused_with, is_told_own, is_chosen_for}
use Rattle.lload_spec.specs.Pauses.{pausing_at, holds_at}
use Rattle.lload_spec.specs.News.{tells_ended, tells_returned, tells_up, tells_retired, tells_down, is_heard}
use Rattle.lload_spec.specs.Over.{is_over_at, from_sent}
use Rattle.lload_spec.specs.CausedUp.{holder}
use Rattle.lload_spec.specs.Owed.{leaves_exchange, is_held_by}

-- whether two lists of texts are one
abbrev pub are_same : List (List ℕ) → List (List ℕ) → Bool
are_same xs ys = is_prefix xs ys && is_prefix ys xs

-- whether the operation is refused with one of these
abbrev pub is_refused_by : Family → List Refusal → Operation → Bool
is_refused_by F which o = list_any (λ r. is_refused_with F r o) which

-- each operation was Sent, is answered by the proxy itself, or was ended by its client
abbrev pub is_dealt_with : Family → Operation → Bool
is_dealt_with F o = not (length (sendings_of F o.name) == 0) || is_told_own F o || is_ended_by_client o

-- whether a Bind's success is still kept back: its client got all answers but the final one, and the Bind is open
abbrev pub is_kept_back : Settings → Operation → Sending → Bool
is_kept_back s o sent =
    is_of Bind o && is_open s o sent
    && are_same (outs o) (filter (λ r. not (is_final_for o.request r)) (answers o sent))
    && is_some (final_answer o sent)

-- whether the client got all answers, and the final one is among them or the operation is still open
abbrev pub is_told_answers : Settings → Operation → Sending → Bool
is_told_answers s o sent = are_same (outs o) (answers o sent) && (is_some (final_answer o sent) || is_open s o sent)

-- where the client didn't end the operation, it got all answers, or a refusal for a loss, or a success is kept back
abbrev pub is_told_all : Settings → Family → Operation → Sending → Bool
is_told_all s F o sent =
    is_ended_by_client o || is_told_answers s o sent || is_refused_by F (C4 ∷ C5 ∷ C9 ∷ []) o || is_kept_back s o sent

-- where the client ended the operation, which isn't a Bind, it isn't open upstream: it was abandoned, settled, expired
-- or lost
abbrev pub is_told_upstream : Settings → Operation → Sending → Bool
is_told_upstream s o sent = implies (is_ended_by_client o && not (is_of Bind o)) (not (is_open s o sent))

-- whether the desk heard that the operation ended, and that it was returned
abbrev pub is_end_heard : Family → OpName → Bool
is_end_heard F op = is_heard (tells_ended op) F.desk

abbrev pub is_return_heard : Family → OpName → Bool
is_return_heard F op = is_heard (tells_returned op) F.desk

-- whether an answer's connection has the operation over
abbrev pub is_over_by : Settings → Family → OpName → Answer → Bool
is_over_by s F op (Go u b) = is_over_at s F op u (from_sent op (sendings u (F.connection u)))
is_over_by s F op _ = false

-- each chosen operation that is over at its connection was heard to have ended
abbrev pub is_chose_settled : Settings → Family → Entry → Bool
is_chose_settled s F e =
    where_there (λ c. implies (is_over_by s F c.op c.value) (is_end_heard F c.op)) (chose e.what)

-- whether an answer is a connection
abbrev pub is_go : Answer → Bool
is_go (Go n b) = true
is_go _ = false

-- each choice that came too late was heard to be returned
abbrev pub is_chosen_settled : Family → ℕ → List Entry → Entry → Bool
is_chosen_settled F client place e =
    where_there
    (λ c.
    implies (is_go c.value && not (is_live_at client place c.op)) (is_return_heard F c.op))
    (chosen e.what)

-- where such an entry stands in a connection's list, the desk heard such a letter
abbrev pub is_state_heard : Family → ℕ → (Entry → Bool) → (ℕ → Letter → Bool) → Bool
is_state_heard F u is_it tells = implies (list_any is_it (F.connection u)) (is_heard (tells u) F.desk)

-- a retired connection that isn't down has an operation open or a holder
abbrev pub is_retired_in_use : Settings → Family → ℕ → Bool
is_retired_in_use s F u =
    implies (list_any (λ e. is_retired e.what) (F.connection u) && not (list_any is_down (F.connection u)))
    (list_any (of_operation F (is_open s)) (sendings u (F.connection u)) || is_some (holder s F u (F.connection u)))

-- the desk heard each state of a connection
abbrev pub is_connection_settled : Settings → Family → ℕ → Bool
is_connection_settled s F u =
    is_state_heard F u (λ e. is_up e.what) tells_up && is_state_heard F u (λ e. is_retired e.what) tells_retired
    && is_state_heard F u is_down tells_down && is_retired_in_use s F u

-- whether a client that is stalled and not gone has paused this connection
abbrev pub is_paused_by : Family → ℕ → ℕ → Bool
is_paused_by F u c = (pausing_at c (F.client c)).stalled && list_any (λ n. n == u) (pausing_at c (F.client c)).paused

-- a regular connection that isn't down holds exactly where such a client has paused it
abbrev pub is_pause_settled : Settings → Family → ℕ → Bool
is_pause_settled s F u =
    implies (is_of_kind s Regular u && not (list_any is_down (F.connection u)))
    (agrees (holds_at s u (F.connection u)) (list_any (is_paused_by F u) F.clients))

-- where the client left the exchange that an operation began, this holds no connection that was chosen for it
abbrev pub is_leave_told : Settings → Family → Operation → Bool
is_leave_told s F o =
    implies (is_of Bind o && some_entry (leaves_exchange o) (F.client o.name.client))
    (not (list_any (λ u. is_chosen_for F o u && is_held_by s F u (F.connection u) o.name) F.connections))

-- each operation is dealt with
abbrev pub each_dealt_with : Family → Bool
each_dealt_with F = list_all (is_dealt_with F) (all_operations F)

-- each client was told all of what it didn't end
abbrev pub each_told_all : Settings → Family → Bool
each_told_all s F = list_all (of_operation F (is_told_all s F)) (all_sendings F)

-- each upstream was told of what its client ended
abbrev pub each_told_upstream : Settings → Family → Bool
each_told_upstream s F = list_all (of_operation F (is_told_upstream s)) (all_sendings F)

-- the desk heard each state of each connection
abbrev pub each_state_heard : Settings → Family → Bool
each_state_heard s F = list_all (is_connection_settled s F) F.connections

-- the desk heard the end of each choice that is over
abbrev pub each_end_heard : Settings → Family → Bool
each_end_heard s F = list_all (is_chose_settled s F) F.desk

-- the desk heard of each choice that came too late
abbrev pub each_return_heard : Family → Bool
each_return_heard F = list_all (λ c. each_entry (is_chosen_settled F c) (F.client c)) F.clients

-- each connection holds for those that have paused it
abbrev pub each_pause_settled : Settings → Family → Bool
each_pause_settled s F = list_all (is_pause_settled s F) F.connections

-- no client that left its exchange holds a connection
abbrev pub each_leave_told : Settings → Family → Bool
each_leave_told s F = list_all (is_leave_told s F) (all_operations F)

-- whether nothing is left to be taken
abbrev pub is_settled : Settings → Family → Bool
is_settled s F =
    each_dealt_with F && each_told_all s F && each_told_upstream s F && each_state_heard s F && each_end_heard s F
    && each_return_heard F && each_pause_settled s F && each_leave_told s F

-- nothing is left to be taken
pub record Settled (s : Settings) (F : Family) : Type 0 where
  pub dealt_with : IsTrue (each_dealt_with F)
  pub told_all : IsTrue (each_told_all s F)
  pub told_upstream : IsTrue (each_told_upstream s F)
  pub states_heard : IsTrue (each_state_heard s F)
  pub ends_heard : IsTrue (each_end_heard s F)
  pub returns_heard : IsTrue (each_return_heard F)
  pub pauses_settled : IsTrue (each_pause_settled s F)
  pub leaves_told : IsTrue (each_leave_told s F)
