-- Which letters the lists owe a part: how many answers an operation's connection gave its client, the latency that the
-- desk hears, and whether a Drop or a Leave may come to nothing.
use Rattle.std.specs.Prelude.{ℕ, suc, ◌+◌, ◌-◌, ◌^◌, Bool, true, false, ◌==◌, ◌&&◌, ◌||◌, not, min, nat_le, if◌then◌else◌, List, [], ◌∷◌, ◌++◌, length, filter, Option, Some, None, is_some, is_none}
use Rattle.std.specs.List.{list_any}
use Rattle.std.specs.Option.{option_and_then}
use Rattle.ldap_spec.specs.Tags.{bind_in_progress}
use Rattle.ldap_spec.specs.Responses.{result_code, has_code}
use Rattle.ldap_spec.specs.Requests.{request}
use Rattle.ldap_spec.specs.Bodies.{abandon}
use Rattle.lload_names.specs.declared.names.Entry.{Entry}
use Rattle.lload_names.specs.declared.names.OpName.{OpName}
use Rattle.lload_names.specs.declared.names.OpKind.TheVariants.{Bind}
use Rattle.lload_names.specs.declared.names.ConnKind.TheVariants.{Bind as BindKind}
use Rattle.lload_names.specs.declared.names.EndWhy.TheVariants.{Unfinished}
use Rattle.lload_spec.specs.Lists.{passes, first, some_entry, where_there}
use Rattle.lload_spec.specs.Settings.{Settings, is_of_kind}
use Rattle.lload_spec.specs.Journal.{Family, same_op}
use Rattle.lload_spec.specs.Entries.{in_message, late_op, idle_op, paused_client, resumed_client, is_gone, is_own, is_expired, is_down, is_down_by, is_missed, is_sent}
use Rattle.lload_spec.specs.Operations.{Operation, ending, is_by_cancel, operation, operation_in, operations, got_final, is_of, is_final_for, is_ended_by_client, outs}
use Rattle.lload_spec.specs.Answers.{Sending, is_some_sent_of, sendings, sendings_of, of_operation, answer_of, asks_who, is_kept_back, who_answer, is_open, is_abandoned_at, gives_id, reign}
use Rattle.lload_spec.specs.Fifo.{is_chosen_for}
use Rattle.lload_spec.specs.CausedUp.{has_other_version}
use Rattle.lload_spec.specs.Pauses.{Pausing, no_pause, pausing_behind}
use Rattle.lload_spec.specs.Over.{from_sent, is_held_since}

-- Answers.

-- whether an entry loses an operation at its connection: it expires, or the connection goes down
abbrev pub loses : Operation → Entry → Bool
loses o e = is_expired o.name e || is_down e

-- whether an entry abandons an operation that isn't a Bind
abbrev pub drops : Operation → Sending → Entry → Bool
drops o sent e = not (is_of Bind o) && is_own (abandon sent.id) e

-- one where it holds, else none
abbrev pub count_of : Bool → ℕ
count_of true = 1
count_of false = 0

-- the letters of the final answer, behind which these entries stand: a Bind's that can't be read is one only where the
-- Bind is lost, and a success that is kept back where its identity is told or it is lost
abbrev pub told_at_final : Settings → Operation → List ℕ → List Entry → ℕ
told_at_final s o rest es =
    if is_of Bind o && is_none (result_code rest) then count_of (list_any (loses o) es)
    else if is_kept_back (asks_who s o) rest then count_of (is_some (who_answer es) || list_any (loses o) es)
    else 1

-- how many letters the client was given for an operation, by these entries behind its Sent: one for each answer in its
-- reign, or for its loss, until one of them ends it or it is dropped
abbrev pub told_by : Settings → Operation → Sending → List Entry → ℕ
told_by s o sent [] = 0
told_by s o sent (e ∷ es) =
    if gives_id sent.id e then count_of (list_any (loses o) es)
    else if drops o sent e then 0
    else if loses o e then 1
    else elim (answer_of o.request sent.id e) [
      | None ↦ told_by s o sent es
      | Some r ↦ elim (is_final_for o.request r) [ true ↦ told_at_final s o r es | false ↦ suc (told_by s o sent es) ]
    ]

-- whether a connection of these missed the operation
abbrev pub is_missed_by : Family → OpName → Bool
is_missed_by F op = list_any (λ u. list_any (is_missed op) (F.connection u)) F.connections

-- how many letters the client was given for an operation
abbrev pub told_to : Settings → Family → Operation → ℕ
told_to s F o =
    elim (first (sendings_of F o.name)) [
      | None ↦ count_of (is_missed_by F o.name)
      | Some sent ↦ told_by s o sent sent.behind
    ]

-- whether an entry is a letter for this operation that came too late
abbrev pub is_late_of : OpName → Entry → Bool
is_late_of op e = passes (same_op op) (late_op e.what)

-- how many were taken: those that were late, and those that went out, which the end by a Cancel isn't
abbrev pub count_late : Family → Operation → ℕ
count_late F o = length (filter (is_late_of o.name) (F.client o.name.client))

abbrev pub is_canceled : Operation → Bool
is_canceled o = passes is_by_cancel (ending o)

abbrev pub count_told : Operation → ℕ
count_told o = length (outs o) - count_of (is_canceled o)

-- where a letter for the operation came too late, no more were taken than were given
abbrev pub is_late_owed : Settings → Family → Operation → Bool
is_late_owed s F o = count_late F o == 0 || nat_le (count_late F o + count_told o) (told_to s F o)

-- Latencies.

-- the greatest latency that is told
abbrev pub greatest_latency : ℕ
greatest_latency = 2 ^ 32 - 1

-- the moment of an answer less that of the Sent, as far as this goes
abbrev pub latency_between : ℕ → ℕ → ℕ
latency_between sent at = min (at - sent) greatest_latency

-- that of the final answer, where nothing ended the operation before, by these entries of the reign of its Sent
abbrev pub latency_by : Operation → Sending → List Entry → Option ℕ
latency_by o sent [] = None
latency_by o sent (e ∷ es) =
    if drops o sent e || loses o e then None
    else if passes (is_final_for o.request) (answer_of o.request sent.id e) then Some (latency_between sent.at e.at)
    else latency_by o sent es

abbrev pub latency_since : Family → List Sending → Option ℕ
latency_since F [] = None
latency_since F (q ∷ qs) = option_and_then (λ o. latency_by o q (reign q)) (operation F q.op)

-- the latency that the desk hears at the end of an operation: none of a Bind
abbrev pub latency_at : Settings → Family → ℕ → OpName → Option ℕ
latency_at s F u op =
    elim (is_of_kind s BindKind u) [
      | true ↦ None
      | false ↦ latency_since F (from_sent op (sendings u (F.connection u)))
    ]

-- Letters that come to nothing.

-- whether the operation's Forward was taken before this place: it was sent, or missed
abbrev pub was_forwarded : OpName → List Entry → Bool
was_forwarded op place = list_any (λ e. is_sent op e || is_missed op e) place

-- whether the operation is open at this place
abbrev pub is_open_at : Settings → Family → ℕ → List Entry → OpName → Bool
is_open_at s F u place op =
    is_some_sent_of F (is_open s) op (sendings u place)

-- whether a Drop of it was taken there: it was abandoned, and not because it expired
abbrev pub was_dropped_at : Family → ℕ → List Entry → OpName → Bool
was_dropped_at F u place op =
    list_any
    (λ sent. same_op op sent.op && of_operation F is_abandoned_at sent && not (list_any (is_expired op) sent.behind))
    (sendings u place)

-- a Drop comes to nothing where its client ended the operation, which isn't open, and none was taken before
abbrev pub is_drop_idle : Settings → Family → ℕ → List Entry → Operation → Bool
is_drop_idle s F u place o =
    is_ended_by_client o && not (is_open_at s F u place o.name) && not (was_dropped_at F u place o.name)

-- whether the operation that was chosen for an exchange holds the connection at this place
abbrev pub is_held_by : Settings → Family → ℕ → List Entry → OpName → Bool
is_held_by s F u place op = is_held_since s F (from_sent op (sendings u place))

-- whether an operation is a Bind that was answered for good, the one that was chosen for an exchange or a later one
abbrev pub ends_exchange : Operation → Operation → Bool
ends_exchange o b =
    nat_le o.name.k b.name.k && is_of Bind b && got_final (λ r. not (has_code bind_in_progress r)) b

-- whether no Bind at a place of a client's list was answered for good, from the one that was chosen for an exchange on
abbrev pub is_exchange_open : List Entry → Operation → Bool
is_exchange_open place o = not (list_any (ends_exchange o) (operations o.name.client place))

-- whether an entry leaves the exchange: the client is gone, or sends a Bind of another version than 3
abbrev pub leaves_exchange : Operation → List Entry → Entry → Bool
leaves_exchange o place e =
    (is_gone e || passes (λ m. passes has_other_version (request m.rest)) (in_message e.what))
    && is_some (operation_in o.name.client place o.name) && is_exchange_open place o

-- a Leave comes to nothing where its client left the exchange, for which the connection was chosen and which doesn't
-- hold it, and none was taken before
abbrev pub is_leave_idle : Settings → Family → ℕ → List Entry → Operation → Bool
is_leave_idle s F u place o =
    some_entry (leaves_exchange o) (F.client o.name.client) && is_chosen_for F o u
    && not (is_held_by s F u place o.name)
    && not (some_entry (λ before e. is_down_by Unfinished e && is_held_by s F u before o.name) place)

-- whether the Drop or the Leave of an operation may come to nothing at this place
abbrev pub may_be_idle : Settings → Family → ℕ → List Entry → Operation → Bool
may_be_idle s F u place o =
    was_forwarded o.name place && not (list_any (λ e. passes (same_op o.name) (idle_op e.what)) place)
    && (if is_of Bind o then is_leave_idle s F u place o else is_drop_idle s F u place o)

-- each Idle is such a letter
abbrev pub is_idle_owed : Settings → Family → ℕ → List Entry → Entry → Bool
is_idle_owed s F u place e =
    where_there (λ op. passes (may_be_idle s F u place) (operation F op)) (idle_op e.what)

-- Pauses.

-- whether a client has paused a connection
abbrev pub has_paused : ℕ → Pausing → Bool
has_paused u q = list_any (λ n. n == u) q.paused

-- how often a client told a connection to pause, by these entries of its list, behind those before
abbrev pub pauses_by : ℕ → ℕ → Pausing → List Entry → List Entry → ℕ
pauses_by c u q before [] = 0
pauses_by c u q before (e ∷ es) =
    count_of (not (has_paused u q) && has_paused u (pausing_behind c before e.what q))
    + pauses_by c u (pausing_behind c before e.what q) (before ++ e ∷ []) es

-- how often it told the connection to go on
abbrev pub resumes_by : ℕ → ℕ → Pausing → List Entry → List Entry → ℕ
resumes_by c u q before [] = 0
resumes_by c u q before (e ∷ es) =
    count_of (has_paused u q && not (has_paused u (pausing_behind c before e.what q)))
    + resumes_by c u (pausing_behind c before e.what q) (before ++ e ∷ []) es

-- how often a connection paused for a client, and went on
abbrev pub count_paused : ℕ → List Entry → ℕ
count_paused c list = length (filter (λ e. passes (λ d. d == c) (paused_client e.what)) list)

abbrev pub count_resumed : ℕ → List Entry → ℕ
count_resumed c list = length (filter (λ e. passes (λ d. d == c) (resumed_client e.what)) list)

-- each Paused and each Resumed of a connection was told by the client
abbrev pub is_pause_owed : Family → ℕ → Entry → Bool
is_pause_owed F u e =
    where_there
    (λ c.
    nat_le (count_paused c (F.connection u)) (pauses_by c u no_pause [] (F.client c)))
    (paused_client e.what)

abbrev pub is_resume_owed : Family → ℕ → Entry → Bool
is_resume_owed F u e =
    where_there
    (λ c.
    nat_le (count_resumed c (F.connection u)) (resumes_by c u no_pause [] (F.client c)))
    (resumed_client e.what)
