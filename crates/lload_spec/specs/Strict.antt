-- What is promised beside the six promises: no user would take a journal without it.
use Rattle.std.specs.Prelude.{ℕ, Bool, true, false, ◌==◌, ◌&&◌, ◌||◌, not, if◌then◌else◌, List, [], ◌∷◌, IsTrue, is_some}
use Rattle.std.specs.List.{list_any, list_all}
use Rattle.ldap_spec.specs.Tags.{success}
use Rattle.ldap_spec.specs.Responses.{has_code, tells_who}
use Rattle.ldap_spec.specs.Bodies.{abandon}
use Rattle.lload_names.specs.Same.{same_latency}
use Rattle.lload_names.specs.declared.names.Entry.{Entry}
use Rattle.lload_names.specs.declared.names.OpName.{OpName}
use Rattle.lload_names.specs.declared.names.Refusal.TheVariants.{C9}
use Rattle.lload_names.specs.declared.names.OpKind.TheVariants.{Bind}
use Rattle.lload_names.specs.declared.names.ConnKind.TheVariants.{Regular}
use Rattle.lload_names.specs.declared.names.Answer.{Answer}
use Rattle.lload_names.specs.declared.names.EndWhy.TheVariants.{ZeroId, IdInUse, Unreadable, Bad, TooBig}
use Rattle.lload_names.specs.declared.names.Letter.{Letter}
use Rattle.lload_names.specs.declared.names.Letter.TheVariants.{Returned, Ended, IsUp, IsRetired, IsDown}
use Rattle.lload_names.specs.declared.names.What.{What}
use Rattle.lload_names.specs.declared.names.What.TheVariants.{Chosen, Late, Got, Missed, Idle, Paused, Resumed}
use Rattle.lload_spec.specs.Lists.{passes, first_passes, last_passes, each_split, each_entry, some_entry, implies, agrees, where_there}
use Rattle.lload_spec.specs.Settings.{Settings, is_of_kind, place_at}
use Rattle.lload_spec.specs.Journal.{Family, same_op, same_answer}
use Rattle.lload_spec.specs.Entries.{Named, in_message, sent_message, chosen, asked, chose, heard, out_message, expired_op, missed_op, late_op, gone_why, same_why, goes_to, is_choice_of, is_gone, is_down, is_notice, is_own, is_arrived, is_linked, is_up, is_retired, is_expired}
use Rattle.lload_spec.specs.Operations.{Operation, operation, operation_in, all_operations, live_operations, is_live_at, is_of, is_cancel_of, got_final}
use Rattle.lload_spec.specs.Answers.{Sending, sendings, of_operation, all_sendings, closing, asks_who, is_open, is_last_sent}
use Rattle.lload_spec.specs.Fifo.{is_refused_with, is_chosen_for, is_pinned_to}
use Rattle.lload_spec.specs.Binding.{action, makes_wait, kind_wanted}
use Rattle.lload_spec.specs.FirstCheck.{ClientFacts, client_facts, lets_go_on, is_pinned_by, asks_desk}
use Rattle.lload_spec.specs.Pauses.{is_waiting, waiting_clients}
use Rattle.lload_spec.specs.Caused.{check_of}
use Rattle.lload_spec.specs.Over.{is_over_at, from_sent}
use Rattle.lload_spec.specs.News.{tells_up, tells_retired, tells_down, tells_stopped, same_news, is_heard}
use Rattle.lload_spec.specs.Owed.{was_forwarded, is_open_at, is_idle_owed, is_late_owed, is_pause_owed, is_resume_owed, latency_at}

-- what the first check of the operation asks of its client, at its In
abbrev pub facts_at_in : Settings → Family → Operation → ClientFacts
facts_at_in s F o = client_facts s F o.name.client o.before

-- whether the operation goes on in an exchange, so that the desk isn't asked
abbrev pub is_pinned : Settings → Family → Operation → Bool
is_pinned s F o = is_pinned_by s (facts_at_in s F o) o.request

-- whether the desk should be asked for the operation
abbrev pub is_to_ask : Settings → Family → Operation → Bool
is_to_ask s F o = asks_desk s (facts_at_in s F o) o.request

-- whether an entry marks a choice for this operation, or asks for it
abbrev pub is_choice_for : OpName → Entry → Bool
is_choice_for op e = passes (λ c. same_op op c.op) (chosen e.what)

abbrev pub is_asked_for : OpName → Entry → Bool
is_asked_for op e = passes (λ a. same_op op a.op) (asked e.what)

-- whether the desk chose so for this operation
abbrev pub is_chose_of : Named Answer → Entry → Bool
is_chose_of c e = passes (λ d. same_op c.op d.op && same_answer c.value d.value) (chose e.what)

-- each Chosen is the first of its operation, which is the client's own
abbrev pub is_chosen_once : ℕ → List Entry → Entry → Bool
is_chosen_once c place e =
    where_there
    (λ x. x.op.client == c && is_some (operation_in c place x.op) && not (list_any (is_choice_for x.op) place))
    (chosen e.what)

-- each Chosen is a choice of the desk
abbrev pub is_chosen_by_desk : Family → Entry → Bool
is_chosen_by_desk F e = where_there (λ x. list_any (is_chose_of x) F.desk) (chosen e.what)

-- each Asked is the first of its operation
abbrev pub is_asked_once : List Entry → Entry → Bool
is_asked_once place e = where_there (λ a. not (list_any (is_asked_for a.op) place)) (asked e.what)

-- each Asked is of an operation for which the desk should be asked
abbrev pub is_ask_due : Settings → Family → Entry → Bool
is_ask_due s F e = where_there (λ a. passes (is_to_ask s F) (operation F a.op)) (asked e.what)

-- an operation that its first check lets go on goes to a connection of its kind: one that goes on in an exchange to
-- where this is, another to where it was chosen
abbrev pub is_rightly_at : Settings → Family → ℕ → Operation → Bool
is_rightly_at s F u o =
    lets_go_on (check_of s F o) && is_of_kind s (kind_wanted o.request) u
    && (if is_pinned s F o then is_pinned_to F o u else is_chosen_for F o u)

-- each Sent stands at a right connection
abbrev pub is_sent_rightly : Settings → Family → Operation → Sending → Bool
is_sent_rightly s F o sent = is_rightly_at s F sent.connection o

-- each Missed stands at a right connection
abbrev pub is_missed_rightly : Settings → Family → ℕ → Entry → Bool
is_missed_rightly s F u e =
    where_there (λ op. passes (is_rightly_at s F u) (operation F op)) (missed_op e.what)

-- each Missed is the first of its operation, which wasn't sent there
abbrev pub is_missed_once : List Entry → Entry → Bool
is_missed_once place e = where_there (λ op. not (was_forwarded op place)) (missed_op e.what)

-- whether a success that was kept back tells its identity
abbrev pub tells_identity : Settings → Family → Operation → Bool
tells_identity s F o = passes tells_who (closing s F o)

-- whether the client got a success that was kept back
abbrev pub got_kept_success : Settings → Operation → Bool
got_kept_success s o = asks_who s o && got_final (has_code success) o

-- a success that was kept back goes out only with a readable identity
abbrev pub is_success_known : Settings → Family → Operation → Bool
is_success_known s F o = implies (got_kept_success s o) (tells_identity s F o)

-- only a Bind whose success was kept back is refused because its identity isn't known
abbrev pub is_unknown_rightly : Settings → Family → Operation → Bool
is_unknown_rightly s F o = implies (is_refused_with F C9 o) (asks_who s o)

-- what stands directly behind Expired but of a Bind: the Abandon
abbrev pub is_expiry_told : List Entry → Operation → Sending → Bool
is_expiry_told behind o sent = implies (not (is_of Bind o)) (first_passes (is_own (abandon sent.id)) behind)

-- each Expired is of an open operation, and is followed up
abbrev pub is_expired_open : Settings → Family → ℕ → List Entry → Entry → List Entry → Bool
is_expired_open s F u place e behind =
    where_there
    (λ op.
    is_open_at s F u place op
    && list_all (λ sent. implies (same_op op sent.op) (of_operation F (is_expiry_told behind) sent))
    (sendings u place))
    (expired_op e.what)

-- each Abandon of the last Sent with an identifier is of an operation that is open, or expired directly before
abbrev pub is_abandon_open : Settings → Family → ℕ → List Entry → Entry → Bool
is_abandon_open s F u place e =
    list_all
    (λ sent.
    implies (is_last_sent sent && is_own (abandon sent.id) e)
    (of_operation F (is_open s) sent || last_passes (is_expired sent.op) place))
    (sendings u place)

-- whether an operation lets its client's later messages wait
abbrev pub lets_wait : Settings → List Entry → Operation → Bool
lets_wait s place o =
    makes_wait s (is_of Bind o) (action s o.request.rest) (list_any (is_choice_for o.name) place)

-- whether a client's part holds at a place
abbrev pub holds : Settings → ℕ → List Entry → Bool
holds s c place = list_any (lets_wait s place) (live_operations c place)

-- an In stands only where its client's part doesn't hold
abbrev pub is_in_unheld : Settings → ℕ → List Entry → Entry → Bool
is_in_unheld s c place e = implies (is_some (in_message e.what)) (not (holds s c place))

-- entries that may stand behind the end of a client, and of a connection
abbrev pub may_follow_gone : What → Bool
may_follow_gone (Chosen op answer) = true
may_follow_gone (Late op) = true
may_follow_gone _ = false

abbrev pub may_follow_down : What → Bool
may_follow_down (Missed op) = true
may_follow_down (Idle op) = true
may_follow_down (Paused client) = true
may_follow_down (Resumed client) = true
may_follow_down _ = false

-- whether what happened to a regular connection may happen where it pauses for these clients: no message is taken while
-- it pauses for some, and it pauses for those alone for which it doesn't yet, and no longer for those for which it does
abbrev pub may_pass : Bool → List ℕ → What → Bool
may_pass is_regular cs (Got id rest) = not (is_waiting cs)
may_pass is_regular cs (Paused client) = is_regular && not (list_any (λ c. c == client) cs)
may_pass is_regular cs (Resumed client) = is_regular && list_any (λ c. c == client) cs
may_pass is_regular cs _ = true

abbrev pub is_passed : Settings → ℕ → List Entry → Entry → Bool
is_passed s u place e = may_pass (is_of_kind s Regular u) (waiting_clients place) e.what

-- whether nothing stands before
abbrev pub is_empty : List Entry → Bool
is_empty [] = true
is_empty (e ∷ es) = false

-- a client's list begins with Arrived, which stands nowhere else, and has late letters alone behind its end
abbrev pub lives_as_client : List Entry → Entry → Bool
lives_as_client place e =
    agrees (is_arrived e.what) (is_empty place) && implies (list_any is_gone place) (may_follow_gone e.what)

-- a connection's list begins with Linked, which stands nowhere else, has nothing sent before Up, and late letters alone
-- behind its end
abbrev pub lives_as_connection : List Entry → Entry → Bool
lives_as_connection place e =
    agrees (is_linked e.what) (is_empty place) && implies (list_any is_down place) (may_follow_down e.what)
    && implies (is_some (sent_message e.what)) (list_any (λ x. is_up x.what) place)

-- whether a client ends for a reason that the notice is sent for
abbrev pub is_noticed : Entry → Bool
is_noticed e =
    passes (λ why. list_any (same_why why) (ZeroId ∷ IdInUse ∷ Unreadable ∷ Bad ∷ TooBig ∷ [])) (gone_why e.what)

-- the notice stands only directly before such an end
abbrev pub is_notice_placed : Entry → List Entry → Bool
is_notice_placed e behind = implies (is_notice e) (first_passes is_noticed behind)

-- whether the desk chose this connection for the operation
abbrev pub is_go_of : OpName → ℕ → Entry → Bool
is_go_of op u e = passes (λ c. same_op op c.op && goes_to u c.value) (chose e.what)

-- whether an entry gives the client the choice of a connection for an operation that isn't live
abbrev pub is_late_choice : OpName → ℕ → List Entry → Entry → Bool
is_late_choice op u place e = is_choice_of op u e && not (is_live_at op.client place op)

-- whether what a letter tells stands in the lists: of a connection its state, of an operation that the desk chose the
-- connection before, and that it is over there, or that the choice came too late
abbrev pub is_told : Settings → Family → List Entry → Letter → Bool
is_told s F place (IsUp u) = list_any (λ e. is_up e.what) (F.connection u)
is_told s F place (IsRetired u) = list_any (λ e. is_retired e.what) (F.connection u)
is_told s F place (IsDown u) = list_any is_down (F.connection u)
is_told s F place (Ended op u latency) =
    list_any (is_go_of op u) place && is_over_at s F op u (from_sent op (sendings u (F.connection u)))
is_told s F place (Returned op u) =
    list_any (is_go_of op u) place && some_entry (is_late_choice op u) (F.client op.client)
is_told s F place _ = false

-- each letter that the desk heard was told
abbrev pub is_heard_told : Settings → Family → List Entry → Entry → Bool
is_heard_told s F place e = where_there (is_told s F place) (heard e.what)

-- and is heard once
abbrev pub is_heard_once : List Entry → Entry → Bool
is_heard_once place e = where_there (λ letter. not (is_heard (same_news letter) place)) (heard e.what)

-- whether a letter of a connection's state comes in order: up, retired, down, and none that stands is passed over
abbrev pub is_next_news : Family → List Entry → Letter → Bool
is_next_news F place (IsUp u) = not (is_heard (tells_stopped u) place)
is_next_news F place (IsRetired u) =
    not (is_heard (tells_down u) place)
    && implies (list_any (λ e. is_up e.what) (F.connection u)) (is_heard (tells_up u) place)
is_next_news F place (IsDown u) =
    implies (list_any (λ e. is_up e.what) (F.connection u)) (is_heard (tells_up u) place)
    && implies (list_any (λ e. is_retired e.what) (F.connection u)) (is_heard (tells_retired u) place)
is_next_news F place _ = true

abbrev pub is_heard_in_order : Family → List Entry → Entry → Bool
is_heard_in_order F place e = where_there (λ letter. is_next_news F place letter) (heard e.what)

-- whether a letter that tells the end of an operation tells its latency
abbrev pub has_right_latency : Settings → Family → Letter → Bool
has_right_latency s F (Ended op u latency) = same_latency latency (latency_at s F u op)
has_right_latency s F _ = true

abbrev pub is_latency_right : Settings → Family → Entry → Bool
is_latency_right s F e = where_there (λ letter. has_right_latency s F letter) (heard e.what)

-- whether a client may be told anything for a live operation: behind its choice, where it goes on in an exchange, or by
-- the proxy itself, for its first check or a Cancel
abbrev pub may_be_told : Settings → Family → List Entry → Operation → Bool
may_be_told s F place o =
    list_any (is_choice_for o.name) place || last_passes (is_cancel_of o.request) place || not (is_to_ask s F o)

-- each Out stands where its operation may be told something
abbrev pub is_out_chosen : Settings → Family → ℕ → List Entry → Entry → Bool
is_out_chosen s F c place e =
    where_there
    (λ m.
    list_all (λ o. implies (o.request.id == m.id) (may_be_told s F place o)) (live_operations c place))
    (out_message e.what)

-- each Late is of the client's own operation
abbrev pub is_late_own : ℕ → List Entry → Entry → Bool
is_late_own c place e = where_there (λ op. is_some (operation_in c place op)) (late_op e.what)

-- whether an entry may stand where it does in a client's list
abbrev pub has_place_in_client : Settings → ℕ → List Entry → Entry → List Entry → Bool
has_place_in_client s c place e behind =
    lives_as_client place e && is_chosen_once c place e && is_in_unheld s c place e && is_notice_placed e behind

-- each client's list is one of a client's life, with choices of the desk and requests where they may stand
abbrev pub each_client_lives : Settings → Family → Bool
each_client_lives s F =
    list_all
    (λ c. each_split (has_place_in_client s c) (F.client c) && list_all (is_chosen_by_desk F) (F.client c)) F.clients

-- whether an entry may stand where it does in a connection's list
abbrev pub has_place_in_connection : Settings → Family → ℕ → List Entry → Entry → List Entry → Bool
has_place_in_connection s F u place e behind =
    lives_as_connection place e && is_passed s u place e && is_expired_open s F u place e behind
    && is_abandon_open s F u place e && is_missed_rightly s F u e

-- each connection's list is one of a connection's life, with expiries and Abandons where they may stand
abbrev pub each_connection_lives : Settings → Family → Bool
each_connection_lives s F = list_all (λ u. each_split (has_place_in_connection s F u) (F.connection u)) F.connections

-- whether an entry may stand where it does in the desk's list
abbrev pub has_place_in_desk : List Entry → Entry → Bool
has_place_in_desk place e = is_asked_once place e && is_heard_once place e

-- the desk asks once for each operation that goes on, and hears once each letter that was told
abbrev pub the_desk_lives : Settings → Family → Bool
the_desk_lives s F =
    each_entry (λ place e. has_place_in_desk place e && is_ask_due s F e && is_heard_told s F place e) F.desk

-- each Sent stands at a connection of the right kind, where it was chosen or where its exchange is
abbrev pub each_sent_rightly : Settings → Family → Bool
each_sent_rightly s F = list_all (of_operation F (is_sent_rightly s F)) (all_sendings F)

-- each success that was kept back goes out only with a readable identity, and no other Bind or request is refused for
-- want of one
abbrev pub each_success_known : Settings → Family → Bool
each_success_known s F = list_all (λ o. is_success_known s F o && is_unknown_rightly s F o) (all_operations F)

-- the connections that have entries have places
abbrev pub each_connection_placed : Settings → Family → Bool
each_connection_placed s F =
    list_all (λ u. implies (not (is_empty (F.connection u))) (is_some (place_at s u))) F.connections

-- no operation is missed twice, nor where it was sent
abbrev pub each_missed_once : Family → Bool
each_missed_once F = list_all (λ u. each_entry is_missed_once (F.connection u)) F.connections

-- each Drop and each Leave that comes to nothing was given, and finds nothing to end
abbrev pub each_idle_owed : Settings → Family → Bool
each_idle_owed s F = list_all (λ u. each_entry (is_idle_owed s F u) (F.connection u)) F.connections

-- each connection pauses and goes on only as clients told it
abbrev pub each_pause_owed : Family → Bool
each_pause_owed F =
    list_all (λ u. list_all (λ e. is_pause_owed F u e && is_resume_owed F u e) (F.connection u)) F.connections

-- each letter that comes too late was given, for an operation of the client's own
abbrev pub each_late_owed : Settings → Family → Bool
each_late_owed s F =
    list_all (λ c. each_entry (is_late_own c) (F.client c)) F.clients && list_all (is_late_owed s F) (all_operations F)

-- no client is told anything for an operation before its choice
abbrev pub each_out_chosen : Settings → Family → Bool
each_out_chosen s F = list_all (λ c. each_entry (is_out_chosen s F c) (F.client c)) F.clients

-- the desk hears of each connection that it is up, retired and down in this order, and passes none over
abbrev pub each_heard_in_order : Family → Bool
each_heard_in_order F = each_entry (is_heard_in_order F) F.desk

-- the desk hears the right latencies
abbrev pub each_latency_right : Settings → Family → Bool
each_latency_right s F = list_all (is_latency_right s F) F.desk

-- whether a family keeps what is promised beside the six promises
abbrev pub keeps_strict : Settings → Family → Bool
keeps_strict s F =
    each_client_lives s F && each_connection_lives s F && the_desk_lives s F && each_sent_rightly s F
    && each_success_known s F && each_connection_placed s F && each_missed_once F && each_idle_owed s F
    && each_pause_owed F && each_late_owed s F && each_out_chosen s F && each_heard_in_order F && each_latency_right s F

-- what is promised beside the six promises
pub record Strict (s : Settings) (F : Family) : Type 0 where
  pub clients_live : IsTrue (each_client_lives s F)
  pub connections_live : IsTrue (each_connection_lives s F)
  pub desk_lives : IsTrue (the_desk_lives s F)
  pub sent_rightly : IsTrue (each_sent_rightly s F)
  pub successes_known : IsTrue (each_success_known s F)
  pub connections_placed : IsTrue (each_connection_placed s F)
  pub missed_once : IsTrue (each_missed_once F)
  pub idle_owed : IsTrue (each_idle_owed s F)
  pub pauses_owed : IsTrue (each_pause_owed F)
  pub late_owed : IsTrue (each_late_owed s F)
  pub outs_chosen : IsTrue (each_out_chosen s F)
  pub heard_in_order : IsTrue (each_heard_in_order F)
  pub latencies_right : IsTrue (each_latency_right s F)
