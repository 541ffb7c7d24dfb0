-- What the promises say, of every run of the parts, clause by clause.
use Rattle.std.specs.Prelude.{◌≡◌, ℕ, true, List, [], IsTrue}
use Rattle.lload_names.specs.declared.names.ConnKind.TheVariants.{Regular}
use Rattle.lload_names.specs.declared.names.PartName.TheVariants.{Client, Up as Connection}
use Rattle.lload_spec.specs.Caused.{each_refusal_caused}
use Rattle.lload_spec.specs.CausedUp.{each_bad_told, each_down_caused, each_expired_due}
use Rattle.lload_spec.specs.Identifiers.{each_id_right}
use Rattle.lload_spec.specs.Lists.{each_entry}
use Rattle.lload_spec.specs.OneEach.{each_own_reasoned}
use Rattle.lload_spec.specs.Pauses.{pausing_at}
use Rattle.lload_spec.specs.Settings.{Settings, is_of_kind}
use Rattle.lload_spec.specs.Settled.{each_end_heard, each_leave_told, each_pause_settled}
use Rattle.lload_spec.specs.Strict.{each_connection_lives, each_connection_placed, each_idle_owed, each_late_owed, each_latency_right, each_out_chosen, each_pause_owed, each_success_known, the_desk_lives}
use Rattle.part_spec.specs.ClientState.{client_of}
use Rattle.part_spec.specs.Merge.{PartMove, world_of}
use Rattle.part_spec.specs.World.{list_in}
use Rattle.link_laws.specs.Moves.{end_rightly}
use Rattle.rows_laws.specs.Laws.{RowsAreOpen}
use Rattle.run_laws.specs.Runs.{family_of_run}

-- Of connections.

-- at each place of a regular connection's list the rows of its state are the Sents that are open there
abbrev pub RunsRowsAreOpen : Type 0
RunsRowsAreOpen =
    (s : Settings) (ms : List PartMove) → IsTrue (end_rightly ms) → (u : ℕ) → is_of_kind s Regular u ≡ true
    → RowsAreOpen s (family_of_run s ms) u (list_in (world_of s ms) (Connection u))

-- each identifier is the right one
abbrev pub RunsGiveIdentifiers : Type 0
RunsGiveIdentifiers =
    (s : Settings) (ms : List PartMove) → IsTrue (end_rightly ms) → IsTrue (each_id_right s (family_of_run s ms))

-- each bad message that a connection takes has the end of the connection directly behind it
abbrev pub RunsTellBadMessages : Type 0
RunsTellBadMessages =
    (s : Settings) (ms : List PartMove) → IsTrue (end_rightly ms) → IsTrue (each_bad_told s (family_of_run s ms))

-- each operation that expires is due
abbrev pub RunsExpireWhereDue : Type 0
RunsExpireWhereDue =
    (s : Settings) (ms : List PartMove) → IsTrue (end_rightly ms) → IsTrue (each_expired_due s (family_of_run s ms))

-- each end of a connection has its cause
abbrev pub RunsEndForACause : Type 0
RunsEndForACause =
    (s : Settings) (ms : List PartMove) → IsTrue (end_rightly ms) → IsTrue (each_down_caused s (family_of_run s ms))

-- each message of the proxy's own has its reason, and stands where it is due
abbrev pub RunsReasonOwnMessages : Type 0
RunsReasonOwnMessages =
    (s : Settings) (ms : List PartMove) → IsTrue (end_rightly ms) → IsTrue (each_own_reasoned s (family_of_run s ms))

-- each connection that has entries has a place
abbrev pub RunsHavePlaces : Type 0
RunsHavePlaces =
    (s : Settings) (ms : List PartMove) → IsTrue (end_rightly ms)
    → IsTrue (each_connection_placed s (family_of_run s ms))

-- each connection's list is one of a connection's life, with expiries and Abandons where they may stand
abbrev pub RunsLiveAsConnections : Type 0
RunsLiveAsConnections =
    (s : Settings) (ms : List PartMove) → IsTrue (end_rightly ms)
    → IsTrue (each_connection_lives s (family_of_run s ms))

-- each Drop and each Leave that comes to nothing is owed
abbrev pub RunsOweIdles : Type 0
RunsOweIdles =
    (s : Settings) (ms : List PartMove) → IsTrue (end_rightly ms) → IsTrue (each_idle_owed s (family_of_run s ms))

-- Of the desk.

-- the desk asks once for each operation that goes on, and hears once each letter that was told
abbrev pub RunsLiveAsDesk : Type 0
RunsLiveAsDesk =
    (s : Settings) (ms : List PartMove) → IsTrue (end_rightly ms) → IsTrue (the_desk_lives s (family_of_run s ms))

-- the desk hears the right latencies
abbrev pub RunsTellLatencies : Type 0
RunsTellLatencies =
    (s : Settings) (ms : List PartMove) → IsTrue (end_rightly ms) → IsTrue (each_latency_right s (family_of_run s ms))

-- where nothing waits the desk heard the end of each choice that is over
abbrev pub RunsHearEachEnd : Type 0
RunsHearEachEnd =
    (s : Settings) (ms : List PartMove) → IsTrue (end_rightly ms) → (world_of s ms).letters ≡ []
    → IsTrue (each_end_heard s (family_of_run s ms))

-- Of exchanges.

-- where nothing waits, no client that left its exchange holds a connection
abbrev pub RunsTellLeaves : Type 0
RunsTellLeaves =
    (s : Settings) (ms : List PartMove) → IsTrue (end_rightly ms) → (world_of s ms).letters ≡ []
    → IsTrue (each_leave_told s (family_of_run s ms))

-- Of pauses.

-- a client's state says what it pauses as its list does
abbrev pub RunsSayPauses : Type 0
RunsSayPauses =
    (s : Settings) (ms : List PartMove) → IsTrue (end_rightly ms)
    → (c : ℕ) → (client_of s c (list_in (world_of s ms) (Client c))).pausing
    ≡ pausing_at c ((family_of_run s ms).client c)

-- a connection pauses for a client, and goes on, at most as often as the client told it
abbrev pub RunsPauseAsTold : Type 0
RunsPauseAsTold =
    (s : Settings) (ms : List PartMove) → IsTrue (end_rightly ms) → IsTrue (each_pause_owed (family_of_run s ms))

-- where nothing waits, each regular connection that isn't down holds exactly where a client has paused it
abbrev pub RunsSettlePauses : Type 0
RunsSettlePauses =
    (s : Settings) (ms : List PartMove) → IsTrue (end_rightly ms) → (world_of s ms).letters ≡ []
    → IsTrue (each_pause_settled s (family_of_run s ms))

-- Of what clients are told.

-- no client is told anything for an operation before its choice
abbrev pub RunsTellBehindChoices : Type 0
RunsTellBehindChoices =
    (s : Settings) (ms : List PartMove) → IsTrue (end_rightly ms) → IsTrue (each_out_chosen s (family_of_run s ms))

-- each refusal has its cause, and each answer to a Cancel
abbrev pub RunsCauseRefusals : Type 0
RunsCauseRefusals =
    (s : Settings) (ms : List PartMove) → IsTrue (end_rightly ms) → IsTrue (each_refusal_caused s (family_of_run s ms))

-- a success that was kept back goes out only with a readable identity, and nothing else is refused for want of one
abbrev pub RunsTellIdentities : Type 0
RunsTellIdentities =
    (s : Settings) (ms : List PartMove) → IsTrue (end_rightly ms) → IsTrue (each_success_known s (family_of_run s ms))

-- each letter that comes too late is of an operation of the client's own, and was given: such letters and what the client
-- got, but for the answer to a Cancel that ended the operation, are no more than what it was given
abbrev pub RunsOweLateLetters : Type 0
RunsOweLateLetters =
    (s : Settings) (ms : List PartMove) → IsTrue (end_rightly ms) → IsTrue (each_late_owed s (family_of_run s ms))
