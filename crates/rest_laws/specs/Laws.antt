-- What is said of operations where nothing waits, of those that were dropped, and of connections that retired.
use Rattle.std.specs.Prelude.{◌≡◌, ℕ, true, false, List, [], IsTrue}
use Rattle.std.specs.List.{list_any}
use Rattle.lload_names.specs.declared.names.ConnKind.TheVariants.{Regular}
use Rattle.lload_names.specs.declared.names.OpName.{OpName}
use Rattle.lload_names.specs.declared.names.PartName.{PartName}
use Rattle.lload_names.specs.declared.names.PartName.TheVariants.{Client, Up as Connection}
use Rattle.lload_spec.specs.Journal.{Family}
use Rattle.lload_spec.specs.Owed.{is_open_at}
use Rattle.lload_spec.specs.Settings.{Settings, is_of_kind}
use Rattle.lload_spec.specs.Settled.{each_dealt_with, each_state_heard, each_told_upstream, is_retired_in_use}
use Rattle.part_spec.specs.Fit.{is_drop_of}
use Rattle.part_spec.specs.Marked.{Marked, taken_from}
use Rattle.part_spec.specs.Merge.{PartMove, world_of}
use Rattle.link_laws.specs.Moves.{end_rightly}
use Rattle.carried_laws.specs.Laws.{Played}
use Rattle.run_laws.specs.Runs.{family_of_run}

-- where nothing waits each operation was Sent, is answered by the proxy itself, or was ended by its client
abbrev pub RunsDealWithAll : Type 0
RunsDealWithAll =
    (s : Settings) (ms : List PartMove) → IsTrue (end_rightly ms) → (world_of s ms).letters ≡ []
    → IsTrue (each_dealt_with (family_of_run s ms))

-- where nothing waits no operation that its client ended is open upstream: it was abandoned, settled, expired or lost
abbrev pub RunsTellUpstream : Type 0
RunsTellUpstream =
    (s : Settings) (ms : List PartMove) → IsTrue (end_rightly ms) → (world_of s ms).letters ≡ []
    → IsTrue (each_told_upstream s (family_of_run s ms))

-- a regular connection that retired and isn't down has an operation open, whether or not a letter waits
abbrev pub RunsRetireInUse : Type 0
RunsRetireInUse =
    (s : Settings) (ms : List PartMove) → IsTrue (end_rightly ms) → (u : ℕ) → is_of_kind s Regular u ≡ true
    → IsTrue (is_retired_in_use s (family_of_run s ms) u)

-- an operation whose Drop a regular connection took isn't open there
abbrev pub DroppedAreOver : Type 0
DroppedAreOver =
    (s : Settings) (F : Family) (marked : PartName → List Marked) → Played s F marked
    → (u : ℕ) → is_of_kind s Regular u ≡ true → (op : OpName)
    → list_any (is_drop_of op) (taken_from (Client op.client) (marked (Connection u))) ≡ true
    → is_open_at s F u (F.connection u) op ≡ false

-- where nothing waits the desk heard each state of each connection, and each that retired and isn't down is in use
abbrev pub RunsHearEachState : Type 0
RunsHearEachState =
    (s : Settings) (ms : List PartMove) → IsTrue (end_rightly ms) → (world_of s ms).letters ≡ []
    → IsTrue (each_state_heard s (family_of_run s ms))
