-- What clients were told where nothing waits.
use Rattle.std.specs.Prelude.{◌≡◌, ℕ, true, List, [], Some, IsTrue}
use Rattle.std.specs.List.{list_any}
use Rattle.lload_names.specs.declared.names.PartName.{PartName}
use Rattle.lload_names.specs.declared.names.PartName.TheVariants.{Up as Connection}
use Rattle.lload_spec.specs.Entries.{is_sent}
use Rattle.lload_spec.specs.Journal.{Family, same_op}
use Rattle.lload_spec.specs.Operations.{Operation, is_live, operation}
use Rattle.lload_spec.specs.Settings.{Settings}
use Rattle.lload_spec.specs.Settled.{each_told_all}
use Rattle.part_spec.specs.ConnectionState.{connection_of}
use Rattle.part_spec.specs.Marked.{Marked}
use Rattle.part_spec.specs.Merge.{PartMove, world_of}
use Rattle.part_spec.specs.World.{list_in}
use Rattle.link_laws.specs.Moves.{end_rightly}
use Rattle.carried_laws.specs.Laws.{Played}
use Rattle.settled_laws.specs.Laws.{Rested}
use Rattle.run_laws.specs.Runs.{family_of_run}

-- each operation that is live and was sent has a row still at the connection that it was sent to
abbrev pub LiveOnesHaveRows : Settings → Family → (PartName → List Marked) → Type 0
LiveOnesHaveRows s F marked =
    (o : Operation) → operation F o.name ≡ Some o → is_live o ≡ true → (u : ℕ)
    → list_any (is_sent o.name) (F.connection u) ≡ true
    → list_any (λ r. same_op o.name r.op) (connection_of s u (marked (Connection u))).rows ≡ true

-- where nothing waits they do
abbrev pub RunsKeepRows : Type 0
RunsKeepRows =
    (s : Settings) (ms : List PartMove) → IsTrue (end_rightly ms) → (world_of s ms).letters ≡ []
    → LiveOnesHaveRows s (family_of_run s ms) (list_in (world_of s ms))

-- where what each part took of another is all that this one gave it, and live operations have rows, each client was
-- told all of what it didn't end: all answers of the upstream, or a refusal for a loss, or all but a success that is
-- kept back
abbrev pub ClientsAreToldAll : Type 0
ClientsAreToldAll =
    (s : Settings) (F : Family) (marked : PartName → List Marked) → Played s F marked → Rested s F marked
    → LiveOnesHaveRows s F marked → IsTrue (each_told_all s F)

-- so it was where nothing waits
abbrev pub RunsTellAll : Type 0
RunsTellAll =
    (s : Settings) (ms : List PartMove) → IsTrue (end_rightly ms) → (world_of s ms).letters ≡ []
    → IsTrue (each_told_all s (family_of_run s ms))
