-- What the desk hears of operations that ended.
use Rattle.std.specs.Prelude.{List, IsTrue}
use Rattle.lload_names.specs.declared.names.PartName.{PartName}
use Rattle.lload_spec.specs.Journal.{Family}
use Rattle.lload_spec.specs.Settings.{Settings}
use Rattle.lload_spec.specs.Strict.{each_latency_right, the_desk_lives}
use Rattle.part_spec.specs.Marked.{Marked}
use Rattle.carried_laws.specs.Laws.{Played}

-- the desk hears the right latencies
abbrev pub LatenciesAreRight : Type 0
LatenciesAreRight =
    (s : Settings) (F : Family) (marked : PartName → List Marked) → Played s F marked → IsTrue (each_latency_right s F)

-- the desk asks once for each operation that goes on, and hears once each letter that was told
abbrev pub DeskLives : Type 0
DeskLives =
    (s : Settings) (F : Family) (marked : PartName → List Marked) → Played s F marked → IsTrue (the_desk_lives s F)
