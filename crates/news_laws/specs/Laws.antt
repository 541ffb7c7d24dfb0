-- In what order the desk hears of connections.
use Rattle.std.specs.Prelude.{List, IsTrue}
use Rattle.lload_names.specs.declared.names.PartName.{PartName}
use Rattle.lload_spec.specs.Journal.{Family}
use Rattle.lload_spec.specs.Settings.{Settings}
use Rattle.lload_spec.specs.Strict.{each_heard_in_order}
use Rattle.part_spec.specs.Marked.{Marked}
use Rattle.carried_laws.specs.Laws.{Played}

-- the desk hears of each connection that it is up, retired and down in this order, and passes none over
abbrev pub HeardInOrder : Type 0
HeardInOrder =
    (s : Settings) (F : Family) (marked : PartName → List Marked) → Played s F marked → IsTrue (each_heard_in_order F)
