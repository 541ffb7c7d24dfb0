-- What upstream connections let stand in their lists.
use Rattle.std.specs.Prelude.{List, IsTrue}
use Rattle.lload_names.specs.declared.names.PartName.{PartName}
use Rattle.lload_spec.specs.Journal.{Family}
use Rattle.lload_spec.specs.Settings.{Settings}
use Rattle.lload_spec.specs.Strict.{each_connection_lives}
use Rattle.part_spec.specs.Marked.{Marked}
use Rattle.carried_laws.specs.Laws.{Played}

-- each connection's list is one of a connection's life, with expiries and Abandons where they may stand
abbrev pub ConnectionsLive : Type 0
ConnectionsLive =
    (s : Settings) (F : Family) (marked : PartName → List Marked) → Played s F marked
    → IsTrue (each_connection_lives s F)
