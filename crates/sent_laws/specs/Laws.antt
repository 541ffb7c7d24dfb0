-- Where requests go.
use Rattle.std.specs.Prelude.{ℕ, List, IsTrue}
use Rattle.std.specs.List.{list_all}
use Rattle.lload_names.specs.declared.names.PartName.{PartName}
use Rattle.lload_spec.specs.Journal.{Family}
use Rattle.lload_spec.specs.Settings.{Settings}
use Rattle.lload_spec.specs.Strict.{each_sent_rightly, is_missed_rightly}
use Rattle.part_spec.specs.Marked.{Marked}
use Rattle.carried_laws.specs.Laws.{Played}

-- each Sent, and each Missed, stands at a connection of its request's kind, which its first check lets go on: where its
-- exchange is, or where it was chosen
pub record OfPlaces (s : Settings) (F : Family) : Type 0 where
  pub sent : IsTrue (each_sent_rightly s F)
  pub missed : (u : ℕ) → IsTrue (list_all (is_missed_rightly s F u) (F.connection u))

abbrev pub GoesRightly : Type 0
GoesRightly = (s : Settings) (F : Family) (marked : PartName → List Marked) → Played s F marked → OfPlaces s F
