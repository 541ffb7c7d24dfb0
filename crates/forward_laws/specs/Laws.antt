-- Where each Sent comes from, as a law of the lists of all parts.
use Rattle.std.specs.Prelude.{List, IsTrue}
use Rattle.lload_names.specs.declared.names.PartName.{PartName}
use Rattle.lload_spec.specs.Settings.{Settings}
use Rattle.lload_spec.specs.Journal.{Family, IsWhole}
use Rattle.lload_spec.specs.Fifo.{each_sent_chosen}
use Rattle.part_spec.specs.Marked.{Marked}
use Rattle.joined_laws.specs.Joined.{Joined}

-- each Sent has the choice of its connection while its operation was live, or goes on with an exchange there
abbrev pub FifoSentChosen : Type 0
FifoSentChosen =
    (s : Settings) (F : Family) (marked : PartName → List Marked) → IsWhole F → Joined s F marked
    → IsTrue (each_sent_chosen F)
