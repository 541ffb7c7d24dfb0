-- What the promise of one upstream's answers in order says of several lists: each clause is a law of its own.
use Rattle.std.specs.Prelude.{List, IsTrue}
use Rattle.lload_names.specs.declared.names.PartName.{PartName}
use Rattle.lload_spec.specs.Settings.{Settings}
use Rattle.lload_spec.specs.Journal.{Family, IsWhole}
use Rattle.lload_spec.specs.Fifo.{each_sent_once, each_unanswered}
use Rattle.part_spec.specs.Marked.{Marked}
use Rattle.joined_laws.specs.Joined.{Joined}

-- at most one Sent of an operation stands in all lists
abbrev pub FifoSentOnce : Type 0
FifoSentOnce =
    (s : Settings) (F : Family) (marked : PartName → List Marked) → IsWhole F → Joined s F marked
    → IsTrue (each_sent_once F)

-- where an operation was not Sent, its client got nothing for it, or one answer of the proxy's own
abbrev pub FifoUnanswered : Type 0
FifoUnanswered =
    (s : Settings) (F : Family) (marked : PartName → List Marked) → IsWhole F → Joined s F marked
    → IsTrue (each_unanswered F)
