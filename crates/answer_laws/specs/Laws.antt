-- What each client got is allowed by the answers of the one upstream that its operation was sent to.
use Rattle.std.specs.Prelude.{List, IsTrue}
use Rattle.lload_names.specs.declared.names.PartName.{PartName}
use Rattle.lload_spec.specs.Settings.{Settings}
use Rattle.lload_spec.specs.Journal.{Family}
use Rattle.lload_spec.specs.Fifo.{each_answered}
use Rattle.part_spec.specs.Marked.{Marked}
use Rattle.joined_laws.specs.Joined.{Joined}

-- where an operation was Sent, what its client got is a beginning of the answers there, or such a beginning without a final
-- one and then one answer of the proxy's own
abbrev pub FifoAnswered : Type 0
FifoAnswered =
    (s : Settings) (F : Family) (marked : PartName → List Marked) → Joined s F marked → IsTrue (each_answered F)
