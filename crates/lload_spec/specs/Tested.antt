-- Each promise is a record with a fact in each field, and one computed test; the two say the same.
use Rattle.std.specs.Prelude.{◌↔◌, IsTrue}
use Rattle.lload_spec.specs.Settings.{Settings}
use Rattle.lload_spec.specs.Journal.{Family}
use Rattle.lload_spec.specs.Fifo.{Fifo, keeps_fifo}
use Rattle.lload_spec.specs.OneEach.{OneEach, keeps_one_each}
use Rattle.lload_spec.specs.Good.{Caused, Good, keeps_caused, keeps_good}
use Rattle.lload_spec.specs.Strict.{Strict, keeps_strict}
use Rattle.lload_spec.specs.Settled.{Settled, is_settled}

abbrev pub FifoTested : Type 0
FifoTested = (F : Family) → Fifo F ↔ IsTrue (keeps_fifo F)

abbrev pub OneEachTested : Type 0
OneEachTested = (s : Settings) (F : Family) → OneEach s F ↔ IsTrue (keeps_one_each s F)

abbrev pub CausedTested : Type 0
CausedTested = (s : Settings) (F : Family) → Caused s F ↔ IsTrue (keeps_caused s F)

abbrev pub GoodTested : Type 0
GoodTested = (s : Settings) (F : Family) → Good s F ↔ IsTrue (keeps_good s F)

abbrev pub StrictTested : Type 0
StrictTested = (s : Settings) (F : Family) → Strict s F ↔ IsTrue (keeps_strict s F)

abbrev pub SettledTested : Type 0
SettledTested = (s : Settings) (F : Family) → Settled s F ↔ IsTrue (is_settled s F)
