-- How many letters come too late for an operation.
use Rattle.std.specs.Prelude.{◌≡◌, ℕ, ◌+◌, ◌==◌, ◌||◌, nat_le, List, Some, IsTrue}
use Rattle.lload_names.specs.declared.names.PartName.{PartName}
use Rattle.lload_spec.specs.Journal.{Family}
use Rattle.lload_spec.specs.Operations.{Operation, operation}
use Rattle.lload_spec.specs.Owed.{count_late, count_told, was_forwarded}
use Rattle.lload_spec.specs.Settings.{Settings}
use Rattle.lload_spec.specs.Strict.{each_late_owed}
use Rattle.part_spec.specs.Marked.{Marked}
use Rattle.carried_laws.specs.Laws.{Played}
use Rattle.given_laws.specs.Laws.{count_given}

-- where a letter for an operation came too late, such letters and what its client got, but for the answer to a Cancel
-- that ended it, are no more than one connection gave; and the operation was sent there, or missed
pub record AreTaken (s : Settings) (F : Family) (marked : PartName → List Marked) (o : Operation) : Type 0 where
  pub source : ℕ
  pub few : IsTrue (count_late F o == 0 || nat_le (count_late F o + count_told o) (count_given s marked o.name source))
  pub forwarded : IsTrue (count_late F o == 0 || was_forwarded o.name (F.connection source))

abbrev pub LatesAreTaken : Type 0
LatesAreTaken =
    (s : Settings) (F : Family) (marked : PartName → List Marked) → Played s F marked → (o : Operation)
    → operation F o.name ≡ Some o → AreTaken s F marked o

-- so each letter that comes too late was given, for an operation of the client's own
abbrev pub LatesAreOwed : Type 0
LatesAreOwed =
    (s : Settings) (F : Family) (marked : PartName → List Marked) → Played s F marked → IsTrue (each_late_owed s F)
