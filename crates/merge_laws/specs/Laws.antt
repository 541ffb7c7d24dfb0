-- A merged family is that of a run, as a statement.
use Rattle.std.specs.Prelude.{◌≡◌, ◌⊎◌, List, [], ◌∷◌, ◌++◌, IsTrue}
use Rattle.lload_names.specs.declared.names.PartName.{PartName}
use Rattle.lload_spec.specs.Settings.{Settings}
use Rattle.lload_spec.specs.Journal.{Family, IsWhole}
use Rattle.part_spec.specs.Marked.{Marked}
use Rattle.part_spec.specs.Merge.{Intake, IsEmptyTurn, IsTurnOf, PartMove, world_of}
use Rattle.part_spec.specs.Stamps.{StampedLinked, Turn, list_of_turns}
use Rattle.part_spec.specs.World.{list_in}
use Rattle.link_laws.specs.Moves.{end_rightly, ends_rightly}

-- each of these turns of a part is empty, or is what an intake that passes gives behind this list and those before
abbrev pub AreTurnsBy : (Intake → Type 0) → Settings → PartName → List Marked → List Turn → Type 0
AreTurnsBy Passes s p list [] = Unit {0}
AreTurnsBy Passes s p list (t ∷ ts) =
    (IsEmptyTurn t ⊎ ((i : IsTurnOf s p list t) × Passes i.intake)) × AreTurnsBy Passes s p (list ++ t.entries) ts

-- each of these turns of a part is so, and its link ends for a reason that a link has
abbrev pub AreLinkTurns : Settings → PartName → List Turn → Type 0
AreLinkTurns s p turns = AreTurnsBy (λ x. IsTrue (ends_rightly x)) s p [] turns

-- some moves, whose links end for reasons that a link has, make a world in which each part's list is that of its turns
pub record IsOfRun (s : Settings) (turns : PartName → List Turn) : Type 0 where
  pub moves : List PartMove
  pub rightly : IsTrue (end_rightly moves)
  pub lists : (p : PartName) → list_in (world_of s moves) p ≡ list_of_turns (turns p)

-- where links end for such reasons, a whole family of turns that is linked with stamps is that of a run: so what holds
-- of each run's lists holds of its lists
abbrev pub MergedRunLaw : Type 0
MergedRunLaw =
    (s : Settings) (F : Family) (turns : PartName → List Turn) → IsWhole F → StampedLinked s F turns
    → ((p : PartName) → AreLinkTurns s p (turns p)) → IsOfRun s turns
