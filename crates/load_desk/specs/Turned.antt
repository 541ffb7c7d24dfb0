-- What a step made of the desk, by the definition of its turn.
use Rattle.std.specs.Prelude.{◌≡◌, ◌≤◌, ◌++◌, ℕ, length}
use Rattle.lload_names.specs.declared.inputs.Effects.{Effects}
use Rattle.lload_names.specs.declared.inputs.Input.{Input}
use Rattle.lload_spec.specs.Settings.{Settings}
use Rattle.part_spec.specs.Inputs.{letter_of, marked_by}
use Rattle.part_spec.specs.DeskState.{DeskState, step_desks}
use Rattle.part_spec.specs.DeskTurn.{desk_turn}
use Rattle.outbox.specs.declared.outbox.Outbox.{Outbox}
use Rattle.load_desk.specs.declared.part.Desk.{Desk}
use Rattle.load_desk.specs.Part.{Stands}

-- the state behind an input
abbrev pub behind : Settings → DeskState → Input → DeskState
behind s p input = step_desks s p (marked_by (letter_of input) (desk_turn s p input).entries)

-- what was appended is the turn of an input, and the desk stands for the state behind it
pub record Turned (s : Settings) (p : DeskState) (input : Input) (old new : Outbox) (d : Desk) : Type 0 where
  pub entries : new.entries.items ≡ old.entries.items ++ (desk_turn s p input).entries
  pub letters : new.letters.items ≡ old.letters.items ++ (desk_turn s p input).letters
  pub stands : Stands s (behind s p input) d

-- nothing was appended
pub record IsSame (old new : Outbox) : Type 0 where
  pub entries : new.entries.items ≡ old.entries.items
  pub letters : new.letters.items ≡ old.letters.items

-- how many entries, and how many letters, a turn gives at most
abbrev pub most_of_a_turn : ℕ
most_of_a_turn = 2

-- no more entries than that, and no more letters
pub record IsWithin (most : ℕ) (made : Effects) : Type 0 where
  pub entries : length made.entries ≤ most
  pub letters : length made.letters ≤ most
