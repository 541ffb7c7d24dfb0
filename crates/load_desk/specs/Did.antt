-- What a rule made of the desk, by its definition.
use Rattle.std.specs.Prelude.{◌≡◌, ◌++◌, ℕ, Option}
use Rattle.lload_names.specs.declared.names.PartName.TheVariants.{Desk as DeskPart}
use Rattle.lload_spec.specs.Settings.{Settings}
use Rattle.part_spec.specs.Marked.{Taken}
use Rattle.part_spec.specs.Inputs.{Act, entries_of, marked_by}
use Rattle.part_spec.specs.DeskState.{DeskState, step_desks}
use Rattle.outbox.specs.declared.outbox.Outbox.{Outbox}
use Rattle.load_desk.specs.declared.part.Desk.{Desk}
use Rattle.load_desk.specs.Part.{Stands}

-- the state behind an act at a moment
abbrev pub behind_act : Settings → ℕ → Option Taken → DeskState → Act → DeskState
behind_act s at mark p a = step_desks s p (marked_by mark (entries_of DeskPart at a.whats))

-- what an act appends at a moment, and for which state the desk stands behind it
pub record Did (s : Settings) (p : DeskState) (at : ℕ) (mark : Option Taken) (a : Act) (old new : Outbox) (d : Desk) : Type 0 where
  pub entries : new.entries.items ≡ old.entries.items ++ entries_of DeskPart at a.whats
  pub letters : new.letters.items ≡ old.letters.items ++ a.letters
  pub stands : Stands s (behind_act s at mark p a) d
