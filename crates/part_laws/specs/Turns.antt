-- The list that the turns of one part make, and the letters that they give: each turn is that of an input, or of the
-- end of the part's link, behind the turns before it.
use Rattle.std.specs.Prelude.{ℕ, List, [], ◌∷◌, ◌++◌, Option, None}
use Rattle.lload_names.specs.declared.inputs.Input.{Input}
use Rattle.lload_names.specs.declared.inputs.Effects.{Effects}
use Rattle.lload_names.specs.declared.names.EndWhy.{EndWhy}
use Rattle.lload_names.specs.declared.names.Posted.{Posted}
use Rattle.part_spec.specs.Marked.{Marked, Taken}
use Rattle.part_spec.specs.Inputs.{letter_of, marked_by}
use Rattle.part_spec.specs.Fit.{ledger_behind as behind}

-- what comes to a part: an input, or the end of its link, at a moment and for a reason
pub data Event : Type 0 where
  Comes : Input → Event
  Severed : ℕ → EndWhy → Event

-- the letter of an event, with its sender
abbrev pub letter_with : Event → Option Taken
letter_with (Comes input) = letter_of input
letter_with (Severed now why) = None

-- the entries of a turn, with the letter that it took
abbrev pub made : {S : Type 0} → (S → Event → Effects) → S → Event → List Marked
made turn state x = marked_by (letter_with x) (turn state x).entries

-- the list that these events make of a part in this state
abbrev pub list_from : {S : Type 0} → (S → Marked → S) → (S → Event → Effects) → S → List Event → List Marked
list_from step turn state [] = []
list_from step turn state (x ∷ xs) =
    made turn state x ++ list_from step turn (behind step state (made turn state x)) xs

-- the letters that they give
abbrev pub letters_given : {S : Type 0} → (S → Marked → S) → (S → Event → Effects) → S → List Event → List Posted
letters_given step turn state [] = []
letters_given step turn state (x ∷ xs) =
    (turn state x).letters ++ letters_given step turn (behind step state (made turn state x)) xs

-- what nothing makes
abbrev pub no_effects : Effects
no_effects = record { entries = []; letters = [] }
