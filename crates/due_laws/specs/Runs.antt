-- The same in each world that moves of the parts make: the letter that waits first is fit, and so a choice is due.
use Rattle.std.specs.Prelude.{◌≡◌, ℕ, List, ◌∷◌, Some, find}
use Rattle.lload_names.specs.declared.names.Answer.{Answer}
use Rattle.lload_names.specs.declared.names.Letter.{Letter}
use Rattle.lload_names.specs.declared.names.Letter.TheVariants.{Choice}
use Rattle.lload_names.specs.declared.names.OpName.{OpName}
use Rattle.lload_names.specs.declared.names.PartName.{PartName}
use Rattle.lload_names.specs.declared.names.PartName.TheVariants.{Client}
use Rattle.lload_spec.specs.Settings.{Settings}
use Rattle.part_spec.specs.Merge.{PartMove, world_of}
use Rattle.part_spec.specs.World.{Flight, client_in, is_between}
use Rattle.link_laws.specs.Moves.{waiting_between}
use Rattle.fitness_laws.specs.Fitness.{FirstFit}
use Rattle.due_laws.specs.Laws.{IsDue}

-- the letter that waits first between two parts is fit where it will be taken
abbrev pub FirstsAreFit : Type 0
FirstsAreFit = (s : Settings) (ms : List PartMove) → FirstFit s (world_of s ms)

-- where it is a choice for a client, it is due by the client's state
abbrev pub FirstChoicesAreDue : Type 0
FirstChoicesAreDue =
    (s : Settings) (ms : List PartMove) (c : ℕ) (sender : PartName) (op : OpName) (answer : Answer)
    (letters : List Letter)
    → waiting_between (world_of s ms) sender (Client c) ≡ Choice op answer ∷ letters
    → IsDue (client_in (world_of s ms) c) op

-- and so is the choice that a client takes from a sender
abbrev pub TakenChoicesAreDue : Type 0
TakenChoicesAreDue =
    (s : Settings) (ms : List PartMove) (c : ℕ) (sender : PartName) (f : Flight) (op : OpName) (answer : Answer)
    → find (is_between sender (Client c)) (world_of s ms).letters ≡ Some f → f.posted.letter ≡ Choice op answer
    → IsDue (client_in (world_of s ms) c) op
