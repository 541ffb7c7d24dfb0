-- Each letter is fit where it is taken, and each that waits has a rule in its receiver's state.
use Rattle.std.specs.Prelude.{◌≡◌, ℕ, true, List, ◌∷◌, IsTrue}
use Rattle.std.specs.List.{list_all}
use Rattle.lload_names.specs.declared.inputs.Input.TheVariants.{LetterFrom}
use Rattle.lload_names.specs.declared.names.Letter.{Letter}
use Rattle.lload_names.specs.declared.names.PartName.{PartName}
use Rattle.lload_spec.specs.Settings.{Settings}
use Rattle.part_spec.specs.Fit.{is_all_fit, is_fit}
use Rattle.part_spec.specs.Merge.{PartMove, world_of}
use Rattle.part_spec.specs.World.{World, empty_world, list_in, turn_of}
use Rattle.link_laws.specs.Laws.{StatesAreOfLists}
use Rattle.link_laws.specs.Moves.{has_entry, marks_moves, waiting_between}
use Rattle.move_laws.specs.World as machine
use Rattle.move_laws.specs.AgreeBinds.{Holds}
use Rattle.stands_laws.specs.Books.{Book}
use Rattle.stands_laws.specs.ClientStands.{kinds_of}
use Rattle.stands_laws.specs.WorldStands.{WorldStands}

-- the letter that waits first between two parts is fit where it will be taken
abbrev pub FirstFit : Settings → World → Type 0
FirstFit s w =
    (sender receiver : PartName) (letter : Letter) (letters : List Letter)
    → waiting_between w sender receiver ≡ letter ∷ letters → is_fit s receiver (list_in w receiver) sender letter ≡ true

-- where a world of the machine stands for a world, and all holds that is said of the machine
abbrev pub FirstFitLaw : Type 0
FirstFitLaw =
    (s : Settings) (b : Book) (w : World) (v : machine.World) → WorldStands s b w v → Holds (kinds_of s b) v
    → FirstFit s w

-- whether a letter has a rule: a turn that takes it isn't empty
abbrev pub HaveRules : Settings → World → Type 0
HaveRules s w =
    (sender receiver : PartName) (now word : ℕ)
    → IsTrue
    (list_all (λ letter. has_entry (turn_of s w receiver (LetterFrom now word sender letter)))
    (waiting_between w sender receiver))

-- where a world of the machine stands for a world, and each part's state is that of its list
abbrev pub RulesLaw : Type 0
RulesLaw =
    (s : Settings) (b : Book) (w : World) (v : machine.World) → WorldStands s b w v → Holds (kinds_of s b) v
    → StatesAreOfLists s w → HaveRules s w

-- each letter of each part's list was fit where it was taken, and each that waits has a rule
pub record IsFitWorld (s : Settings) (w : World) : Type 0 where
  pub taken : (p : PartName) → IsTrue (is_all_fit s p (list_in w p))
  pub waiting : HaveRules s w

abbrev pub FitnessLaw : Type 0
FitnessLaw = (s : Settings) (ms : List PartMove) → IsFitWorld s (world_of s ms)

-- so each letter that moves take has a mark
abbrev pub MarksLaw : Type 0
MarksLaw = (s : Settings) (ms : List PartMove) → IsTrue (marks_moves s empty_world ms)
