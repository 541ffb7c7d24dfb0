-- Queues that carry a list of letters in flight go on as it does.
use Rattle.std.specs.Prelude.{◌≡◌, List, ◌∷◌, ◌++◌, find, Some}
use Rattle.std.specs.Option.{option_map}
use Rattle.lload_names.specs.declared.names.Letter.{Letter}
use Rattle.lload_names.specs.declared.names.PartName.{PartName}
use Rattle.lload_names.specs.declared.names.Posted.{Posted}
use Rattle.part_spec.specs.World.{Flight, flights, is_between, without_first}
use Rattle.letter_queues.specs.Queues.{Queues, between, first_letter, later_letters, Carries, Gains, StaySame, OthersStay}

-- behind a batch they carry its letters too, behind the others
abbrev pub HeldLettersAreCarried : Type 0
HeldLettersAreCarried =
    (letters : List Flight) (sender : PartName) (posted : List Posted) (before after : Queues)
    → Carries letters before → Gains sender posted before after → Carries (letters ++ flights sender posted) after

-- where no queue changed they carry the same
abbrev pub SameQueuesCarryTheSame : Type 0
SameQueuesCarryTheSame =
    (letters : List Flight) (before after : Queues) → Carries letters before → StaySame before after → Carries letters after

-- the first of a queue is the first such letter
abbrev pub FirstIsFound : Type 0
FirstIsFound =
    (letters : List Flight) (q : Queues) (sender receiver : PartName)
    → Carries letters q
    → first_letter (between sender receiver q)
    ≡ option_map (λ f. f.posted.letter) (find (is_between sender receiver) letters)

-- behind a letter that was taken they carry the others
abbrev pub TakenLetterIsGone : Type 0
TakenLetterIsGone =
    (letters : List Flight) (sender receiver : PartName) (before after : Queues)
    → Carries letters before
    → between sender receiver after ≡ later_letters (between sender receiver before)
    → OthersStay sender receiver before after
    → Carries (without_first (is_between sender receiver) letters) after

-- where a letter was taken and put back they carry what they did
abbrev pub ReturnedLetterStandsAsBefore : Type 0
ReturnedLetterStandsAsBefore =
    (letters : List Flight) (sender receiver : PartName) (letter : Letter) (before without after : Queues)
    → Carries letters before
    → first_letter (between sender receiver before) ≡ Some letter
    → between sender receiver without ≡ later_letters (between sender receiver before)
    → OthersStay sender receiver before without
    → between sender receiver after ≡ letter ∷ between sender receiver without
    → OthersStay sender receiver without after
    → Carries letters after
