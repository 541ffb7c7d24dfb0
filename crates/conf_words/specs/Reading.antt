-- What a reader of a configuration answers, by the lines that are left before and behind the call, and what its steps
-- do with physical lines.
use Rattle.std.specs.Prelude.{◌≡◌, ◌≢◌, ℕ, ◌+◌, ◌≤◌, false, List, [], ◌∷◌, length, if◌then◌else◌}
use Rattle.std.specs.Str.Lines.{lines}
use Rattle.conf_words.specs.Lines.{ConfLine, Worded, Faulty, begins, continues, is_blank, is_number_sign, lines_from}
use Rattle.conf_words.specs.declared.lines.NextLine.{NextLine}
use Rattle.conf_words.specs.declared.lines.NextLine.TheVariants.{Line, End, Fault, NoMemory}
use Rattle.conf_words.specs.declared.place.Place.{Place}
use Rattle.conf_words.specs.declared.joining.First.{First}

-- a line is the first one left, and is taken out; the end comes where none is left; a fault is that of the first line
-- left; want of memory comes only where a line is left; and these two change nothing
abbrev pub Gives : NextLine → List ConfLine → List ConfLine → Type 0
Gives (Line number words) old new = old ≡ record { number = number; content = Worded words } ∷ new
Gives End old new = (old ≡ []) × (new ≡ [])
Gives (Fault line kind) old new = ((later : List ConfLine) × (old ≡ record { number = line; content = Faulty kind } ∷ later)) × (new ≡ old)
Gives NoMemory old new = (new ≡ old) × (old ≢ [])

-- the physical lines that are left at a place
abbrev pub physical : Place → List (List ℕ)
physical place = lines place.rest.now

-- the lines that are left at a place
abbrev pub lines_at : Place → List ConfLine
lines_at place = lines_from place.number (physical place)

-- the physical lines in front that continue what stands before them
abbrev pub continuations : List (List ℕ) → List (List ℕ)
continuations [] = []
continuations (line ∷ more) = if continues line then line ∷ continuations more else []

-- the physical lines behind those
abbrev pub behind : List (List ℕ) → List (List ℕ)
behind [] = []
behind (line ∷ more) = if continues line then behind more else line ∷ more

-- this is the first physical line of a place, and behind it comes that place
pub record Cuts (place : Place) (line : List ℕ) (after : Place) : Type 0 where
  pub lines : physical place ≡ line ∷ physical after
  pub number : after.number ≡ place.number + 1

-- the continuations in front of a place were passed
pub record Passes (place after : Place) : Type 0 where
  pub lines : physical after ≡ behind (physical place)
  pub number : after.number ≡ place.number + length (continuations (physical place))
  pub no_longer : length after.rest.now ≤ length place.rest.now

-- the lines of a place begin with that of this physical line, which is neither blank nor a comment's
pub record BeginsWith (place : Place) (first : First) : Type 0 where
  pub some : lines_at place ≢ []
  pub lines : lines_at place ≡ lines_from first.number (first.line.now ∷ physical first.after)
  pub not_blank : is_blank first.line.now ≡ false
  pub no_comment : begins is_number_sign first.line.now ≡ false
  pub number : first.after.number ≡ first.number + 1
