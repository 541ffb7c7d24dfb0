-- Words for examples of lines.
use Rattle.std.specs.Prelude.{ℕ, List}
use Rattle.conf_words.specs.Lines.{ConfLine, Worded, Faulty}

-- a line of this number with these words
abbrev pub worded : ℕ → List (List ℕ) → ConfLine
worded number words = record { number = number; content = Worded words }

-- a line of this number with a fault of this kind
abbrev pub faulty : ℕ → ℕ → ConfLine
faulty number kind = record { number = number; content = Faulty kind }
