-- In which physical line a word of a line begins.
use Rattle.std.specs.Prelude.{ℕ, Bool, ◌+◌, ◌&&◌, nat_le, if◌then◌else◌, List, [], ◌∷◌, ◌++◌, length}
use Rattle.std.specs.Str.{is_utf8}
use Rattle.conf_words.specs.Lines.{unindented}
use Rattle.conf_words.specs.Quoting.{words_of}
use Rattle.conf_words.specs.Reading.{continuations, physical}
use Rattle.conf_words.specs.declared.joining.First.{First}

-- how many words begin in a text, which may end within one
abbrev pub words_begun : List ℕ → ℕ
words_begun text = length (words_of text)

-- whether a piece behind a text is passed on the way to a word, the words being counted from 0: it is UTF-8, and where it
-- ends the word hasn't begun
abbrev pub is_passed : ℕ → List ℕ → List ℕ → Bool
is_passed word before piece = is_utf8 piece && nat_le (words_begun (before ++ piece)) word

-- the number of the first piece that isn't passed, or else of the last; `before` stands in front of the piece with this
-- number, and behind it come others, numbered from `next` on
abbrev pub piece_of_word : ℕ → List ℕ → ℕ → List ℕ → ℕ → List (List ℕ) → ℕ
piece_of_word word before number piece next [] = number
piece_of_word word before number piece next (line ∷ more) =
    if is_passed word before piece then piece_of_word word (before ++ (piece ++ 32 ∷ [])) next (unindented line) (next + 1) more else number

-- the number of the physical line in which a word of a line begins; of a line that isn't UTF-8, that of the first physical
-- line that isn't, where no earlier one has the word
abbrev pub line_of_word : First → ℕ → ℕ
line_of_word first word = piece_of_word word [] first.number first.line.now first.after.number (continuations (physical first.after))
