-- The lines of a configuration (this project's own, in the shape of lloadd.conf(5)).
use Rattle.std.specs.Prelude.{ℕ, ◌+◌, ◌==◌, ◌&&◌, not, Bool, false, if◌then◌else◌, List, [], ◌∷◌, map, length, filter}
use Rattle.std.specs.List.{list_all, join_with_byte}
use Rattle.std.specs.Str.{is_utf8}
use Rattle.std.specs.Str.Lines.{lines}
use Rattle.conf_words.specs.Quoting.{is_space, signs, stays_open, words_of}

-- what a line holds: its words, or the kind of its fault (1: it isn't UTF-8; 2: a quote isn't closed)
pub data Content : Type 0 where
  Worded : List (List ℕ) → Content
  Faulty : ℕ → Content

-- a line of a configuration, with the number of its first physical line
pub record ConfLine : Type 0 where
  pub number : ℕ
  pub content : Content

-- whether the first byte passes a test
abbrev pub begins : (ℕ → Bool) → List ℕ → Bool
begins test [] = false
begins test (c ∷ cs) = test c

-- whether a physical line is empty, or of spaces and tabs alone
abbrev pub is_blank : List ℕ → Bool
is_blank line = list_all is_space line

-- whether a physical line continues the one before it: it begins with a space or a tab, and isn't blank
abbrev pub continues : List ℕ → Bool
continues line = begins is_space line && not (is_blank line)

-- whether the first of some physical lines continues what stands before them
abbrev pub is_continued : List (List ℕ) → Bool
is_continued [] = false
is_continued (line ∷ more) = continues line

-- a physical line and those that continue it, with its number
pub record Group : Type 0 where
  pub number : ℕ
  pub pieces : List (List ℕ)

-- groups with this physical line, of this number, in front of the first
abbrev pub onto_first_group : ℕ → List ℕ → List Group → List Group
onto_first_group n line [] = []
onto_first_group n line (g ∷ gs) = record { number = n; pieces = line ∷ g.pieces } ∷ gs

-- the groups of physical lines of which the first has this number: a blank line is in none and ends the one before it;
-- any other line is in front of the group that continues it, or is a group of its own
abbrev pub groups_from : ℕ → List (List ℕ) → List Group
groups_from n [] = []
groups_from n (line ∷ more) =
    if is_blank line then groups_from (n + 1) more
    else if is_continued more then onto_first_group n line (groups_from (n + 1) more)
    else record { number = n; pieces = line ∷ [] } ∷ groups_from (n + 1) more

-- whether a byte is a number sign
abbrev pub is_number_sign : ℕ → Bool
is_number_sign c = c == 35

-- whether some pieces are a comment: the first begins with a number sign
abbrev pub is_comment : List (List ℕ) → Bool
is_comment [] = false
is_comment (line ∷ more) = begins is_number_sign line

-- whether a group isn't a comment
abbrev pub is_kept : Group → Bool
is_kept g = not (is_comment g.pieces)

-- a continuation without the spaces and tabs at its beginning
abbrev pub unindented : List ℕ → List ℕ
unindented [] = []
unindented (c ∷ cs) = if is_space c then unindented cs else c ∷ cs

-- the pieces of a group, joined by one space
abbrev pub joined : List (List ℕ) → List ℕ
joined [] = []
joined (line ∷ more) = join_with_byte 32 (line ∷ map unindented more)

-- what a joined line holds
abbrev pub content_of : List ℕ → Content
content_of line =
    if not (is_utf8 line) then Faulty 1
    else if stays_open false (signs line) then Faulty 2
    else Worded (words_of line)

-- the line of a group
abbrev pub line_of : Group → ConfLine
line_of g = record { number = g.number; content = content_of (joined g.pieces) }

-- the lines of physical lines of which the first has this number
abbrev pub lines_from : ℕ → List (List ℕ) → List ConfLine
lines_from n physical = map line_of (filter is_kept (groups_from n physical))

-- all lines of a text, blank ones and comments left out, in order; the physical lines are those of Rust's `str::lines`:
-- they end with a line feed, a carriage return directly before it is dropped, and the last may lack it
abbrev pub conf_lines : List ℕ → List ConfLine
conf_lines text = lines_from 1 (lines text)

-- how many physical lines a text has
abbrev pub line_count : List ℕ → ℕ
line_count text = length (lines text)
