-- The words of one line of a configuration (this project's own): spaces and tabs separate words, double quotes keep
-- them together, and a backslash gives a double quote or a backslash.
use Rattle.std.specs.Prelude.{ℕ, ◌==◌, ◌||◌, ◌&&◌, not, Bool, true, false, is_none, if◌then◌else◌, List, [], ◌∷◌, map, filter, flat_map, Option, Some, None, unwrap_or}
use Rattle.std.specs.List.{slice_split}

-- whether a byte is a space or a tab
abbrev pub is_space : ℕ → Bool
is_space c = c == 32 || c == 9

-- a line is made of bytes that stand for themselves, and of double quotes that begin or end a quoted stretch
pub data Sign : Type 0 where
  Byte : ℕ → Sign
  Quote : Sign

-- a byte with no backslash before it
abbrev pub sign : ℕ → Sign
sign c = if c == 34 then Quote else Byte c

-- whether a backslash before this byte gives it: before a double quote or a backslash
abbrev pub is_escaped : ℕ → Bool
is_escaped c = c == 34 || c == 92

-- the signs of what is left of a line, where a backslash stands before it, or none; before other bytes, and at the end, a backslash stays
abbrev pub signs_behind : Bool → List ℕ → List Sign
signs_behind false [] = []
signs_behind true [] = Byte 92 ∷ []
signs_behind false (c ∷ cs) = if c == 92 then signs_behind true cs else sign c ∷ signs_behind false cs
signs_behind true (c ∷ cs) = if is_escaped c then Byte c ∷ signs_behind false cs else Byte 92 ∷ Byte c ∷ signs_behind false cs

-- the signs of a line
abbrev pub signs : List ℕ → List Sign
signs line = signs_behind false line

-- whether the last quote of a line isn't closed, where a quoted stretch has begun before it, or none
abbrev pub stays_open : Bool → List Sign → Bool
stays_open quoted [] = quoted
stays_open quoted (Byte c ∷ ss) = stays_open quoted ss
stays_open quoted (Quote ∷ ss) = stays_open (not quoted) ss

-- what each sign adds to the word that it stands in, a byte itself and a quote nothing; and `None` for a space or a tab
-- outside of quoted stretches, which separates words
abbrev pub parts : Bool → List Sign → List (Option (List ℕ))
parts quoted [] = []
parts quoted (Byte c ∷ ss) = (if is_space c && not quoted then None else Some (c ∷ [])) ∷ parts quoted ss
parts quoted (Quote ∷ ss) = Some [] ∷ parts (not quoted) ss

-- whether there is a part
abbrev pub has_part : List (Option (List ℕ)) → Bool
has_part [] = false
has_part (p ∷ ps) = true

-- the word that parts make
abbrev pub word_of : List (Option (List ℕ)) → List ℕ
word_of ps = flat_map (λ p. unwrap_or p []) ps

-- the words that parts make, with separators among them
abbrev pub words_of_parts : List (Option (List ℕ)) → List (List ℕ)
words_of_parts ps = map word_of (filter has_part (slice_split is_none ps))

-- the words of a line; two quotes alone are an empty word
abbrev pub words_of : List ℕ → List (List ℕ)
words_of line = words_of_parts (parts false (signs line))
