-- What is taken without effect.
use Rattle.std.specs.Prelude.{ℕ, ◌+◌, ◌==◌, Bool, true, false, if◌then◌else◌, List, [], ◌∷◌, ◌++◌, map}
use Rattle.std.specs.Option.{option_map_or}
use Rattle.conf_words.specs.Lines.{ConfLine}
use Rattle.lload_conf.specs.Configuration.{words_in}
use Rattle.lload_conf.specs.FaultyWord.{wanted_of}
use Rattle.lload_conf.specs.Line.{Words, rank}
use Rattle.lload_conf.specs.Table.{directive_named}
use Rattle.lload_conf.specs.declared.table.Directive.TheVariants as directive
use Rattle.lload_conf.specs.declared.table.Takes.{Takes}
use Rattle.lload_conf.specs.declared.table.Takes.TheVariants as takes
use Rattle.lload_advice.specs.declared.noting.Note.{Note}

-- a word that has no effect: the number of its line, and its index among the words
pub record Noted : Type 0 where
  pub line : ℕ
  pub index : ℕ

-- the word that a note is on
abbrev pub noted_of : Note → Noted
noted_of note = record { line = note.line; index = note.index }

-- whether any text is taken without effect
abbrev pub is_without_effect : Takes → Bool
is_without_effect takes.Noted = true
is_without_effect _ = false

-- whether an argument of a directive is a key that has no effect
abbrev pub is_noted : List ℕ → List ℕ → Bool
is_noted name argument = option_map_or (λ read. is_without_effect read.0) (wanted_of name argument) false

-- whether a directive has no effect
abbrev pub is_noted_directive : List ℕ → Bool
is_noted_directive name = option_map_or (λ entry. rank entry.0 == rank directive.Noted) (directive_named name) false

-- the indices of the arguments of a directive that have no effect, where the first of these has this index
abbrev pub noted_arguments : List ℕ → ℕ → Words → List ℕ
noted_arguments name index [] = []
noted_arguments name index (word ∷ words) =
    if is_noted name word then index ∷ noted_arguments name (index + 1) words else noted_arguments name (index + 1) words

-- the indices of the words of a line that have no effect: its directive, or else arguments
abbrev pub noted_in : Words → List ℕ
noted_in [] = []
noted_in (name ∷ words) = if is_noted_directive name then 0 ∷ [] else noted_arguments name 1 words

-- the words with these indices in a line
abbrev pub numbered : ℕ → List ℕ → List Noted
numbered line indices = map (λ index. record { line = line; index = index }) indices

-- the words of some lines that have no effect
abbrev pub noted : List ConfLine → List Noted
noted [] = []
noted (line ∷ lines) = numbered line.number (noted_in (words_in line.content)) ++ noted lines
