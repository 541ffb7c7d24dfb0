use Rattle.std.proofs.Common.{◌≡◌, ℕ, ◌++◌, List}
use Rattle.std.specs.Str.Iter.{chars_rest}
use Rattle.conf_words.specs.WordMaking.{leaves_open, makes}
use Rattle.conf_words.proofs.words.WordMaker.take_text.Given as goal

-- of what is left, the maker makes what was to be made of the whole text
abbrev pub invariant-loop-c : goal.invariant-loop-c
invariant-loop-c l =
    ((rest : List ℕ) → makes l.initial.self (l.text ++ rest) ≡ makes l.self (chars_rest l.c-iterator ++ rest))
    × ((rest : List ℕ) → leaves_open l.initial.self (l.text ++ rest) ≡ leaves_open l.self (chars_rest l.c-iterator ++ rest))
