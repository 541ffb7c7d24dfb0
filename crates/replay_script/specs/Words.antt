-- The words of a line that are still to be read.
use Rattle.std.specs.Prelude.{ℕ, List, [], Option, Some, None}
use Rattle.std.specs.Borrow.{Bor}
use Rattle.lload_spec.specs.Script.{words}

-- the words of what is left of a line, where something is left
abbrev pub words_left : Option (Bor (List ℕ)) → List (List ℕ)
words_left None = []
words_left (Some line) = words line.now
