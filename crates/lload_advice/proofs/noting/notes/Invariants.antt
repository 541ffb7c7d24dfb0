use Rattle.std.proofs.Common.{◌≡◌, ◌++◌, length, map}
use Rattle.conf_words.specs.Lines.{conf_lines}
use Rattle.lload_advice.specs.Notes.{noted, noted_of}
use Rattle.lload_advice.proofs.noting.notes.Given as goal

abbrev pub invariant-loop-number : goal.invariant-loop-number
invariant-loop-number l = map noted_of l.notes ++ noted l.reader ≡ noted (conf_lines l.text)

abbrev pub decreases-loop-number : goal.decreases-loop-number
decreases-loop-number l = length l.reader
