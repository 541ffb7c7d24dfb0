use Rattle.std.proofs.Common.{◌≡◌, length}
use Rattle.conf_words.specs.Lines.{unindented as without_indent}
use Rattle.conf_words.proofs.physical.unindented.Given as goal

abbrev pub invariant-loop-byte : goal.invariant-loop-byte
invariant-loop-byte l = without_indent l.text ≡ without_indent l.line

abbrev pub decreases-loop-byte : goal.decreases-loop-byte
decreases-loop-byte l = length l.text
