use Rattle.std.proofs.Common.{◌≡◌, drop}
use Rattle.lload_conf.specs.Line.{value_of}
use Rattle.lload_conf.proofs.line.value_of.Given as goal

abbrev pub invariant-loop-word : goal.invariant-loop-word
invariant-loop-word l = value_of l.name (drop l.word-index l.words) ≡ value_of l.name l.words
