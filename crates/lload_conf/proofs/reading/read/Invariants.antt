use Rattle.std.proofs.Common.{List, length}
use Rattle.conf_words.specs.Lines.{conf_lines, line_count}
use Rattle.lload_conf.specs.Configuration.{configuration}
use Rattle.lload_conf.specs.Line.{Words}
use Rattle.lload_conf.proofs.Answering.{IsHalfway}
use Rattle.lload_conf.proofs.reading.read.Given as goal

abbrev pub invariant-loop-number : goal.invariant-loop-number
invariant-loop-number l = (before : List Words) × IsHalfway (conf_lines l.text) (line_count l.text) (configuration l.text) before l.draft l.reader

abbrev pub decreases-loop-number : goal.decreases-loop-number
decreases-loop-number l = length l.reader
