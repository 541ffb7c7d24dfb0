use Rattle.std.proofs.Common.{List, length, map}
use Rattle.conf_words.specs.Lines.{line_count}
use Rattle.lload_conf.specs.AllFaults.{all_faults, fault_of}
use Rattle.lload_conf.specs.Line.{Words}
use Rattle.lload_conf.proofs.Findings.{IsOnTheWay}
use Rattle.lload_conf.proofs.finding.faults.Given as goal

abbrev pub invariant-loop-number : goal.invariant-loop-number
invariant-loop-number l = (before : List Words) × IsOnTheWay (line_count l.text) (all_faults l.text) (map fault_of l.found) before l.draft l.reader

abbrev pub decreases-loop-number : goal.decreases-loop-number
decreases-loop-number l = length l.reader
