use Rattle.std.proofs.Common.{◌≡◌, length}
use Rattle.conf_words.specs.Reading.{lines_at}
use Rattle.conf_words.proofs.joining.first_line.Given as goal

abbrev pub invariant-loop-line : goal.invariant-loop-line
invariant-loop-line l = lines_at l.fn.from ≡ lines_at l.place

abbrev pub decreases-loop-line : goal.decreases-loop-line
decreases-loop-line l = length l.place.rest.now
