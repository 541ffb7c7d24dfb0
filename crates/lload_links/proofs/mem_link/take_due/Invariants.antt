use Rattle.std.proofs.Common.{◌≡◌, ℕ}
use Rattle.std.specs.VecDeque.{deque_len}
use Rattle.lload_links.specs.Plans.{due}
use Rattle.lload_links.proofs.mem_link.take_due.Given as goal

abbrev pub invariant-loop-step : goal.invariant-loop-step
invariant-loop-step l = due l.written l.reads.items ≡ due l.written l.initial.reads.items

abbrev pub decreases-loop-step : goal.decreases-loop-step
decreases-loop-step l = deque_len l.reads
