use Rattle.std.proofs.Common.{◌+◌, ◌≤◌, length}
use Rattle.envelope_bench.proofs.count_messages.Given as goal

abbrev pub invariant-loop-end : goal.invariant-loop-end
invariant-loop-end l = l.found + length l.left ≤ length l.bytes

abbrev pub decreases-loop-end : goal.decreases-loop-end
decreases-loop-end l = length l.left
