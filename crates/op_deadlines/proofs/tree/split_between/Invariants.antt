use Rattle.std.proofs.Common.{◌<◌, ◌≤◌}
use Rattle.op_deadlines.proofs.tree.split_between.Given as goal

abbrev pub invariant-loop-split : goal.invariant-loop-split
invariant-loop-split l = (l.low < l.split) × (l.split ≤ l.high)

abbrev pub decreases-loop-split : goal.decreases-loop-split
decreases-loop-split l = l.split
