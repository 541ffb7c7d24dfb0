use Rattle.std.proofs.Common.{◌-◌}
use Rattle.lload_reload.proofs.Found.{IsNarrowed}
use Rattle.lload_reload.proofs.plans.end_below.Given as goal

abbrev pub invariant-loop-low : goal.invariant-loop-low
invariant-loop-low l = IsNarrowed l.conn l.plans l.low l.high

abbrev pub decreases-loop-low : goal.decreases-loop-low
decreases-loop-low l = l.high - l.low
