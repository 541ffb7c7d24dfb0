use Rattle.std.proofs.Common.{◌≤◌}
use Rattle.tier_bench.proofs.picks.Given as goal

abbrev pub invariant-loop : goal.invariant-loop
invariant-loop l = l.found ≤ l.counter
