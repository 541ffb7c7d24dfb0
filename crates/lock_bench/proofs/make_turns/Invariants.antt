use Rattle.std.proofs.Common.{◌≡◌}
use Rattle.lock_bench.proofs.make_turns.Given as goal

abbrev pub invariant-loop : goal.invariant-loop
invariant-loop g l = (l.seat.lock ≡ l.initial.seat.lock) × (l.seat.tag ≡ l.initial.seat.tag)
