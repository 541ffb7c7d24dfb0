use Rattle.std.proofs.Common.{◌≡◌}
use Rattle.counted_lock.proofs.tests.adds.Given as goal

abbrev pub invariant-loop : goal.invariant-loop
invariant-loop g l = (l.seat.lock ≡ l.initial.seat.lock) × (l.seat.tag ≡ l.initial.seat.tag)
