use Rattle.std.proofs.Common.{◌≡◌}
use Rattle.counted_lock.proofs.tests.notes.Given as goal

abbrev pub invariant-loop-number : goal.invariant-loop-number
invariant-loop-number g l = (l.seat.lock ≡ l.initial.seat.lock) × (l.seat.tag ≡ l.initial.seat.tag)
