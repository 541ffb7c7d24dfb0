use Rattle.std.proofs.Common.{◌≡◌, ◌≤◌, ◌++◌}
use Rattle.std.specs.VecDeque.{deque_len, deque_capacity}
use Rattle.letter_queues.specs.Queues.{AreSame}
use Rattle.letter_queues.specs.Batches.{flights_in}
use Rattle.letter_queues.proofs.batch.sort_all.Given as goal

abbrev pub invariant-loop-batch : goal.invariant-loop-batch
invariant-loop-batch l =
    AreSame (l.initial.sorted ++ flights_in l.initial.given.items) (l.sorted ++ flights_in l.given.items)
    × ((deque_capacity l.given ≡ deque_capacity l.initial.given) × (deque_len l.given ≤ deque_len l.initial.given))

abbrev pub decreases-loop-batch : goal.decreases-loop-batch
decreases-loop-batch l = deque_len l.given
