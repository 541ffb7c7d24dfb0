use Rattle.std.proofs.Common.{◌≡◌}
use Rattle.std.specs.VecDeque.Iter.{deque_iter_rest}
use Rattle.part_spec.specs.World.{lowest}
use Rattle.letter_queues.specs.Queues.{senders_to, lower_of}
use Rattle.letter_queues.specs.Batches.{flights_in}
use Rattle.letter_queues.proofs.batch.lowest_sender_in.Given as goal

abbrev pub invariant-loop-batch : goal.invariant-loop-batch
invariant-loop-batch l = lowest (senders_to l.receiver (flights_in l.given.items)) ≡ lower_of l.found (lowest (senders_to l.receiver (flights_in (deque_iter_rest l.batch-iterator))))
