use Rattle.std.proofs.Common.{◌≡◌}
use Rattle.std.specs.VecDeque.Iter.{deque_iter_rest}
use Rattle.part_spec.specs.World.{flights, lowest}
use Rattle.letter_queues.specs.Queues.{receivers, lower_of}
use Rattle.letter_queues.specs.Batches.{batch_flights}
use Rattle.letter_queues.proofs.batch.Batch.lowest_receiver.Given as goal

abbrev pub invariant-loop-posted : goal.invariant-loop-posted
invariant-loop-posted l = lowest (receivers (batch_flights l.self)) ≡ lower_of l.found (lowest (receivers (flights l.self.from (deque_iter_rest l.posted-iterator))))
