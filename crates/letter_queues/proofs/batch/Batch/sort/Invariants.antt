use Rattle.std.proofs.Common.{◌++◌}
use Rattle.std.specs.VecDeque.{deque_len}
use Rattle.part_spec.specs.World.{flights}
use Rattle.letter_queues.specs.Queues.{AreSame}
use Rattle.letter_queues.proofs.batch.Batch.sort.Given as goal

abbrev pub invariant-loop-posted : goal.invariant-loop-posted
invariant-loop-posted l = AreSame (l.initial.sorted ++ flights l.from l.initial.letters.items) (l.sorted ++ flights l.from l.letters.items)

abbrev pub decreases-loop-posted : goal.decreases-loop-posted
decreases-loop-posted l = deque_len l.letters
