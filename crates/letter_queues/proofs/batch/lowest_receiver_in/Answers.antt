use Rattle.std.proofs.Common.{ap, sym, ◌∙◌}
use Rattle.std.specs.VecDeque.Iter.{deque_iter_rest}
use Rattle.part_spec.specs.World.{lowest}
use Rattle.letter_queues.specs.Batches.{flights_in}
use Rattle.letter_queues.specs.Queues.{receivers, lower_of}
use Rattle.letter_queues.proofs.Batches.{batch-receivers}
use Rattle.letter_queues.proofs.batch.lowest_receiver_in.Goals as goal

pub loop-batch-preserved : goal.loop-batch-preserved
loop-batch-preserved c =
    let left = deque_iter_rest c.next.new.self in
    c.loop-batch.invariant
    ∙ batch-receivers c.loop-batch.found c.in-Some.batch.now left (deque_iter_rest c.loop-batch.batch-iterator) c.in-Some.ensures.steps
    ∙ ap (λ o. lower_of o (lowest (receivers (flights_in left)))) (ap (lower_of c.loop-batch.found) (sym c.lowest_receiver.ensures) ∙ sym c.lower_part-found.ensures)
