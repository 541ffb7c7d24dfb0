use Rattle.std.proofs.Common.{true, false, ap, sym, ◌∙◌}
use Rattle.std.specs.VecDeque.Iter.{deque_iter_rest}
use Rattle.part_spec.specs.World.{lowest}
use Rattle.letter_queues.specs.Batches.{flights_in}
use Rattle.letter_queues.specs.Queues.{senders_to, lower_of}
use Rattle.letter_queues.proofs.Batches.{batch-senders, lower-none}
use Rattle.letter_queues.proofs.batch.lowest_sender_in.Goals as goal

pub loop-batch-preserved-then-has_letter_to : goal.loop-batch-preserved-then-has_letter_to
loop-batch-preserved-then-has_letter_to c =
    let left = deque_iter_rest c.next.new.self in
    c.loop-batch.invariant
    ∙ batch-senders c.loop-batch.found c.args.receiver c.in-Some.batch.now left (deque_iter_rest c.loop-batch.batch-iterator) true c.in-Some.ensures.steps (sym c.if-has_letter_to.true ∙ c.has_letter_to.ensures)
    ∙ ap (λ o. lower_of o (lowest (senders_to c.args.receiver (flights_in left)))) (sym c.lower_part-found.ensures)

pub loop-batch-preserved : goal.loop-batch-preserved
loop-batch-preserved c =
    let left = deque_iter_rest c.next.new.self in
    c.loop-batch.invariant
    ∙ batch-senders c.loop-batch.found c.args.receiver c.in-Some.batch.now left (deque_iter_rest c.loop-batch.batch-iterator) false c.in-Some.ensures.steps (sym c.if-has_letter_to.false ∙ c.has_letter_to.ensures)
    ∙ ap (λ o. lower_of o (lowest (senders_to c.args.receiver (flights_in left)))) (lower-none c.loop-batch.found)
