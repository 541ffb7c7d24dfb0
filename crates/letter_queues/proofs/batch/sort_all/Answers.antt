use Rattle.std.proofs.Common.{List, ◌++◌, ap, sym, ◌∙◌}
use Rattle.letter_queues.specs.declared.batch.Batch.{Batch}
use Rattle.letter_queues.specs.Batches.{batch_flights, flights_in}
use Rattle.letter_queues.specs.Queues.{queue}
use Rattle.letter_queues.proofs.QueueLaws.{batches-step}
use Rattle.letter_queues.proofs.batch.sort_all.Goals as goal

pub returns-in-Err-clause-same : goal.returns-in-Err-clause-same
returns-in-Err-clause-same c = λ s r.
    c.loop-batch.invariant.0 s r
    ∙ ap (λ (items : List Batch). queue s r (c.loop-batch.sorted ++ flights_in items)) c.in-Some.ensures.items
    ∙ batches-step (batch_flights c.in-Some.batch) (flights_in c.pop_front.new.self.items) (batch_flights c.in-Err.left) c.loop-batch.sorted c.sort.new.sorted c.in-Err.ensures.err s r
    ∙ ap (λ (items : List Batch). queue s r (c.sort.new.sorted ++ flights_in items)) (sym c.push_front_reserved.ensures.items)
