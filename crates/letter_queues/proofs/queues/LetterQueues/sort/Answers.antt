use Rattle.std.proofs.Common.{ap, ◌∙◌}
use Rattle.letter_queues.specs.Batches.{flights_in, flights_back}
use Rattle.letter_queues.specs.Queues.{between}
use Rattle.letter_queues.proofs.QueueLaws.{front-sorted, rest-sorted}
use Rattle.letter_queues.proofs.queues.LetterQueues.sort.Goals as goal

pub returns-in_err-sort_returned-clause-same : goal.returns-in_err-sort_returned-clause-same
returns-in_err-sort_returned-clause-same c = λ s r.
    front-sorted (flights_back c.self.inside.returned) c.self.inside.sorted (flights_back c.sort_returned.new.returned) c.sort_returned.new.sorted (flights_in c.self.inside.given.items) c.sort_returned.ensures.same s r
    ∙ ap (λ q. between s r q) c.self.view_is

pub returns-clause-same : goal.returns-clause-same
returns-clause-same c = λ s r.
    rest-sorted (flights_back c.sort_returned.new.returned) c.sort_returned.new.sorted c.sort_all.new.sorted (flights_in c.self.inside.given.items) (flights_in c.sort_all.new.given.items) c.sort_all.ensures.same s r
    ∙ front-sorted (flights_back c.self.inside.returned) c.self.inside.sorted (flights_back c.sort_returned.new.returned) c.sort_returned.new.sorted (flights_in c.self.inside.given.items) c.sort_returned.ensures.same s r
    ∙ ap (λ q. between s r q) c.self.view_is
