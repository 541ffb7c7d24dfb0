use Rattle.std.proofs.Common.{List, ◌++◌, ap, ◌∙◌}
use Rattle.part_spec.specs.World.{flights}
use Rattle.letter_queues.specs.declared.batch.Batch.{Batch}
use Rattle.letter_queues.specs.Batches.{flights_in, flights_back}
use Rattle.letter_queues.specs.Queues.{queue, between}
use Rattle.letter_queues.proofs.Batches.{queue-push}
use Rattle.letter_queues.proofs.queues.LetterQueues.hold.Goals as goal

pub returns-clause-held : goal.returns-clause-held
returns-clause-held c = λ s r.
    ap (λ (items : List Batch). queue s r (flights_back c.self.inside.returned ++ (c.self.inside.sorted ++ flights_in items))) c.push_back_reserved.ensures.items
    ∙ queue-push s r (flights_back c.self.inside.returned) c.self.inside.sorted c.self.inside.given.items (record { from = c.args.from; letters = c.from_vec.result })
    ∙ ap (λ items. queue s r (flights_back c.self.inside.returned ++ (c.self.inside.sorted ++ flights_in c.self.inside.given.items)) ++ queue s r (flights c.args.from items)) c.from_vec.ensures.items
    ∙ ap (λ q. between s r q ++ queue s r (flights c.args.from c.args.letters.items)) c.self.view_is
