use Rattle.std.proofs.Common.{ap, ◌∙◌}
use Rattle.letter_queues.specs.Batches.{flights_in, flights_back}
use Rattle.letter_queues.specs.Queues.{lower_of}
use Rattle.letter_queues.proofs.Batches.{lowest-waiting-is}
use Rattle.letter_queues.proofs.queues.LetterQueues.lowest_waiting.Goals as goal

pub returns : goal.returns
returns c = λ w carried.
    c.lower_part-2.ensures ∙ ap (lower_of c.receiver_of-back.result) c.lower_part.ensures
    ∙ lowest-waiting-is (flights_back c.self.inside.returned) c.self.inside.sorted (flights_in c.self.inside.given.items) w.letters c.args.self.now c.receiver_of-back.result c.lowest_receiver-sorted.result c.lowest_receiver_in-given.result (ap (λ q. q.letters) c.self.view_is) carried c.receiver_of-back.ensures c.lowest_receiver-sorted.ensures c.lowest_receiver_in-given.ensures
