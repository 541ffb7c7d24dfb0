use Rattle.std.proofs.Common.{ap, ◌∙◌}
use Rattle.letter_queues.specs.Batches.{flights_in, flights_back}
use Rattle.letter_queues.specs.Queues.{lower_of}
use Rattle.letter_queues.proofs.Batches.{waiting-is}
use Rattle.letter_queues.proofs.queues.LetterQueues.waiting.Goals as goal

pub returns : goal.returns
returns c = λ w carried.
    c.lower_part-2.ensures ∙ ap (lower_of c.sender_to-back.result) c.lower_part.ensures
    ∙ waiting-is c.args.receiver (flights_back c.self.inside.returned) c.self.inside.sorted (flights_in c.self.inside.given.items) w.letters c.args.self.now c.sender_to-back.result c.lowest_sender-sorted.result c.lowest_sender_in-given.result (ap (λ q. q.letters) c.self.view_is) carried c.sender_to-back.ensures c.lowest_sender-sorted.ensures c.lowest_sender_in-given.ensures
