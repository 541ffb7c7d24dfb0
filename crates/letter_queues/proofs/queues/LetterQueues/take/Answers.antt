use Rattle.std.proofs.Common.{ap, sym, ◌∙◌}
use Rattle.letter_queues.specs.Queues.{between, queue, later_letters}
use Rattle.letter_queues.proofs.Batches.{sorted-alone}
use Rattle.letter_queues.proofs.QueueLaws.{queue-without, queue-without-other}
use Rattle.letter_queues.proofs.queues.LetterQueues.take.Goals as goal

pub returns-clause-rest : goal.returns-clause-rest
returns-clause-rest c =
    let alone = sorted-alone c.self.inside.returned c.self.inside.given.items (ap (λ q. q.is_sorted) c.self.view_is ∙ c.requires) in
    ap (queue c.args.sender c.args.receiver) (alone c.take.new.self ∙ c.take.ensures.rest)
    ∙ queue-without c.args.sender c.args.receiver c.self.inside.sorted
    ∙ ap later_letters (ap (queue c.args.sender c.args.receiver) (sym (alone c.self.inside.sorted)) ∙ ap (λ q. between c.args.sender c.args.receiver q) c.self.view_is)

pub returns-clause-others : goal.returns-clause-others
returns-clause-others c = λ s r apart.
    let alone = sorted-alone c.self.inside.returned c.self.inside.given.items (ap (λ q. q.is_sorted) c.self.view_is ∙ c.requires) in
    ap (queue s r) (alone c.take.new.self ∙ c.take.ensures.rest)
    ∙ queue-without-other c.args.sender c.args.receiver s r c.self.inside.sorted apart
    ∙ ap (queue s r) (sym (alone c.self.inside.sorted))
    ∙ ap (λ q. between s r q) c.self.view_is
