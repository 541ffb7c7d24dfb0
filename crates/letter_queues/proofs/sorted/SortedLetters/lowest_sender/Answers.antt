use Rattle.std.proofs.Common.{true, false, ap, sym, ◌∙◌}
use Rattle.part_spec.specs.World.{lowest}
use Rattle.letter_queues.specs.Queues.{senders_to}
use Rattle.letter_queues.proofs.Firsts.{entries_on}
use Rattle.letter_queues.proofs.Lowest.{none-from, some-from}
use Rattle.letter_queues.proofs.sorted.SortedLetters.lowest_sender.Goals as goal

pub returns-in_err-spot : goal.returns-in_err-spot
returns-in_err-spot c =
    let es = c.self.inside.rows.entries in
    let range = ap (λ k. entries_on k es) (sym c.first_to.ensures) ∙ sym (c.range.ensures.between tt) in
    c.from_residual.ensures
    ∙ none-from c.args.receiver es c.range.result c.range.ensures.ordered range c.in_err-spot.ensures.steps.0
    ∙ ap (λ v. lowest (senders_to c.args.receiver v)) c.self.view_is

pub returns-then-is_same : goal.returns-then-is_same
returns-then-is_same c =
    let es = c.self.inside.rows.entries in
    let range = ap (λ k. entries_on k es) (sym c.first_to.ensures) ∙ sym (c.range.ensures.between tt) in
    some-from c.args.receiver es c.range.result _ (c.in_ok-spot.spot.now, c.in_ok-spot.field-0-1.now) true c.range.ensures.ordered range c.in_ok-spot.ensures.steps (sym c.is_same.ensures ∙ c.if-is_same.true)
    ∙ ap (λ v. lowest (senders_to c.args.receiver v)) c.self.view_is

pub returns-else-is_same : goal.returns-else-is_same
returns-else-is_same c =
    let es = c.self.inside.rows.entries in
    let range = ap (λ k. entries_on k es) (sym c.first_to.ensures) ∙ sym (c.range.ensures.between tt) in
    some-from c.args.receiver es c.range.result _ (c.in_ok-spot.spot.now, c.in_ok-spot.field-0-1.now) false c.range.ensures.ordered range c.in_ok-spot.ensures.steps (sym c.is_same.ensures ∙ c.if-is_same.false)
    ∙ ap (λ v. lowest (senders_to c.args.receiver v)) c.self.view_is
