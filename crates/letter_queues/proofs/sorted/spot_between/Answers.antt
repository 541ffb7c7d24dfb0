use Rattle.std.proofs.Common.{true, false, ap, sym, ◌∙◌}
use Rattle.letter_queues.proofs.Firsts.{entries_on, none-first, some-first}
use Rattle.letter_queues.proofs.sorted.spot_between.Goals as goal

pub returns-in_err-spot : goal.returns-in_err-spot
returns-in_err-spot c =
    let es = c.args.rows.now.entries in
    let range = ap (λ k. entries_on k es) (sym c.first_between.ensures) ∙ sym (c.range.ensures.between tt) in
    c.from_residual.ensures ∙ none-first c.args.sender c.args.receiver es c.range.result c.range.ensures.ordered range c.in_err-spot.ensures.steps.0

pub returns-then-is_between : goal.returns-then-is_between
returns-then-is_between c =
    let es = c.args.rows.now.entries in
    let range = ap (λ k. entries_on k es) (sym c.first_between.ensures) ∙ sym (c.range.ensures.between tt) in
    some-first c.args.sender c.args.receiver es c.range.result _ (c.in_ok-spot.spot.now, c.in_ok-spot.field-0-1.now) true c.range.ensures.ordered range c.in_ok-spot.ensures.steps (sym c.is_between.ensures ∙ c.if-is_between.true)

pub returns-else-is_between : goal.returns-else-is_between
returns-else-is_between c =
    let es = c.args.rows.now.entries in
    let range = ap (λ k. entries_on k es) (sym c.first_between.ensures) ∙ sym (c.range.ensures.between tt) in
    some-first c.args.sender c.args.receiver es c.range.result _ (c.in_ok-spot.spot.now, c.in_ok-spot.field-0-1.now) false c.range.ensures.ordered range c.in_ok-spot.ensures.steps (sym c.is_between.ensures ∙ c.if-is_between.false)
