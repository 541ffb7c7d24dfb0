use Rattle.std.proofs.Common.{[], ap, ◌∙◌, sym}
use Rattle.tier_select.specs.Members.{weight}
use Rattle.lload_spec.specs.Picks.{total_weight}
use Rattle.tier_select.proofs.Drawing.{weighted-none, weighted-drawn, total-drawn}
use Rattle.tier_select.proofs.draws.draw_next.Goals as goal

pub returns-then-total-eq0-clause-order : goal.returns-then-total-eq0-clause-order
returns-then-total-eq0-clause-order c = weighted-none weight c.args.word c.args.left.now (sym c.requires ∙ c.if-total-eq0.true)

pub returns-clause-order : goal.returns-clause-order
returns-clause-order c =
    let drawn = weighted-drawn weight c.args.word c.args.left.now (λ none. c.if-total-eq0.false (c.requires ∙ none)) in
    cc

pub returns-clause-total : goal.returns-clause-total
returns-clause-total c = ap (total_weight weight) c.draw_first.ensures ∙ (total-drawn weight _ [] c.args.left.now ∙ sym c.requires)
