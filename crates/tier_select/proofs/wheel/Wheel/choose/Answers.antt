use Rattle.std.proofs.Common.{◌∙◌, sym, ap, arith, filter}
use Rattle.lload_names.specs.declared.plans.TierKind.TheVariants.{RoundRobin}
use Rattle.lload_spec.proofs.PickLemmas.{in_turn-permutes}
use Rattle.lload_spec.specs.Picks.{in_turn, rising}
use Rattle.tier_select.specs.Flags.{is_set}
use Rattle.tier_select.specs.Turns.{Turns}
use Rattle.tier_select.proofs.Candidates.{pick-none, none-pick, order-none, none-order}
use Rattle.tier_select.proofs.wheel.Wheel.choose.Goals as goal

pub returns-clause-none : goal.returns-clause-none
returns-clause-none c =
    let p = is_set c.args.eligible.now in
    let n = c.self.inside.count in
    let order = in_turn (λ i. i) c.self.inside.chosen (rising 0 n) in
    let each = in_turn-permutes (λ i. i) c.self.inside.chosen (rising 0 n) in
    let count = ap (λ (t : Turns). t.count) c.self.view_is in
    let found = c.first_in_turn.ensures.first in
    (λ e i l. none-order p n order each (pick-none RoundRobin (λ i. i) (filter p order) (sym found ∙ e)) i (omega (arith, count, l)), λ none. found ∙ none-pick RoundRobin (λ i. i) (filter p order) (order-none p n order each (λ i l. none i (omega (arith, count, l)))))
