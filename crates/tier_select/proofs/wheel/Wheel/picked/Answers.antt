use Rattle.std.proofs.Common.{sym, ap, Some}
use Rattle.tier_select.specs.Turns.{Turns}
use Rattle.tier_select.proofs.Firsts.{last-more}
use Rattle.tier_select.proofs.wheel.Wheel.picked.Goals as goal

pub returns : goal.returns
returns c =
    let count = ap (λ (t : Turns). t.count) c.self.view_is in
    record { picks = λ picks stood. let next = sym (last-more picks (Some c.args.place)) in λ i. record { count = count i; chosen = next i } }
