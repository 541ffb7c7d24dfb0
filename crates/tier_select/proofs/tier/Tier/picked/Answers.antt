use Rattle.std.proofs.Common.{Some, sym, ap, ◌∙◌}
use Rattle.tier_select.specs.Calls.{Standing}
use Rattle.tier_select.proofs.Standings.{standing-picked}
use Rattle.tier_select.proofs.tier.Tier.picked.Goals as goal

pub returns-clause-calls : goal.returns-clause-calls
returns-clause-calls c plan calls stood =
    let picked : Standing → Standing = λ s. record s { chosen = Some c.args.place } in
    ap picked (c.self.view_is ∙ stood) ∙ sym (standing-picked plan calls (Some c.args.place))
