use Rattle.std.proofs.Common.{sym, ◌∙◌}
use Rattle.tier_select.specs.declared.draws.Member.{Member}
use Rattle.tier_select.proofs.Drawing.{rotated}
use Rattle.tier_select.proofs.draws.draw_first.Goals as goal

pub returns : goal.returns
returns c =
    let any : Member = record { place = 0; weight = 0 } in
    let found = c.drawn_index-index.ensures in
    rotated c.args.left.now c.rotate_right.new.self c.drawn_index-index.result any found.within c.rotate_right.ensures.after ∙ sym (found.drawn any)
