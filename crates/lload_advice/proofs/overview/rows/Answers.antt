use Rattle.std.proofs.Common.{◌++◌, ap, sym, ◌∙◌}
use Rattle.lload_advice.proofs.Overviews.{backends-more}
use Rattle.lload_advice.proofs.overview.rows.Goals as goal

pub loop-tier-preserved : goal.loop-tier-preserved
loop-tier-preserved c =
    c.in_ok-with_tier.ensures
    ∙ (ap (λ backends. backends ++ c.tier-item.result.backends) c.loop-tier.invariant
    ∙ sym (backends-more c.as_slice-tier-items.result.now c.loop-tier.tier-index c.tier-item.result c.loop-tier-test.true c.tier-item.is))
