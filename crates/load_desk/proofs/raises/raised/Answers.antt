use Rattle.std.proofs.Common.{◌≡◌, ◌<◌, length, get_or, refl, ap, subst, arith}
use Rattle.std.proofs.lemmas.Option.{slice_get_read}
use Rattle.std.specs.Prelude.{List}
use Rattle.lload_names.specs.declared.plans.TierPlan.{TierPlan}
use Rattle.load_desk.proofs.Raising.{tier-fits}
use Rattle.load_desk.proofs.raises.raised.Goals as goal

pub raised_backends-requires : goal.raised_backends-requires
raised_backends-requires c =
    let ts = c.args.plan.now in
    let i = c.loop-tier.tier-index in
    let t = c.tier-item.result in
    let item = subst (λ (us : List TierPlan). t ≡ get_or us i t) c.as_slice-tier-items.ensures c.tier-item.is in
    let within : i < length ts = omega (arith, c.loop-tier-test.true, ap (length {A = TierPlan}) c.as_slice-tier-items.ensures) in
    tier-fits c.args.before ts i t c.requires.plan c.requires.numbers (slice_get_read ts (length ts) i t refl within item)
