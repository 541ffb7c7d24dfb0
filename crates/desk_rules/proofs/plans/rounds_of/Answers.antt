use Rattle.std.proofs.Common.{◌≡◌, ◌<◌, length, get_or, refl, ap, subst, arith}
use Rattle.std.proofs.lemmas.Option.{slice_get_read}
use Rattle.std.specs.Prelude.{List}
use Rattle.lload_names.specs.declared.plans.TierPlan.{TierPlan}
use Rattle.desk_rules.proofs.NewTables.{is-tier}
use Rattle.desk_rules.proofs.plans.rounds_of.Goals as goal

pub new-requires : goal.new-requires
new-requires c =
    let ts = c.args.plan.now in
    let i = c.loop-tier.tier-index in
    let t = c.tier-item.result in
    let item = subst (λ (us : List TierPlan). t ≡ get_or us i t) c.as_slice-tier-items.ensures c.tier-item.is in
    let within : i < length ts = omega (arith, c.loop-tier-test.true, ap (length {A = TierPlan}) c.as_slice-tier-items.ensures) in
    is-tier ts i t (slice_get_read ts (length ts) i t refl within item) c.requires.few c.requires.places
