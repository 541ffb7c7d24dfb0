use Rattle.std.proofs.Common.{◌≡◌, ◌+◌, ◌++◌, ◌<◌, length, get_or, ap, subst, ◌∙◌, arith}
use Rattle.std.specs.Prelude.{List}
use Rattle.lload_names.specs.declared.plans.TierPlan.{TierPlan}
use Rattle.lload_names.specs.Plans.{rooms_of}
use Rattle.lload_names.proofs.Places.{length-rooms-more}
use Rattle.desk_rules.specs.Fresh.{new_servers}
use Rattle.desk_rules.proofs.NewTables.{servers-next}
use Rattle.desk_rules.proofs.plans.servers_of.Goals as goal

pub add_servers-requires : goal.add_servers-requires
add_servers-requires c =
    let ts = c.args.plan.now in
    let i = c.loop-tier.tier-index in
    let t = c.tier-item.result in
    let item = subst (λ (us : List TierPlan). t ≡ get_or us i t) c.as_slice-tier-items.ensures c.tier-item.is in
    let within : i < length ts = omega (arith, c.loop-tier-test.true, ap (length {A = TierPlan}) c.as_slice-tier-items.ensures) in
    omega (arith, length-rooms-more ts i t within item, ap (λ bs. length (rooms_of bs)) c.as_slice.ensures, c.loop-tier.invariant.from, c.requires)

pub loop-tier-preserved : goal.loop-tier-preserved
loop-tier-preserved c =
    let ts = c.args.plan.now in
    let i = c.loop-tier.tier-index in
    let t = c.tier-item.result in
    let item = subst (λ (us : List TierPlan). t ≡ get_or us i t) c.as_slice-tier-items.ensures c.tier-item.is in
    let within : i < length ts = omega (arith, c.loop-tier-test.true, ap (length {A = TierPlan}) c.as_slice-tier-items.ensures) in
    let next : c.in_ok-from.from ≡ c.loop-tier.from + length (rooms_of t.backends) = omega (arith, c.in_ok-from.ensures.next, ap (λ bs. length (rooms_of bs)) c.as_slice.ensures) in
    record {
      servers = servers-next ts i t c.loop-tier.servers.items c.add_servers.new.servers.items _ c.loop-tier.from c.in_ok-from.from within item (c.in_ok-from.ensures.servers ∙ ap (λ bs. c.loop-tier.servers.items ++ new_servers c.loop-tier.from bs) c.as_slice.ensures) next c.loop-tier.invariant.servers;
      from = omega (arith, length-rooms-more ts i t within item, next, c.loop-tier.invariant.from);
    }
