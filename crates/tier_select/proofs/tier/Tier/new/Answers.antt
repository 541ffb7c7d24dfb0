use Rattle.std.proofs.Common.{◌≡◌, ◌≤◌, [], length, map, take, sym, ap, ◌∙◌, arith}
use Rattle.std.proofs.lemmas.List.{length-replicate}
use Rattle.lload_names.specs.declared.plans.BackendPlan.{BackendPlan}
use Rattle.lload_spec.specs.Picks.{total_weight}
use Rattle.tier_select.specs.Members.{weight, members_from}
use Rattle.tier_select.proofs.Orders.{length_stand, members_more, members_stand, total_more, rings_more}
use Rattle.tier_select.proofs.Standings.{standing-new}
use Rattle.tier_select.proofs.tier.Tier.new.Goals as goal

pub overflow_cast-len : goal.overflow_cast-len
overflow_cast-len c =
    let i = c.loop-backend.backend-index in
    let bs = c.args.plan.now.backends in
    let within : i ≤ length bs = omega (arith, ap (length {A = BackendPlan}) c.as_slice-backend-items.ensures) in
    let long = length_stand bs i c.loop-backend.members.items within c.loop-backend.invariant.members in
    omega (arith, within, long, c.len.ensures, c.loop-backend.members.ok.0, c.requires.few_backends)

pub loop-backend-preserved : goal.loop-backend-preserved
loop-backend-preserved c =
    let i = c.loop-backend.backend-index in
    let before = c.loop-backend.invariant in
    let count : c.len.result ≡ length c.loop-backend.members.items = omega (arith, c.len.ensures, c.loop-backend.members.ok.0) in
    record {
      members = c.in_ok-push.ensures.items ∙ members_more c.args.plan.now.backends c.as_slice-backend-items.result.now i _ c.loop-backend.members.items c.len.result c.as_slice-backend-items.ensures c.loop-backend-test.true before.members count;
      latencies = rings_more c.loop-backend.latencies.items c.push-in-loop-backend.new.self.items c.in_ok-new.field-0 i c.in_ok-push-2.ensures.items c.in_ok-new.ensures before.latencies;
      total = total_more c.loop-backend.members.items _ c.loop-backend.total before.total ∙ ap (total_weight weight) (sym c.in_ok-push.ensures.items);
      low = omega arith;
    }

pub invariant_of-result : goal.invariant_of-result
invariant_of-result c =
    let i = c.loop-backend.backend-index in
    let bs = c.args.plan.now.backends in
    let ms = c.loop-backend.members.items in
    let before = c.loop-backend.invariant in
    let within : i ≤ length bs = omega (arith, ap (length {A = BackendPlan}) c.as_slice-backend-items.ensures) in
    let long = length_stand bs i ms within before.members in
    let stand = members_stand ms (map (λ b. b.weight) (take i bs)) before.members in
    (omega (arith, within, long, c.requires.few_backends), before.members ∙ ap (members_from 0) (sym stand), before.total, ap length before.latencies ∙ (length-replicate i [] ∙ sym long), λ x e. cc)

pub returns : goal.returns
returns c =
    let i = c.loop-backend.backend-index in
    let all : i ≡ length c.args.plan.now.backends = omega (arith, ap (length {A = BackendPlan}) c.as_slice-backend-items.ensures) in
    standing-new c.args.plan.now c.loop-backend.members.items i c.loop-backend.latencies.items c.loop-backend.invariant.members all c.loop-backend.invariant.latencies
