use Rattle.std.proofs.Common.{◌≡◌, length, map, filter, sym, ap, ◌∙◌, arith}
use Rattle.std.proofs.lemmas.List.{length-map}
use Rattle.lload_names.specs.declared.plans.TierKind.{TierKind}
use Rattle.lload_spec.specs.Lists.{first}
use Rattle.lload_spec.specs.Picks.{rising, in_turn}
use Rattle.tier_select.specs.Flags.{is_set}
use Rattle.tier_select.specs.Members.{weight}
use Rattle.tier_select.specs.Calls.{Standing, choice}
use Rattle.tier_select.proofs.Orders.{in_turn_order}
use Rattle.tier_select.proofs.tier.Tier.next.Goals as goal

pub returns-in-RoundRobin : goal.returns-in-RoundRobin
returns-in-RoundRobin c =
    let t = c.self.inside in
    let ws = map weight t.members.items in
    let eligible = c.args.eligible.now in
    let stands : TierKind → Standing = λ kind. record { kind = kind; weights = ws; chosen = t.chosen; latencies = t.latencies.items } in
    let long : c.len.result ≡ length ws = omega (arith, c.len.ensures, t.members.ok.0, length-map t.members.items weight) in
    let order = sym (in_turn_order ws t.chosen c.args.word) in
    let turn = ap (λ n. first (filter (is_set eligible) (in_turn (λ i. i) t.chosen (rising 0 n)))) long ∙ ap (λ o. first (filter (is_set eligible) o)) order in
    let kind = ap (λ kind. choice (stands kind) eligible c.args.word) (sym c.in-RoundRobin.is) in
    c.first_in_turn.ensures.first ∙ (turn ∙ (kind ∙ ap (λ v. choice v eligible c.args.word) c.self.view_is))
