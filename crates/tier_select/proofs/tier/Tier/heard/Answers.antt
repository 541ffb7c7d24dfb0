use Rattle.std.proofs.Common.{◌<◌, length, map, ap, ◌∙◌, arith}
use Rattle.tier_select.specs.Members.{weight}
use Rattle.tier_select.specs.Calls.{Standing}
use Rattle.tier_select.proofs.Standings.{standing-heard}
use Rattle.tier_select.proofs.tier.Tier.heard.Goals as goal

pub returns-clause-calls : goal.returns-clause-calls
returns-clause-calls c plan calls stood =
    let t = c.self.inside in
    let stands : Standing = record { kind = t.kind; weights = map weight t.members.items; chosen = t.chosen; latencies = t.latencies.items } in
    let within : c.args.place < length stands.weights = omega (arith, c.requires, ap (λ (s : Standing). length s.weights) c.self.view_is) in
    standing-heard plan calls c.args.place c.args.latency stands c.index_mut.result.now c.note.new.self (c.self.view_is ∙ stood) within c.index_mut.ensures.value c.note.ensures
