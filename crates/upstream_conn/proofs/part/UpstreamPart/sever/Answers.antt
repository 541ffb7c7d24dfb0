use Rattle.std.proofs.Common.{ap, sym, ◌∙◌}
use Rattle.lload_names.specs.declared.inputs.Effects.{Effects}
use Rattle.conn_core.proofs.Turns.{present}
use Rattle.upstream_conn.proofs.Severs.{severed-is}
use Rattle.upstream_conn.proofs.part.UpstreamPart.sever.Goals as goal

pub returns-clause-letters : goal.returns-clause-letters
returns-clause-letters c = λ s p h.
    let u = c.args.self.now in
    let there = present u.core.linked u.core.down (sym c.is_linked.ensures ∙ c.if-not-is_linked.false) (sym c.is_down.ensures ∙ c.if-is_down.false) in
    c.sever.ensures.letters ∙ sym (ap (λ (e : Effects). e.letters) (severed-is s p u c.moment_for-at.result c.args.now c.args.why h there c.moment_for-at.ensures))
