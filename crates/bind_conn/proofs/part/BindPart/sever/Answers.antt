use Rattle.std.proofs.Common.{ap, sym, ◌∙◌}
use Rattle.lload_names.specs.declared.inputs.Effects.{Effects}
use Rattle.conn_core.proofs.Turns.{present}
use Rattle.bind_conn.proofs.Severs.{severed-is}
use Rattle.bind_conn.proofs.part.BindPart.sever.Goals as goal

pub returns-clause-letters : goal.returns-clause-letters
returns-clause-letters c = λ s p h.
    let b = c.args.self.now in
    let there = present b.core.linked b.core.down (sym c.is_linked.ensures ∙ c.if-not-is_linked.false) (sym c.is_down.ensures ∙ c.if-is_down.false) in
    c.sever.ensures.letters ∙ sym (ap (λ (e : Effects). e.letters) (severed-is s p b c.moment_for-at.result c.args.now c.args.why h there c.moment_for-at.ensures))

pub returns-clause-entries : goal.returns-clause-entries
returns-clause-entries c = λ s p h.
    let b = c.args.self.now in
    let there = present b.core.linked b.core.down (sym c.is_linked.ensures ∙ c.if-not-is_linked.false) (sym c.is_down.ensures ∙ c.if-is_down.false) in
    c.sever.ensures.entries ∙ sym (ap (λ (e : Effects). e.entries) (severed-is s p b c.moment_for-at.result c.args.now c.args.why h there c.moment_for-at.ensures))
