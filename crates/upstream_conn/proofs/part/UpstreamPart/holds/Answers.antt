use Rattle.std.proofs.Common.{◌&&◌, not, Bool, ap, sym, ◌∙◌}
use Rattle.lload_spec.specs.Pauses.{is_waiting}
use Rattle.upstream_conn.proofs.Severs.{holding-is}
use Rattle.upstream_conn.proofs.part.UpstreamPart.holds.Goals as goal

pub returns-then-is_down : goal.returns-then-is_down
returns-then-is_down c = λ s p h. sym (holding-is s p c.args.self.now h ∙ ap (λ (b : Bool). not b && is_waiting c.args.self.now.waiting) (sym c.is_down.ensures ∙ c.if-is_down.true))

pub returns : goal.returns
returns c = λ s p h. c.is_any.ensures ∙ sym (holding-is s p c.args.self.now h ∙ ap (λ (b : Bool). not b && is_waiting c.args.self.now.waiting) (sym c.is_down.ensures ∙ c.if-is_down.false))
