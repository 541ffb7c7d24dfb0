use Rattle.std.proofs.Common.{ap, sym, ◌∙◌}
use Rattle.part_spec.specs.ConnectionState.{ConnectionState}
use Rattle.bind_conn.proofs.part.BindPart.ended.Goals as goal

pub returns : goal.returns
returns c = λ s p h. c.is_down.ensures ∙ sym (ap (λ (x : ConnectionState). x.down) h.is)
