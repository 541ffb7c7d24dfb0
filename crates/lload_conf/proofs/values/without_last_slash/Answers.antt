use Rattle.std.proofs.Common.{refl, ap, ◌∙◌}
use Rattle.lload_conf.proofs.Texts.{stripped}
use Rattle.lload_conf.proofs.values.without_last_slash.Goals as goal

pub returns : goal.returns
returns c = ap (λ x. x.now) c.unwrap_or.ensures ∙ stripped c.args.text.now c.strip_suffix.result c.args.text c.strip_suffix.ensures.cases refl
