use Rattle.std.proofs.Common.{arith, sym, ◌∙◌}
use Rattle.lload_conf.proofs.Texts.{number-unparsed}
use Rattle.lload_conf.proofs.values.number.Goals as goal

pub returns-in-Err-clause-value : goal.returns-in-Err-clause-value
returns-in-Err-clause-value c = sym (number-unparsed c.args.range c.args.text.now c.parse.result _ c.parse.ensures.value.0 c.in-Err.is (sym c.is_decimal.ensures ∙ c.if-not-is_decimal.false) (omega arith))
