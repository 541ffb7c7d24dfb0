use Rattle.std.proofs.Common.{arith, sym, ◌∙◌}
use Rattle.std.proofs.lemmas.Bool.Decides.{nat_tests}
use Rattle.conf_words.proofs.PhysicalLines.{lines-cut, lines-whole}
use Rattle.conf_words.proofs.physical.cut_line.Goals as goal

pub returns-in-Some-clause-cut : goal.returns-in-Some-clause-cut
returns-in-Some-clause-cut c = lines-cut c.args.text.now c.without_return.result.now c.in-Some.end (sym c.first_line_feed.ensures ∙ c.in-Some.is) c.without_return.ensures

pub returns-in-None-clause-cut : goal.returns-in-None-clause-cut
returns-in-None-clause-cut c = lines-whole c.args.text.now (sym c.first_line_feed.ensures ∙ c.in-None.is) (grind (arith, nat_tests))
