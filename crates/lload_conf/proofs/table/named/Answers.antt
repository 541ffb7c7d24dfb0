use Rattle.std.proofs.Common.{sym, ◌∙◌}
use Rattle.lload_conf.proofs.Tables.{named-here, named-past}
use Rattle.lload_conf.proofs.table.named.Goals as goal

pub returns-then-same_name : goal.returns-then-same_name
returns-then-same_name g c = sym (named-here c.args.table.now c.loop-row.row-index c.row-item.result c.args.name.now c.loop-row-test.true c.row-item.is (sym c.same_name.ensures ∙ c.if-same_name.true)) ∙ c.loop-row.invariant

pub loop-row-preserved : goal.loop-row-preserved
loop-row-preserved g c = sym (named-past c.args.table.now c.loop-row.row-index c.row-item.result c.args.name.now c.loop-row-test.true c.row-item.is (sym c.same_name.ensures ∙ c.if-same_name.false)) ∙ c.loop-row.invariant
