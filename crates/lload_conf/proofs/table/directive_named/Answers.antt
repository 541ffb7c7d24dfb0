use Rattle.std.proofs.Common.{sym, ◌∙◌}
use Rattle.lload_conf.specs.Table.{begins_with_tls, directives, left_out, named}
use Rattle.lload_conf.proofs.Tables.{found-first, found-nowhere}
use Rattle.lload_conf.proofs.table.directive_named.Goals as goal

pub returns-in-Some : goal.returns-in-Some
returns-in-Some c = found-first (named directives c.args.name.now) c.in-Some.found _ c.in-Some.ensures

pub returns-in-None-2 : goal.returns-in-None-2
returns-in-None-2 c = found-nowhere (named directives c.args.name.now) (begins_with_tls c.args.name.now) left_out c.in-None-2.ensures (sym c.begins_with_tls.ensures ∙ c.if-begins_with_tls.false)
