use Rattle.std.proofs.Common.{arith, ap, length}
use Rattle.id_table.specs.declared.row.Row.{Row}
use Rattle.id_table.proofs.Tables.{table-ended, without-length}
use Rattle.id_table.proofs.table.TableOf.end.Goals as goal

pub invariant_of-self : goal.invariant_of-self
invariant_of-self g c = (table-ended c.args.id _ _ c.self.invariant.0 c.take.ensures.taken, let h = c.self.invariant.1 in let e = ap (length {A = Row}) c.take.ensures.taken in let l = without-length c.args.id (g.R.Rows.seen c.self.inside.live) in omega (arith, h, e, l))

pub returns-clause-table : goal.returns-clause-table
returns-clause-table g c = table-ended c.args.id _ _ c.self.invariant.0 c.take.ensures.taken
