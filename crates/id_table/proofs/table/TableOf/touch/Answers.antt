use Rattle.std.proofs.Common.{arith, ap, length, refl, ◌∙◌}
use Rattle.id_table.specs.Rows.{answered}
use Rattle.id_table.specs.declared.row.Row.{Row}
use Rattle.id_table.proofs.Tables.{table-changed, changed-length}
use Rattle.id_table.proofs.table.TableOf.touch.Goals as goal

pub invariant_of-self : goal.invariant_of-self
invariant_of-self g c = (table-changed (answered c.args.now) c.args.id _ _ (record { id = λ r. refl; op = λ r. refl }) c.self.invariant.0 c.touch.ensures, let h = c.self.invariant.1 in let e = ap (length {A = Row}) c.touch.ensures ∙ changed-length (answered c.args.now) c.args.id (g.R.Rows.seen c.self.inside.live) in omega (arith, h, e))

pub returns-clause-table : goal.returns-clause-table
returns-clause-table g c = table-changed (answered c.args.now) c.args.id _ _ (record { id = λ r. refl; op = λ r. refl }) c.self.invariant.0 c.touch.ensures
