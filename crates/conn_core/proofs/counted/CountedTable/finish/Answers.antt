use Rattle.std.proofs.Common.{ap, sym, ◌∙◌}
use Rattle.id_table.specs.Table.{Table}
use Rattle.conn_core.proofs.Rows.{finished-next}
use Rattle.conn_core.proofs.counted.CountedTable.finish.Goals as goal

pub invariant_of-self : goal.invariant_of-self
invariant_of-self c = c.self.invariant ∙ sym (finished-next c.args.id c.self.inside.table) ∙ sym (ap (λ (t : Table). t.ids.next) c.finish.ensures.finished)
