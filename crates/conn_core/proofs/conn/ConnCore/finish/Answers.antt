use Rattle.std.proofs.Common.{ap, ◌∙◌}
use Rattle.id_table.specs.Table.{Table}
use Rattle.op_deadlines.specs.Due.{Waiting}
use Rattle.conn_core.proofs.Rows.{finished-rows}
use Rattle.conn_core.proofs.Keeps.{kept-gone}
use Rattle.conn_core.proofs.conn.ConnCore.finish.Goals as goal

pub invariant_of-self : goal.invariant_of-self
invariant_of-self c = kept-gone c.self.invariant c.args.id _ _ c.finish-row.ensures.table (ap (λ (t : Table). t.rows) c.finish-row.ensures.finished ∙ finished-rows c.args.id c.self.inside.table) (ap (λ (w : Waiting). w.moments) c.stop.ensures.stopped)
