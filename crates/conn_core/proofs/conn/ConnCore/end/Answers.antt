use Rattle.std.proofs.Common.{ap}
use Rattle.id_table.specs.Table.{Table}
use Rattle.op_deadlines.specs.Due.{Waiting}
use Rattle.conn_core.proofs.Keeps.{kept-gone}
use Rattle.conn_core.proofs.conn.ConnCore.end.Goals as goal

pub invariant_of-self : goal.invariant_of-self
invariant_of-self c = kept-gone c.self.invariant c.args.id _ _ c.end-row.ensures.table (ap (λ (t : Table). t.rows) c.end-row.ensures.ended) (ap (λ (w : Waiting). w.moments) c.stop.ensures.stopped)
