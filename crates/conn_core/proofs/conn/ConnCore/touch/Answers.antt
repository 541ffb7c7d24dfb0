use Rattle.std.proofs.Common.{ap}
use Rattle.id_table.specs.Table.{Table}
use Rattle.op_deadlines.specs.Due.{Waiting}
use Rattle.conn_core.proofs.Keeps.{kept-answered}
use Rattle.conn_core.proofs.conn.ConnCore.touch.Goals as goal

pub invariant_of-self : goal.invariant_of-self
invariant_of-self c = kept-answered c.self.invariant c.args.id c.args.at _ _ c.touch.ensures.table (ap (λ (t : Table). t.rows) c.touch.ensures.touched) (ap (λ (w : Waiting). w.moments) c.touch-2.ensures.touched)
