use Rattle.std.proofs.Common.{ap}
use Rattle.id_table.specs.Table.{Table}
use Rattle.op_deadlines.specs.Due.{Waiting}
use Rattle.conn_core.proofs.Keeps.{kept-kept}
use Rattle.conn_core.proofs.conn.ConnCore.keep.Goals as goal

pub invariant_of-self : goal.invariant_of-self
invariant_of-self c = kept-kept c.self.invariant c.args.id c.args.at c.args.kept _ _ c.keep.ensures.table (ap (λ (t : Table). t.rows) c.keep.ensures.kept) (ap (λ (w : Waiting). w.moments) c.touch.ensures.touched)
