use Rattle.std.proofs.Common.{arith}
use Rattle.conn_core.proofs.Keeps.{few-rows}
use Rattle.conn_core.proofs.conn.ConnCore.len.Goals as goal

pub returns-clause-small : goal.returns-clause-small
returns-clause-small c = omega (arith, c.len.ensures.len, few-rows _ c.len.ensures.table)
