use Rattle.std.proofs.Common.{arith}
use Rattle.conn_core.proofs.Keeps.{few-rows}
use Rattle.conn_core.proofs.conn.ConnCore.reserve_end.Goals as goal

pub overflow_mul-more : goal.overflow_mul-more
overflow_mul-more c = let few = few-rows c.self.inside.table c.len.ensures.table in omega (arith, c.len.ensures.len, few)

pub overflow_add-more : goal.overflow_add-more
overflow_add-more c = let few = few-rows c.self.inside.table c.len.ensures.table in omega (arith, c.len.ensures.len, few)

pub overflow_add-letters : goal.overflow_add-letters
overflow_add-letters c = let few = few-rows c.self.inside.table c.len.ensures.table in omega (arith, c.len.ensures.len, few)
