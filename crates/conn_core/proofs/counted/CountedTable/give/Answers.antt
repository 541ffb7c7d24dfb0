use Rattle.std.proofs.Common.{arith}
use Rattle.conn_core.proofs.Rows.{first-le}
use Rattle.conn_core.proofs.counted.CountedTable.give.Goals as goal

pub overflow_add-upcoming : goal.overflow_add-upcoming
overflow_add-upcoming c =
    let t = c.upcoming.ensures.table in
    let least = first-le c.self.inside.table.ids t.ids in
    let fits = t.fits in
    let most = t.most in
    omega (arith, c.upcoming.ensures.id, least, fits, most)
