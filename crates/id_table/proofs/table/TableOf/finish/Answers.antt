use Rattle.std.proofs.Common.{List, arith, ap, sym, length, ◌∙◌}
use Rattle.id_table.specs.Table.{Table, finished_at}
use Rattle.id_table.specs.declared.row.Row.{Row}
use Rattle.id_table.proofs.Tables.{table-ended, without-length, taken-length, was-given, not-free, table-finished, finished-none, none-gone}
use Rattle.id_table.proofs.table.TableOf.finish.Goals as goal

pub invariant_of-self : goal.invariant_of-self
invariant_of-self g c = (table-ended c.args.id _ _ c.self.invariant.0 c.in_err-row.ensures.taken, let h = c.self.invariant.1 in let e = ap (length {A = Row}) c.in_err-row.ensures.taken in let l = without-length c.args.id (g.R.Rows.seen c.self.inside.live) in omega (arith, h, e, l))

pub returns-in_err-row-clause-finished : goal.returns-in_err-row-clause-finished
returns-in_err-row-clause-finished g c =
    let none = sym c.in_err-row.ensures.row in
    let over : List Row → Table = λ rows. record { rows = rows; ids = c.self.inside.ids.ids; limit = c.self.inside.limit } in
    ap over (c.in_err-row.ensures.taken ∙ none-gone c.args.id (g.R.Rows.seen c.self.inside.live) none) ∙ finished-none c.args.id (over (g.R.Rows.seen c.self.inside.live)) none ∙ ap (finished_at c.args.id) c.self.view_is

pub returns-in_err-row-clause-table : goal.returns-in_err-row-clause-table
returns-in_err-row-clause-table g c = table-ended c.args.id _ _ c.self.invariant.0 c.in_err-row.ensures.taken

pub free-requires-clause-given : goal.free-requires-clause-given
free-requires-clause-given g c = was-given _ c.args.id c.in_ok-row.row c.self.invariant.0 (sym c.in_ok-row.ensures.row)

pub free-requires-clause-taken : goal.free-requires-clause-taken
free-requires-clause-taken g c = not-free _ c.args.id c.in_ok-row.row c.self.invariant.0 (sym c.in_ok-row.ensures.row)

pub invariant_of-self-2 : goal.invariant_of-self-2
invariant_of-self-2 g c =
    let h = c.self.invariant.1 in
    let e = ap (length {A = Row}) c.in_ok-row.ensures.taken in
    let l = taken-length c.args.id (g.R.Rows.seen c.self.inside.live) c.in_ok-row.row (sym c.in_ok-row.ensures.row) in
    let s = c.free.ensures.spare in
    (table-finished c.args.id _ _ _ c.self.invariant.0 c.in_ok-row.ensures.taken c.free.ensures.ids c.free.ensures.are_ids, omega (arith, h, e, l, s))

pub returns-clause-table : goal.returns-clause-table
returns-clause-table g c = table-finished c.args.id _ _ _ c.self.invariant.0 c.in_ok-row.ensures.taken c.free.ensures.ids c.free.ensures.are_ids
