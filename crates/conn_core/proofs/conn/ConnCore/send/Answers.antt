use Rattle.std.proofs.Common.{arith, ap, ◌∙◌}
use Rattle.std.specs.BTreeMap.{insert_entry}
use Rattle.std.specs.Ordering.{nat_cmp}
use Rattle.op_deadlines.specs.Due.{Waiting}
use Rattle.lload_spec.specs.Identifiers.{id_for}
use Rattle.id_table.specs.Rows.{row_of, sent_row}
use Rattle.id_table.specs.Table.{Table}
use Rattle.conn_core.proofs.Rows.{fresh}
use Rattle.conn_core.proofs.Keeps.{few-rows, kept-sent, kept-undone}
use Rattle.conn_core.proofs.conn.ConnCore.send.Goals as goal

pub overflow_mul-more : goal.overflow_mul-more
overflow_mul-more c = let few = few-rows c.self.inside.table c.len.ensures.table in omega (arith, c.len.ensures.len, few)

pub overflow_add-more : goal.overflow_add-more
overflow_add-more c = let few = few-rows c.self.inside.table c.len.ensures.table in omega (arith, c.len.ensures.len, few)

pub invariant_of-self-in-Ok : goal.invariant_of-self-in-Ok
invariant_of-self-in-Ok c =
    kept-sent c.self.invariant (sent_row (id_for c.self.inside.table.ids) c.args.op c.args.kind c.args.ask_who c.args.at) _ _ _
    (fresh c.self.inside.table c.self.invariant.sound)
    c.in-Ok.ensures.table
    (ap (λ (t : Table). t.rows) c.in-Ok.ensures.gave)
    (ap (λ (w : Waiting). w.moments) c.in_ok-start.ensures.started ∙ ap (λ i. insert_entry nat_cmp c.self.inside.deadlines.moments i c.args.at) c.upcoming-id.ensures.id)
    c.in_ok-reserve.ensures.items
    (omega (arith, c.len.ensures.len, c.in_ok-reserve.ensures.spare))

pub invariant_of-self-in-Err : goal.invariant_of-self-in-Err
invariant_of-self-in-Err c =
    kept-undone c.self.invariant c.upcoming-id.result c.args.at _ _ _ _
    (ap (λ i. row_of i c.self.inside.table.rows) c.upcoming-id.ensures.id ∙ fresh c.self.inside.table c.self.invariant.sound)
    c.in-Err.ensures.err
    (ap (λ (w : Waiting). w.moments) c.in_ok-start.ensures.started)
    (ap (λ (w : Waiting). w.moments) c.stop.ensures.stopped)
    c.in_ok-reserve.ensures.items c.in_ok-reserve.ensures.kept
