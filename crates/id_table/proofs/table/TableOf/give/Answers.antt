use Rattle.std.proofs.Common.{arith, ap, sym, length, ◌∙◌}
use Rattle.lload_spec.specs.Identifiers.{id_for, with_sent_id}
use Rattle.id_table.specs.Rows.{row_of}
use Rattle.id_table.specs.Table.{Table}
use Rattle.id_table.specs.declared.row.Row.{Row}
use Rattle.id_table.proofs.Tables.{fresh, table-gave, put-length, same-limit}
use Rattle.id_table.proofs.table.TableOf.give.Goals as goal

pub put-requires-clause-absent : goal.put-requires-clause-absent
put-requires-clause-absent g c = ap (λ i. row_of i (g.R.Rows.seen c.self.inside.live)) (c.first-id.ensures ∙ ap id_for c.in_ok-reserve.ensures.ids) ∙ fresh _ c.self.invariant.0

pub invariant_of-self-2 : goal.invariant_of-self-2
invariant_of-self-2 g c =
    let h = c.in_ok-reserve.ensures.ok in
    let l = c.len.ensures.len in
    let e = ap (length {A = Row}) c.in_ok-put.ensures.put ∙ put-length _ (g.R.Rows.seen c.self.inside.live) in
    let s = c.use_first.ensures.spare in
    (table-gave _ _ _ _ c.self.invariant.0 (same-limit _ _ c.self.view_is c.requires) (c.first-id.ensures ∙ ap id_for c.in_ok-reserve.ensures.ids) c.in_ok-put.ensures.put (c.use_first.ensures.ids ∙ ap (λ i. with_sent_id (id_for i) i) c.in_ok-reserve.ensures.ids) c.use_first.ensures.are_ids, omega (arith, h, l, e, s))

pub returns-clause-fresh : goal.returns-clause-fresh
returns-clause-fresh g c = ap (λ (t : Table). row_of c.first-id.result t.rows) (sym c.self.view_is) ∙ ap (λ i. row_of i (g.R.Rows.seen c.self.inside.live)) (c.first-id.ensures ∙ ap id_for c.in_ok-reserve.ensures.ids) ∙ fresh _ c.self.invariant.0

pub returns-clause-table : goal.returns-clause-table
returns-clause-table g c = table-gave _ _ _ _ c.self.invariant.0 (same-limit _ _ c.self.view_is c.requires) (c.first-id.ensures ∙ ap id_for c.in_ok-reserve.ensures.ids) c.in_ok-put.ensures.put (c.use_first.ensures.ids ∙ ap (λ i. with_sent_id (id_for i) i) c.in_ok-reserve.ensures.ids) c.use_first.ensures.are_ids
