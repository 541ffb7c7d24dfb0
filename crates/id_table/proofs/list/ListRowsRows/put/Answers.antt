use Rattle.std.proofs.Common.{length, ap, sym, ◌∙◌, arith}
use Rattle.std.specs.List.{insert}
use Rattle.id_table.specs.declared.row.Row.{Row}
use Rattle.id_table.specs.Rows.{put}
use Rattle.id_table.specs.Listed.{place_above}
use Rattle.id_table.proofs.ListPlaces.{put-at, above-within}
use Rattle.id_table.proofs.list.ListRowsRows.put.Goals as goal

pub insert-requires : goal.insert-requires
insert-requires c =
    let at = c.place_above-place.ensures ∙ ap (place_above c.args.row.id) c.deref.ensures.value in
    let within = above-within c.args.row.id c.self.inside.rows.items in
    let len = sym c.deref.ensures.len ∙ ap (length {A = Row}) c.deref.ensures.value in
    omega (arith, at, within, len)

pub returns-clause-put : goal.returns-clause-put
returns-clause-put c =
    let at = c.place_above-place.ensures ∙ ap (place_above c.args.row.id) c.deref.ensures.value in
    c.in_ok-insert.ensures.items ∙ ap (λ n. insert c.self.inside.rows.items n c.args.row) at ∙ put-at c.args.row c.self.inside.rows.items ∙ ap (put c.args.row) c.self.view_is
