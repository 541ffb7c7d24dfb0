use Rattle.std.proofs.Common.{◌<◌, Some, ap, sym, ◌∙◌, length, arith}
use Rattle.std.specs.Prelude.{slice_index_or}
use Rattle.std.specs.List.{remove}
use Rattle.id_table.specs.declared.row.Row.{Row}
use Rattle.id_table.specs.Rows.{row_of, without}
use Rattle.id_table.specs.Listed.{place_of}
use Rattle.id_table.proofs.ListPlaces.{found-at, gone-at, none-at}
use Rattle.id_table.proofs.list.ListRowsRows.take.Goals as goal

pub returns-then-place-len-clause-row : goal.returns-then-place-len-clause-row
returns-then-place-len-clause-row c =
    let rows = c.self.inside.rows.items in
    let at = c.place_of-place.ensures ∙ ap (place_of c.args.id) c.deref.ensures.value in
    let len = sym c.deref.ensures.len ∙ ap (length {A = Row}) c.deref.ensures.value in
    let below : place_of c.args.id rows < length rows = omega (arith, at, len, c.if-place-len.true, c.len.ensures) in
    ap (λ (r : Row). Some r) (c.remove.ensures.value ∙ ap (λ n. slice_index_or rows n c.remove.result) at) ∙ found-at c.args.id rows c.remove.result below ∙ ap (row_of c.args.id) c.self.view_is

pub returns-then-place-len-clause-taken : goal.returns-then-place-len-clause-taken
returns-then-place-len-clause-taken c =
    let rows = c.self.inside.rows.items in
    let at = c.place_of-place.ensures ∙ ap (place_of c.args.id) c.deref.ensures.value in
    let len = sym c.deref.ensures.len ∙ ap (length {A = Row}) c.deref.ensures.value in
    let below : place_of c.args.id rows < length rows = omega (arith, at, len, c.if-place-len.true, c.len.ensures) in
    c.remove.ensures.items ∙ ap (remove rows) at ∙ gone-at c.args.id rows below ∙ ap (without c.args.id) c.self.view_is

pub returns-else-place-len-clause-row : goal.returns-else-place-len-clause-row
returns-else-place-len-clause-row c =
    let rows = c.self.inside.rows.items in
    let at = c.place_of-place.ensures ∙ ap (place_of c.args.id) c.deref.ensures.value in
    let len = sym c.deref.ensures.len ∙ ap (length {A = Row}) c.deref.ensures.value in
    sym (none-at c.args.id rows (omega (arith, at, len, c.if-place-len.false, c.len.ensures))).0 ∙ ap (row_of c.args.id) c.self.view_is

pub returns-else-place-len-clause-taken : goal.returns-else-place-len-clause-taken
returns-else-place-len-clause-taken c =
    let rows = c.self.inside.rows.items in
    let at = c.place_of-place.ensures ∙ ap (place_of c.args.id) c.deref.ensures.value in
    let len = sym c.deref.ensures.len ∙ ap (length {A = Row}) c.deref.ensures.value in
    sym c.self.view_is ∙ sym (none-at c.args.id rows (omega (arith, at, len, c.if-place-len.false, c.len.ensures))).1 ∙ ap (without c.args.id) c.self.view_is
