use Rattle.std.proofs.Common.{ℕ, ◌≤◌, ◌<◌, length, ap, sym, subst, ◌∙◌}
use Rattle.std.specs.Prelude.{slice_set, slice_index_or}
use Rattle.id_table.specs.Rows.{kept_back}
use Rattle.id_table.proofs.ListPlaces.{none-at, changed-at}
use Rattle.id_table.proofs.list.keep_in.Goals as goal

pub returns-then-place-rows : goal.returns-then-place-rows
returns-then-place-rows c =
    let rows = c.args.rows.now in
    let at = c.place_of-place.ensures in
    ap (λ n. slice_set rows n (kept_back c.args.now c.args.kept (slice_index_or rows n c.index-rows-place.result))) at
    ∙ changed-at (kept_back c.args.now c.args.kept) c.args.id rows c.index-rows-place.result (subst (λ (n : ℕ). n < length rows) at c.if-place-rows.true)

pub returns-else-place-rows : goal.returns-else-place-rows
returns-else-place-rows c =
    let rows = c.args.rows.now in
    sym ((none-at c.args.id rows (subst (λ (n : ℕ). length rows ≤ n) c.place_of-place.ensures c.if-place-rows.false)).2 (kept_back c.args.now c.args.kept))
