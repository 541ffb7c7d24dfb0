use Rattle.std.proofs.Common.{◌≡◌, drop}
use Rattle.id_table.specs.Rows.{row_of}
use Rattle.id_table.proofs.list.ListRowsRows.row.Given as goal

-- the row is among those that are left
abbrev pub invariant-loop-row : goal.invariant-loop-row
invariant-loop-row l = row_of l.id l.fn.self ≡ row_of l.id (drop l.row-index l.fn.self)
