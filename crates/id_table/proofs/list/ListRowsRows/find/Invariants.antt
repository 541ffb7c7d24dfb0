use Rattle.std.proofs.Common.{◌≡◌, drop}
use Rattle.id_table.specs.Rows.{id_of}
use Rattle.id_table.proofs.list.ListRowsRows.find.Given as goal

-- the identifier is among the rows that are left
abbrev pub invariant-loop-row : goal.invariant-loop-row
invariant-loop-row l = id_of l.op l.fn.self ≡ id_of l.op (drop l.row-index l.fn.self)
