use Rattle.std.proofs.Common.{◌≡◌, drop}
use Rattle.lload_conf.specs.Table.{named, rows_of}
use Rattle.lload_conf.proofs.table.named.Given as goal

abbrev pub invariant-loop-row : goal.invariant-loop-row
invariant-loop-row g l = named (rows_of (drop l.row-index l.table)) l.name ≡ named (rows_of l.table) l.name
