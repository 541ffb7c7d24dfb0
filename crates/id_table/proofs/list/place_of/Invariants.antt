use Rattle.std.proofs.Common.{◌≡◌, ◌+◌, drop}
use Rattle.id_table.specs.Listed.{place_of}
use Rattle.id_table.proofs.list.place_of.Given as goal

-- the place is among the rows that are left
abbrev pub invariant-loop-place : goal.invariant-loop-place
invariant-loop-place l = place_of l.id l.rows ≡ l.place + place_of l.id (drop l.place l.rows)
