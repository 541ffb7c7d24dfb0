use Rattle.std.proofs.Common.{◌≡◌, ◌+◌, drop}
use Rattle.id_table.specs.Listed.{place_above}
use Rattle.id_table.proofs.list.place_above.Given as goal

-- the place is among the rows that are left
abbrev pub invariant-loop-place : goal.invariant-loop-place
invariant-loop-place l = place_above l.id l.rows ≡ l.place + place_above l.id (drop l.place l.rows)
