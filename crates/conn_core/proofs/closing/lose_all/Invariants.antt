use Rattle.std.proofs.Common.{◌≡◌, ◌≤◌, ◌+◌, ◌*◌, ◌++◌, length}
use Rattle.conn_core.specs.Closing.{lost_letters}
use Rattle.conn_core.proofs.closing.lose_all.Given as goal

abbrev pub decreases-loop-id : goal.decreases-loop-id
decreases-loop-id l = length l.table.rows

abbrev pub invariant-loop-id : goal.invariant-loop-id
invariant-loop-id l =
    (l.table ≡ record l.initial.table { rows = l.table.rows })
    × (l.out.entries ≡ l.initial.out.entries)
    × (l.out.letters.items ++ lost_letters l.number l.kind l.table.rows ≡ l.initial.out.letters.items ++ lost_letters l.number l.kind l.initial.table.rows)
    × (l.initial.out.letters.spare + 2 * length l.table.rows ≤ l.out.letters.spare + 2 * length l.initial.table.rows)
