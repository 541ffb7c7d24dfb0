use Rattle.std.proofs.Common.{◌≡◌, ◌≤◌, ◌+◌, ◌++◌, length}
use Rattle.client_session.specs.Closing.{drops}
use Rattle.client_session.proofs.closing.put_drops.Given as goal

abbrev pub invariant-loop-row : goal.invariant-loop-row
invariant-loop-row l = record {
  entries : l.out.entries ≡ l.initial.out.entries;
  letters : l.out.letters.items ++ drops l.client l.row-iterator ≡ l.initial.out.letters.items ++ drops l.client l.operations.rows;
  room : l.initial.out.letters.spare + length l.row-iterator ≤ l.out.letters.spare + length l.operations.rows;
}
