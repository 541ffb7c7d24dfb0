use Rattle.std.proofs.Common.{◌≡◌, ◌≤◌, ◌+◌, ◌++◌, length}
use Rattle.lload_spec.specs.Pauses.{pause_letters}
use Rattle.client_session.proofs.flow.put_pauses.Given as goal

abbrev pub invariant-loop-conn : goal.invariant-loop-conn
invariant-loop-conn l = record {
  entries : l.out.entries ≡ l.initial.out.entries;
  letters : l.out.letters.items ++ pause_letters l.client l.conn-iterator ≡ l.initial.out.letters.items ++ pause_letters l.client l.us.keys;
  room : l.initial.out.letters.spare + length l.conn-iterator ≤ l.out.letters.spare + length l.us.keys;
}
