use Rattle.std.proofs.Common.{◌≡◌, ◌≤◌, ◌+◌, ◌++◌, length}
use Rattle.lload_spec.specs.Pauses.{resume_letters}
use Rattle.client_session.proofs.closing.put_resumes.Given as goal

abbrev pub invariant-loop-conn : goal.invariant-loop-conn
invariant-loop-conn l = record {
  entries : l.out.entries ≡ l.initial.out.entries;
  letters : l.out.letters.items ++ resume_letters l.client l.conn-iterator ≡ l.initial.out.letters.items ++ resume_letters l.client l.paused.keys;
  room : l.initial.out.letters.spare + length l.conn-iterator ≤ l.out.letters.spare + length l.paused.keys;
}
