use Rattle.std.proofs.Common.{ℕ, ◌≤◌, ◌+◌, ◌++◌, List, take}
use Rattle.std.specs.Prelude.{Option}
use Rattle.lloadd_run.specs.Playing.{Stood}
use Rattle.lloadd_run.proofs.player.Player.take_all.Given as goal

abbrev pub invariant-loop-byte : goal.invariant-loop-byte
invariant-loop-byte g l = record {
  later : g.K.Sink.faults l.initial.out ≤ g.K.Sink.faults l.out;
  lines : l.self.lines ≤ l.initial.self.lines + l.byte-index;
  stood : (taken : List ℕ) (first : Option (List ℕ)) → Stood l.initial.self taken first (g.K.Sink.written l.initial.out) → Stood l.self (taken ++ take l.byte-index l.bytes) first (g.K.Sink.written l.out);
}
