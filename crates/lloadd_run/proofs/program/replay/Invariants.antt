use Rattle.std.proofs.Common.{◌≤◌, ◌+◌}
use Rattle.lloadd_run.specs.Playing.{Reading}
use Rattle.lloadd_run.proofs.program.replay.Given as goal

abbrev pub invariant-loop-n : goal.invariant-loop-n
invariant-loop-n g l = record {
  read_later : g.S.Source.faults l.initial.script ≤ g.S.Source.faults l.script;
  write_later : g.K.Sink.faults l.initial.out ≤ g.K.Sink.faults l.out;
  lines : l.player.lines + l.room ≤ 67108864;
  reading : Reading 67108864 l.room l.player (g.S.Source.left l.initial.script) (g.S.Source.left l.script) (g.K.Sink.written l.initial.out) (g.K.Sink.written l.out);
}

abbrev pub decreases-loop-n : goal.decreases-loop-n
decreases-loop-n g l = l.room
