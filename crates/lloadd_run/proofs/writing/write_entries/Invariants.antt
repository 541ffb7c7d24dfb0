use Rattle.std.proofs.Common.{◌≤◌, take}
use Rattle.lload_spec.specs.Transcript.{journal_text}
use Rattle.lloadd_run.specs.Amounts.{WroteAll}
use Rattle.lloadd_run.proofs.writing.write_entries.Given as goal

abbrev pub invariant-loop-entry : goal.invariant-loop-entry
invariant-loop-entry g l = record {
  later : g.K.Sink.faults l.initial.out ≤ g.K.Sink.faults l.out;
  wrote : WroteAll (g.K.Sink.written l.initial.out) (g.K.Sink.written l.out) (journal_text (take l.entry-index l.entries));
}
