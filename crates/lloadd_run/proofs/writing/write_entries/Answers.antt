use Rattle.std.proofs.Common.{◌∙◌, arith}
use Rattle.std.proofs.lemmas.Result.{err_from_is_err_and}
use Rattle.lloadd_run.proofs.TextLaws.{entries_part, entry_part, entry_wrote}
use Rattle.lloadd_run.proofs.writing.write_entries.Goals as goal

pub returns-in_err-line-clause-part : goal.returns-in_err-line-clause-part
returns-in_err-line-clause-part g c =
    let p = err_from_is_err_and c.from_residual.result c.from_residual.ensures.1 in
    rw p.1 (entries_part _ _ c.args.entries.now c.loop-entry.entry-index c.loop-entry.invariant.wrote)

pub returns-in_err-write_all-clause-part : goal.returns-in_err-write_all-clause-part
returns-in_err-write_all-clause-part g c =
    let p = err_from_is_err_and c.from_residual-in_err-write_all.result c.from_residual-in_err-write_all.ensures.1 in
    rw p.1 (entry_part _ _ _ c.args.entries.now c.loop-entry.entry-index c.entry-item.result c.as_slice.result.now c.loop-entry-test.true c.entry-item.is (c.as_slice.ensures ∙ c.in_ok-line.ensures) c.loop-entry.invariant.wrote c.in_err-write_all.ensures.part)

pub loop-entry-preserved : goal.loop-entry-preserved
loop-entry-preserved g c = record {
  later = omega (arith, c.in_ok-write_all.ensures.never_falls);
  wrote = entry_wrote _ _ _ c.args.entries.now c.loop-entry.entry-index c.entry-item.result c.as_slice.result.now c.loop-entry-test.true c.entry-item.is (c.as_slice.ensures ∙ c.in_ok-line.ensures) c.loop-entry.invariant.wrote c.in_ok-write_all.ensures.all;
}
