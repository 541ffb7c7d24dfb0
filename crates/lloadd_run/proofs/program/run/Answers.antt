use Rattle.lloadd_run.proofs.CheckLaws.{not_both}
use Rattle.lloadd_run.proofs.CompleteLaws.{replayed}
use Rattle.lloadd_run.proofs.ExactLaws.{told_too_long, told_refused}
use Rattle.lloadd_run.proofs.program.run.Goals as goal

pub returns-in-Some-ReplayPlain-clause-complete : goal.returns-in-Some-ReplayPlain-clause-complete
returns-in-Some-ReplayPlain-clause-complete g c = λ text asks told can no_read no_write. replayed 67108864 c.replay.result text _ _ _ _ _ _ _ _ told can no_read no_write c.replay.ensures

pub returns-in-Some-ReplayPlain-clause-too_long_comes : goal.returns-in-Some-ReplayPlain-clause-too_long_comes
returns-in-Some-ReplayPlain-clause-too_long_comes g c = λ text asks told is no_read no_write. told_too_long 67108864 c.replay.result text _ _ _ _ _ _ _ _ told is no_read no_write c.replay.ensures

pub returns-in-Some-ReplayPlain-clause-script_refused_comes : goal.returns-in-Some-ReplayPlain-clause-script_refused_comes
returns-in-Some-ReplayPlain-clause-script_refused_comes g c = λ text line asks told is no_read no_write. told_refused 67108864 line c.replay.result text _ _ _ _ _ _ _ _ told is no_read no_write c.replay.ensures

pub returns-in-Some-Check-clause-too_long_comes : goal.returns-in-Some-Check-clause-too_long_comes
returns-in-Some-Check-clause-too_long_comes g c = λ text asks told is no_read no_write. absurd (not_both c.args.words.now c.in-Some-Check.conf.now (rw c.in-Some-Check.field-0-is at c.in-Some-Check.ensures) asks)
