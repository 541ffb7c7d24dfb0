use Rattle.std.proofs.Common.{◌∙◌, sym}
use Rattle.lloadd_run.proofs.CheckLaws.{has_plain}
use Rattle.lloadd_run.proofs.checking.load.Goals as goal

pub returns-in-Ok-clause-loads : goal.returns-in-Ok-clause-loads
returns-in-Ok-clause-loads g c = has_plain (g.F.FileReader.held c.args.files.now) c.args.conf.now c.in-Ok.config (sym c.is.ensures ∙ c.if-is.true) c.in-Ok.ensures.text
