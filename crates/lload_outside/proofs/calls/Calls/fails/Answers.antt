use Rattle.std.proofs.Common.{sym}
use Rattle.lload_outside.proofs.CallSteps.{fails_at}
use Rattle.lload_outside.proofs.calls.Calls.fails.Goals as goal

pub returns-in-Some : goal.returns-in-Some
returns-in-Some c = rw (← c.self.view_is) (sym (fails_at c.self.inside.failing c.self.inside.made c.in-Some.byte.now c.in-Some.ensures))
