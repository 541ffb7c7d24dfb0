use Rattle.lload_outside.proofs.CallSteps.{plan_more}
use Rattle.lload_outside.proofs.calls.Calls.pass.Goals as goal

pub returns-then-self-len : goal.returns-then-self-len
returns-then-self-len c = rw (← c.self.view_is) (plan_more _ _ (let len = c.len.ensures in rw len at c.if-self-len.true))
