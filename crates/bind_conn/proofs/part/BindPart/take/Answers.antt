use Rattle.conn_core.proofs.Turns.{on-ok}
use Rattle.bind_conn.proofs.part.BindPart.take.Goals as goal

pub returns-in-Forward-clause-did : goal.returns-in-Forward-clause-did
returns-in-Forward-clause-did c = rw c.in-Forward.is c.forward.ensures.did

pub returns-in-Forward-clause-knows : goal.returns-in-Forward-clause-knows
returns-in-Forward-clause-knows c = rw c.in-Forward.is c.forward.ensures.knows

pub returns-in-Drop-clause-did : goal.returns-in-Drop-clause-did
returns-in-Drop-clause-did c = rw c.in-Drop.is (on-ok c.idle.result (λ did s sender k. did s _ k) c.idle.ensures.did)

pub returns-in-Leave-clause-did : goal.returns-in-Leave-clause-did
returns-in-Leave-clause-did c = rw c.in-Leave.is (on-ok c.leave.result (λ did s sender k. did s _ k) c.leave.ensures.did)
