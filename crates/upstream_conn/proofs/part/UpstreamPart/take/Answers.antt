use Rattle.conn_core.proofs.Turns.{on-ok}
use Rattle.upstream_conn.proofs.part.UpstreamPart.take.Goals as goal

pub returns-in-Forward-clause-did : goal.returns-in-Forward-clause-did
returns-in-Forward-clause-did c = rw c.in-Forward.is (on-ok c.forward.result (λ did s sender k. did s sender c.in-Forward.holder k) c.forward.ensures.did)

pub returns-in-Forward-clause-knows : goal.returns-in-Forward-clause-knows
returns-in-Forward-clause-knows c = rw c.in-Forward.is (on-ok c.forward.result (λ knows s k t. knows s c.in-Forward.holder k t) c.forward.ensures.knows)

pub returns-in-Drop-clause-did : goal.returns-in-Drop-clause-did
returns-in-Drop-clause-did c = rw c.in-Drop.is (on-ok c.give_up.result (λ did s sender k. did s _ k) c.give_up.ensures.did)

pub returns-in-Pause-clause-did : goal.returns-in-Pause-clause-did
returns-in-Pause-clause-did c = rw c.in-Pause.is (on-ok c.pause.result (λ did s sender k. did s _ k) c.pause.ensures.did)

pub returns-in-Resume-clause-did : goal.returns-in-Resume-clause-did
returns-in-Resume-clause-did c = rw c.in-Resume.is (on-ok c.resume.result (λ did s sender k. did s _ k) c.resume.ensures.did)
