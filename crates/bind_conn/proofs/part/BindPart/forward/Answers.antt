use Rattle.conn_core.proofs.Turns.{on-ok}
use Rattle.bind_conn.proofs.part.BindPart.forward.Goals as goal

pub returns-then-is_retired-clause-did : goal.returns-then-is_retired-clause-did
returns-then-is_retired-clause-did c = on-ok c.miss.result (λ did s sender k. did s _ k) c.miss.ensures.did

pub returns-then-is_down-clause-did : goal.returns-then-is_down-clause-did
returns-then-is_down-clause-did c = on-ok c.miss-then-is_down.result (λ did s sender k. did s _ k) c.miss-then-is_down.ensures.did
