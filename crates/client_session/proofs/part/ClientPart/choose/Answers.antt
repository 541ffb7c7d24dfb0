use Rattle.client_session.proofs.part.ClientPart.choose.Goals as goal

pub returns-in-Go-clause-did : goal.returns-in-Go-clause-did
returns-in-Go-clause-did c = rw c.in-Go.is c.choose_connection.ensures.did
