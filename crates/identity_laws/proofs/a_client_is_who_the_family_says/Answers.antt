use Rattle.identity_laws.proofs.Checks.{clients_known, checks_known}
use Rattle.identity_laws.proofs.a_client_is_who_the_family_says.Goals as goal

pub returns : goal.returns
returns c = record {
  known = clients_known c.an_answer_tells_the_identity_that_its_connection_was_told.ensures;
  checks = checks_known c.an_answer_tells_the_identity_that_its_connection_was_told.ensures;
}
