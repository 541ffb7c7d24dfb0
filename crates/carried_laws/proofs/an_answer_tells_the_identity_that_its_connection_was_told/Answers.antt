use Rattle.carried_laws.proofs.Identities.{client_right}
use Rattle.carried_laws.proofs.an_answer_tells_the_identity_that_its_connection_was_told.Goals as goal

pub returns : goal.returns
returns c = λ s F marked h n. client_right s F marked c.an_operation_is_sent_once.ensures h n
