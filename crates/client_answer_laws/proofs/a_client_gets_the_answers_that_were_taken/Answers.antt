use Rattle.client_answer_laws.proofs.ToldKept.{client_answered, client_successes}
use Rattle.client_answer_laws.proofs.a_client_gets_the_answers_that_were_taken.Goals as goal

pub returns-clause-answered : goal.returns-clause-answered
returns-clause-answered c = client_answered

pub returns-clause-successes_known : goal.returns-clause-successes_known
returns-clause-successes_known c = client_successes
