use Rattle.client_answer_laws.proofs.ToldKept.{client_refusals}
use Rattle.client_answer_laws.proofs.a_client_is_refused_for_a_cause.Goals as goal

pub returns : goal.returns
returns c = record { refusals = client_refusals }
