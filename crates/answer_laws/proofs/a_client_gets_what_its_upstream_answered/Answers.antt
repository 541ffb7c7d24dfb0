use Rattle.answer_laws.proofs.Answered.{answered}
use Rattle.answer_laws.proofs.a_client_gets_what_its_upstream_answered.Goals as goal

pub returns : goal.returns
returns c = answered
