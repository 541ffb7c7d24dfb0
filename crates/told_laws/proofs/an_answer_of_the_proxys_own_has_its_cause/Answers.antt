use Rattle.told_laws.proofs.Refusals.{own_caused}
use Rattle.told_laws.proofs.an_answer_of_the_proxys_own_has_its_cause.Goals as goal

pub returns : goal.returns
returns c = own_caused c.a_client_is_who_the_family_says.ensures.known c.a_client_is_who_the_family_says.ensures.checks
