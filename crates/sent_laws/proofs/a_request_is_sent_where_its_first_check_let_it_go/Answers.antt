use Rattle.sent_laws.proofs.Places.{goes_rightly_so}
use Rattle.sent_laws.proofs.a_request_is_sent_where_its_first_check_let_it_go.Goals as goal

pub returns : goal.returns
returns c = goes_rightly_so c.a_client_is_who_the_family_says.ensures.known
