use Rattle.leave_laws.proofs.IdleBind.{idles_left}
use Rattle.leave_laws.proofs.a_leave_that_comes_to_nothing_is_of_a_client_that_left.Goals as goal

pub returns : goal.returns
returns c = idles_left c.a_bind_connection_says_what_the_family_says.ensures
