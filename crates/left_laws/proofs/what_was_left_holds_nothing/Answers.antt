use Rattle.left_laws.proofs.LeaveTaken.{left_hold_nothing}
use Rattle.left_laws.proofs.what_was_left_holds_nothing.Goals as goal

pub returns : goal.returns
returns c = left_hold_nothing c.a_bind_connection_says_what_the_family_says.ensures
