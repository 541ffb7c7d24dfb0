use Rattle.carried_laws.proofs.Taken.{forwards_right}
use Rattle.carried_laws.proofs.a_forward_says_of_its_operation_what_the_family_says.Goals as goal

pub returns : goal.returns
returns c = forwards_right
