use Rattle.leave_laws.proofs.DropsTaken.{drops_of_ended}
use Rattle.leave_laws.proofs.a_drop_is_of_an_operation_that_its_client_ended.Goals as goal

pub returns : goal.returns
returns c = drops_of_ended
