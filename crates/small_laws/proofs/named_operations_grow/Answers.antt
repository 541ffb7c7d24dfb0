use Rattle.small_laws.proofs.ClientGrowth.{new_operation_is_last}
use Rattle.small_laws.proofs.named_operations_grow.Goals as goal

pub returns : goal.returns
returns c = new_operation_is_last
