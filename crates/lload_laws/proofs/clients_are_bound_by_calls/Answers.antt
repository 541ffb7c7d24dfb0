use Rattle.lload_laws.proofs.ClientBinding.{bound_by_calls}
use Rattle.lload_laws.proofs.clients_are_bound_by_calls.Goals as goal

pub returns : goal.returns
returns c = record { same = bound_by_calls }
