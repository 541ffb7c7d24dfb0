use Rattle.left_laws.proofs.Told.{left_give_leaves}
use Rattle.left_laws.proofs.who_leaves_an_exchange_gives_a_leave.Goals as goal

pub returns : goal.returns
returns c = left_give_leaves
