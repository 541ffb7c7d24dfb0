use Rattle.left_laws.proofs.Told.{leaves_told}
use Rattle.left_laws.proofs.who_left_holds_nothing.Goals as goal

pub returns : goal.returns
returns c = leaves_told c.what_was_left_holds_nothing.ensures c.who_leaves_an_exchange_gives_a_leave.ensures
