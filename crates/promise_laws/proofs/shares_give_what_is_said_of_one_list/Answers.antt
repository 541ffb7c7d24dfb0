use Rattle.promise_laws.proofs.OneList.{one_list}
use Rattle.promise_laws.proofs.shares_give_what_is_said_of_one_list.Goals as goal

pub returns : goal.returns
returns c = one_list
