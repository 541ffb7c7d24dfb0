use Rattle.joined_laws.proofs.Joined.{joined}
use Rattle.joined_laws.proofs.shares_and_links_give_what_is_said_of_several_lists.Goals as goal

pub returns : goal.returns
returns c = joined c.shares_give_what_is_said_of_one_list.ensures
