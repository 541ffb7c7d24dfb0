use Rattle.news_laws.proofs.Hears.{heard_in_order}
use Rattle.news_laws.proofs.the_desk_hears_of_each_connection_in_order.Goals as goal

pub returns : goal.returns
returns c = heard_in_order c.a_drained_connection_is_at_its_end.ensures c.a_connection_comes_up_before_it_retires.ensures
