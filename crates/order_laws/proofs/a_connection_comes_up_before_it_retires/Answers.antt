use Rattle.order_laws.proofs.Ups.{ups_in_time}
use Rattle.order_laws.proofs.a_connection_comes_up_before_it_retires.Goals as goal

pub returns : goal.returns
returns c = ups_in_time
