use Rattle.heard_laws.proofs.EndsHeard.{each_end_of_all}
use Rattle.heard_laws.proofs.each_end_is_heard.Goals as goal

pub returns : goal.returns
returns c =
    each_end_of_all c.ends_at_regular_connections_are_heard.ensures c.ends_of_exchanges_are_heard.ensures
