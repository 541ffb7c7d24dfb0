use Rattle.heard_laws.proofs.BindHeard.{holder_ends_heard}
use Rattle.heard_laws.proofs.ends_of_exchanges_are_heard.Goals as goal

pub returns : goal.returns
returns c = holder_ends_heard c.a_bind_connection_says_what_the_family_says.ensures
