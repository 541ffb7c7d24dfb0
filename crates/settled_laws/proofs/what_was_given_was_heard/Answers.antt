use Rattle.settled_laws.proofs.Rest.{at_rest}
use Rattle.settled_laws.proofs.what_was_given_was_heard.Goals as goal

pub returns : goal.returns
returns c = at_rest
