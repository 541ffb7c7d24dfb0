use Rattle.promise_laws.proofs.Headline.{headline}
use Rattle.promise_laws.proofs.the_promises_say_the_headline.Goals as goal

pub returns : goal.returns
returns c = headline
