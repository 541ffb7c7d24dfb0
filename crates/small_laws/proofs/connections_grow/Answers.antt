use Rattle.small_laws.proofs.ConnectionGrowth.{sendings_grow, answers_grow, given_count_grows}
use Rattle.small_laws.proofs.connections_grow.Goals as goal

pub returns-clause-sendings : goal.returns-clause-sendings
returns-clause-sendings c = sendings_grow

pub returns-clause-answers : goal.returns-clause-answers
returns-clause-answers c = answers_grow

pub returns-clause-identifiers : goal.returns-clause-identifiers
returns-clause-identifiers c = given_count_grows
