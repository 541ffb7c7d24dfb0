use Rattle.small_laws.proofs.ClientGrowth.{outs_grow, ending_grows}
use Rattle.small_laws.proofs.outs_and_endings_grow.Goals as goal

pub returns-clause-outs : goal.returns-clause-outs
returns-clause-outs c = outs_grow

pub returns-clause-ending : goal.returns-clause-ending
returns-clause-ending c = ending_grows
