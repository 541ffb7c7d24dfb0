use Rattle.stands_laws.proofs.Beginning.{beginning}
use Rattle.stands_laws.proofs.the_beginning_stands.Goals as goal

pub returns : goal.returns
returns c = beginning
