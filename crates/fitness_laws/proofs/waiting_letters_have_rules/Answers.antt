use Rattle.fitness_laws.proofs.Rules.{rules}
use Rattle.fitness_laws.proofs.waiting_letters_have_rules.Goals as goal

pub returns : goal.returns
returns c = rules
