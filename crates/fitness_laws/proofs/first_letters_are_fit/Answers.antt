use Rattle.fitness_laws.proofs.FirstLetters.{first_letters}
use Rattle.fitness_laws.proofs.first_letters_are_fit.Goals as goal

pub returns : goal.returns
returns c = first_letters
