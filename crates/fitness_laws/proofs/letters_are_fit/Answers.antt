use Rattle.fitness_laws.proofs.WorldMoves.{fitness, marks}
use Rattle.fitness_laws.proofs.letters_are_fit.Goals as goal

pub returns-clause-fitness : goal.returns-clause-fitness
returns-clause-fitness c = fitness

pub returns-clause-marks : goal.returns-clause-marks
returns-clause-marks c = marks
