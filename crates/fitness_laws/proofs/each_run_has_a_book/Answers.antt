use Rattle.fitness_laws.proofs.Books.{books}
use Rattle.fitness_laws.proofs.each_run_has_a_book.Goals as goal

pub returns : goal.returns
returns c = books
