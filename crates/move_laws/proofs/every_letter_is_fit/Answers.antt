use Rattle.move_laws.proofs.Laws.{law}
use Rattle.move_laws.proofs.every_letter_is_fit.Goals as goal

pub returns : goal.returns
returns c = law
