use Rattle.late_laws.proofs.Late.{all_own}
use Rattle.late_laws.proofs.a_late_letter_is_of_its_clients_own.Goals as goal

pub returns : goal.returns
returns c = all_own
