use Rattle.taken_laws.proofs.Connections.{fit_for_bind, fit_for_regular}
use Rattle.taken_laws.proofs.a_fit_letter_may_be_taken_by_a_connection.Goals as goal

pub returns-clause-regular : goal.returns-clause-regular
returns-clause-regular c = fit_for_regular

pub returns-clause-bind : goal.returns-clause-bind
returns-clause-bind c = fit_for_bind
