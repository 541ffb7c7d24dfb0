use Rattle.taken_laws.proofs.Desks.{fit_for_desk, desk_holds_once}
use Rattle.taken_laws.proofs.a_fit_letter_may_be_taken_by_the_desk.Goals as goal

pub returns-clause-once : goal.returns-clause-once
returns-clause-once c = desk_holds_once

pub returns-clause-desk : goal.returns-clause-desk
returns-clause-desk c = fit_for_desk
