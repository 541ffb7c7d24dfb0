use Rattle.due_laws.proofs.Fit.{fit_choices_are_due}
use Rattle.due_laws.proofs.Waits.{asked_wait}
use Rattle.due_laws.proofs.a_fit_choice_is_due.Goals as goal

pub returns-clause-waits : goal.returns-clause-waits
returns-clause-waits c = asked_wait

pub returns-clause-due : goal.returns-clause-due
returns-clause-due c = fit_choices_are_due
