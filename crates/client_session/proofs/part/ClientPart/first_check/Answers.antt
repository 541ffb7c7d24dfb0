use Rattle.std.proofs.Common.{◌≡◌, ap, sym, ◌∙◌}
use Rattle.lload_spec.specs.FirstCheck.{check}
use Rattle.client_session.proofs.Views.{facts-shown}
use Rattle.client_session.proofs.part.ClientPart.first_check.Goals as goal

pub returns-clause-check : goal.returns-clause-check
returns-clause-check c = λ s p h. c.check.ensures.check s h.settings ∙ ap (λ f. check s f (record { id = c.args.id; rest = c.args.rest.now })) (sym (facts-shown s p c.args.self.now h))
