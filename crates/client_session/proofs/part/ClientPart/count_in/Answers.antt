use Rattle.std.proofs.Common.{sym, ◌∙◌}
use Rattle.client_session.proofs.Counted.{counted-request, counted-bind}
use Rattle.client_session.proofs.part.ClientPart.count_in.Goals as goal

pub returns-then-not-is_bind_request-clause-stands : goal.returns-then-not-is_bind_request-clause-stands
returns-then-not-is_bind_request-clause-stands c = λ s p h. counted-request s (record { id = c.args.id; rest = c.args.rest.now }) p c.args.self.now _ (sym c.makes_one.ensures ∙ c.if-not-makes_one.false) (sym c.is_bind_request.ensures ∙ c.if-not-is_bind_request.true) c.pass.ensures.passed h

pub returns-clause-stands : goal.returns-clause-stands
returns-clause-stands c = λ s p h. rw (c.new.ensures) (counted-bind s (record { id = c.args.id; rest = c.args.rest.now }) p c.args.self.now _ (sym c.makes_one.ensures ∙ c.if-not-makes_one.false) (sym c.is_bind_request.ensures ∙ c.if-not-is_bind_request.false) c.pass.ensures.passed h)
