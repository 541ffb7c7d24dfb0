use Rattle.std.proofs.Common.{◌≡◌, true, false, ap, sym, ◌∙◌}
use Rattle.client_session.specs.Stands.{written}
use Rattle.client_session.proofs.Ends.{one-ended}
use Rattle.client_session.proofs.part.ClientPart.end.Goals as goal

pub returns-clause-state : goal.returns-clause-state
returns-clause-state c = λ s p. one-ended s c.args.k c.args.at p c.args.self.now c.take.new.self c.in_ok-row.row c.end_write.new.window c.in_ok-row.ensures.numbered (sym c.in_ok-row.ensures.row) c.in_ok-row.ensures.rest (λ calls w. c.end_write.ensures.ended calls (c.is_written.ensures ∙ w)) (λ w. c.end_write.ensures.same (c.is_written.ensures ∙ w))
