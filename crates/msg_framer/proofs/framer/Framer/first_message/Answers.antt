use Rattle.std.proofs.Common.{drop, subst}
use Rattle.ldap_spec.specs.Streams.{read}
use Rattle.ber_envelope.specs.Reading.{Answers}
use Rattle.msg_framer.proofs.framer.Framer.first_message.Goals as goal

pub returns-in-Whole-clause-answer : goal.returns-in-Whole-clause-answer
returns-in-Whole-clause-answer c =
    let a = subst (Answers c.self.inside.held.items (read c.self.inside.limit c.self.inside.held.items)) c.in-Whole.is c.self.invariant.answers in
    rw (c.as_slice.ensures, ← c.self.view_is) (drop c.in-Whole.end c.self.inside.held.items, a.2)
