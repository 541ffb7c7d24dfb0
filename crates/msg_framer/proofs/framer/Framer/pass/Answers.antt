use Rattle.std.proofs.Common.{◌∷◌, ◌++◌, [], drop, refl, subst, ◌∙◌}
use Rattle.ldap_spec.specs.Messages.{Message}
use Rattle.ldap_spec.specs.Streams.{read}
use Rattle.ber_envelope.specs.Reading.{Answers, message_between}
use Rattle.msg_framer.specs.Held.{Held}
use Rattle.msg_framer.specs.History.{IsFirst, Stands}
use Rattle.msg_framer.proofs.Histories.{behind_same, behind_shorter, stands_passed}
use Rattle.msg_framer.proofs.framer.Framer.pass.Goals as goal

pub returns-in-Whole-clause-history : goal.returns-in-Whole-clause-history
returns-in-Whole-clause-history c m behind fed passed =
    let old : Held = record { left = c.self.inside.held.items; spare = c.self.inside.held.spare; limit = c.self.inside.limit } in
    let new : Held = record { left = c.advance.new.self.items; spare = c.advance.new.self.spare; limit = c.self.inside.limit } in
    let a = subst (Answers c.self.inside.held.items (read c.self.inside.limit c.self.inside.held.items)) c.in-Whole.is c.self.invariant.answers in
    subst (λ (f : Held). IsFirst f m behind → Stands fed passed f → Stands fed (passed ++ m ∷ []) new) c.self.view_is
    (λ first h. stands_passed fed passed old new m behind c.self.invariant.octets first refl (c.advance.ensures.items ∙ behind_same (read c.self.inside.limit c.self.inside.held.items) (message_between c.self.inside.held.items c.in-Whole.id c.in-Whole.rest_at c.in-Whole.end) m (drop c.in-Whole.end c.self.inside.held.items) behind a.2 first) h)

pub returns-in-Whole-clause-shorter : goal.returns-in-Whole-clause-shorter
returns-in-Whole-clause-shorter c =
    let a = subst (Answers c.self.inside.held.items (read c.self.inside.limit c.self.inside.held.items)) c.in-Whole.is c.self.invariant.answers in
    let m : Message = message_between c.self.inside.held.items c.in-Whole.id c.in-Whole.rest_at c.in-Whole.end in
    rw (c.advance.ensures.items, ← c.self.view_is) (behind_shorter c.self.inside.limit c.self.inside.held.items (drop c.in-Whole.end c.self.inside.held.items) m c.self.invariant.octets a.2)
