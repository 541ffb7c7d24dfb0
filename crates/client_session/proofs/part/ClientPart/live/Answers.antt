use Rattle.std.proofs.Common.{◌≡◌, ◌==◌, true, false, ap, sym, ◌∙◌, arith}
use Rattle.std.proofs.lemmas.Bool.Decides.{nat_tests}
use Rattle.std.specs.Option.{option_map}
use Rattle.client_session.specs.Stands.{shown}
use Rattle.client_session.proofs.Answered.{named-other, named-own}
use Rattle.client_session.proofs.part.ClientPart.live.Goals as goal

pub returns-then-op-self-clause-named : goal.returns-then-op-self-clause-named
returns-then-op-self-clause-named c = λ s p h.
    let other : (p.number == c.args.op.client) ≡ false = grind (arith, nat_tests, h.number, c.if-op-self.true) in
    named-other s p c.args.op other

pub returns-clause-named : goal.returns-clause-named
returns-clause-named c = λ s p h.
    let own : (p.number == c.args.op.client) ≡ true = grind (arith, nat_tests, h.number, c.if-op-self.false) in
    named-own s p c.args.self.now c.args.op own h ∙ ap (option_map shown) (sym c.of.ensures.found)
