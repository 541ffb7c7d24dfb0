use Rattle.std.proofs.Common.{◌≡◌, ℕ, sym, subst, arith}
use Rattle.part_spec.specs.ClientTurn.{client_sever, client_turn}
use Rattle.client_session.specs.Most.{most_of, IsWithin}
use Rattle.client_session.proofs.Within.{most-kept, step-within, sever-within}
use Rattle.client_session.proofs.part.ClientPart.most.Goals as goal

pub returns-clause-step : goal.returns-clause-step
returns-clause-step c = λ s p input h.
    let kept = most-kept s p c.args.self.now c.most_endings.result c.len.result h c.most_endings.ensures.most c.len.ensures.len in
    let greater = c.max.ensures in
    let is : c.max.result ≡ most_of p = omega (arith, kept, greater) in
    subst (λ (n : ℕ). IsWithin n (client_turn s p input)) (sym is) (step-within s p input)

pub returns-clause-sever : goal.returns-clause-sever
returns-clause-sever c = λ s p now why h.
    let kept = most-kept s p c.args.self.now c.most_endings.result c.len.result h c.most_endings.ensures.most c.len.ensures.len in
    let greater = c.max.ensures in
    let is : c.max.result ≡ most_of p = omega (arith, kept, greater) in
    subst (λ (n : ℕ). IsWithin n (client_sever p now why)) (sym is) (sever-within p now why)
