use Rattle.std.proofs.Common.{◌≡◌, List, Option, Some, None, true, false, ap, sym, subst, refl, ◌∙◌}
use Rattle.ldap_spec.specs.Bodies.{refusal}
use Rattle.ldap_spec.specs.Messages.{Message}
use Rattle.ldap_spec.specs.Kinds.{kind_of, is_final}
use Rattle.lload_names.specs.Same.{same_kind}
use Rattle.lload_names.specs.declared.names.OpKind.{OpKind}
use Rattle.lload_names.specs.declared.names.OpKind.TheVariants.{Bind}
use Rattle.lload_spec.specs.FirstCheck.{lets_go_on}
use Rattle.client_laws.proofs.ClientKinds.{has_its_kind, answered_kind}
use Rattle.client_session.proofs.Answering.{refusal-final, refused-whats, bind-letters, is-bind, no-kind}
use Rattle.client_session.proofs.Passed.{id-not-zero}
use Rattle.client_session.proofs.Rules.{did-same}
use Rattle.client_session.proofs.part.ClientPart.refuse.Goals as goal

pub returns-in_default-clause-did : goal.returns-in_default-clause-did
returns-in_default-clause-did c = λ s p h found.
    let m : Message = record { id = c.args.id; rest = c.args.rest } in
    no-kind c.args.rest (ap kind_of (sym c.as_slice.ensures) ∙ sym c.kind_of.ensures ∙ c.in_default.is) (answered_kind s p m (ap has_its_kind found))

pub returns-then-is_bind-clause-did : goal.returns-then-is_bind-clause-did
returns-then-is_bind-clause-did c = λ s p h found.
    let m : Message = record { id = c.args.id; rest = c.args.rest } in
    let kind = c.in-Some.kind in
    let its : kind_of c.args.rest ≡ Some kind = ap kind_of (sym c.as_slice.ensures) ∙ sym c.kind_of.ensures ∙ c.in-Some.is in
    let binds : same_kind Bind kind ≡ true = sym c.is_bind.ensures ∙ c.if-is_bind.true in
    let same : kind ≡ Bind = is-bind kind binds in
    did-same s p c.args.at None _ _ _ _ _ _ _ (refused-whats m kind c.args.which c.in_ok-answer.answer its c.in_ok-answer.ensures) (bind-letters p m kind true its binds)
    (c.in_ok-refuse_bind.ensures.did s p c.args.which h found (its ∙ ap (λ k. Some k) same) (c.in_ok-answer.ensures ∙ ap (λ k. refusal k c.args.which) same))

pub returns-clause-did : goal.returns-clause-did
returns-clause-did c = λ s p h found.
    let m : Message = record { id = c.args.id; rest = c.args.rest } in
    let kind = c.in-Some.kind in
    let its : kind_of c.args.rest ≡ Some kind = ap kind_of (sym c.as_slice.ensures) ∙ sym c.kind_of.ensures ∙ c.in-Some.is in
    let plain : same_kind Bind kind ≡ false = sym c.is_bind.ensures ∙ c.if-is_bind.false in
    did-same s p c.args.at None _ _ _ _ _ _ _ (refused-whats m kind c.args.which c.in_ok-answer.answer its c.in_ok-answer.ensures) (bind-letters p m kind false its plain)
    (c.in_ok-answer_at_once.ensures.did s p kind h its plain (ap (is_final kind) c.in_ok-answer.ensures ∙ refusal-final kind c.args.which) (id-not-zero s p m (ap has_its_kind found)) (ap lets_go_on found))
