use Rattle.std.proofs.Common.{◌≡◌, [], List, Option, Some, None, false, ap, sym, refl, ◌∙◌}
use Rattle.ldap_spec.specs.Messages.{Message}
use Rattle.ldap_spec.specs.Kinds.{kind_of, is_final}
use Rattle.lload_names.specs.Same.{same_kind}
use Rattle.lload_names.specs.declared.names.OpKind.{OpKind}
use Rattle.lload_names.specs.declared.names.OpKind.TheVariants.{Bind, Extended}
use Rattle.lload_spec.specs.FirstCheck.{lets_go_on}
use Rattle.client_laws.proofs.ClientKinds.{has_its_kind}
use Rattle.client_session.proofs.Answering.{answered-extended, cancel-final, answered-whats}
use Rattle.client_session.proofs.Passed.{id-not-zero}
use Rattle.client_session.proofs.Rules.{did-same}
use Rattle.client_session.proofs.part.ClientPart.answer_cancel.Goals as goal

pub returns-in_default-clause-did : goal.returns-in_default-clause-did
returns-in_default-clause-did c = λ s p h found.
    let m : Message = record { id = c.args.id; rest = c.args.rest } in
    absurd (let bad : ◌≡◌ {A = Option OpKind} None (Some Extended) = sym c.in_default.is ∙ c.kind_of.ensures ∙ ap kind_of c.as_slice.ensures ∙ answered-extended s p m c.args.which found in cc)

pub returns-clause-did : goal.returns-clause-did
returns-clause-did c = λ s p h found.
    let m : Message = record { id = c.args.id; rest = c.args.rest } in
    let kind = c.in-Some.kind in
    let its : kind_of c.args.rest ≡ Some kind = ap kind_of (sym c.as_slice.ensures) ∙ sym c.kind_of.ensures ∙ c.in-Some.is in
    let same : kind ≡ Extended = let e = sym its ∙ answered-extended s p m c.args.which found in cc in
    did-same s p c.args.at None _ _ [] [] _ _ _ (answered-whats m kind c.args.which c.in_ok-answer.answer its c.in_ok-answer.ensures) refl
    (c.in_ok-answer_at_once.ensures.did s p kind h its (ap (same_kind Bind) same) (ap (is_final kind) c.in_ok-answer.ensures ∙ cancel-final kind c.args.which) (id-not-zero s p m (ap has_its_kind found)) (ap lets_go_on found))
