use Rattle.std.proofs.Common.{◌≡◌, ◌==◌, ◌∷◌, [], List, ℕ, Option, Some, None, true, false, ap, sym, subst, ◌∙◌}
use Rattle.ldap_spec.specs.Kinds.{kind_of}
use Rattle.ldap_spec.specs.Messages.{Message}
use Rattle.lload_names.specs.declared.names.What.TheVariants.{In}
use Rattle.lload_spec.specs.FirstCheck.{lets_go_on}
use Rattle.lload_spec.specs.Identity.{carried_for}
use Rattle.part_spec.specs.ClientState.{check_at}
use Rattle.part_spec.specs.ClientTurn.{binds, asks}
use Rattle.part_spec.specs.Inputs.{act}
use Rattle.client_laws.proofs.ClientKinds.{has_its_kind, answered_kind}
use Rattle.client_session.specs.Did.{Did}
use Rattle.client_session.specs.GoesOn.{waiting_row}
use Rattle.client_session.specs.Stands.{seen}
use Rattle.client_session.proofs.Answering.{no-kind, is-bind}
use Rattle.client_session.proofs.Passed.{id-not-zero}
use Rattle.client_session.proofs.Taken.{in-use-ends, never-both, unused, did-bind, did-other}
use Rattle.client_session.proofs.part.ClientPart.go_on.Goals as goal

pub returns-in_default-clause-did : goal.returns-in_default-clause-did
returns-in_default-clause-did c = λ s p h there is found.
    let m : Message = record { id = c.args.id; rest = c.args.rest } in
    no-kind c.args.rest (ap kind_of (sym c.as_slice.ensures) ∙ sym c.kind_of.ensures ∙ c.in_default.is) (answered_kind s p m (ap has_its_kind found))

pub returns-then-is_in_use-clause-did : goal.returns-then-is_in_use-clause-did
returns-then-is_in_use-clause-did c = λ s p h there is found.
    let m : Message = record { id = c.args.id; rest = c.args.rest } in
    let its : kind_of c.args.rest ≡ Some c.in-Some.kind = ap kind_of (sym c.as_slice.ensures) ∙ sym c.kind_of.ensures ∙ c.in-Some.is in
    never-both (check_at s p m) found (in-use-ends s p c.args.self.now m c.in-Some.kind its (id-not-zero s p m (ap has_its_kind found)) (sym c.is_in_use.ensures ∙ c.if-is_in_use.true) h)

pub ask-requires-clause-free : goal.ask-requires-clause-free
ask-requires-clause-free c = rw c.in_ok-row.ensures.id (unused c.args.id c.args.self.now.operations.rows (sym c.is_in_use.ensures ∙ c.if-is_in_use.false))

pub returns-then-is_bind-clause-did : goal.returns-then-is_bind-clause-did
returns-then-is_bind-clause-did c = λ s p h there is found.
    let m : Message = record { id = c.args.id; rest = c.args.rest } in
    let kind = c.in-Some.kind in
    let id : c.in_ok-row.row.id ≡ c.args.id = c.in_ok-row.ensures.id in
    let its : kind_of c.args.rest ≡ Some kind = ap kind_of (sym c.as_slice.ensures) ∙ sym c.kind_of.ensures ∙ c.in-Some.is in
    let sent : c.in_ok-sent.sent ≡ carried_for s m p.identity = c.in_ok-sent.ensures s p c.args.id h (ap kind_of c.as_slice-2.ensures ∙ its) ∙ ap (λ r. carried_for s (record { id = c.args.id; rest = r }) p.identity) c.as_slice-2.ensures in
    let shows = c.in_ok-row.ensures.row s p c.args.rest h its sent is ∙ ap (λ i. seen s (waiting_row s p (record { id = i; rest = c.args.rest }))) (sym id) in
    let zero : (c.in_ok-row.row.id == 0) ≡ false = ap (λ i. i == 0) id ∙ id-not-zero s p m (ap has_its_kind found) in
    let goes : lets_go_on (check_at s p (record { id = c.in_ok-row.row.id; rest = c.args.rest })) ≡ true = ap (λ i. lets_go_on (check_at s p (record { id = i; rest = c.args.rest }))) id ∙ ap lets_go_on found in
    let binds_is = sym c.is_bind.ensures ∙ c.if-is_bind.true in
    did-bind s p c.args.at m c.args.out.now _ _ kind its binds_is
    (subst (λ (i : ℕ). Did s p c.args.at None (act (In i c.args.rest ∷ []) (binds s p c.args.at (record { id = i; rest = c.args.rest }))) c.args.out.now c.bind.new.out c.bind.new.self) id
    (c.in_ok-bind.ensures.did s p h (its ∙ ap (λ k. Some k) (is-bind kind binds_is)) zero goes shows))

pub returns-clause-did : goal.returns-clause-did
returns-clause-did c = λ s p h there is found.
    let m : Message = record { id = c.args.id; rest = c.args.rest } in
    let kind = c.in-Some.kind in
    let id : c.in_ok-row.row.id ≡ c.args.id = c.in_ok-row.ensures.id in
    let its : kind_of c.args.rest ≡ Some kind = ap kind_of (sym c.as_slice.ensures) ∙ sym c.kind_of.ensures ∙ c.in-Some.is in
    let sent : c.in_ok-sent.sent ≡ carried_for s m p.identity = c.in_ok-sent.ensures s p c.args.id h (ap kind_of c.as_slice-2.ensures ∙ its) ∙ ap (λ r. carried_for s (record { id = c.args.id; rest = r }) p.identity) c.as_slice-2.ensures in
    let shows = c.in_ok-row.ensures.row s p c.args.rest h its sent is ∙ ap (λ i. seen s (waiting_row s p (record { id = i; rest = c.args.rest }))) (sym id) in
    let zero : (c.in_ok-row.row.id == 0) ≡ false = ap (λ i. i == 0) id ∙ id-not-zero s p m (ap has_its_kind found) in
    let goes : lets_go_on (check_at s p (record { id = c.in_ok-row.row.id; rest = c.args.rest })) ≡ true = ap (λ i. lets_go_on (check_at s p (record { id = i; rest = c.args.rest }))) id ∙ ap lets_go_on found in
    let plain = sym c.is_bind.ensures ∙ c.if-is_bind.false in
    did-other s p c.args.at m c.args.out.now _ _ kind its plain
    (subst (λ (i : ℕ). Did s p c.args.at None (act (In i c.args.rest ∷ []) (asks s p c.args.at (record { id = i; rest = c.args.rest }))) c.args.out.now c.ask.new.out c.ask.new.self) id
    (c.in_ok-ask.ensures.did s p kind h there its plain zero goes shows))
