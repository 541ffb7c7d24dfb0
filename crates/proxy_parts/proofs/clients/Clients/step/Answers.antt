use Rattle.std.proofs.Common.{◌∙◌, ap, sym, subst}
use Rattle.std.specs.Option.{option_copied_mut}
use Rattle.part_spec.specs.Inputs.{letter_of, marked_by}
use Rattle.part_spec.specs.ClientTurn.{client_turn}
use Rattle.client_session.specs.Stands.{behind}
use Rattle.conn_core.proofs.Turns.{on-ok}
use Rattle.proxy_parts.specs.Clients.{ClientIs, IsClient}
use Rattle.proxy_parts.proofs.Fits.{fits}
use Rattle.proxy_parts.proofs.Kept.{was_present}
use Rattle.proxy_parts.proofs.Maps.{written, is-some, on-err}
use Rattle.proxy_parts.proofs.clients.Clients.step.Goals.{in-Arrive+in_ok-admit, in_default}
use Rattle.proxy_parts.proofs.clients.Clients.step.Goals as goal

pub returns-in-Some-clause-took : goal.returns-in-Some-clause-took
returns-in-Some-clause-took c =
    let had = sym c.get_mut.ensures.value ∙ ap option_copied_mut c.in-Some.is in
    let has = written c.match-input.self.parts (c.get_mut.follows.lender c.step.new.self) c.args.client c.in-Some.part.now c.step.new.self had (c.get_mut.follows.holds c.step.new.self) in
    on-ok c.step.result
    (λ turned s p agrees h m.
    let k : ClientIs s c.args.client p c.match-input.self =
    elim c.match-input.branch [
      | in-Arrive+in_ok-admit w ↦ subst (λ t. ClientIs s c.args.client p t) (sym w.self-is) (w.admit.ensures.stands s p agrees h)
      | in_default w ↦ subst (λ t. ClientIs s c.args.client p t) (sym w.self-is) h
    ] in
    let t = turned s p (subst (λ o. IsClient s c.args.client p o) had k.part) (fits p c.args.input m) in
    record {
      entries = t.entries;
      letters = t.letters;
      stands = record { part = subst (λ o. IsClient s c.args.client (behind s p c.args.input) o) (sym has) t.stands; ending = λ some up. k.ending (is-some _ _ had) (was_present s (marked_by (letter_of c.args.input) (client_turn s p c.args.input).entries) p up) };
    })
    c.step.ensures.turned

pub returns-in-Some-clause-err : goal.returns-in-Some-clause-err
returns-in-Some-clause-err c =
    let had = sym c.get_mut.ensures.value ∙ ap option_copied_mut c.in-Some.is in
    let has = written c.match-input.self.parts (c.get_mut.follows.lender c.step.new.self) c.args.client c.in-Some.part.now c.step.new.self had (c.get_mut.follows.holds c.step.new.self) in
    on-err c.step.result
    (λ same s p agrees h.
    let k : ClientIs s c.args.client p c.match-input.self =
    elim c.match-input.branch [
      | in-Arrive+in_ok-admit w ↦ subst (λ t. ClientIs s c.args.client p t) (sym w.self-is) (w.admit.ensures.stands s p agrees h)
      | in_default w ↦ subst (λ t. ClientIs s c.args.client p t) (sym w.self-is) h
    ] in
    record { part = subst (λ o. IsClient s c.args.client p o) (sym has) (same s p (subst (λ o. IsClient s c.args.client p o) had k.part)); ending = λ some up. k.ending (is-some _ _ had) up })
    c.step.ensures.err
