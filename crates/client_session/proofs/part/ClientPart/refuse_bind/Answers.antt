use Rattle.std.proofs.Common.{◌≡◌, ◌++◌, ◌+◌, List, ap, sym, refl, ◌∙◌}
use Rattle.ldap_spec.specs.Messages.{Message}
use Rattle.lload_names.specs.declared.names.Entry.{Entry}
use Rattle.lload_names.specs.declared.names.Posted.{Posted}
use Rattle.lload_names.specs.declared.names.What.TheVariants.{In, Out}
use Rattle.lload_spec.specs.FirstCheck.{lets_go_on}
use Rattle.outbox.specs.Room.{Room}
use Rattle.client_laws.proofs.ClientKinds.{has_its_kind}
use Rattle.client_session.specs.Closing.{endings}
use Rattle.client_session.proofs.Begun.{did-refuse-bind}
use Rattle.client_session.proofs.Passed.{id-not-zero}
use Rattle.client_session.proofs.Rules.{put-entry}
use Rattle.client_session.proofs.part.ClientPart.refuse_bind.Goals as goal

pub returns-clause-did : goal.returns-clause-did
returns-clause-did c = λ s p which h found its is.
    let m : Message = record { id = c.args.id; rest = c.args.rest } in
    let items : Room Posted → List Posted = λ l. l.items in
    let put : Room Entry → List Entry = λ l. l.items in
    let ops = c.pass.ensures.passed ∙ ap (λ o. record { count = o.count + 1; rows = o.rows }) c.clear.ensures in
    rw (c.new.ensures) (did-refuse-bind s p c.args.self.now _ _ c.args.at m which c.args.answer c.args.out.now c.put-2.new.out _ its is (id-not-zero s p m (ap has_its_kind found)) (ap lets_go_on found) ops c.reset.ensures.calls h
    (put-entry p c.args.at (In c.args.id c.args.rest) _ _ _ _ h.number c.put.ensures.entries (ap put c.put_endings.ensures.entries ∙ c.in_ok-reserve.ensures.entries))
    (put-entry p c.args.at (Out c.args.id c.args.answer) _ _ _ _ h.number c.put-2.ensures.entries refl)
    (ap items c.put-2.ensures.letters ∙ ap items c.put.ensures.letters ∙ c.put_endings.ensures.letters ∙ ap (λ l. l ++ endings c.args.self.now) c.in_ok-reserve.ensures.letters))
