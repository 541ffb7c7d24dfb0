use Rattle.std.proofs.Common.{◌≡◌, List, ap, refl, ◌∙◌}
use Rattle.ldap_spec.specs.Messages.{Message}
use Rattle.lload_names.specs.declared.names.Posted.{Posted}
use Rattle.lload_names.specs.declared.names.What.TheVariants.{In, Out}
use Rattle.outbox.specs.Room.{Room}
use Rattle.client_session.proofs.Passed.{did-at-once}
use Rattle.client_session.proofs.Rules.{put-entry}
use Rattle.client_session.proofs.part.ClientPart.answer_at_once.Goals as goal

pub returns-clause-did : goal.returns-clause-did
returns-clause-did c = λ s p kind h its plain final zero stays.
    let m : Message = record { id = c.args.id; rest = c.args.rest } in
    let items : Room Posted → List Posted = λ l. l.items in
    did-at-once s p c.args.self.now _ c.args.at m kind c.args.answer c.args.out.now c.put-2.new.out _ its plain final zero stays c.pass.ensures.numbered c.pass.ensures.passed h
    (put-entry p c.args.at (In c.args.id c.args.rest) _ _ _ _ h.number c.put.ensures.entries c.in_ok-reserve.ensures.entries)
    (put-entry p c.args.at (Out c.args.id c.args.answer) _ _ _ _ h.number c.put-2.ensures.entries refl)
    (ap items c.put-2.ensures.letters ∙ ap items c.put.ensures.letters ∙ c.in_ok-reserve.ensures.letters)
