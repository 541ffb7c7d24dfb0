use Rattle.std.proofs.Common.{◌++◌, List, ap, ◌∙◌}
use Rattle.ldap_spec.specs.Messages.{Message}
use Rattle.lload_names.specs.declared.names.Entry.{Entry}
use Rattle.lload_names.specs.declared.names.Posted.{Posted}
use Rattle.lload_names.specs.declared.names.What.TheVariants.{In}
use Rattle.outbox.specs.Room.{Room}
use Rattle.client_session.specs.Under.{named_drop}
use Rattle.client_session.proofs.Under.{did-abandon}
use Rattle.client_session.proofs.Rules.{put-entry}
use Rattle.client_session.proofs.part.ClientPart.abandon.Goals as goal

pub returns-clause-did : goal.returns-clause-did
returns-clause-did c = λ s p h found.
    let m : Message = record { id = c.args.id; rest = c.args.rest } in
    let items : Room Posted → List Posted = λ l. l.items in
    let put : Room Entry → List Entry = λ l. l.items in
    did-abandon s p c.args.self.now c.end_named.new.self c.args.at m c.args.named c.args.out.now c.end_named.new.out found h (c.end_named.ensures.stands s p h)
    (ap put c.end_named.ensures.entries ∙ put-entry p c.args.at (In c.args.id c.args.rest) _ _ _ _ h.number c.put.ensures.entries c.in_ok-reserve.ensures.entries)
    (c.end_named.ensures.letters s p h ∙ ap (λ l. l ++ named_drop p c.args.named) (ap items c.put.ensures.letters ∙ c.in_ok-reserve.ensures.letters))
