use Rattle.std.proofs.Common.{◌++◌, ◌∷◌, [], List, ap, arith, ◌∙◌}
use Rattle.ldap_spec.specs.Messages.{Message}
use Rattle.lload_names.specs.declared.names.Bound.TheVariants.{Free}
use Rattle.lload_names.specs.declared.names.ConnKind.TheVariants.{Bind as BindConnections}
use Rattle.lload_names.specs.declared.names.Entry.{Entry}
use Rattle.lload_names.specs.declared.names.Letter.TheVariants.{Ask}
use Rattle.lload_names.specs.declared.names.PartName.TheVariants.{Desk}
use Rattle.lload_names.specs.declared.names.Posted.{Posted}
use Rattle.lload_names.specs.declared.names.What.TheVariants.{In}
use Rattle.outbox.specs.Room.{Room}
use Rattle.client_rows.specs.Rows.{Counted}
use Rattle.client_session.specs.Closing.{drops}
use Rattle.client_session.proofs.Anew.{did-bind-ask}
use Rattle.client_session.proofs.Rules.{put-entry}
use Rattle.client_session.proofs.part.ClientPart.bind_anew.Goals as goal

pub returns-clause-did : goal.returns-clause-did
returns-clause-did c = λ s p h outside its zero goes is.
    let d = c.args.self.now in
    let m : Message = record { id = c.args.row.id; rest = c.args.rest } in
    let items : Room Posted → List Posted = λ l. l.items in
    let put : Room Entry → List Entry = λ l. l.items in
    let long = c.len.ensures.len in
    let ok = c.in_ok-reserve-2.ensures.ok in
    let asks : Posted = record { to = Desk; letter = Ask (record { client = d.number; k = c.args.row.k }) (record { kind = BindConnections; bound = Free }) } in
    rw (c.new.ensures) (did-bind-ask s p d _ _ c.args.at c.reserve-2.new.self m c.args.row c.args.out.now _ its zero goes c.reset.ensures.calls (omega (arith, long, ok)) h
    (put-entry p c.args.at (In c.args.row.id c.args.rest) _ _ _ _ h.number c.put.ensures.entries (ap put c.put_drops.ensures.entries ∙ c.in_ok-reserve.ensures.entries))
    is outside c.in_ok-ended.ensures.ok
    (c.put-2.ensures.items ∙ ap (λ l. l ++ asks ∷ []) (ap items c.put.ensures.letters ∙ c.put_drops.ensures.letters ∙ ap (λ (o : Counted). c.reserve.new.self.letters.items ++ drops d.number o.rows) c.in_ok-ended.ensures.ended ∙ ap (λ l. l ++ drops d.number d.operations.rows) c.in_ok-reserve.ensures.letters)))
