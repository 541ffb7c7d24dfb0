use Rattle.std.proofs.Common.{◌++◌, ◌∷◌, [], List, ap, arith, ◌∙◌}
use Rattle.ldap_spec.specs.Messages.{Message}
use Rattle.lload_names.specs.declared.names.ConnKind.TheVariants.{Regular}
use Rattle.lload_names.specs.declared.names.Letter.TheVariants.{Ask}
use Rattle.lload_names.specs.declared.names.PartName.TheVariants.{Desk}
use Rattle.lload_names.specs.declared.names.Posted.{Posted}
use Rattle.lload_names.specs.declared.names.What.TheVariants.{In}
use Rattle.outbox.specs.Room.{Room}
use Rattle.client_session.proofs.Counted.{grown}
use Rattle.client_session.proofs.Rules.{put-entry}
use Rattle.client_session.proofs.Went.{did-ask}
use Rattle.client_session.proofs.part.ClientPart.ask.Goals as goal

pub returns-clause-did : goal.returns-clause-did
returns-clause-did c = λ s p kind h there its plain zero goes is.
    let d = c.args.self.now in
    let m : Message = record { id = c.args.row.id; rest = c.args.rest } in
    let items : Room Posted → List Posted = λ l. l.items in
    let most = c.most_endings-letters.ensures.most in
    let long = c.len.ensures.len in
    let ok = c.in_ok-reserve-2.ensures.ok in
    let asks : Posted = record { to = Desk; letter = Ask (record { client = d.number; k = c.args.row.k }) (record { kind = Regular; bound = c.target-bound.result }) } in
    did-ask s p d _ c.args.row c.args.at c.reserve-2.new.self m kind c.target-bound.result c.args.out.now _ its plain zero goes is c.in_ok-push.ensures.ok (omega (arith, most, long, ok))
    (c.target-bound.ensures s p (grown s p d c.reserve-2.new.self c.in_ok-reserve-2.ensures.kept h) there) h
    (put-entry p c.args.at (In c.args.row.id c.args.rest) _ _ _ _ h.number c.put.ensures.entries c.in_ok-reserve.ensures.entries)
    (c.put-2.ensures.items ∙ ap (λ l. l ++ asks ∷ []) (ap items c.put.ensures.letters ∙ c.in_ok-reserve.ensures.letters))
