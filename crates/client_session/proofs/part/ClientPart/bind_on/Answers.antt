use Rattle.std.proofs.Common.{◌++◌, ◌∷◌, ◌+◌, [], List, ap, arith, sym, ◌∙◌}
use Rattle.ldap_spec.specs.Messages.{Message}
use Rattle.lload_names.specs.declared.names.Entry.{Entry}
use Rattle.lload_names.specs.declared.names.OpName.{OpName}
use Rattle.lload_names.specs.declared.names.Posted.{Posted}
use Rattle.lload_names.specs.declared.names.What.TheVariants.{In}
use Rattle.outbox.specs.Room.{Room}
use Rattle.client_rows.specs.Rows.{Counted}
use Rattle.client_rows.specs.declared.row.Row.{Row}
use Rattle.client_session.specs.Closing.{drops}
use Rattle.client_session.specs.GoesOn.{waiting_row, goes_of, body_to}
use Rattle.client_session.proofs.Anew.{did-bind-go}
use Rattle.client_session.proofs.Chosen.{asks-who}
use Rattle.client_session.proofs.Rules.{put-entry}
use Rattle.client_session.proofs.part.ClientPart.bind_on.Goals as goal

pub returns-clause-did : goal.returns-clause-did
returns-clause-did c = λ s p h inside its zero goes is.
    let d = c.args.self.now in
    let m : Message = record { id = c.args.row.id; rest = c.args.rest } in
    let op : OpName = record { client = d.number; k = c.args.row.k } in
    let items : Room Posted → List Posted = λ l. l.items in
    let put : Room Entry → List Entry = λ l. l.items in
    let long = c.len.ensures.len in
    let ok = c.in_ok-reserve-2.ensures.ok in
    let asks = c.asks_who-ask_who.ensures ∙ sym (asks-who s (waiting_row s p m) c.args.row d.settings.proxyauthz h.settings.proxies is) in
    let ops = c.in_ok-ended.ensures.ok ∙ ap (λ (r : Row). record { count = d.operations.count + 1; rows = r ∷ [] }) c.send_to-request.ensures.row in
    rw (c.new.ensures) (did-bind-go s p d _ _ c.args.at c.reserve-2.new.self m c.args.row c.args.out.now _ its zero goes c.reset.ensures.calls (omega (arith, long, ok)) h
    (ap put c.put_goes_on.ensures.entries ∙ put-entry p c.args.at (In c.args.row.id c.args.rest) _ _ _ _ h.number c.put.ensures.entries (ap put c.put_drops.ensures.entries ∙ c.in_ok-reserve.ensures.entries))
    is c.asks_who-ask_who.result inside asks ops
    (c.put_goes_on.ensures.letters
    ∙ ap (λ r. c.put.new.out.letters.items ++ goes_of op d.hold r c.asks_who-ask_who.result) c.send_to-request.ensures.body
    ∙ ap (λ l. l ++ goes_of op d.hold (body_to d.hold c.args.row) c.asks_who-ask_who.result) (ap items c.put.ensures.letters ∙ c.put_drops.ensures.letters ∙ ap (λ (o : Counted). c.reserve.new.self.letters.items ++ drops d.number o.rows) c.in_ok-ended.ensures.ended ∙ ap (λ l. l ++ drops d.number d.operations.rows) c.in_ok-reserve.ensures.letters)))
