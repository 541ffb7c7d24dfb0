use Rattle.std.proofs.Common.{◌≡◌, ℕ, List, Option, Some, None, find, ◌++◌, ap, sym, ◌∙◌}
use Rattle.lload_names.specs.declared.names.Entry.{Entry}
use Rattle.lload_names.specs.declared.names.Posted.{Posted}
use Rattle.lload_names.specs.declared.names.Answer.TheVariants.{Go}
use Rattle.lload_names.specs.declared.names.What.TheVariants.{Chosen}
use Rattle.outbox.specs.Room.{Room}
use Rattle.part_spec.specs.ClientState.{ClientState}
use Rattle.client_rows.specs.Rows.{Counted, has_number, waiting_body}
use Rattle.client_session.specs.Choices.{forward_of, pause_where, pausing_by}
use Rattle.client_session.specs.Fit.{connection_of}
use Rattle.client_session.proofs.Chosen.{live-row, did-go, asks-who, waiting-is}
use Rattle.client_session.proofs.Rules.{put-entry}
use Rattle.client_session.proofs.part.ClientPart.choose_connection.Goals as goal

pub returns-clause-did : goal.returns-clause-did
returns-clause-did c = λ s p mark h due.
    let live = live-row s _ c.in-Some.row.now (c.in-Some.ensures.named s p h) in
    let r = live.0 in
    let kind = c.in-Some.row.now.kind in
    let asks = c.asks_who-ask_who.result in
    let its = ap (λ v. v.kind) live.2 in
    let waits : r.connection ≡ None = ap connection_of (sym live.1) ∙ due.waits in
    let items : Room Posted → List Posted = λ l. l.items in
    let put : Room Entry → List Entry = λ l. l.items in
    let paused : ClientState = record p { pausing = pausing_by kind c.args.conn p.pausing } in
    let same : c.put_chosen-2.new.self.operations ≡ c.args.self.now.operations = ap (λ d. d.operations) c.put_chosen-2.ensures.rest ∙ c.in_ok-pauses.ensures.operations in
    let rest : c.send-rest.result ≡ Some r.request.rest = c.send-rest.ensures.rest ∙ ap (λ (o : Counted). waiting_body (find (has_number c.args.op.k) o.rows)) same ∙ waiting-is s p c.args.self.now c.args.op r live.1 waits h in
    let number : c.send-rest.new.self.number ≡ p.number = c.send-rest.ensures.number ∙ ap (λ d. d.number) c.put_chosen-2.ensures.rest ∙ c.in_ok-pauses.ensures.number ∙ sym h.number in
    did-go s p c.args.at mark c.args.op c.args.conn c.args.backend r kind asks c.in_ok-pauses.pauses _ _ _ live.1 its (asks-who s r c.in-Some.row.now c.args.self.now.settings.proxyauthz h.settings.proxies (sym live.2) ∙ sym c.asks_who-ask_who.ensures) (c.in_ok-pauses.ensures.says s p h)
    (ap put c.put_pause.ensures.entries ∙ ap put c.put_forward.ensures.entries ∙ put-entry p c.args.at (Chosen c.args.op (Go c.args.conn c.args.backend)) _ _ _ _ (h.number ∙ sym c.in_ok-pauses.ensures.number) c.put_chosen-2.ensures.entries c.in_ok-reserve.ensures.entries)
    (c.put_pause.ensures.letters
    ∙ ap (λ n. c.put_forward.new.out.letters.items ++ pause_where n c.in_ok-pauses.pauses c.args.conn) number
    ∙ ap (λ l. l ++ pause_where p.number c.in_ok-pauses.pauses c.args.conn)
    (c.put_forward.ensures.letters
    ∙ ap (λ o. c.put_chosen-2.new.out.letters.items ++ forward_of c.args.op kind o asks c.args.op c.args.conn) rest
    ∙ ap (λ l. l ++ forward_of c.args.op kind (Some r.request.rest) asks c.args.op c.args.conn) (ap items c.put_chosen-2.ensures.letters ∙ c.in_ok-reserve.ensures.letters)))
    (c.send-rest.ensures.stands s _ r (c.put_chosen-2.ensures.stands s paused (c.in_ok-pauses.ensures.stands s p h) due.asked) live.1 waits its (sym (ap (λ v. v.action) live.2)))
