use Rattle.std.proofs.Common.{◌≡◌, ◌++◌, [], List, filter, ap, sym, refl, ◌∙◌}
use Rattle.std.specs.Option.{option_to_list, option_copied}
use Rattle.ldap_spec.specs.Messages.{Message}
use Rattle.lload_names.specs.declared.names.Entry.{Entry}
use Rattle.lload_names.specs.declared.names.Posted.{Posted}
use Rattle.lload_names.specs.declared.names.What.TheVariants.{In, Out}
use Rattle.outbox.specs.Room.{Room}
use Rattle.client_rows.specs.Rows.{has_id}
use Rattle.client_session.specs.Closing.{drop_of}
use Rattle.client_session.proofs.Cancelled.{did-cancel, named-row, none-named-none}
use Rattle.client_session.proofs.Rules.{put-entry}
use Rattle.client_session.proofs.Under.{one-number, on-some}
use Rattle.client_session.proofs.part.ClientPart.cancel.Goals as goal

pub returns-in_default-clause-did : goal.returns-in_default-clause-did
returns-in_default-clause-did c = λ s p h found.
    let m : Message = record { id = c.args.id; rest = c.args.rest } in
    let none : filter (has_id c.args.named) c.args.self.now.operations.rows ≡ [] = c.under.ensures ∙ ap (λ o. option_to_list (option_copied o)) c.in_default.is in
    none-named-none s p c.args.self.now m c.args.named c.args.kind found h none

pub returns-clause-did : goal.returns-clause-did
returns-clause-did c = λ s p h found.
    let m : Message = record { id = c.args.id; rest = c.args.rest } in
    let d = c.args.self.now in
    let row = c.in-Some.row.now in
    let items : Room Posted → List Posted = λ l. l.items in
    let put : Room Entry → List Entry = λ l. l.items in
    let kept = named-row s p d m c.args.named c.args.kind row found h c.in-Some.ensures in
    let here = c.end.ensures.row ∙ one-number c.args.named d row c.end.ensures.numbered c.in-Some.ensures kept.0 in
    let number = h.number ∙ sym c.end.ensures.number in
    did-cancel s p d c.end.new.self _ c.args.at m c.args.named c.args.kind row c.in_ok-last_words.last_words c.in_ok-answer.answer c.args.out.now c.put-3.new.out _ _ found c.in-Some.ensures c.in_ok-last_words.ensures c.in_ok-answer.ensures c.end.ensures.numbered c.pass.ensures.numbered c.pass.ensures.passed h (on-some c.end.result row here c.end.ensures.state s p h)
    (put-entry p c.args.at (In c.args.id c.args.rest) _ _ _ _ number c.put.ensures.entries (ap put c.put_drop.ensures.entries ∙ c.in_ok-reserve.ensures.entries))
    (put-entry p c.args.at (Out c.args.named c.in_ok-last_words.last_words) _ _ _ _ number c.put-2.ensures.entries refl)
    (put-entry p c.args.at (Out c.args.id c.in_ok-answer.answer) _ _ _ _ number c.put-3.ensures.entries refl)
    (ap items c.put-3.ensures.letters ∙ ap items c.put-2.ensures.letters ∙ ap items c.put.ensures.letters ∙ c.put_drop.ensures.letters ∙ ap (λ l. l ++ drop_of d.number row) c.in_ok-reserve.ensures.letters)
