use Rattle.std.proofs.Common.{◌≡◌, ◌++◌, ◌∷◌, [], ℕ, List, ap, sym, subst, refl, ◌∙◌}
use Rattle.ldap_spec.specs.Messages.{Message}
use Rattle.lload_names.specs.declared.names.Posted.{Posted}
use Rattle.lload_names.specs.declared.names.What.TheVariants.{In, Out, Gone}
use Rattle.outbox.specs.Room.{Room}
use Rattle.client_session.specs.Closing.{closing}
use Rattle.client_session.specs.Ended.{counted}
use Rattle.client_session.specs.Stands.{Stands}
use Rattle.client_session.proofs.Leaves.{did-end}
use Rattle.client_session.proofs.Rules.{entry, put-entry}
use Rattle.client_session.proofs.part.ClientPart.end_by_message.Goals as goal

pub returns-clause-did : goal.returns-clause-did
returns-clause-did c = λ s p h found.
    let m : Message = record { id = c.args.id; rest = c.args.rest } in
    let e = c.count_in.new.self in
    let number = h.number ∙ sym c.count_in.ensures.number in
    let items : Room Posted → List Posted = λ l. l.items in
    did-end s p c.args.at m c.args.self.now e c.finish.new.self h (subst (λ (rest : List ℕ). Stands s (counted (record { id = c.args.id; rest = rest }) p) e) c.as_slice.ensures (c.count_in.ensures.stands s p h)) c.finish.ensures.ended c.count_in.ensures.same c.args.why c.args.out.now c.finish.new.out _ _ found
    (put-entry p c.args.at (In c.args.id c.args.rest) _ _ _ _ number c.put.ensures.entries c.in_ok-reserve_closing.ensures.entries)
    (put-entry p c.args.at (Out 0 c.in_ok-notice.notice) _ _ _ _ number c.put-2.ensures.entries refl ∙ ap (λ rest. c.put.new.out.entries.items ++ entry p c.args.at (Out 0 rest) ∷ []) c.in_ok-notice.ensures)
    (put-entry p c.args.at (Gone c.args.why) _ _ _ _ number c.finish.ensures.entries refl)
    (c.finish.ensures.letters ∙ ap (λ l. l ++ closing e) (ap items c.put-2.ensures.letters ∙ ap items c.put.ensures.letters ∙ c.in_ok-reserve_closing.ensures.letters))
