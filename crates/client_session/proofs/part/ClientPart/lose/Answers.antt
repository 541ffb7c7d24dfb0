use Rattle.std.proofs.Common.{◌≡◌, ◌++◌, ◌∷◌, [], ℕ, List, true, ap, sym, subst, None, ◌∙◌}
use Rattle.ldap_spec.specs.Bodies.{protocol_error_notice}
use Rattle.lload_names.specs.declared.names.Entry.{Entry}
use Rattle.lload_names.specs.declared.names.Posted.{Posted}
use Rattle.lload_names.specs.declared.names.PartName.TheVariants.{Client}
use Rattle.lload_names.specs.declared.names.What.TheVariants.{Out}
use Rattle.outbox.specs.Room.{Room}
use Rattle.part_spec.specs.ClientState.{is_present}
use Rattle.part_spec.specs.ClientTurn.{link_gone}
use Rattle.part_spec.specs.Inputs.{Act, where_so}
use Rattle.client_session.specs.Did.{Did}
use Rattle.client_session.proofs.Ended.{did-notice, link-gone}
use Rattle.client_session.proofs.part.ClientPart.lose.Goals as goal

pub returns-clause-did : goal.returns-clause-did
returns-clause-did c = λ s p h.
    let d = c.args.self.now in
    let there : is_present p ≡ true = sym (c.is_present.ensures s p h) ∙ c.if-not-is_present.false in
    let of = link-gone p c.args.why (sym c.is_of_bytes.ensures ∙ c.if-not-is_of_bytes.false) in
    let items : Room Posted → List Posted = λ l. l.items in
    let told : List ℕ → Entry = λ rest. record { part = Client d.number; at = c.args.at; what = Out 0 rest } in
    subst (λ (a : Act). Did s p c.args.at None a c.args.out.now c.finish.new.out c.finish.new.self) (sym (ap (λ b. where_so b (link_gone p c.args.why)) there ∙ of))
    (did-notice s p d c.finish.new.self c.args.at c.args.why c.args.out.now c.put.new.out c.finish.new.out h c.finish.ensures.ended
    (c.put.ensures.entries ∙ ap (λ rest. c.reserve_closing.new.out.entries.items ++ told rest ∷ []) c.in_ok-notice.ensures ∙ ap (λ (l : List Entry). l ++ told protocol_error_notice ∷ []) c.in_ok-reserve_closing.ensures.entries)
    (ap items c.put.ensures.letters ∙ c.in_ok-reserve_closing.ensures.letters)
    c.finish.ensures.entries c.finish.ensures.letters)
