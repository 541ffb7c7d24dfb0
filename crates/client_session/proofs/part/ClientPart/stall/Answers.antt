use Rattle.std.proofs.Common.{◌≡◌, ◌++◌, ◌∷◌, [], ◌&&◌, Bool, true, false, not, List, None, ap, sym, subst, ◌∙◌, arith}
use Rattle.lload_names.specs.declared.names.Entry.{Entry}
use Rattle.lload_names.specs.declared.names.Posted.{Posted}
use Rattle.lload_names.specs.declared.names.PartName.TheVariants.{Client}
use Rattle.lload_names.specs.declared.names.What.TheVariants.{Stalled}
use Rattle.lload_spec.specs.Pauses.{pause_letters}
use Rattle.outbox.specs.Room.{Room}
use Rattle.part_spec.specs.ClientState.{is_present}
use Rattle.part_spec.specs.ClientTurn.{stalls}
use Rattle.part_spec.specs.Inputs.{where_so}
use Rattle.client_session.specs.Did.{Did}
use Rattle.client_session.specs.declared.part.ClientPart.{ClientPart}
use Rattle.client_session.proofs.Paused.{did-stall}
use Rattle.client_session.proofs.part.ClientPart.stall.Goals as goal

pub returns-clause-did : goal.returns-clause-did
returns-clause-did c = λ s p h.
    let d = c.args.self.now in
    let e : ClientPart = record d { paused = c.in_ok-paused.paused; kept = c.reserve-2.new.self } in
    let there : is_present p ≡ true = sym (c.is_present.ensures s p h) ∙ c.if-not-is_present.false in
    let still : p.pausing.stalled ≡ false = h.stalled ∙ c.if-self.false in
    let so : (is_present p && not p.pausing.stalled) ≡ true = ap (λ b. b && not p.pausing.stalled) there ∙ ap not still in
    let most = c.most_endings-letters.ensures.most in
    let long = c.len-2.ensures.len in
    let ok = c.in_ok-reserve-2.ensures.ok in
    let first : Entry = record { part = Client d.number; at = c.args.at; what = Stalled } in
    let entries = c.put.ensures.entries ∙ ap (λ (l : List Entry). l ++ first ∷ []) (ap (λ (r : Room Entry). r.items) c.put_pauses.ensures.entries ∙ c.in_ok-reserve.ensures.entries) in
    let letters = ap (λ (r : Room Posted). r.items) c.put.ensures.letters ∙ c.put_pauses.ensures.letters ∙ ap (λ (l : List Posted). l ++ pause_letters d.number e.paused.keys) c.in_ok-reserve.ensures.letters in
    subst (λ (b : Bool). Did s p c.args.at None (where_so b (stalls p)) c.args.out.now c.put.new.out (record d { paused = e.paused; stalled = true; moment = c.args.at; kept = e.kept })) (sym so)
    (did-stall s p d e c.args.at c.args.out.now c.put.new.out h still c.in_ok-paused.ensures (omega (arith, most, long, ok)) entries letters)
