use Rattle.std.proofs.Common.{◌≡◌, ◌∙◌, ap, sym, subst, arith, true}
use Rattle.ldap_spec.specs.Laws.{AreOctets}
use Rattle.ldap_spec.specs.Messages.{Message, SpellsWithin}
use Rattle.ldap_spec.proofs.Spelled.{computed_spells_within}
use Rattle.small_play.specs.Feeding.{limit_of, may_be_fed, fed_with}
use Rattle.small_play.specs.FedMessages.{lent}
use Rattle.small_play.specs.Waiting.{MayWait}
use Rattle.small_play.proofs.Waiting.{fed_waits}
use Rattle.small_play.proofs.play.Play.feed.Goals as goal

pub wait-requires : goal.wait-requires
wait-requires c =
    let octets : AreOctets c.args.bytes.now = record { each = λ i. omega (arith, c.type_inv.bytes i) } in
    let m : Message = lent c.in-Some.message in
    let spelled : SpellsWithin (limit_of c.args.part) c.args.bytes.now m = subst (λ n. SpellsWithin n c.args.bytes.now m) c.limit_of.ensures (computed_spells_within c.limit_of.result c.args.bytes.now m octets c.in-Some.ensures) in
    let may : may_be_fed c.args.self.now c.args.part m ≡ true = sym c.may_be_fed.ensures ∙ c.if-not-may_be_fed.false in
    subst (λ r. MayWait (fed_with c.args.self.now c.args.part (record { id = c.in-Some.message.id; rest = r }))) (sym c.in_ok-rest.ensures) (fed_waits c.args.self.now c.args.part c.args.bytes.now m (subst MayWait c.self.view_is c.self.invariant) spelled may)

pub returns-clause-fed : goal.returns-clause-fed
returns-clause-fed c =
    let octets : AreOctets c.args.bytes.now = record { each = λ i. omega (arith, c.type_inv.bytes i) } in
    let m : Message = lent c.in-Some.message in
    record {
      message = m;
      spelled = subst (λ n. SpellsWithin n c.args.bytes.now m) c.limit_of.ensures (computed_spells_within c.limit_of.result c.args.bytes.now m octets c.in-Some.ensures);
      may = sym c.may_be_fed.ensures ∙ c.if-not-may_be_fed.false;
      waiting = c.in_ok-wait.ensures ∙ ap (λ r. fed_with c.args.self.now c.args.part (record { id = c.in-Some.message.id; rest = r })) c.in_ok-rest.ensures;
    }
