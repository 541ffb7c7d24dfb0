use Rattle.std.proofs.Common.{◌≡◌, ◌∷◌, length, arith, ap, sym, subst, ◌∙◌}
use Rattle.std.specs.List.{AllByRecursion}
use Rattle.ldap_spec.specs.Bodies.{abandon}
use Rattle.upstream_conn.specs.Part.{state}
use Rattle.upstream_conn.specs.Ticks.{due_ids}
use Rattle.upstream_conn.specs.declared.clock.Abandon.{Abandon}
use Rattle.upstream_conn.proofs.Expiries.{all-written, next-due, then-due, then-leads, last-leads}
use Rattle.upstream_conn.proofs.part.UpstreamPart.expire_all.Goals as goal

pub loop-due-init : goal.loop-due-init
loop-due-init c = record {
  entry_room = c.requires.entries;
  letter_room = c.requires.letters;
  written = subst (AllByRecursion (λ (a : Abandon). a.rest ≡ abandon a.id)) (sym c.requires.all) (all-written (due_ids c.args.self.now.core c.args.at));
  knows = λ s k. k;
  all = λ s k. c.requires.all;
  leads = λ s q r k d. d;
}

pub expire-requires-clause-written : goal.expire-requires-clause-written
expire-requires-clause-written c = (subst (AllByRecursion (λ (a : Abandon). a.rest ≡ abandon a.id)) c.in-Some.ensures c.loop-due.invariant.written).0

pub loop-due-preserved : goal.loop-due-preserved
loop-due-preserved c =
    let u = c.loop-due.self in
    let inv = c.loop-due.invariant in
    let a = c.in-Some.due in
    let others = c.next_of.new.list.items in
    let many : length c.loop-due.list.items ≡ length (a ∷ others) = ap (length {A = Abandon}) c.in-Some.ensures in
    let entry_room = inv.entry_room in
    let letter_room = inv.letter_room in
    let less_entries = c.expire.ensures.entry_room in
    let less_letters = c.expire.ensures.letter_room in
    record {
      entry_room = omega (arith, many, entry_room, less_entries);
      letter_room = omega (arith, many, letter_room, less_letters);
      written = (subst (AllByRecursion (λ (x : Abandon). x.rest ≡ abandon x.id)) c.in-Some.ensures inv.written).1;
      knows = λ s k. let n = next-due s u c.args.at a others (inv.knows s k) (sym c.in-Some.ensures ∙ inv.all s k) in c.expire.ensures.knows s n.row (inv.knows s k) n.found;
      all = λ s k. let n = next-due s u c.args.at a others (inv.knows s k) (sym c.in-Some.ensures ∙ inv.all s k) in then-due s u c.expire.new.self.core c.args.at a others (inv.knows s k) n (c.expire.ensures.core s n.row (inv.knows s k) n.found);
      leads = λ s q r k d.
          let n = next-due s u c.args.at a others (inv.knows s k) (sym c.in-Some.ensures ∙ inv.all s k) in
          inv.leads s q r k (then-leads s u c.expire.new.self c.args.at a others c.loop-due.out c.expire.new.out q r (inv.knows s k) n (c.expire.ensures.core s n.row (inv.knows s k) n.found) (c.expire.ensures.did s n.row (inv.knows s k) n.found) d);
    }

pub returns-clause-did : goal.returns-clause-did
returns-clause-did c = λ s k. c.loop-due.invariant.leads s c.loop-due.out (state c.loop-due.self) k (last-leads s c.loop-due.self c.args.at c.loop-due.list.items c.loop-due.out (c.loop-due.invariant.knows s k) c.in_default.ensures (c.loop-due.invariant.all s k))
