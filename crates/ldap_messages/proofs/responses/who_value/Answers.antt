use Rattle.std.proofs.Common.{sym, ◌∙◌, arith}
use Rattle.ldap_spec.proofs.ElementLists.{shorter}
use Rattle.ldap_messages.proofs.TaggedParts.{find_next, who_first}
use Rattle.ldap_messages.proofs.LentParts.{part_of_part}
use Rattle.ldap_messages.proofs.responses.who_value.Goals as goal

pub loop-part-init : goal.loop-part-init
loop-part-init c = record {
  found = who_first c.args.rest.now _ c.in_ok-left.ensures.first.is;
  lent = c.in_ok-left.ensures.lent.contents;
}

pub loop-part-preserved : goal.loop-part-preserved
loop-part-preserved c = record {
  found = sym (find_next 0x8B c.loop-part.left.now _ c.in-Some.ensures.first.is c.if-part.false) ∙ c.loop-part.invariant.found;
  lent = part_of_part _ _ _ c.loop-part.invariant.lent c.in-Some.ensures.lent.behind;
}

pub returns-then-part-clause-lent : goal.returns-then-part-clause-lent
returns-then-part-clause-lent c = part_of_part c.args.rest.now _ c.in-Some.part.contents.now c.loop-part.invariant.lent c.in-Some.ensures.lent.contents

pub loop-part-smaller : goal.loop-part-smaller
loop-part-smaller c =
    let s = shorter c.loop-part.left.now _ c.in-Some.ensures.first.is in
    omega (arith, s.0, s.1)
