use Rattle.std.proofs.Common.{length}
use Rattle.ldap_messages.proofs.LentParts.{between}
use Rattle.ldap_messages.proofs.parts.first_part.Goals as goal

pub returns-clause-lent : goal.returns-clause-lent
returns-clause-lent c = record {
  contents = between c.args.bytes.now c.in_ok-element.element.body_at c.in_ok-element.element.end c.in_ok-element.ensures.ordered;
  behind = between c.args.bytes.now c.in_ok-element.element.end (length c.args.bytes.now) c.in_ok-element.ensures.within;
}
