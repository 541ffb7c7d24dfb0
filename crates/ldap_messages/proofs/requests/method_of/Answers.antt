use Rattle.ldap_messages.proofs.LentParts.{whole}
use Rattle.ldap_messages.proofs.requests.method_of.Goals as goal

pub returns-in-128-clause-lent : goal.returns-in-128-clause-lent
returns-in-128-clause-lent c = whole c.args.contents.now
