use Rattle.std.proofs.Common.{arith}
use Rattle.ldap_controls.proofs.Listing.{unread}
use Rattle.ldap_controls.proofs.lists.Controls.of_contents.Goals as goal

pub returns-in_err-behind : goal.returns-in_err-behind
returns-in_err-behind c = rw c.from_residual.ensures (unread c.args.contents.now c.loop-left.left.now (grind (arith, c.loop-left-test.true, c.is_empty.ensures)) c.in_err-behind.ensures c.loop-left.invariant)
