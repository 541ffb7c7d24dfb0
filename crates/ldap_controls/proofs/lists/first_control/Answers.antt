use Rattle.ldap_controls.proofs.Listing.{begins}
use Rattle.ldap_controls.proofs.lists.first_control.Goals as goal

pub returns : goal.returns
returns c = rw c.control_from.ensures (begins _ _ _ c.in_ok-element.ensures.first.is c.in_ok-oid.ensures.first.is)
