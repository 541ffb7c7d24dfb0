use Rattle.std.proofs.Common.{◌≡◌, ◌<◌, length, Some, slice_get}
use Rattle.ldap_spec.specs.Controls.{listed_controls}
use Rattle.ldap_controls.specs.Lists.{listed}
use Rattle.ldap_controls.proofs.lists.Controls.get.Given as goal

abbrev pub invariant-loop-control : goal.invariant-loop-control
invariant-loop-control l = record {
  read : listed_controls l.left ≡ Some (listed l.left);
  same : slice_get (listed l.left) l.before ≡ slice_get l.self l.i;
  there : l.before < length (listed l.left);
}

abbrev pub decreases-loop-control : goal.decreases-loop-control
decreases-loop-control l = length l.left
