use Rattle.std.proofs.Common.{◌≡◌, ◌+◌, ◌≤◌, length, Some}
use Rattle.ldap_spec.specs.Controls.{listed_controls}
use Rattle.ldap_controls.specs.Lists.{listed}
use Rattle.ldap_controls.proofs.lists.Controls.len.Given as goal

abbrev pub invariant-loop-behind : goal.invariant-loop-behind
invariant-loop-behind l = record {
  read : listed_controls l.left ≡ Some (listed l.left);
  counted : l.count + length (listed l.left) ≡ length l.self;
  few : l.count + length l.left ≤ length l.initial.left;
}

abbrev pub decreases-loop-behind : goal.decreases-loop-behind
decreases-loop-behind l = length l.left
