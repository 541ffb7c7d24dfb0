use Rattle.std.proofs.Common.{◌≡◌, length, is_some}
use Rattle.ldap_spec.specs.Controls.{listed_controls}
use Rattle.ldap_controls.proofs.lists.Controls.of_contents.Given as goal

abbrev pub invariant-loop-left : goal.invariant-loop-left
invariant-loop-left l = is_some (listed_controls l.left) ≡ is_some (listed_controls l.contents)

abbrev pub decreases-loop-left : goal.decreases-loop-left
decreases-loop-left l = length l.left
