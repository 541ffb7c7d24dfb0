use Rattle.std.proofs.Common.{◌≡◌, length}
use Rattle.std.specs.List.{list_any}
use Rattle.std.specs.Str.{bytes_eq}
use Rattle.ldap_spec.specs.Controls.{has_control}
use Rattle.ldap_controls.proofs.reading.has.Given as goal

abbrev pub invariant-loop-control : goal.invariant-loop-control
invariant-loop-control l = list_any (λ c. bytes_eq c.oid l.oid) l.left ≡ has_control l.oid l.rest

abbrev pub decreases-loop-control : goal.decreases-loop-control
decreases-loop-control l = length l.left
