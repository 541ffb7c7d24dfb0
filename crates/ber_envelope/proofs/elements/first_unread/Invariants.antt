use Rattle.std.proofs.Common.{◌≡◌, ◌-◌, ◌+◌, ◌≤◌, length, drop, is_some}
use Rattle.ldap_spec.specs.Elements.{elements}
use Rattle.ldap_spec.specs.Streams.{bad_element}
use Rattle.ber_envelope.proofs.elements.first_unread.Given as goal

abbrev pub invariant-loop-at : goal.invariant-loop-at
invariant-loop-at l = record {
  within : l.at ≤ length l.bytes;
  read : is_some (elements (drop l.at l.bytes)) ≡ is_some (elements l.bytes);
  place : l.at + bad_element (length (drop l.at l.bytes)) (drop l.at l.bytes) ≡ bad_element (length l.bytes) l.bytes;
}

abbrev pub decreases-loop-at : goal.decreases-loop-at
decreases-loop-at l = length l.bytes - l.at
