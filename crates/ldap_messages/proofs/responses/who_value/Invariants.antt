use Rattle.std.proofs.Common.{◌≡◌, length}
use Rattle.ldap_spec.specs.Responses.{find_tagged, who_value}
use Rattle.ldap_messages.specs.Parts.{IsPart}
use Rattle.ldap_messages.proofs.responses.who_value.Given as goal

abbrev pub invariant-loop-part : goal.invariant-loop-part
invariant-loop-part l = record { found : find_tagged 0x8B (length l.left) l.left ≡ who_value l.rest; lent : IsPart l.rest l.left }

abbrev pub decreases-loop-part : goal.decreases-loop-part
decreases-loop-part l = length l.left
