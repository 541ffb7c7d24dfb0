use Rattle.std.proofs.Common.{◌≡◌, ◌<◌, ◌^◌, drop}
use Rattle.ldap_spec.specs.Elements.{number_of, number_from}
use Rattle.ber_envelope.proofs.lengths.number_of_octets.Given as goal

abbrev pub invariant-loop-octet : goal.invariant-loop-octet
invariant-loop-octet l = record { small : l.number < 256 ^ l.octet-index; exact : number_from l.number (drop l.octet-index l.octets) ≡ number_of l.octets }
