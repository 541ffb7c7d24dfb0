use Rattle.std.proofs.Common.{arith, ◌∙◌, sym}
use Rattle.std.proofs.lemmas.List.{at_drop_all}
use Rattle.ldap_spec.specs.Elements.{number_from}
use Rattle.ber_envelope.proofs.Octets.{below_power, fits_word, number_more}
use Rattle.ber_envelope.proofs.lengths.number_of_octets.Goals as goal

pub overflow_mul-number : goal.overflow_mul-number
overflow_mul-number c = omega (arith, fits_word c.loop-octet.number c.loop-octet.octet-index 0 c.loop-octet.invariant.small (omega arith) (omega arith))

pub overflow_add-number : goal.overflow_add-number
overflow_add-number c = omega (arith, fits_word c.loop-octet.number c.loop-octet.octet-index c.from.result c.loop-octet.invariant.small (omega arith) (omega (arith, c.type_inv.octets c.loop-octet.octet-index)))

pub loop-octet-preserved : goal.loop-octet-preserved
loop-octet-preserved c = record {
  small = below_power c.loop-octet.number c.loop-octet.octet-index c.from.result c.loop-octet.invariant.small (omega (arith, c.type_inv.octets c.loop-octet.octet-index));
  exact = let more = number_more c.loop-octet.number c.loop-octet.octet-index c.args.octets.now (omega arith) in cc (c.from.ensures, c.loop-octet.invariant.exact);
}

pub returns : goal.returns
returns c = sym (at_drop_all (number_from c.loop-octet.number) c.args.octets.now c.loop-octet.octet-index (omega arith)) ∙ c.loop-octet.invariant.exact
