use Rattle.std.proofs.Common.{arith}
use Rattle.ldap_spec.specs.Laws.{AreOctets}
use Rattle.ber_envelope.proofs.FirstMessage.{answer_spelled, answer_found, answer_needed}
use Rattle.ber_envelope.proofs.reading.Envelope.read.Goals as goal

pub returns-clause-spelled : goal.returns-clause-spelled
returns-clause-spelled c =
    let octets : AreOctets c.args.bytes.now = record { each = λ i. omega (arith, c.type_inv.bytes i) } in
    answer_spelled c.args.limit c.args.bytes.now c.first_message.result octets c.first_message.ensures

pub returns-clause-found : goal.returns-clause-found
returns-clause-found c = answer_found c.args.limit c.args.bytes.now c.first_message.result c.first_message.ensures

pub returns-clause-needed : goal.returns-clause-needed
returns-clause-needed c = answer_needed c.args.limit c.args.bytes.now c.first_message.result c.first_message.ensures
