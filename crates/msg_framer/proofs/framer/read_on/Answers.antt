use Rattle.std.proofs.Common.{arith}
use Rattle.ldap_spec.specs.Laws.{AreOctets}
use Rattle.msg_framer.proofs.Histories.{still_read}
use Rattle.msg_framer.proofs.framer.read_on.Goals as goal

pub returns-in_default : goal.returns-in_default
returns-in_default c =
    let octets : AreOctets c.args.bytes.now = record { each = λ i. omega (arith, c.type_inv.bytes i) } in
    still_read c.args.limit c.args.bytes.now c.args.first octets c.requires c.in_default.not-Short
