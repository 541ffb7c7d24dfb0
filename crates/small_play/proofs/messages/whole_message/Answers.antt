use Rattle.std.proofs.Common.{ℕ, length, subst, arith}
use Rattle.ldap_spec.specs.Laws.{AreOctets}
use Rattle.ber_envelope.specs.declared.reading.Read.TheVariants.{Whole}
use Rattle.ber_envelope.specs.Reading.{Finds}
use Rattle.small_play.proofs.FedBytes.{none_within, found_whole}
use Rattle.small_play.proofs.messages.whole_message.Goals as goal
use Rattle.small_play.proofs.messages.whole_message.Goals.{in_default-via-in-Whole+else-end-bytes, in_default-via-in_default}

pub returns-in_default : goal.returns-in_default
returns-in_default c =
    let octets : AreOctets c.args.bytes.now = record { each = λ i. omega (arith, c.type_inv.bytes i) } in
    let size : ℕ = length c.args.bytes.now in
    none_within c.args.limit c.args.bytes.now c.read.result octets c.read.ensures.found (λ m found. elim c.in_default.branch [
      | in_default-via-in-Whole+else-end-bytes w ↦ let whole : Finds c.args.bytes.now size m (Whole w.in-Whole.id w.in-Whole.rest_at w.in-Whole.end) = subst (Finds c.args.bytes.now size m) w.in-Whole.is found in omega (arith, w.if-end-bytes.false, whole.0)
      | in_default-via-in_default w ↦ found_whole c.args.bytes.now size m c.read.result w.in_default.not-Whole found
    ])
