use Rattle.std.proofs.Common.{arith}
use Rattle.ber_envelope.proofs.FirstMessage.{front_answers}
use Rattle.ber_envelope.proofs.reading.first_message.Goals as goal

pub returns-else-value-limit : goal.returns-else-value-limit
returns-else-value-limit c =
    front_answers c.args.limit c.in-Whole.size c.in-Whole.value c.in-Some.tag.now c.args.bytes.now c.in-Some.behind.now c.read_sized.result
    c.in-Some.ensures.cases.0 c.if-tag-ne48.false c.in-Whole.ensures (omega (arith, c.if-value-limit.false)) c.read_sized.ensures
