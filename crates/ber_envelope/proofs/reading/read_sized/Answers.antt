use Rattle.std.proofs.Common.{ℕ, List, Ok, subst}
use Rattle.ber_envelope.specs.Reading.{AnswersContents}
use Rattle.ber_envelope.proofs.FirstMessage.{contents_answers}
use Rattle.ber_envelope.proofs.reading.read_sized.Goals as goal

pub returns-in-Ok : goal.returns-in-Ok
returns-in-Ok c =
    let P : List ℕ → Type 0 = λ xs. AnswersContents xs (Ok (c.in-Ok.id, c.in-Ok.rest_at)) in
    contents_answers c.args.bytes.now c.args.from c.args.size c.in-Ok.id c.in-Ok.rest_at c.in-Some.ensures.lookup.0.1 (subst P c.in-Some.ensures.lookup.0.2 c.in-Ok.ensures)
