use Rattle.load_desk.proofs.Turns.{asked-did}
use Rattle.part_spec.specs.DeskState.{facts_of}
use Rattle.load_desk.proofs.part.Desk.ask.Goals as goal

pub returns-clause-did : goal.returns-clause-did
returns-clause-did c = λ s p mark h fit.
    let is = c.answer-answer.ensures s (facts_of s p) h.tables in
    asked-did s p c.args.at mark c.args.op c.args.want c.args.word c.answer-answer.result _ c.args.out.now c.reserve.new.self c.note_choice.new.out _ is c.reserve.ensures.entries c.reserve.ensures.letters c.note_choice.ensures.entries c.note_choice.ensures.letters
    (c.in_ok-choose.ensures.chosen s p c.args.word c.args.at h fit is)
