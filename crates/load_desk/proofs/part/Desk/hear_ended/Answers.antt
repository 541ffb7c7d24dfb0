use Rattle.lload_names.specs.declared.names.Letter.TheVariants.{Ended}
use Rattle.load_desk.proofs.Turns.{heard-did}
use Rattle.load_desk.proofs.part.Desk.hear_ended.Goals as goal

pub returns-clause-did : goal.returns-clause-did
returns-clause-did c = λ s p mark h fit.
    heard-did s p c.args.at mark (Ended c.args.op c.args.conn c.args.latency) c.args.out.now c.reserve.new.self c.note.new.out _ c.reserve.ensures.entries c.reserve.ensures.letters c.note.ensures.entries c.note.ensures.letters
    (c.in_ok-end.ensures.ended s p c.args.at h fit)
