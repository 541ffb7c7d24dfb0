use Rattle.lload_names.specs.declared.names.Letter.TheVariants.{IsRetired}
use Rattle.part_spec.specs.DeskState.{facts_of}
use Rattle.load_desk.proofs.Coming.{lost-stands}
use Rattle.load_desk.proofs.Turns.{heard-did}
use Rattle.load_desk.proofs.part.Desk.hear_retired.Goals as goal

pub returns-clause-did : goal.returns-clause-did
returns-clause-did c = λ s p mark h.
    heard-did s p c.args.at mark (IsRetired c.args.conn) c.args.out.now c.reserve.new.self c.note.new.out _ c.reserve.ensures.entries c.reserve.ensures.letters c.note.ensures.entries c.note.ensures.letters
    (lost-stands s p c.args.self.now c.args.at c.args.conn c.lost.new.tables h (c.lost.ensures.lost s (facts_of s p) h.tables) c.lost.ensures.rounds)
