use Rattle.std.specs.Prelude.{Some}
use Rattle.counted_lock.proofs.lock.CountedLock.turn.Given as goal

abbrev pub ghosts-publish : goal.ghosts-publish
ghosts-publish g a = record { said = Some (g.W.Work.turn a.work.now.value a.reply.now) }
