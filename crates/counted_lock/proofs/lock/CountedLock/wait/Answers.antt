use Rattle.std.proofs.Common.{rules, ap, ◌∙◌}
use Rattle.counted_lock.proofs.Ticketing.{looks}
use Rattle.counted_lock.proofs.lock.CountedLock.wait.Goals as goal

pub load-requires : goal.load-requires
load-requires g c = (
  search rules,
  search rules,
  looks g.T.Keeps.stands g.T.Keeps.tag _ _ _ (ap (λ m. m.1) c.loop.invariant.1 ∙ c.requires.empty.0) (ap (λ m. m.0.spent) c.loop.invariant.1 ∙ c.requires.empty.1),
)
