use Rattle.std.proofs.Common.{rules}
use Rattle.counted_lock.proofs.Ticketing.{publishes}
use Rattle.counted_lock.proofs.lock.CountedLock.publish.Goals as goal

pub fetch_add-requires : goal.fetch_add-requires
fetch_add-requires g c =
    let h = c.requires.holds in
    (search rules, search rules, rw c.requires.said (publishes g.T.Keeps.stands g.T.Keeps.tag _ _ _ h.0 h.1 _ h.2 h.3 h.4 c.requires.live c.requires.tag))
