use Rattle.counted_lock.proofs.Sharing.{opens}
use Rattle.counted_lock.proofs.lock.CountedLock.new.Goals as goal

pub new-requires : goal.new-requires
new-requires g c = rw c.in_ok-slots.ensures.ok (opens g.T.Keeps.stands g.T.Keeps.tag c.args.tag c.args.value c.requires)
