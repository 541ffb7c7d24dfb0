use Rattle.counted_lock.proofs.lock.CountedLock.split.Given as goal

abbrev pub ghosts-make : goal.ghosts-make
ghosts-make g a = record { tag = a.tag }
