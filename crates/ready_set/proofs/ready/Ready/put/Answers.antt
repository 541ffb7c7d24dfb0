use Rattle.std.proofs.Common.{arith}
use Rattle.ready_set.proofs.Readies.{key-apart}
use Rattle.ready_set.proofs.ready.Ready.put.Goals as goal

pub returns-clause-others : goal.returns-clause-others
returns-clause-others c = λ i n l apart. c.in_ok-insert.ensures.updates.2 _ (key-apart c.args.place c.args.conn i n (omega arith) l apart)
