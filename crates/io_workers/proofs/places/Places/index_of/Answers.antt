use Rattle.std.proofs.Common.{subst}
use Rattle.io_workers.specs.Places.{ArePlaces}
use Rattle.io_workers.proofs.Numbers.{turn-positive}
use Rattle.io_workers.proofs.places.Places.index_of.Goals as goal

pub overflow_sub-result : goal.overflow_sub-result
overflow_sub-result c =
    turn-positive c.self.inside.count c.args.conn c.args.self.now (subst (ArePlaces c.self.inside.count) c.self.view_is c.self.invariant) c.requires
