use Rattle.small_world.proofs.Promises.{standing_is_fifo, standing_ids_rise}
use Rattle.small_world.proofs.laws.a_world_keeps_the_first_promise.Goals as goal

pub returns-clause-fifo : goal.returns-clause-fifo
returns-clause-fifo c = standing_is_fifo

pub returns-clause-identifiers : goal.returns-clause-identifiers
returns-clause-identifiers c = standing_ids_rise
