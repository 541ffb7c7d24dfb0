use Rattle.part_spec.specs.Merge.{world_of}
use Rattle.part_spec.specs.World.{list_in}
use Rattle.run_laws.specs.Runs.{family_of_run}
use Rattle.run_laws.proofs.the_desk_hears_of_connections_in_order_in_runs.Goals as goal

pub returns : goal.returns
returns c = λ s ms k. c.the_desk_hears_of_each_connection_in_order.ensures s (family_of_run s ms) (list_in (world_of s ms)) (c.parts_are_played_in_runs.ensures s ms k)
