use Rattle.part_spec.specs.Merge.{world_of}
use Rattle.part_spec.specs.World.{list_in}
use Rattle.run_laws.specs.Runs.{family_of_run}
use Rattle.rest_laws.proofs.Settles.{settles, in_use}
use Rattle.rest_laws.proofs.each_state_is_heard_where_nothing_waits.Goals as goal

pub returns : goal.returns
returns c = λ s ms k e. settles s (family_of_run s ms) (family_of_run s ms).connections (c.what_was_given_was_heard_in_runs.ensures s ms k e).states (in_use s (family_of_run s ms) (list_in (world_of s ms)) (c.parts_are_played_in_runs.ensures s ms k) (c.regular_connections_retire_in_use.ensures s ms k) (c.bind_connections_retire_in_use.ensures s (family_of_run s ms) (list_in (world_of s ms)) (c.parts_are_played_in_runs.ensures s ms k)))
