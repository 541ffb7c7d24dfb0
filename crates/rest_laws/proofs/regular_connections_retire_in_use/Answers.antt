use Rattle.part_spec.specs.Merge.{world_of}
use Rattle.part_spec.specs.World.{list_in}
use Rattle.run_laws.specs.Runs.{family_of_run}
use Rattle.rest_laws.proofs.Retired.{in_use}
use Rattle.rest_laws.proofs.regular_connections_retire_in_use.Goals as goal

pub returns : goal.returns
returns c = λ s ms k u kind. in_use s ms (c.parts_are_joined_in_runs.ensures s ms k) u kind (c.the_rows_of_a_regular_connection_are_its_open_sents.ensures s (family_of_run s ms) (list_in (world_of s ms)) (c.parts_are_played_in_runs.ensures s ms k) u kind)
