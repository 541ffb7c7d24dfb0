use Rattle.part_spec.specs.Merge.{world_of}
use Rattle.part_spec.specs.World.{list_in}
use Rattle.run_laws.specs.Runs.{family_of_run}
use Rattle.run_promise_laws.proofs.rows_are_open_sents_in_runs.Goals as goal

pub returns : goal.returns
returns c = λ s ms k u kind. c.the_rows_of_a_regular_connection_are_its_open_sents.ensures s (family_of_run s ms) (list_in (world_of s ms)) (c.parts_are_played_in_runs.ensures s ms k) u kind
