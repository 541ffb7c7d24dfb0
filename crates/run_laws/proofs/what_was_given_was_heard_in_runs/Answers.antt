use Rattle.part_spec.specs.Merge.{world_of}
use Rattle.part_spec.specs.World.{list_in}
use Rattle.run_laws.specs.Runs.{family_of_run}
use Rattle.run_laws.proofs.what_was_given_was_heard_in_runs.Goals as goal

pub returns : goal.returns
returns c = λ s ms k e. c.what_was_given_was_heard.ensures s (family_of_run s ms) (list_in (world_of s ms)) (c.parts_are_rested_in_runs.ensures s ms k e)
