use Rattle.part_spec.specs.Merge.{world_of}
use Rattle.part_spec.specs.World.{list_in}
use Rattle.run_laws.specs.Runs.{family_of_run}
use Rattle.run_promise_laws.proofs.leaves_are_told_in_runs.Goals as goal

pub returns : goal.returns
returns c = λ s ms k none. c.who_left_holds_nothing.ensures s (family_of_run s ms) (list_in (world_of s ms)) (c.parts_are_played_in_runs.ensures s ms k) (c.parts_are_rested_in_runs.ensures s ms k none)
