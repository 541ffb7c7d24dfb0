use Rattle.part_spec.specs.Merge.{world_of}
use Rattle.part_spec.specs.World.{list_in}
use Rattle.run_laws.specs.Runs.{family_of_run}
use Rattle.run_laws.proofs.promises_of_several_lists_hold_of_runs.Goals as goal

pub returns : goal.returns
returns c = λ s ms k. c.shares_and_links_give_what_is_said_of_several_lists.ensures s (family_of_run s ms) (list_in (world_of s ms)) (c.parts_are_joined_in_runs.ensures s ms k)
