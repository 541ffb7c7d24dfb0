use Rattle.part_spec.specs.Merge.{world_of}
use Rattle.part_spec.specs.World.{list_in}
use Rattle.run_laws.specs.Runs.{family_of_run}
use Rattle.run_laws.proofs.promises_of_one_list_hold_of_runs.Goals as goal

pub returns : goal.returns
returns c = λ s ms k. c.shares_give_what_is_said_of_one_list.ensures s (family_of_run s ms) (list_in (world_of s ms)) (c.parts_keep_their_shares_in_runs.ensures s ms k)
