use Rattle.part_spec.specs.Merge.{world_of}
use Rattle.part_spec.specs.World.{list_in}
use Rattle.run_laws.specs.Runs.{family_of_run}
use Rattle.run_promise_laws.proofs.the_desk_lives_in_runs.Goals as goal

pub returns : goal.returns
returns c = record {
  life = λ s ms k. c.the_desk_lives.ensures s (family_of_run s ms) (list_in (world_of s ms)) (c.parts_are_played_in_runs.ensures s ms k);
  latencies = λ s ms k. c.latencies_are_right.ensures s (family_of_run s ms) (list_in (world_of s ms)) (c.parts_are_played_in_runs.ensures s ms k);
  ends = λ s ms k none. c.each_end_is_heard.ensures s (family_of_run s ms) (list_in (world_of s ms)) (c.parts_are_played_in_runs.ensures s ms k) (c.parts_are_rested_in_runs.ensures s ms k none);
}
