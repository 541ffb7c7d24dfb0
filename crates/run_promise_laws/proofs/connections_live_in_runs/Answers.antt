use Rattle.part_spec.specs.Merge.{world_of}
use Rattle.part_spec.specs.World.{list_in}
use Rattle.run_laws.specs.Runs.{family_of_run}
use Rattle.run_promise_laws.proofs.connections_live_in_runs.Goals as goal

pub returns : goal.returns
returns c = record {
  places = λ s ms k. c.connections_with_entries_have_places.ensures s (family_of_run s ms) (list_in (world_of s ms)) (c.parts_are_played_in_runs.ensures s ms k);
  life = λ s ms k. c.connections_live.ensures s (family_of_run s ms) (list_in (world_of s ms)) (c.parts_are_played_in_runs.ensures s ms k);
  idle = λ s ms k. c.each_idle_is_owed.ensures s (family_of_run s ms) (list_in (world_of s ms)) (c.parts_are_played_in_runs.ensures s ms k);
}
