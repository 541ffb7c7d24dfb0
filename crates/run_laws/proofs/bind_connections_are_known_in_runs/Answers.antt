use Rattle.part_spec.specs.Merge.{world_of}
use Rattle.part_spec.specs.World.{list_in}
use Rattle.run_laws.specs.Runs.{family_of_run}
use Rattle.run_laws.proofs.bind_connections_are_known_in_runs.Goals as goal

pub returns : goal.returns
returns c = record {
  expired = λ s ms k. c.an_expired_bind_takes_its_connection_down.ensures s (family_of_run s ms) (list_in (world_of s ms)) (c.parts_are_joined_in_runs.ensures s ms k);
  says = λ s ms k u kind. c.a_bind_connection_says_what_the_family_says.ensures s (family_of_run s ms) (list_in (world_of s ms)) (c.parts_are_played_in_runs.ensures s ms k) u kind;
  alone = λ s ms k. c.a_bind_connection_has_one_holder_at_a_time.ensures s (family_of_run s ms) (list_in (world_of s ms)) (c.parts_are_played_in_runs.ensures s ms k);
}
