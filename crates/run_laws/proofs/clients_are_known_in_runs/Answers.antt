use Rattle.part_spec.specs.Merge.{world_of}
use Rattle.part_spec.specs.World.{list_in}
use Rattle.run_laws.specs.Runs.{family_of_run}
use Rattle.run_laws.proofs.clients_are_known_in_runs.Goals as goal

pub returns : goal.returns
returns c = record {
  known = λ s ms k. c.a_client_is_who_the_family_says.ensures.known s (family_of_run s ms) (list_in (world_of s ms)) (c.parts_are_played_in_runs.ensures s ms k);
  checks = λ s ms k. c.clients_keep_what_their_checks_say.ensures s (family_of_run s ms) (list_in (world_of s ms)) (c.parts_are_played_in_runs.ensures s ms k);
}
