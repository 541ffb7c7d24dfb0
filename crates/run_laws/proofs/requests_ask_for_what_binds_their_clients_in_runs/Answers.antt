use Rattle.part_spec.specs.Merge.{world_of}
use Rattle.part_spec.specs.World.{list_in}
use Rattle.run_laws.specs.Runs.{family_of_run}
use Rattle.run_laws.proofs.requests_ask_for_what_binds_their_clients_in_runs.Goals as goal

pub returns : goal.returns
returns c = record {
  bound = λ s ms k. c.a_client_is_bound_as_its_list_says.ensures s (family_of_run s ms) (list_in (world_of s ms)) (c.parts_are_played_in_runs.ensures s ms k);
  asks = λ s ms k. c.each_request_asks_for_what_binds_its_client.ensures s (family_of_run s ms) (list_in (world_of s ms)) (c.parts_are_played_in_runs.ensures s ms k);
}
