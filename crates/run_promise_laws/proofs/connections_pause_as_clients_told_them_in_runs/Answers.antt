use Rattle.part_spec.specs.Merge.{world_of}
use Rattle.part_spec.specs.World.{journal_of, list_in}
use Rattle.run_laws.specs.Runs.{family_of_run}
use Rattle.run_promise_laws.proofs.connections_pause_as_clients_told_them_in_runs.Goals as goal

pub returns : goal.returns
returns c = record {
  said = λ s ms k. c.a_client_pauses_what_its_list_says.ensures s (family_of_run s ms) (list_in (world_of s ms)) (c.parts_are_joined_in_runs.ensures s ms k);
  owed = λ s ms k. c.a_connection_pauses_as_clients_told_it.ensures s (family_of_run s ms) (list_in (world_of s ms)) (c.parts_are_joined_in_runs.ensures s ms k);
  settled = λ s ms k none. c.pauses_settle_where_nothing_waits.ensures s (family_of_run s ms) (list_in (world_of s ms)) (c.parts_are_rested_in_runs.ensures s ms k none) (c.the_family_of_a_journal_is_whole.ensures (journal_of (world_of s ms)));
}
