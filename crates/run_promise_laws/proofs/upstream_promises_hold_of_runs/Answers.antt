use Rattle.part_spec.specs.Merge.{world_of}
use Rattle.part_spec.specs.World.{list_in}
use Rattle.run_laws.specs.Runs.{family_of_run}
use Rattle.run_promise_laws.proofs.upstream_promises_hold_of_runs.Goals as goal

pub returns : goal.returns
returns c = record {
  identifiers = λ s ms k. c.identifiers_are_given_in_order.ensures s (family_of_run s ms) (list_in (world_of s ms)) (c.parts_are_played_in_runs.ensures s ms k);
  bad_messages = λ s ms k. c.bad_messages_take_their_connection_down.ensures s (family_of_run s ms) (list_in (world_of s ms)) (c.parts_are_played_in_runs.ensures s ms k);
  expiries = λ s ms k. c.operations_expire_where_they_are_due.ensures s (family_of_run s ms) (list_in (world_of s ms)) (c.parts_are_played_in_runs.ensures s ms k);
  ends = λ s ms k. c.each_end_of_a_connection_has_its_cause.ensures s (family_of_run s ms) (list_in (world_of s ms)) (c.parts_are_played_in_runs.ensures s ms k);
  own = λ s ms k. c.each_message_of_the_proxys_own_has_its_reason.ensures s (family_of_run s ms) (list_in (world_of s ms)) (c.parts_are_played_in_runs.ensures s ms k);
}
