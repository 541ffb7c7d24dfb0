use Rattle.part_spec.specs.Merge.{world_of}
use Rattle.part_spec.specs.World.{journal_of, list_in}
use Rattle.run_laws.specs.Runs.{family_of_run}
use Rattle.run_laws.proofs.each_client_of_a_run_gets_one_upstreams_answers_in_order.Goals as goal

pub returns : goal.returns
returns c = record {
  sent_chosen = λ s ms k. c.an_operation_is_sent_where_it_was_chosen.ensures s (family_of_run s ms) (list_in (world_of s ms)) (c.the_family_of_a_journal_is_whole.ensures (journal_of (world_of s ms))) (c.parts_are_joined_in_runs.ensures s ms k);
  answered = λ s ms k. c.a_client_gets_what_its_upstream_answered.ensures s (family_of_run s ms) (list_in (world_of s ms)) (c.parts_are_joined_in_runs.ensures s ms k);
  fifo = λ s ms k. record {
    sent_once = c.operations_are_sent_once_or_answered_by_the_proxy_in_runs.ensures.sent_once s ms k;
    answered = c.a_client_gets_what_its_upstream_answered.ensures s (family_of_run s ms) (list_in (world_of s ms)) (c.parts_are_joined_in_runs.ensures s ms k);
    unanswered = c.operations_are_sent_once_or_answered_by_the_proxy_in_runs.ensures.unanswered s ms k;
    ended_once = (c.promises_of_one_list_hold_of_runs.ensures s ms k).ended_once;
    outs_owned = (c.promises_of_one_list_hold_of_runs.ensures s ms k).outs_owned;
    sent_chosen = c.an_operation_is_sent_where_it_was_chosen.ensures s (family_of_run s ms) (list_in (world_of s ms)) (c.the_family_of_a_journal_is_whole.ensures (journal_of (world_of s ms))) (c.parts_are_joined_in_runs.ensures s ms k);
    in_place = (c.promises_of_several_lists_hold_of_runs.ensures s ms k).in_place;
  };
}
