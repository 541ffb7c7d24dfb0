use Rattle.part_spec.specs.Merge.{world_of}
use Rattle.part_spec.specs.World.{journal_of, list_in}
use Rattle.run_laws.specs.Runs.{family_of_run}
use Rattle.run_laws.proofs.operations_are_sent_once_or_answered_by_the_proxy_in_runs.Goals as goal

pub returns : goal.returns
returns c = record {
  sent_once = λ s ms k. c.an_operation_is_sent_once.ensures s (family_of_run s ms) (list_in (world_of s ms)) (c.the_family_of_a_journal_is_whole.ensures (journal_of (world_of s ms))) (c.parts_are_joined_in_runs.ensures s ms k);
  unanswered = λ s ms k. c.an_operation_that_was_not_sent_is_answered_by_the_proxy_alone.ensures s (family_of_run s ms) (list_in (world_of s ms)) (c.the_family_of_a_journal_is_whole.ensures (journal_of (world_of s ms))) (c.parts_are_joined_in_runs.ensures s ms k);
}
