use Rattle.part_spec.specs.Merge.{world_of}
use Rattle.part_spec.specs.World.{list_in}
use Rattle.run_laws.specs.Runs.{family_of_run}
use Rattle.run_promise_laws.proofs.clients_are_told_rightly_in_runs.Goals as goal

pub returns : goal.returns
returns c = record {
  choices = λ s ms k. c.a_client_is_told_nothing_before_the_choice.ensures s (family_of_run s ms) (list_in (world_of s ms)) (c.parts_are_played_in_runs.ensures s ms k);
  refusals = λ s ms k. c.a_refusal_has_its_cause.ensures s (family_of_run s ms) (list_in (world_of s ms)) (c.parts_are_played_in_runs.ensures s ms k);
  identities = λ s ms k. c.a_kept_success_goes_out_with_its_identity.ensures s (family_of_run s ms) (list_in (world_of s ms)) (c.parts_are_played_in_runs.ensures s ms k);
  owed = λ s ms k. c.late_letters_are_owed.ensures s (family_of_run s ms) (list_in (world_of s ms)) (c.parts_are_played_in_runs.ensures s ms k);
}
