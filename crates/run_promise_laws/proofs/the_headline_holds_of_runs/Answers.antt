use Rattle.part_spec.specs.Merge.{world_of}
use Rattle.part_spec.specs.World.{journal_of}
use Rattle.run_laws.specs.Runs.{family_of_run}
use Rattle.run_promise_laws.proofs.the_headline_holds_of_runs.Goals as goal

pub returns : goal.returns
returns c = λ s ms k op o there. c.the_promises_say_the_headline.ensures s (family_of_run s ms) op o (c.the_family_of_a_journal_is_whole.ensures (journal_of (world_of s ms))) (c.the_six_promises_hold_of_runs.ensures s ms k) there
