use Rattle.run_laws.proofs.Played.{runs_are_played}
use Rattle.run_laws.proofs.parts_are_played_in_runs.Goals as goal

pub returns : goal.returns
returns c = runs_are_played c.parts_are_joined_in_runs.ensures c.the_family_of_a_journal_is_whole.ensures
