use Rattle.part_spec.specs.Merge.{world_of}
use Rattle.part_spec.specs.World.{list_in}
use Rattle.run_laws.specs.Runs.{family_of_run}
use Rattle.run_laws.proofs.requests_go_where_their_first_checks_let_them_in_runs.Goals as goal

pub returns : goal.returns
returns c = λ s ms k. c.a_request_is_sent_where_its_first_check_let_it_go.ensures s (family_of_run s ms) (list_in (world_of s ms)) (c.parts_are_played_in_runs.ensures s ms k)
