use Rattle.part_spec.specs.Merge.{world_of}
use Rattle.part_spec.specs.World.{list_in}
use Rattle.run_laws.specs.Runs.{family_of_run}
use Rattle.all_told_laws.proofs.each_client_was_told_all_where_nothing_waits.Goals as goal

pub returns : goal.returns
returns c = λ s ms k e.
    c.clients_are_told_all_where_live_operations_have_rows.ensures s (family_of_run s ms) (list_in (world_of s ms)) (c.parts_are_played_in_runs.ensures s ms k) (c.parts_are_rested_in_runs.ensures s ms k e)
    (c.live_operations_have_rows_where_nothing_waits.ensures s ms k e)
