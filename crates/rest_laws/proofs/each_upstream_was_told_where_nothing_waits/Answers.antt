use Rattle.part_spec.specs.Merge.{world_of}
use Rattle.part_spec.specs.World.{list_in}
use Rattle.run_laws.specs.Runs.{family_of_run}
use Rattle.rest_laws.proofs.Upstream.{told_at}
use Rattle.rest_laws.proofs.each_upstream_was_told_where_nothing_waits.Goals as goal

pub returns : goal.returns
returns c = λ s ms k e.
    told_at s ms (c.parts_are_played_in_runs.ensures s ms k) (c.parts_are_rested_in_runs.ensures s ms k e) e c.what_is_expected_has_a_row_or_was_dropped.ensures c.a_dropped_operation_is_open_no_longer.ensures
    (λ u kind. c.the_rows_of_a_regular_connection_are_its_open_sents.ensures s (family_of_run s ms) (list_in (world_of s ms)) (c.parts_are_played_in_runs.ensures s ms k) u kind)
    (family_of_run s ms).connections (c.requests_go_where_their_first_checks_let_them_in_runs.ensures s ms k).sent
