use Rattle.all_told_laws.proofs.Stands.{rows_stand}
use Rattle.all_told_laws.proofs.live_operations_have_rows_where_nothing_waits.Goals as goal

pub returns : goal.returns
returns c = λ s ms k e. rows_stand s ms (c.parts_are_played_in_runs.ensures s ms k) e
