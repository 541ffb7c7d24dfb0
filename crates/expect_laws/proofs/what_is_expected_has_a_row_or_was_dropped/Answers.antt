use Rattle.expect_laws.proofs.Walk.{each_rowed_or_dropped}
use Rattle.expect_laws.proofs.what_is_expected_has_a_row_or_was_dropped.Goals as goal

pub returns : goal.returns
returns c = each_rowed_or_dropped
