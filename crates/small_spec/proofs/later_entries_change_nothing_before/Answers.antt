use Rattle.small_spec.proofs.Growth.{looks_back}
use Rattle.small_spec.proofs.later_entries_change_nothing_before.Goals as goal

pub returns : goal.returns
returns c = looks_back
