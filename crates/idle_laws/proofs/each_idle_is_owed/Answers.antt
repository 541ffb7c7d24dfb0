use Rattle.idle_laws.proofs.Owed.{each_owed}
use Rattle.idle_laws.proofs.each_idle_is_owed.Goals as goal

pub returns : goal.returns
returns c =
    each_owed c.a_drop_that_comes_to_nothing_is_owed.ensures c.a_leave_that_comes_to_nothing_is_owed.ensures
