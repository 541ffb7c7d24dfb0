use Rattle.lload_spec.proofs.Tested.{fifo_tested, one_each_tested, caused_tested, good_tested, strict_tested, settled_tested}
use Rattle.lload_spec.proofs.promises_are_tested.Goals as goal

pub returns-clause-fifo : goal.returns-clause-fifo
returns-clause-fifo c = fifo_tested

pub returns-clause-one_each : goal.returns-clause-one_each
returns-clause-one_each c = one_each_tested

pub returns-clause-caused : goal.returns-clause-caused
returns-clause-caused c = caused_tested

pub returns-clause-good : goal.returns-clause-good
returns-clause-good c = good_tested

pub returns-clause-strict : goal.returns-clause-strict
returns-clause-strict c = strict_tested

pub returns-clause-settled : goal.returns-clause-settled
returns-clause-settled c = settled_tested
