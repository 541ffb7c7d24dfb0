use Rattle.part_spec.proofs.Tested.{client_tested, connection_tested, desk_tested, share_tested}
use Rattle.part_spec.proofs.shares_are_tested.Goals as goal

pub returns-clause-client : goal.returns-clause-client
returns-clause-client c = client_tested

pub returns-clause-connection : goal.returns-clause-connection
returns-clause-connection c = connection_tested

pub returns-clause-desk : goal.returns-clause-desk
returns-clause-desk c = desk_tested

pub returns-clause-share : goal.returns-clause-share
returns-clause-share c = share_tested
