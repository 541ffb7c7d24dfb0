use Rattle.idle_laws.proofs.LeaveOnce.{leaves_once}
use Rattle.idle_laws.proofs.a_leave_is_given_once.Goals as goal

pub returns : goal.returns
returns c = leaves_once
