use Rattle.run_laws.specs.Runs.{family_of_run}
use Rattle.rest_laws.proofs.Dealt.{dealt_all}
use Rattle.rest_laws.proofs.each_operation_is_dealt_with.Goals as goal

pub returns : goal.returns
returns c = λ s ms k e. dealt_all s ms (c.parts_are_played_in_runs.ensures s ms k) e (family_of_run s ms).clients (c.operations_are_sent_once_or_answered_by_the_proxy_in_runs.ensures.unanswered s ms k)
