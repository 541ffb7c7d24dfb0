use Rattle.fifo_laws.proofs.Unanswered.{unanswered}
use Rattle.fifo_laws.proofs.an_operation_that_was_not_sent_is_answered_by_the_proxy_alone.Goals as goal

pub returns : goal.returns
returns c = unanswered
