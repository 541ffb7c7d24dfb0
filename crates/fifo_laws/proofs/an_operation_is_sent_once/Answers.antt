use Rattle.fifo_laws.proofs.SentOnce.{sent_once}
use Rattle.fifo_laws.proofs.an_operation_is_sent_once.Goals as goal

pub returns : goal.returns
returns c = sent_once
