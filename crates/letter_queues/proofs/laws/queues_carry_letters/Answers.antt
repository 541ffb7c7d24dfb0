use Rattle.letter_queues.proofs.QueueLaws.{found, taken}
use Rattle.letter_queues.proofs.laws.queues_carry_letters.Goals as goal

pub returns-clause-first : goal.returns-clause-first
returns-clause-first c = found

pub returns-clause-taken : goal.returns-clause-taken
returns-clause-taken c = taken
