use Rattle.std.proofs.Common.{ap, ◌∙◌}
use Rattle.std.specs.Prelude.{is_none}
use Rattle.part_spec.specs.World.{empty_world}
use Rattle.letter_queues.proofs.Lowest.{none-lowest}
use Rattle.letter_queues.proofs.queues.LetterQueues.is_empty.Goals as goal

pub returns-in-Some : goal.returns-in-Some
returns-in-Some c = λ letters carried. ap is_none (c.in-Some.ensures (record empty_world { letters = letters }) carried) ∙ none-lowest letters

pub returns-in-None : goal.returns-in-None
returns-in-None c = λ letters carried. ap is_none (c.in-None.ensures (record empty_world { letters = letters }) carried) ∙ none-lowest letters
