use Rattle.std.proofs.Common.{ap, ◌∙◌}
use Rattle.part_spec.specs.World.{lowest}
use Rattle.letter_queues.specs.Queues.{receivers}
use Rattle.letter_queues.proofs.Lowest.{first-of}
use Rattle.letter_queues.proofs.sorted.SortedLetters.lowest_receiver.Goals as goal

pub returns-in-Some : goal.returns-in-Some
returns-in-Some c =
    first-of c.self.inside.rows.entries c.in-Some.spot.now c.in-Some.field-0-1.now c.self.invariant.1.0 c.in-Some.ensures.first
    ∙ ap (λ v. lowest (receivers v)) c.self.view_is
