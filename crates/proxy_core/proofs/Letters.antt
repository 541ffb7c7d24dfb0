-- Queues that carry the letters in flight go on as these do.
use Rattle.std.proofs.Common.{List, ◌++◌, ap, ◌∙◌, sym}
use Rattle.lload_names.specs.declared.names.PartName.{PartName}
use Rattle.lload_names.specs.declared.names.Posted.{Posted}
use Rattle.part_spec.specs.World.{Flight, flights}
use Rattle.letter_queues.specs.Queues.{Queues, queue, Carries, StaySame, Gains}
use Rattle.letter_queues.proofs.QueueLaws.{queue-append}

pub same : (letters : List Flight) (before after : Queues) → Carries letters before → StaySame before after → Carries letters after
same letters before after h e = λ sender receiver. h sender receiver ∙ sym (e sender receiver)

pub held : (letters : List Flight) (p : PartName) (posted : List Posted) (before after : Queues) → Carries letters before → Gains p posted before after → Carries (letters ++ flights p posted) after
held letters p posted before after h g = λ sender receiver.
    queue-append sender receiver letters (flights p posted)
    ∙ ap (λ l. l ++ queue sender receiver (flights p posted)) (h sender receiver)
    ∙ sym (g sender receiver)
