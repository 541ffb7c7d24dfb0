use Rattle.std.proofs.Common.{map, length}
use Rattle.small_play.specs.FedMessages.{message}
use Rattle.small_play.proofs.Rounds.{TookSoFar}
use Rattle.small_play.proofs.taking.take_each.Given as goal

abbrev pub invariant-loop-fed : goal.invariant-loop-fed
invariant-loop-fed l = TookSoFar l.part (map message l.initial.messages.items) (map message l.messages.items) l.initial.world l.world l.initial.piece l.piece

abbrev pub decreases-loop-fed : goal.decreases-loop-fed
decreases-loop-fed l = length l.messages.items
