use Rattle.std.proofs.Common.{List, ℕ, length}
use Rattle.lload_advice.proofs.Comments.{IsUnderWay}
use Rattle.lload_advice.proofs.converting.commented.Given as goal

abbrev pub invariant-loop-piece : goal.invariant-loop-piece
invariant-loop-piece l = (taken : List ℕ) × IsUnderWay l.text taken l.rest l.out.items

abbrev pub decreases-loop-piece : goal.decreases-loop-piece
decreases-loop-piece l = length l.rest
