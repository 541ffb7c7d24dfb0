use Rattle.std.proofs.Common.{length}
use Rattle.envelope_bench.specs.declared.TheConstants.{LIMIT}
use Rattle.envelope_bench.proofs.Counting.{Counted, AreAll}
use Rattle.envelope_bench.proofs.count_framed.Given as goal

abbrev pub invariant-loop-framer : goal.invariant-loop-framer
invariant-loop-framer l = Counted LIMIT l.bytes l.left l.found l.framer

abbrev pub decreases-loop-framer : goal.decreases-loop-framer
decreases-loop-framer l = length l.framer.left

abbrev pub invariant-loop-left : goal.invariant-loop-left
invariant-loop-left l = (h : Counted LIMIT l.bytes l.left l.found l.framer) × AreAll LIMIT h.fed l.found

abbrev pub decreases-loop-left : goal.decreases-loop-left
decreases-loop-left l = length l.left
