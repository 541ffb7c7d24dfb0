use Rattle.std.proofs.Common.{◌≡◌, ◌*◌, length}
use Rattle.lload_names.specs.Plans.{rooms_of}
use Rattle.tier_bench.proofs.plan.Given as goal

abbrev pub invariant-loop-place : goal.invariant-loop-place
invariant-loop-place l =
    record {
      backends : length l.backends ≡ l.place;
      rooms : length (rooms_of l.backends) ≡ 2 * l.place;
    }
