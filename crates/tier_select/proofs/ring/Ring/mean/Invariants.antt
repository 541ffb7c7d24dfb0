use Rattle.std.proofs.Common.{◌≡◌, ◌*◌, ◌≤◌, length, sum, take}
use Rattle.tier_select.proofs.ring.Ring.mean.Given as goal

abbrev pub invariant-loop-index : goal.invariant-loop-index
invariant-loop-index l =
    record {
      total : l.sum ≡ sum (take l.index l.self-inside.latencies.items);
      low : l.sum ≤ l.index * 4294967295;
      few : l.count ≤ 16;
      all : l.count ≡ length l.self-inside.latencies.items;
    }
