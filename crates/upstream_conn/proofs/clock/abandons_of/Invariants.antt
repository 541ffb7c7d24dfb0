use Rattle.std.proofs.Common.{◌≡◌, ◌<◌, ◌^◌, ◌++◌, map}
use Rattle.std.specs.List.{AllByRecursion}
use Rattle.std.specs.VecDeque.{deque_len}
use Rattle.upstream_conn.specs.Ticks.{abandon_of}
use Rattle.upstream_conn.proofs.clock.abandons_of.Given as goal

abbrev pub decreases-loop-id : goal.decreases-loop-id
decreases-loop-id l = deque_len l.ids

abbrev pub invariant-loop-id : goal.invariant-loop-id
invariant-loop-id l = record {
  made : l.list.items ++ map abandon_of l.ids.items ≡ map abandon_of l.initial.ids.items;
  small : AllByRecursion (λ id. id < 2 ^ 31) l.ids.items;
}
