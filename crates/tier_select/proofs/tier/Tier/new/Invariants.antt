use Rattle.std.proofs.Common.{◌≡◌, ◌≤◌, ◌*◌, [], map, take, replicate}
use Rattle.lload_spec.specs.Picks.{total_weight}
use Rattle.tier_select.specs.Members.{weight, members_from}
use Rattle.tier_select.proofs.tier.Tier.new.Given as goal

abbrev pub invariant-loop-backend : goal.invariant-loop-backend
invariant-loop-backend l =
    record {
      members : l.members.items ≡ members_from 0 (map (λ b. b.weight) (take l.backend-index l.plan.backends));
      latencies : l.latencies.items ≡ replicate l.backend-index [];
      total : l.total ≡ total_weight weight l.members.items;
      low : l.total ≤ l.backend-index * 4294967295;
    }
