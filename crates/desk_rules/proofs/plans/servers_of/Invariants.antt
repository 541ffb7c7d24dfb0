use Rattle.std.proofs.Common.{◌≡◌, ◌+◌, ◌++◌, length, drop}
use Rattle.lload_names.specs.Plans.{backends_of, rooms, place_count}
use Rattle.desk_rules.specs.Fresh.{new_servers}
use Rattle.desk_rules.proofs.plans.servers_of.Given as goal

abbrev pub invariant-loop-tier : goal.invariant-loop-tier
invariant-loop-tier l =
    record {
      servers : l.servers.items ++ new_servers l.from (backends_of (drop l.tier-index l.plan)) ≡ new_servers 0 (backends_of l.plan);
      from : l.from + length (rooms (drop l.tier-index l.plan)) ≡ place_count l.plan;
    }
