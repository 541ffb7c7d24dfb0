use Rattle.std.proofs.Common.{◌≡◌, ◌+◌, ◌++◌, length, drop}
use Rattle.lload_names.specs.Plans.{rooms_of}
use Rattle.desk_rules.specs.Fresh.{new_servers}
use Rattle.desk_rules.proofs.plans.add_servers.Given as goal

abbrev pub invariant-loop-backend : goal.invariant-loop-backend
invariant-loop-backend l =
    record {
      servers : l.servers.items ++ new_servers l.next (drop l.backend-index l.backends) ≡ l.initial.servers.items ++ new_servers l.from l.backends;
      next : l.next + length (rooms_of (drop l.backend-index l.backends)) ≡ l.from + length (rooms_of l.backends);
    }
