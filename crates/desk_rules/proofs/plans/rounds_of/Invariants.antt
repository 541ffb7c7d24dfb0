use Rattle.std.proofs.Common.{◌≡◌, ◌+◌, ◌++◌, length, drop}
use Rattle.lload_names.specs.Plans.{backends_of}
use Rattle.desk_rules.specs.Fresh.{new_turns}
use Rattle.desk_rules.proofs.plans.rounds_of.Given as goal

abbrev pub invariant-loop-tier : goal.invariant-loop-tier
invariant-loop-tier l =
    record {
      rounds : l.rounds.items ++ new_turns l.first (drop l.tier-index l.plan) ≡ new_turns 0 l.plan;
      first : l.first + length (backends_of (drop l.tier-index l.plan)) ≡ length (backends_of l.plan);
    }
