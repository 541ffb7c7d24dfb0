use Rattle.std.proofs.Common.{◌<◌, ℕ, slice_get}
use Rattle.std.specs.Option.{ForSome}
use Rattle.desk_rules.specs.Places.{IsElsewhere}
use Rattle.desk_rules.proofs.news.spot_at.Given as goal

abbrev pub invariant-loop-tier : goal.invariant-loop-tier
invariant-loop-tier l = (j : ℕ) → j < l.tier → ForSome (slice_get l.rounds j) (IsElsewhere l.index)
