use Rattle.std.proofs.Common.{◌≢◌, ◌<◌, ℕ, slice_get}
use Rattle.std.specs.Option.{ForSome}
use Rattle.desk_tables.proofs.servers.numbered.Given as goal

abbrev pub invariant-loop-index : goal.invariant-loop-index
invariant-loop-index l = (j : ℕ) → j < l.index → ForSome (slice_get l.servers j) (λ v. v.plan.number ≢ l.number)
