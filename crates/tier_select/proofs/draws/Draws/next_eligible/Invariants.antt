use Rattle.std.proofs.Common.{◌≡◌, filter, length}
use Rattle.tier_select.specs.Flags.{is_set}
use Rattle.tier_select.proofs.draws.Draws.next_eligible.Given as goal

abbrev pub invariant-loop-place : goal.invariant-loop-place
invariant-loop-place l =
    filter (is_set l.eligible) l.self ≡ filter (is_set l.eligible) l.initial.self

abbrev pub decreases-loop-place : goal.decreases-loop-place
decreases-loop-place l = length l.self
