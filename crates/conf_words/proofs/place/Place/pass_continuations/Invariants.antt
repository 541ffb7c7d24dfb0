use Rattle.std.proofs.Common.{◌≡◌, ◌+◌, ◌≤◌, length}
use Rattle.conf_words.specs.Reading.{behind, continuations, physical}
use Rattle.conf_words.proofs.place.Place.pass_continuations.Given as goal

abbrev pub invariant-loop-after : goal.invariant-loop-after
invariant-loop-after l =
    (behind (physical l.place) ≡ behind (physical l.fn.self)) × (l.place.number + length (continuations (physical l.place)) ≡ l.fn.self.number + length (continuations (physical l.fn.self)))
    × (length l.place.rest.now ≤ length l.fn.self.rest.now)

abbrev pub decreases-loop-after : goal.decreases-loop-after
decreases-loop-after l = length l.place.rest.now
