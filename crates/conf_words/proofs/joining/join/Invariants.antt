use Rattle.std.proofs.Common.{◌≡◌, ◌+◌, ◌∷◌, length}
use Rattle.conf_words.specs.Lines.{joined}
use Rattle.conf_words.specs.Reading.{behind, continuations, physical}
use Rattle.conf_words.proofs.Groups.{extended}
use Rattle.conf_words.proofs.joining.join.Given as goal

abbrev pub invariant-loop-line : goal.invariant-loop-line
invariant-loop-line l =
    (extended l.text.items (continuations (physical l.place)) ≡ joined (l.fn.first.line.now ∷ continuations (physical l.fn.first.after)))
    × (behind (physical l.place) ≡ behind (physical l.fn.first.after))
    × (l.place.number + length (continuations (physical l.place)) ≡ l.fn.first.after.number + length (continuations (physical l.fn.first.after)))

abbrev pub decreases-loop-line : goal.decreases-loop-line
decreases-loop-line l = length l.place.rest.now
