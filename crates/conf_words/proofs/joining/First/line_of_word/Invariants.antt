use Rattle.std.proofs.Common.{◌≡◌, ℕ, List, length}
use Rattle.conf_words.specs.Locating.{line_of_word, piece_of_word}
use Rattle.conf_words.specs.Reading.{continuations, physical}
use Rattle.conf_words.proofs.WordPlaces.{MakesBehind}
use Rattle.conf_words.proofs.joining.First.line_of_word.Given as goal

abbrev pub invariant-loop-line : goal.invariant-loop-line
invariant-loop-line l =
    (before : List ℕ) × MakesBehind before l.maker
    × (piece_of_word l.word before l.number l.piece l.place.number (continuations (physical l.place)) ≡ line_of_word l.fn.self l.word)

abbrev pub decreases-loop-line : goal.decreases-loop-line
decreases-loop-line l = length l.place.rest.now
