-- Lists of turns, each turn marked with the number of the seat that made it.
use Rattle.std.specs.Prelude.{◌≡◌, ℕ, ◌==◌, if◌then◌else◌, ◌⊎◌, List, [], ◌∷◌, ◌++◌}
use mathlib.Core.Option.{some}
use lib.ListN.{get_elem?}
use Rattle.counted_lock.specs.declared.known.Mark.{Mark}
use Rattle.counted_lock.specs.declared.known.Joined.{Joined}

module _ {Q : Type 0} where
  abbrev pub mark : ℕ → Q → Mark Q
  mark n q = record { by = n; turn = q }

  -- the turns, without who made them
  abbrev pub turns_of : List (Mark Q) → List Q
  turns_of [] = []
  turns_of (m ∷ ms) = m.turn ∷ turns_of ms

  -- the turns that the seat of a number made
  abbrev pub turns_by : ℕ → List (Mark Q) → List Q
  turns_by n [] = []
  turns_by n (m ∷ ms) = if n == m.by then m.turn ∷ turns_by n ms else turns_by n ms

  -- the turns that have a tag
  abbrev pub turns_with : (Q → ℕ) → ℕ → List (Mark Q) → List Q
  turns_with tag t [] = []
  turns_with tag t (m ∷ ms) = if t == tag m.turn then m.turn ∷ turns_with tag t ms else turns_with tag t ms

  -- one list begins with another
  abbrev pub StartsWith : List (Mark Q) → List (Mark Q) → Type 0
  StartsWith all first = (rest : List (Mark Q)) × (all ≡ first ++ rest)

  -- behind the old list come turns that others made meanwhile, and then this one
  abbrev pub GrewBy : List (Mark Q) → Mark Q → List (Mark Q) → Type 0
  GrewBy old m new = (between : List (Mark Q)) × (new ≡ (old ++ between) ++ m ∷ [])

  -- each turn has the tag that the list of tags has at the number of its seat
  abbrev pub Tagged : (Q → ℕ) → List ℕ → List (Mark Q) → Type 0
  Tagged tag tags [] = Unit {0}
  Tagged tag tags (m ∷ ms) = (get_elem? tags m.by ≡ some (tag m.turn)) × Tagged tag tags ms

  abbrev pub joined_seat : ℕ → List Q → Joined Q
  joined_seat n own = record { number = n; own = own }

  -- of each joined seat, the turns in the list are its own
  abbrev pub HasTurnsOf : List (Mark Q) → List (Joined Q) → Type 0
  HasTurnsOf log [] = Unit {0}
  HasTurnsOf log (g ∷ gs) = (turns_by g.number log ≡ g.own) × HasTurnsOf log gs

  -- the seat of a number is among the joined ones
  abbrev pub WasJoined : ℕ → List (Joined Q) → Type 0
  WasJoined n [] = ⊥
  WasJoined n (g ∷ gs) = (g.number ≡ n) ⊎ WasJoined n gs
