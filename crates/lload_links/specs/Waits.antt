-- What a poller tells. `None` is what isn't told.
use Rattle.std.specs.Prelude.{ℕ, ◌≡◌, Bool, List, [], ◌∷◌, Option, Some, None}
use Rattle.lload_links.specs.declared.poller.Told.{Told as Ready}

-- Nothing is to be told.
abbrev pub TellsNone : Option (List Ready) → Type 0
TellsNone None = Unit {0}
TellsNone (Some told) = told ≡ []

-- The answer is the first of what was to be told, where there is one, and the others stay.
abbrev pub TellsNext : Option (List Ready) → Option (List Ready) → Option Ready → Type 0
TellsNext None after answer = after ≡ None
TellsNext (Some []) after answer = (answer ≡ None) × (after ≡ Some [])
TellsNext (Some (t ∷ ts)) after answer = (answer ≡ Some t) × (after ≡ Some ts)

-- what contracts see of a poller in memory: what its last wait saw and isn't told yet, and whether it is closed
pub record PollerHeld : Type 0 where
  pub to_tell : List Ready
  pub closed : Bool
