-- The identifiers of a connection that were given, with room for those that are freed.
use Rattle.std.specs.Prelude.{◌≡◌, ℕ, Bool, ◌≤◌, ◌<◌, ◌==◌, false, List, [], ◌∷◌, ⊤}
use Rattle.std.specs.List.{AllByRecursion, list_any}
use Rattle.lload_spec.specs.Identifiers.{Ids}

-- the identifiers, and how many more can be freed without memory
pub record Given : Type 0 where
  pub ids : Ids
  pub spare : ℕ

-- whether a list has an identifier
abbrev pub has_id : ℕ → List ℕ → Bool
has_id id ids = list_any (λ other. other == id) ids

-- each identifier once
abbrev pub EachOnce : List ℕ → Type 0
EachOnce [] = ⊤
EachOnce (id ∷ ids) = (has_id id ids ≡ false) × EachOnce ids

-- an identifier was given: they begin at 1
abbrev pub WasGiven : ℕ → ℕ → Type 0
WasGiven next id = (1 ≤ id) × (id < next)

-- the free identifiers were given, and stand once
pub record AreIds (i : Ids) : Type 0 where
  pub begins : 1 ≤ i.next
  pub given : AllByRecursion (WasGiven i.next) i.free
  pub once : EachOnce i.free
