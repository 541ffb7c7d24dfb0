use Rattle.std.specs.Prelude.{ℕ, Bool, not, ◌&&◌, ◌==◌, ◌+◌, ◌*◌, nat_le, min, List, [], ◌∷◌, Option, Some, None, if◌then◌else◌}

-- a timeout in seconds, and for each identifier that waits, by rising identifier, the moment from which it is counted
pub record Waiting : Type 0 where
  pub timeout : ℕ
  pub moments : List (ℕ × ℕ)

-- whether what is counted from a moment is due: with a timeout of 0 nothing ever is
abbrev pub is_due : ℕ → ℕ → ℕ → Bool
is_due timeout now moment = not (timeout == 0) && nat_le (moment + 1000 * timeout) now

-- the lower of an identifier and another one, where there is one
abbrev pub lower : ℕ → Option ℕ → ℕ
lower id None = id
lower id (Some other) = min id other

-- the lowest identifier that is due, in whatever order they stand
abbrev pub lowest_due : ℕ → ℕ → List (ℕ × ℕ) → Option ℕ
lowest_due timeout now [] = None
lowest_due timeout now (e ∷ es) = if is_due timeout now e.1 then Some (lower e.0 (lowest_due timeout now es)) else lowest_due timeout now es

-- the identifiers that are due, in the order in which they stand
abbrev pub all_due : ℕ → ℕ → List (ℕ × ℕ) → List ℕ
all_due timeout now [] = []
all_due timeout now (e ∷ es) = if is_due timeout now e.1 then e.0 ∷ all_due timeout now es else all_due timeout now es
