-- What a clock tells.
use Rattle.std.specs.Prelude.{ℕ, ◌≡◌, Option, Some, None}

-- A moment is that at which the clock stands, where it stands.
abbrev pub IsMoment : Option ℕ → ℕ → Type 0
IsMoment None now = Unit {0}
IsMoment (Some at) now = now ≡ at
