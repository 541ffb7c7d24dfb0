-- The number of some decimal digits, with zeros in front or not.
use Rattle.std.specs.Prelude.{ℕ, ◌&&◌, nat_lt, if◌then◌else◌, List, Option, Some, None}
use Rattle.std.specs.List.{list_all}
use Rattle.lload_spec.specs.Script.{is_digit, digits_value}

-- the number that digits say behind those that say n, where all are digits and the number is below the limit
abbrev pub digits_behind : ℕ → ℕ → List ℕ → Option ℕ
digits_behind limit n ds = if list_all is_digit ds && nat_lt (digits_value n ds) limit then Some (digits_value n ds) else None
