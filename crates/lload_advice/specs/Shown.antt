-- What is shown of a word.
use Rattle.std.specs.Prelude.{ℕ, Bool, ◌&&◌, nat_le}

-- whether a byte is a printable character of ASCII, or a space
abbrev pub is_shown : ℕ → Bool
is_shown c = nat_le 32 c && nat_le c 126
