use Rattle.std.specs.Prelude.{ℕ}
use Rattle.tier_select.specs.Calls.{Standing}

-- how a tier stands, and the index of its first backend among all
pub record Turn : Type 0 where
  pub tier : Standing
  pub first : ℕ
