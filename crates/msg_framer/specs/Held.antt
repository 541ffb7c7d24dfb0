-- What contracts see of a framer.
use Rattle.std.specs.Prelude.{ℕ, List}

-- the octets that are left, how many more it takes with no further memory, and the most octets that contents may have
pub record Held : Type 0 where
  pub left : List ℕ
  pub spare : ℕ
  pub limit : ℕ
