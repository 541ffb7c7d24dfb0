use Rattle.std.specs.Prelude.{ℕ, List}

-- a list, and for how many more items it has room
pub record Room (A : Type 0) : Type 0 where
  pub items : List A
  pub spare : ℕ
