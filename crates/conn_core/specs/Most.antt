-- How much a turn gives.
use Rattle.std.specs.Prelude.{ℕ, ◌≤◌, length}
use Rattle.lload_names.specs.declared.inputs.Effects.{Effects}

-- no more entries than this, and no more letters
pub record IsWithin (most : ℕ) (made : Effects) : Type 0 where
  pub entries : length made.entries ≤ most
  pub letters : length made.letters ≤ most
