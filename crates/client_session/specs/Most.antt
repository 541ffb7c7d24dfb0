-- How much a client's turn gives at most.
use Rattle.std.specs.Prelude.{ℕ, ◌≤◌, ◌+◌, max, length}
use Rattle.lload_names.specs.declared.inputs.Effects.{Effects}
use Rattle.part_spec.specs.ClientState.{ClientState}

-- three entries, or the letters of the part's end
abbrev pub most_of : ClientState → ℕ
most_of p = max 3 (length p.rows + 1 + length p.pausing.paused)

-- no more entries than that, and no more letters
pub record IsWithin (most : ℕ) (made : Effects) : Type 0 where
  pub entries : length made.entries ≤ most
  pub letters : length made.letters ≤ most
