use Rattle.std.specs.Prelude.{ℕ, Bool, List, Option, filter}
use Rattle.lload_spec.specs.Lists.{first, last}
use Rattle.lload_spec.specs.Picks.{in_turn, rising}
use Rattle.tier_select.specs.Flags.{is_set}

-- so many places, and the one that was picked last
pub record Turns : Type 0 where
  pub count : ℕ
  pub chosen : Option ℕ

-- what some picks of places come to
abbrev pub turns : ℕ → List ℕ → Turns
turns count picks = record { count = count; chosen = last picks }

-- the pick behind these picks: the first eligible place in turn
abbrev pub turns_pick : ℕ → List ℕ → List Bool → Option ℕ
turns_pick count picks eligible = first (filter (is_set eligible) (in_turn (λ i. i) (last picks) (rising 0 count)))
