-- The operations behind the map by number.
use Rattle.std.specs.Prelude.{◌≡◌, ◌≤◌, ◌+◌, ℕ, List, [], ◌∷◌, ⊤}
use Rattle.client_rows.specs.declared.row.Row.{Row}

-- each operation stands under its number
abbrev pub AreFiled : List (ℕ × Row) → Type 0
AreFiled [] = ⊤
AreFiled (e ∷ es) = (e.1.k ≡ e.0) × AreFiled es

-- the numbers rise from `low`, and all are below `next`
abbrev pub Rises : ℕ → List (ℕ × Row) → ℕ → Type 0
Rises low [] next = low ≤ next
Rises low (e ∷ es) next = (low ≤ e.0) × Rises (e.0 + 1) es next
