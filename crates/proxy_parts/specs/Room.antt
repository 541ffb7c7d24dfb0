-- For how many lists of letters there must be room.
use Rattle.std.specs.Prelude.{ℕ, List, [], ◌∷◌}

-- for none where there are no letters
abbrev pub lists_of : {A : Type 0} → List A → ℕ
lists_of [] = 0
lists_of (x ∷ xs) = 1
