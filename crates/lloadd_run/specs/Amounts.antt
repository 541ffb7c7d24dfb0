-- What was taken of a source and written to a sink, where they tell their content.
use Rattle.std.specs.Prelude.{◌≡◌, ℕ, List, ◌++◌, Option, Some, None}

-- These bytes were taken, and the rest is left.
abbrev pub Took : Option (List ℕ) → Option (List ℕ) → List ℕ → Type 0
Took None after taken = after ≡ None
Took (Some xs) after taken = (rest : List ℕ) × (xs ≡ taken ++ rest) × (after ≡ Some rest)

-- All of the text was appended.
abbrev pub WroteAll : Option (List ℕ) → Option (List ℕ) → List ℕ → Type 0
WroteAll None after text = after ≡ None
WroteAll (Some xs) after text = after ≡ Some (xs ++ text)

-- The first bytes of the text were appended: none, some or all.
abbrev pub WrotePart : Option (List ℕ) → Option (List ℕ) → List ℕ → Type 0
WrotePart None after text = after ≡ None
WrotePart (Some xs) after text = (part : List ℕ) × (more : List ℕ) × (text ≡ part ++ more) × (after ≡ Some (xs ++ part))
