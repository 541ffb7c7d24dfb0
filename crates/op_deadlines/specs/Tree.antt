-- The identifiers that wait, below a node of a search tree.
use Rattle.std.specs.Prelude.{◌≡◌, ℕ, ◌+◌, ◌≤◌, ◌<◌, min, List, [], ◌∷◌, ◌++◌, length, ⊤}
use Rattle.op_deadlines.specs.declared.tree.Node.{Node}
use Rattle.op_deadlines.specs.declared.tree.Node.TheVariants.{Empty, Leaf, Fork}

-- the identifiers with their moments, in order
abbrev pub entries : Node → List (ℕ × ℕ)
entries Empty = []
entries (Leaf id moment) = (id, moment) ∷ []
entries (Fork first split last low high least) = low.value ++ high.value

-- the earliest moment of some entries; the last one there is where there is none
abbrev pub earliest : List (ℕ × ℕ) → ℕ
earliest [] = 18446744073709551615
earliest (e ∷ es) = min e.1 (earliest es)

-- each identifier is at least the first, and below the end
abbrev pub Within : ℕ → ℕ → List (ℕ × ℕ) → Type 0
Within first end [] = ⊤
Within first end (e ∷ es) = (first ≤ e.0) × (e.0 < end) × Within first end es

-- at a fork, each side has an identifier, those of the low side are below the split and those of the high one aren't,
-- and it has the earliest moment of both
abbrev pub IsNode : Node → Type 0
IsNode Empty = ⊤
IsNode (Leaf id moment) = ⊤
IsNode (Fork first split last low high least) =
    (1 ≤ length low.value)
    × (1 ≤ length high.value)
    × Within first split low.value
    × Within split (last + 1) high.value
    × (least ≡ min (earliest low.value) (earliest high.value))
