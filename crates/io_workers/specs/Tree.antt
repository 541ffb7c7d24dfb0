-- Places as a search tree that knows of each side when it may first be due.
use Rattle.std.specs.Prelude.{◌≡◌, ℕ, ◌+◌, ◌≤◌, ◌||◌, nat_lt, min, List, [], ◌∷◌, ◌++◌, length, Option, Some, None, if◌then◌else◌, ⊤}
use Rattle.lload_names.specs.Plans.{greatest_number}
use Rattle.io_workers.specs.declared.rows.Row.{Row}
use Rattle.io_workers.specs.declared.tree.Node.{Node}
use Rattle.io_workers.specs.declared.tree.Node.TheVariants.{Empty, Leaf, Fork}

-- the places below a node, in order
abbrev pub rows_of : Node → List Row
rows_of Empty = []
rows_of (Leaf row) = row ∷ []
rows_of (Fork count low high least) = low.value ++ high.value

-- the last moment there is
abbrev pub last_moment : ℕ
last_moment = 18446744073709551615

-- the first moment at which a place has waited long enough, or the last moment there is
abbrev pub opens_since : ℕ → Option ℕ → ℕ
opens_since retry None = 0
opens_since retry (Some moment) = min (moment + retry) last_moment

-- a moment before which a place isn't due
abbrev pub opens : Row → ℕ
opens row = if row.is_linked || nat_lt greatest_number row.conn then last_moment else opens_since row.retry row.lost

-- a moment before which none of these places is due
abbrev pub earliest : List Row → ℕ
earliest [] = last_moment
earliest (row ∷ rows) = min (opens row) (earliest rows)

-- at a fork each side has places; it has the number of those on the low side, and the moment before which none is due
abbrev pub IsNode : Node → Type 0
IsNode Empty = ⊤
IsNode (Leaf row) = ⊤
IsNode (Fork count low high least) =
    (1 ≤ length low.value)
    × (1 ≤ length high.value)
    × (count ≡ length low.value)
    × (least ≡ min (earliest low.value) (earliest high.value))
