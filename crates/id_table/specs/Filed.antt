-- The rows behind the two maps: by identifier, and by operation and identifier.
use Rattle.std.specs.Prelude.{◌≡◌, ℕ, List, [], ◌∷◌, ⊤}
use Rattle.std.specs.declared.cmp.Ordering.{Ordering}
use Rattle.std.specs.Ordering.{nat_cmp, ordering_then}
use Rattle.std.specs.BTreeSet.{BTreeSet, contains}
use Rattle.lload_names.specs.declared.names.OpName.{OpName}
use Rattle.id_table.specs.declared.row.Row.{Row}
use Rattle.id_table.specs.Rows.{row_of, has_op}

-- the rows of the entries of a map
abbrev pub rows_of : List (ℕ × Row) → List Row
rows_of [] = []
rows_of (e ∷ es) = e.1 ∷ rows_of es

-- each row stands under its identifier
abbrev pub AreFiled : List (ℕ × Row) → Type 0
AreFiled [] = ⊤
AreFiled (e ∷ es) = (e.1.id ≡ e.0) × AreFiled es

-- operations with identifiers are ordered by client, number and identifier
abbrev pub key_cmp : OpName × ℕ → OpName × ℕ → Ordering
key_cmp x y = ordering_then (ordering_then (nat_cmp x.0.client y.0.client) (nat_cmp x.0.k y.0.k)) (nat_cmp x.1 y.1)

-- the set has an operation with an identifier exactly where the row of the identifier has the operation
abbrev pub Indexes : BTreeSet (OpName × ℕ) → List Row → Type 0
Indexes keys rows = (op : OpName) (id : ℕ) → contains key_cmp keys (op, id) ≡ has_op op (row_of id rows)
