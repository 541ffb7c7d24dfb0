use Rattle.std.specs.Prelude.{◌≡◌, ℕ, Bool, false, ◌&&◌, ◌==◌, List, Option, Some, None}
use Rattle.std.specs.BTreeMap.{insert_entry, is_at}
use Rattle.std.specs.List.Sorted.{IsStrictlySortedBy}
use Rattle.std.specs.BTreeSet.{BTreeSet, contains}
use Rattle.std.specs.Map.{lookup, keys_of, remove_entry}
use Rattle.std.specs.Ordering.{nat_cmp, ordering_then}
use Rattle.std.specs.declared.cmp.Ordering.{Ordering}
use Rattle.lload_names.specs.declared.names.OpName.{OpName}

-- the operation that holds the connection
abbrev pub holder_of : ℕ → List (ℕ × OpName) → Option OpName
holder_of conn pairs = lookup (is_at (nat_cmp conn)) pairs

-- the pairs with one more, at its place in the order
abbrev pub taken : ℕ → OpName → List (ℕ × OpName) → List (ℕ × OpName)
taken conn op pairs = insert_entry nat_cmp pairs conn op

-- the pairs without that of the connection
abbrev pub without : ℕ → List (ℕ × OpName) → List (ℕ × OpName)
without conn pairs = remove_entry (is_at (nat_cmp conn)) pairs

-- whether the holder is this operation
abbrev pub holds : OpName → Option OpName → Bool
holds op None = false
holds op (Some o) = o.client == op.client && o.k == op.k

-- each other connection has the holder that it had
abbrev pub OthersStay : ℕ → List (ℕ × OpName) → List (ℕ × OpName) → Type 0
OthersStay conn before after = (c : ℕ) → is_at (nat_cmp conn) c ≡ false → holder_of c after ≡ holder_of c before

-- the connections rise, so that each has one pair
abbrev pub Rises : List (ℕ × OpName) → Type 0
Rises pairs = IsStrictlySortedBy nat_cmp (keys_of pairs)

-- operations with connections are ordered by client, number and connection
abbrev pub key_cmp : OpName × ℕ → OpName × ℕ → Ordering
key_cmp x y = ordering_then (ordering_then (nat_cmp x.0.client y.0.client) (nat_cmp x.0.k y.0.k)) (nat_cmp x.1 y.1)

-- a set has an operation with a connection exactly where the operation holds it
abbrev pub Indexes : BTreeSet (OpName × ℕ) → List (ℕ × OpName) → Type 0
Indexes keys pairs = (op : OpName) (conn : ℕ) → contains key_cmp keys (op, conn) ≡ holds op (holder_of conn pairs)
