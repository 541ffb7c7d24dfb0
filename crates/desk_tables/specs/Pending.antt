-- The pending operations with their connections.
use Rattle.std.specs.Prelude.{◌≤◌, ℕ, ◌+◌, Bool, false, ◌==◌, if◌then◌else◌, Option, Some, None}
use Rattle.std.specs.declared.cmp.Ordering.{Ordering}
use Rattle.std.specs.Ordering.{nat_cmp, ordering_then}
use Rattle.std.specs.BTreeMap.{get}
use Rattle.lload_names.specs.declared.names.OpName.{OpName}
use Rattle.bind_pool.specs.Holders.{holder_of, holds}
use Rattle.desk_tables.specs.declared.pending.Pending.{Pending}

abbrev pub one : Bool → ℕ
one b = if b then 1 else 0

-- operations by client and number
abbrev pub op_cmp : OpName → OpName → Ordering
op_cmp a b = ordering_then (nat_cmp a.client b.client) (nat_cmp a.k b.k)

-- whether this is a connection
abbrev pub is_conn : ℕ → Option ℕ → Bool
is_conn n None = false
is_conn n (Some conn) = conn == n

-- how often an operation is pending on a connection
abbrev pub times : Pending → OpName → ℕ → ℕ
times x op n = one (is_conn n (get op_cmp x.regular op)) + one (holds op (holder_of n x.holders))

-- some operation is pending on a connection
abbrev pub SomeHolder : ℕ → Pending → Type 0
SomeHolder n x = (op : OpName) × (1 ≤ times x op n)
