-- The places for upstream connections (this project's own): each has one connection at a time, and its connections are
-- numbered by place and then by generation.
use Rattle.std.specs.Prelude.{◌≡◌, ◌≤◌, ◌<◌, ℕ, zero, suc, ◌+◌, ◌-◌, ◌%◌, ◌^◌, ◌&&◌, not, nat_le, Bool, true, false, if◌then◌else◌, List, [], ◌∷◌, length, slice_get, Option, Some, None, IsSomeAnd}
use Rattle.lload_names.specs.Plans.{greatest_number}
use Rattle.io_workers.specs.declared.rows.Row.{Row}

-- When a place is due.

-- whether a place has waited long enough: it lost no connection, and failed to link none, or that is `retry` ago
abbrev pub has_waited_since : ℕ → ℕ → Option ℕ → Bool
has_waited_since now retry None = true
has_waited_since now retry (Some moment) = nat_le (moment + retry) now

abbrev pub has_waited : ℕ → Row → Bool
has_waited now row = has_waited_since now row.retry row.lost

-- whether a place is due: it has no connection, there is a number for its next one, and it has waited long enough
abbrev pub is_due : ℕ → Row → Bool
is_due now row = not row.is_linked && nat_le row.conn greatest_number && has_waited now row

-- the connection that a place is to link next, where it is due
abbrev pub next_of : ℕ → Row → Option ℕ
next_of now row = if is_due now row then Some row.conn else None

-- the connection to link next at the lowest place that is due
abbrev pub due : ℕ → List Row → Option ℕ
due now [] = None
due now (row ∷ rows) = if is_due now row then Some row.conn else due now rows

-- The place of a connection.

-- the index of its place, counted from 0
abbrev pub index_of : ℕ → List Row → ℕ
index_of conn rows = (conn - 1) % length rows

-- what is known of its place
abbrev pub row_of : ℕ → List Row → Option Row
row_of conn rows = slice_get rows (index_of conn rows)

-- it is the connection that its place has, or where that has none, the one that it links next
abbrev pub IsTurnOf : ℕ → List Row → Type 0
IsTurnOf conn rows = IsSomeAnd (row_of conn rows) (λ row. row.conn ≡ conn)

-- its place has no connection, and links it next
abbrev pub IsNext : ℕ → List Row → Type 0
IsNext conn rows = IsSomeAnd (row_of conn rows) (λ row. (row.conn ≡ conn) × (row.is_linked ≡ false))

-- What happens to a place.

-- its connection is linked
abbrev pub linked : Row → Row
linked row = record row { is_linked = true }

-- its connection ended at a moment, or couldn't be linked then: after one that was linked comes the next number
abbrev pub lost : ℕ → ℕ → Row → Row
lost count now row = record {
  conn = if row.is_linked then row.conn + count else row.conn;
  is_linked = false;
  lost = Some now;
  retry = row.retry;
}

-- the places where this one, by its index, is changed, and all others are as they were
abbrev pub changed : (Row → Row) → List Row → ℕ → List Row
changed change [] i = []
changed change (row ∷ rows) zero = change row ∷ rows
changed change (row ∷ rows) (suc i) = row ∷ changed change rows i

-- the places where the place of a connection is changed
abbrev pub changed_for : ℕ → (Row → Row) → List Row → List Row
changed_for conn change rows = changed change rows (index_of conn rows)

-- The places as they begin.

-- the places that wait so long, each without a connection, with their first connections numbered from this number on
abbrev pub fresh : ℕ → List ℕ → List Row
fresh conn [] = []
fresh conn (retry ∷ retries) =
    record { conn = conn; is_linked = false; lost = None; retry = retry } ∷ fresh (conn + 1) retries

-- each connection is one of its place, by the index of this one and how many places there are
abbrev pub AreNumbered : ℕ → ℕ → List Row → Type 0
AreNumbered count i [] = Unit {0}
AreNumbered count i (row ∷ rows) = (1 ≤ row.conn) × ((row.conn - 1) % count ≡ i) × AreNumbered count (suc i) rows

-- so many places are these
pub record ArePlaces (count : ℕ) (rows : List Row) : Type 0 where
  pub few : count < 2 ^ 63
  pub count_is : count ≡ length rows
  pub numbered : AreNumbered count 0 rows
