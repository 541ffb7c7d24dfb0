-- The live rows of a connection, by rising identifier.
use Rattle.std.specs.Prelude.{ℕ, Bool, false, ◌==◌, ◌+◌, ◌≤◌, List, [], ◌∷◌, Option, Some, None, if◌then◌else◌, nat_lt}
use Rattle.lload_names.specs.declared.names.OpName.{OpName}
use Rattle.lload_names.specs.declared.names.OpKind.{OpKind}
use Rattle.lload_names.specs.Same.{same_op}
use Rattle.id_table.specs.declared.row.Row.{Row}
use Rattle.id_table.specs.declared.row.Kept.{Kept}

-- the row of an identifier
abbrev pub row_of : ℕ → List Row → Option Row
row_of id [] = None
row_of id (r ∷ rs) = if r.id == id then Some r else row_of id rs

-- the first identifier whose row has the operation: the lowest, since they rise
abbrev pub id_of : OpName → List Row → Option ℕ
id_of op [] = None
id_of op (r ∷ rs) = if same_op r.op op then Some r.id else id_of op rs

-- the lowest identifier
abbrev pub first_id : List Row → Option ℕ
first_id [] = None
first_id (r ∷ rs) = Some r.id

-- the rows with one more, at its place in the order
abbrev pub put : Row → List Row → List Row
put r [] = r ∷ []
put r (x ∷ xs) = if nat_lt r.id x.id then r ∷ x ∷ xs else x ∷ put r xs

-- the rows without that of the identifier
abbrev pub without : ℕ → List Row → List Row
without id [] = []
without id (r ∷ rs) = if r.id == id then rs else r ∷ without id rs

-- the rows, of which that of the identifier was changed
abbrev pub changed : (Row → Row) → ℕ → List Row → List Row
changed change id [] = []
changed change id (r ∷ rs) = if r.id == id then change r ∷ rs else r ∷ changed change id rs

-- the row of an operation that is sent at a moment
abbrev pub sent_row : ℕ → OpName → OpKind → Bool → ℕ → Row
sent_row id op kind ask_who now =
    record { id = id; op = op; kind = kind; ask_who = ask_who; sent = now; last = now; kept = None }

-- a row whose operation was answered at a moment
abbrev pub answered : ℕ → Row → Row
answered now r = record r { last = now }

-- a row whose operation was answered at a moment, where the answer is kept back
abbrev pub kept_back : ℕ → Kept → Row → Row
kept_back now kept r = record r { last = now; kept = Some kept }

-- the identifiers rise from `low`, and all are below `next`
abbrev pub Rises : ℕ → List Row → ℕ → Type 0
Rises low [] next = low ≤ next
Rises low (r ∷ rs) next = (low ≤ r.id) × Rises (r.id + 1) rs next

-- whether a row is there and has the operation
abbrev pub has_op : OpName → Option Row → Bool
has_op op None = false
has_op op (Some r) = same_op r.op op
