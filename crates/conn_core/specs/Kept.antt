-- The live operations as the table has them, and as the state of the connection's list does.
use Rattle.std.specs.Prelude.{◌≡◌, ℕ, Bool, true, false, is_none, List, [], ◌∷◌, filter, map, Option, Some, None, ⊤}
use Rattle.lload_names.specs.declared.names.OpName.{OpName}
use Rattle.lload_names.specs.declared.names.OpKind.TheVariants.{Bind}
use Rattle.lload_names.specs.Same.{same_op, same_kind}
use Rattle.id_table.specs.declared.row.Row.{Row}
use Rattle.id_table.specs.declared.row.Kept.{Kept}
use Rattle.part_spec.specs.ConnectionState.{UpRow, Kept as UpKept}

-- an answer that is kept back, with the identifier of the Who Am I that was asked for it
abbrev pub up_kept : Option Kept → Option UpKept
up_kept None = None
up_kept (Some k) = Some (record { rest = k.rest; who = Some k.who })

-- a row, as the state has it
abbrev pub up_row : Row → UpRow
up_row r =
    record {
      id = r.id;
      op = r.op;
      kind = r.kind;
      ask_who = r.ask_who;
      sent = r.sent;
      answered = r.last;
      kept = up_kept r.kept;
    }

-- the moments from which the rows are counted, by identifier
abbrev pub moments_of : List Row → List (ℕ × ℕ)
moments_of rows = map (λ r. (r.id, r.last)) rows

-- whether a row has this operation
abbrev pub has_op : OpName → List Row → Bool
has_op op [] = false
has_op op (r ∷ rs) = elim (same_op op r.op) [ true ↦ true | false ↦ has_op op rs ]

-- each operation has one row
abbrev pub EachOnce : List Row → Type 0
EachOnce [] = ⊤
EachOnce (r ∷ rs) = (has_op r.op rs ≡ false) × EachOnce rs

-- the rows whose answers aren't kept back: each may want one message of the proxy's own
abbrev pub open_rows : List Row → List Row
open_rows rows = filter (λ r. is_none r.kept) rows

-- a row of a regular connection: its operation is no Bind, and no answer is kept back
pub record IsPlain (r : Row) : Type 0 where
  pub kind : same_kind Bind r.kind ≡ false
  pub kept : r.kept ≡ None

abbrev pub ArePlain : List Row → Type 0
ArePlain [] = ⊤
ArePlain (r ∷ rs) = IsPlain r × ArePlain rs

-- a row that was found, as the state has it
abbrev pub up_found : Option Row → Option UpRow
up_found None = None
up_found (Some r) = Some (up_row r)
