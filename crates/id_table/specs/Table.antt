-- A table of the live operations of a connection.
use Rattle.std.specs.Prelude.{◌≡◌, ℕ, Bool, ◌+◌, ◌*◌, ◌≤◌, List, [], ◌∷◌, Some, None, nat_lt, nat_le}
use Rattle.std.specs.List.{AllByRecursion}
use Rattle.lload_names.specs.declared.names.OpName.{OpName}
use Rattle.lload_names.specs.declared.names.OpKind.{OpKind}
use Rattle.lload_spec.specs.Identifiers.{Ids, no_ids, id_for, with_sent_id, with_own_id, with_freed}
use Rattle.id_table.specs.declared.row.Row.{Row}
use Rattle.id_table.specs.declared.row.Kept.{Kept}
use Rattle.id_table.specs.Rows.{row_of, put, without, changed, sent_row, answered, kept_back, Rises}
use Rattle.id_table.specs.Given.{AreIds}

-- the live rows by rising identifier, the connection's identifiers, and the limit at which it retires
pub record Table : Type 0 where
  pub rows : List Row
  pub ids : Ids
  pub limit : ℕ

-- a table from which nothing was given
abbrev pub empty : ℕ → Table
empty limit = record { rows = []; ids = no_ids; limit = limit }

-- whether an identifier equal to the limit or above was given
abbrev pub passes_limit : Table → Bool
passes_limit t = nat_lt t.limit t.ids.next

-- whether the next identifier may go to a message of the proxy's own
abbrev pub may_own : Table → Bool
may_own t = nat_le t.ids.next (2 * t.limit)

-- what stands of each table: the rows rise and their identifiers were given, none of them is free, and messages of the
-- proxy's own go up to twice the limit
pub record IsTable (t : Table) : Type 0 where
  pub rises : Rises 1 t.rows t.ids.next
  pub ids : AreIds t.ids
  pub apart : AllByRecursion (λ id. row_of id t.rows ≡ None) t.ids.free
  pub least : 2 ≤ t.limit
  pub most : t.limit ≤ 1073741823
  pub fits : t.ids.next ≤ 2 * t.limit + 1

-- the table, after an identifier was given to an operation that is sent at a moment
abbrev pub gave : OpName → OpKind → Bool → ℕ → Table → Table
gave op kind ask_who now t =
    record t {
      rows = put (sent_row (id_for t.ids) op kind ask_who now) t.rows;
      ids = with_sent_id (id_for t.ids) t.ids;
    }

-- the table, after the next identifier was given to a message of the proxy's own
abbrev pub used_up : Table → Table
used_up t = record t { ids = with_own_id t.ids.next t.ids }

-- the table, after the operation of the identifier was answered at a moment
abbrev pub touched_at : ℕ → ℕ → Table → Table
touched_at id now t = record t { rows = changed (answered now) id t.rows }

-- the table, after the operation of the identifier was answered at a moment, and the answer was kept back
abbrev pub kept_at : ℕ → ℕ → Kept → Table → Table
kept_at id now kept t = record t { rows = changed (kept_back now kept) id t.rows }

-- the table, after the row of the identifier was taken out
abbrev pub ended_at : ℕ → Table → Table
ended_at id t = record t { rows = without id t.rows }

-- the table, after the row of the identifier was taken out and the identifier was freed, where it was live
abbrev pub finished_at : ℕ → Table → Table
finished_at id t =
    elim (row_of id t.rows) [
      | None ↦ t
      | Some r ↦ record t { rows = without id t.rows; ids = with_freed (id ∷ []) t.ids }
    ]
