-- What is kept beside the view, where a row comes, goes or is answered.
use Rattle.std.proofs.Common.{◌≡◌, ◌<◌, ◌^◌, ℕ, ◌+◌, ◌*◌, ◌≤◌, Bool, true, false, if◌then◌else◌, List, [], ◌∷◌, length, Some, None, arith, ap, ◌∙◌, sym, subst}
use Rattle.std.specs.BTreeMap.{insert_entry, is_at}
use Rattle.std.specs.Map.{remove_entry, set_value}
use Rattle.std.specs.Ordering.{nat_cmp}
use Rattle.lload_names.specs.declared.names.Entry.{Entry}
use Rattle.lload_names.specs.declared.names.Posted.{Posted}
use Rattle.std.specs.Prelude.{IfSome}
use Rattle.std.specs.List.{AllByRecursion}
use Rattle.op_deadlines.specs.Due.{is_due, all_due}
use Rattle.lload_names.specs.declared.names.OpName.{OpName}
use Rattle.lload_names.specs.Same.{same_op}
use Rattle.outbox.specs.Room.{Room}
use Rattle.id_table.specs.declared.row.Row.{Row}
use Rattle.id_table.specs.declared.row.Kept.{Kept}
use Rattle.id_table.specs.Rows.{row_of, id_of, Rises, put, without, changed, answered, kept_back}
use Rattle.id_table.specs.Table.{Table, IsTable}
use Rattle.conn_core.specs.Conn.{IsKept}
use Rattle.conn_core.specs.Kept.{moments_of}
use Rattle.conn_core.proofs.Moments.{moments-without, moments-answered, moments-kept, moments-put, put-back, rises-length}
use Rattle.conn_core.proofs.Rows.{put-length, without-length, changed-length}

pub few-rows : (t : Table) → IsTable t → length t.rows < 2 ^ 32
few-rows t h = omega (arith, rises-length 1 t.ids.next t.rows h.rises, h.fits, h.most)

small-step : (op : OpName) (low next : ℕ) (rows : List Row) → next ≤ 2 ^ 31 → Rises low rows next → IfSome (id_of op rows) (λ id. id < 2 ^ 31)
small-step op low next [] l h = tt
small-step op low next (r ∷ rs) l h = by (same_op r.op op) (small-step op (r.id + 1) next rs l h.1)
  where
    by : (b : Bool) → IfSome (id_of op rs) (λ id. id < 2 ^ 31) → IfSome (if b then Some r.id else id_of op rs) (λ id. id < 2 ^ 31)
    by true k = let few = rises-length (r.id + 1) next rs h.1 in omega (arith, few, l)
    by false k = k

-- identifiers stand in a message
pub small-id : (op : OpName) (t : Table) → IsTable t → IfSome (id_of op t.rows) (λ id. id < 2 ^ 31)
small-id op t h = small-step op 1 t.ids.next t.rows (omega (arith, h.fits, h.most)) h.rises

small-kept : (b : Bool) (id : ℕ) (ids : List ℕ) → id < 2 ^ 31 → AllByRecursion (λ i. i < 2 ^ 31) ids → AllByRecursion (λ i. i < 2 ^ 31) (if b then id ∷ ids else ids)
small-kept true id ids l h = (l, h)
small-kept false id ids l h = h

small-among : (low next : ℕ) (timeout now : ℕ) (rows : List Row) → next ≤ 2 ^ 31 → Rises low rows next → AllByRecursion (λ id. id < 2 ^ 31) (all_due timeout now (moments_of rows))
small-among low next timeout now [] l h = tt
small-among low next timeout now (r ∷ rs) l h =
    let few = rises-length (r.id + 1) next rs h.1 in
    small-kept (is_due timeout now r.last) r.id (all_due timeout now (moments_of rs)) (omega (arith, few, l)) (small-among (r.id + 1) next timeout now rs l h.1)

-- and so do those of what is due
pub small-due : (timeout now : ℕ) (t : Table) → IsTable t → AllByRecursion (λ id. id < 2 ^ 31) (all_due timeout now (moments_of t.rows))
small-due timeout now t h = small-among 1 t.ids.next timeout now t.rows (omega (arith, h.fits, h.most)) h.rises

module _ {d : Bool} {t : Table} {ms : List (ℕ × ℕ)} {e : Room Entry} {l : Room Posted} (k : IsKept d t ms e l) where
  pub kept-gone : (id : ℕ) (u : Table) (ns : List (ℕ × ℕ)) → IsTable u → u.rows ≡ without id t.rows → ns ≡ remove_entry (is_at (nat_cmp id)) ms → IsKept d u ns e l
  kept-gone id u ns sound rows moments = record {
    sound = sound;
    counted = moments ∙ ap (remove_entry (is_at (nat_cmp id))) k.counted ∙ moments-without id t.rows ∙ ap moments_of (sym rows);
    no_entries = k.no_entries;
    no_letters = k.no_letters;
    entry_room = k.entry_room;
    letter_room = λ h. let less = without-length id t.rows in let same = ap (length {A = Row}) rows in let had = k.letter_room h in omega (arith, less, same, had);
  }

  pub kept-answered : (id now : ℕ) (u : Table) (ns : List (ℕ × ℕ)) → IsTable u → u.rows ≡ changed (answered now) id t.rows → ns ≡ set_value (is_at (nat_cmp id)) ms now → IsKept d u ns e l
  kept-answered id now u ns sound rows moments = record {
    sound = sound;
    counted = moments ∙ ap (λ m. set_value (is_at (nat_cmp id)) m now) k.counted ∙ moments-answered id now t.rows ∙ ap moments_of (sym rows);
    no_entries = k.no_entries;
    no_letters = k.no_letters;
    entry_room = k.entry_room;
    letter_room = λ h. let less = changed-length (answered now) id t.rows in let same = ap (length {A = Row}) rows in let had = k.letter_room h in omega (arith, less, same, had);
  }

  pub kept-kept : (id now : ℕ) (x : Kept) (u : Table) (ns : List (ℕ × ℕ)) → IsTable u → u.rows ≡ changed (kept_back now x) id t.rows → ns ≡ set_value (is_at (nat_cmp id)) ms now → IsKept d u ns e l
  kept-kept id now x u ns sound rows moments = record {
    sound = sound;
    counted = moments ∙ ap (λ m. set_value (is_at (nat_cmp id)) m now) k.counted ∙ moments-kept id now x t.rows ∙ ap moments_of (sym rows);
    no_entries = k.no_entries;
    no_letters = k.no_letters;
    entry_room = k.entry_room;
    letter_room = λ h. let less = changed-length (kept_back now x) id t.rows in let same = ap (length {A = Row}) rows in let had = k.letter_room h in omega (arith, less, same, had);
  }

  pub kept-sent : (r : Row) (u : Table) (ns : List (ℕ × ℕ)) (m : Room Posted) → row_of r.id t.rows ≡ None → IsTable u → u.rows ≡ put r t.rows → ns ≡ insert_entry nat_cmp ms r.id r.last → m.items ≡ l.items → 2 * length t.rows + 4 ≤ m.spare → IsKept d u ns e m
  kept-sent r u ns m none sound rows moments items room = record {
    sound = sound;
    counted = moments ∙ ap (λ x. insert_entry nat_cmp x r.id r.last) k.counted ∙ moments-put r t.rows none ∙ ap moments_of (sym rows);
    no_entries = k.no_entries;
    no_letters = items ∙ k.no_letters;
    entry_room = k.entry_room;
    letter_room = λ h. let more = put-length r t.rows in let same = ap (length {A = Row}) rows in omega (arith, more, same, room);
  }

  pub kept-undone : (id now : ℕ) (u : Table) (ns os : List (ℕ × ℕ)) (m : Room Posted) → row_of id t.rows ≡ None → u ≡ t → ns ≡ insert_entry nat_cmp ms id now → os ≡ remove_entry (is_at (nat_cmp id)) ns → m.items ≡ l.items → l.spare ≤ m.spare → IsKept d u os e m
  kept-undone id now u ns os m none same put back items room = record {
    sound = subst IsTable (sym same) k.sound;
    counted = back ∙ ap (remove_entry (is_at (nat_cmp id))) (put ∙ ap (λ x. insert_entry nat_cmp x id now) k.counted) ∙ put-back id now t.rows none ∙ ap (λ (w : Table). moments_of w.rows) (sym same);
    no_entries = k.no_entries;
    no_letters = items ∙ k.no_letters;
    entry_room = k.entry_room;
    letter_room = λ h. let had = k.letter_room h in let few = ap (λ (w : Table). length w.rows) same in omega (arith, had, room, few);
  }
