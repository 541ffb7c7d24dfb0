-- The rows of a table, where one comes, goes or is answered.
use Rattle.std.proofs.Common.{◌≡◌, ℕ, ◌+◌, ◌≤◌, Bool, true, false, ◌==◌, if◌then◌else◌, List, [], ◌∷◌, length, Option, Some, None, arith, refl, ap, ◌∙◌, sym}
use Rattle.std.proofs.lemmas.Bool.Decides.{nat_tests}
use Rattle.std.specs.Prelude.{nat_lt}
use Rattle.std.specs.List.{AllByRecursion}
use Rattle.lload_spec.specs.Identifiers.{Ids, id_for, with_freed}
use Rattle.id_table.specs.Given.{AreIds}
use Rattle.id_table.specs.declared.row.Row.{Row}
use Rattle.id_table.specs.Rows.{row_of, put, without, changed, Rises}
use Rattle.id_table.specs.Table.{Table, IsTable, finished_at}

pub other-row : (id : ℕ) (r : Row) (b : Bool) (o : Option Row) → (r.id == id) ≡ b → b ≡ false → (if r.id == id then Some r else o) ≡ o
other-row id r true o t h = absurd (let bad : true ≡ false = h in cc)
other-row id r false o t h = ap (λ (c : Bool). if c then Some r else o) t

-- no row is below the first or from the next on
pub none-outside : (id low next : ℕ) (rows : List Row) → Rises low rows next → next ≤ id → row_of id rows ≡ None
none-outside id low next [] h l = refl
none-outside id low next (r ∷ rs) h l =
    let le : r.id + 1 ≤ next = rises-le (r.id + 1) next rs h.1 in
    let apart : (r.id == id) ≡ false = grind (arith, nat_tests, le, l) in
    other-row id r false _ apart refl ∙ none-outside id (r.id + 1) next rs h.1 l
  where
    rises-le : (low next : ℕ) (rows : List Row) → Rises low rows next → low ≤ next
    rises-le low next [] h = h
    rises-le low next (r ∷ rs) h = omega (arith, h.0, rises-le (r.id + 1) next rs h.1)

first-fresh : (next : ℕ) (free : List ℕ) (rows : List Row) → Rises 1 rows next → AllByRecursion (λ id. row_of id rows ≡ None) free → row_of (id_for (record { next = next; free = free })) rows ≡ None
first-fresh next [] rows h a = none-outside next 1 next rows h (omega arith)
first-fresh next (id ∷ ids) rows h a = a.0

-- the identifier that an operation gets isn't live
pub fresh : (t : Table) → IsTable t → row_of (id_for t.ids) t.rows ≡ None
fresh t h = first-fresh t.ids.next t.ids.free t.rows h.rises h.apart

pub put-length : (r : Row) (rows : List Row) → length (put r rows) ≡ length rows + 1
put-length r [] = refl
put-length r (x ∷ xs) = by (nat_lt r.id x.id) (put-length r xs)
  where
    by : (b : Bool) → length (put r xs) ≡ length xs + 1 → length (if b then r ∷ x ∷ xs else x ∷ put r xs) ≡ length (x ∷ xs) + 1
    by true h = omega arith
    by false h = omega (arith, h)

pub without-length : (id : ℕ) (rows : List Row) → length (without id rows) ≤ length rows
without-length id [] = omega arith
without-length id (r ∷ rs) = by (r.id == id) (without-length id rs)
  where
    by : (b : Bool) → length (without id rs) ≤ length rs → length (if b then rs else r ∷ without id rs) ≤ length (r ∷ rs)
    by true h = omega arith
    by false h = omega (arith, h)

pub changed-length : (c : Row → Row) (id : ℕ) (rows : List Row) → length (changed c id rows) ≡ length rows
changed-length c id [] = refl
changed-length c id (r ∷ rs) = by (r.id == id) (changed-length c id rs)
  where
    by : (b : Bool) → length (changed c id rs) ≡ length rs → length (if b then c r ∷ rs else r ∷ changed c id rs) ≡ length (r ∷ rs)
    by true h = omega arith
    by false h = omega (arith, h)

pub without-none : (id : ℕ) (rows : List Row) → row_of id rows ≡ None → without id rows ≡ rows
without-none id [] h = refl
without-none id (r ∷ rs) h = by (r.id == id) h (without-none id rs)
  where
    by : (b : Bool) → (if b then Some r else row_of id rs) ≡ None → (row_of id rs ≡ None → without id rs ≡ rs) → (if b then rs else r ∷ without id rs) ≡ r ∷ rs
    by true h g = absurd (let bad : ◌≡◌ {A = Option Row} (Some r) None = h in cc)
    by false h g = ap (λ l. r ∷ l) (g h)

pub finished-rows : (id : ℕ) (t : Table) → (finished_at id t).rows ≡ without id t.rows
finished-rows id t = by (row_of id t.rows) refl
  where
    by : (o : Option Row) → row_of id t.rows ≡ o → (finished_at id t).rows ≡ without id t.rows
    by None h = ap (λ (o : Option Row). let u : Table = elim o [ None ↦ t | Some r ↦ record t { rows = without id t.rows; ids = with_freed (id ∷ []) t.ids } ] in u.rows) h ∙ sym (without-none id t.rows h)
    by (Some r) h = ap (λ (o : Option Row). let u : Table = elim o [ None ↦ t | Some r ↦ record t { rows = without id t.rows; ids = with_freed (id ∷ []) t.ids } ] in u.rows) h

pub finished-next : (id : ℕ) (t : Table) → (finished_at id t).ids.next ≡ t.ids.next
finished-next id t = by (row_of id t.rows) refl
  where
    by : (o : Option Row) → row_of id t.rows ≡ o → (finished_at id t).ids.next ≡ t.ids.next
    by None h = ap (λ (o : Option Row). let u : Table = elim o [ None ↦ t | Some r ↦ record t { rows = without id t.rows; ids = with_freed (id ∷ []) t.ids } ] in u.ids.next) h
    by (Some r) h = ap (λ (o : Option Row). let u : Table = elim o [ None ↦ t | Some r ↦ record t { rows = without id t.rows; ids = with_freed (id ∷ []) t.ids } ] in u.ids.next) h

-- the first free identifier isn't beyond the next
pub first-le : (i : Ids) → AreIds i → id_for i ≤ i.next
first-le i a = by i.next i.free a
  where
    by : (next : ℕ) (free : List ℕ) → AreIds (record { next = next; free = free }) → id_for (record { next = next; free = free }) ≤ next
    by next [] a = omega arith
    by next (id ∷ ids) a = omega (arith, a.given.0.1)
