-- What stands of a table stands after each call.
use Rattle.std.proofs.Common.{◌≡◌, ℕ, suc, ◌+◌, ◌*◌, ◌≤◌, ◌<◌, max, Bool, true, false, ◌==◌, ◌||◌, not, cond, if◌then◌else◌, List, [], ◌∷◌, length, Option, Some, None, arith, refl, ap, subst, ◌∙◌, sym}
use Rattle.std.proofs.lemmas.Bool.Decides.{nat_tests}
use Rattle.std.proofs.lemmas.Bool.{eq-eqb, eqb-true}
use Rattle.std.specs.Prelude.{filter, nat_lt}
use Rattle.std.specs.List.{AllByRecursion}
use Rattle.lload_spec.specs.Identifiers.{Ids, id_for, with_sent_id, with_own_id, with_freed}
use Rattle.id_table.specs.declared.row.Row.{Row}
use Rattle.id_table.specs.Rows.{row_of, put, without, changed, Rises}
use Rattle.id_table.specs.Given.{has_id, WasGiven, AreIds}
use Rattle.id_table.specs.Table.{Table, IsTable, finished_at}
use Rattle.id_table.proofs.Identifiers.{all-imply, all-push}
use Rattle.id_table.proofs.Index.{KeepsName, rises-further, rises-without, rises-changed, rises-put, rises-le, none-above, row-put, row-without}

-- the identifier that an operation gets begins at 1, isn't beyond the next one, and isn't live
first-given : (next : ℕ) (free : List ℕ) → AreIds (record { next = next; free = free }) → (1 ≤ id_for (record { next = next; free = free })) × (id_for (record { next = next; free = free }) ≤ next)
first-given next [] a = (a.begins, omega arith)
first-given next (id ∷ ids) a = (a.given.0.0, omega (arith, a.given.0.1))

first-fresh : (next : ℕ) (free : List ℕ) (rows : List Row) → Rises 1 rows next → AllByRecursion (λ id. row_of id rows ≡ None) free → row_of (id_for (record { next = next; free = free })) rows ≡ None
first-fresh next [] rows h a = none-above next 1 rows next (omega arith) h
first-fresh next (id ∷ ids) rows h a = a.0

pub fresh : (t : Table) → IsTable t → row_of (id_for t.ids) t.rows ≡ None
fresh t h = first-fresh t.ids.next t.ids.free t.rows h.rises h.apart

put-apart : (r : Row) (rows : List Row) (ids : List ℕ) → row_of r.id rows ≡ None → AllByRecursion (λ id. row_of id rows ≡ None) ids → AllByRecursion (λ id. row_of id (put r rows) ≡ None) (filter (λ n. not (n == r.id)) ids)
put-apart r rows [] none a = tt
put-apart r rows (id ∷ ids) none a = by (id == r.id) refl (put-apart r rows ids none a.1)
  where
    by : (b : Bool) → (id == r.id) ≡ b → AllByRecursion (λ id. row_of id (put r rows) ≡ None) (filter (λ n. not (n == r.id)) ids) → AllByRecursion (λ id. row_of id (put r rows) ≡ None) (cond (not b) (id ∷ filter (λ n. not (n == r.id)) ids) (filter (λ n. not (n == r.id)) ids))
    by true t h = h
    by false t h = (row-put r id rows none ∙ ap (λ b. cond b (Some r) (row_of id rows)) (let u : (r.id == id) ≡ false = grind (arith, nat_tests, t) in u) ∙ a.0, h)

pub table-gave : (t : Table) (r : Row) (rows : List Row) (ids : Ids) → IsTable t → t.ids.next ≤ t.limit → r.id ≡ id_for t.ids → rows ≡ put r t.rows → ids ≡ with_sent_id (id_for t.ids) t.ids → AreIds ids → IsTable (record { rows = rows; ids = ids; limit = t.limit })
table-gave t r rows ids h room is e f a =
    let given = first-given t.ids.next t.ids.free h.ids in
    let none : row_of r.id t.rows ≡ None = ap (λ i. row_of i t.rows) is ∙ fresh t h in
    let next : ids.next ≡ max t.ids.next (suc (id_for t.ids)) = ap (λ i. i.next) f in
    let free : ids.free ≡ filter (λ n. not (n == r.id)) t.ids.free = ap (λ i. i.free) f ∙ ap (λ i. filter (λ n. not (n == i)) t.ids.free) (sym is) in
    record {
      rises = subst (λ (rs : List Row). Rises 1 rs ids.next) (sym e) (rises-put r 1 t.rows ids.next (omega (arith, is, given.0)) (omega (arith, is, next)) none (rises-further 1 t.rows t.ids.next ids.next (omega (arith, next)) h.rises));
      ids = a;
      apart = subst (λ (rs : List Row). AllByRecursion (λ id. row_of id rs ≡ None) ids.free) (sym e) (subst (λ (l : List ℕ). AllByRecursion (λ id. row_of id (put r t.rows) ≡ None) l) (sym free) (put-apart r t.rows t.ids.free none h.apart));
      least = h.least;
      most = h.most;
      fits = omega (arith, next, given.1, room, h.least);
    }

pub put-length : (r : Row) (rows : List Row) → length (put r rows) ≡ length rows + 1
put-length r [] = refl
put-length r (x ∷ xs) = by (nat_lt r.id x.id) (put-length r xs)
  where
    by : (b : Bool) → length (put r xs) ≡ length xs + 1 → length (if b then r ∷ x ∷ xs else x ∷ put r xs) ≡ length (x ∷ xs) + 1
    by true h = omega arith
    by false h = omega (arith, h)

pub table-own : (t : Table) (ids : Ids) → IsTable t → t.ids.next ≤ 2 * t.limit → ids ≡ with_own_id t.ids.next t.ids → AreIds ids → IsTable (record { rows = t.rows; ids = ids; limit = t.limit })
table-own t ids h room f a =
    let next : ids.next ≡ max t.ids.next (suc t.ids.next) = ap (λ i. i.next) f in
    record {
      rises = rises-further 1 t.rows t.ids.next ids.next (omega (arith, next)) h.rises;
      ids = a;
      apart = subst (λ (l : List ℕ). AllByRecursion (λ id. row_of id t.rows ≡ None) l) (sym (ap (λ i. i.free) f)) h.apart;
      least = h.least;
      most = h.most;
      fits = omega (arith, next, room);
    }

none-changed : (change : Row → Row) (at id : ℕ) (rows : List Row) → KeepsName change → row_of id rows ≡ None → row_of id (changed change at rows) ≡ None
none-changed change at id [] k h = refl
none-changed change at id (r ∷ rs) k h = by (r.id == at) (r.id == id) refl h (none-changed change at id rs k)
  where
    by : (a b : Bool) → (r.id == id) ≡ b → (if b then Some r else row_of id rs) ≡ None → (row_of id rs ≡ None → row_of id (changed change at rs) ≡ None) → row_of id (if a then change r ∷ rs else r ∷ changed change at rs) ≡ None
    by a true t n ih = absurd (let bad : ◌≡◌ {A = Option Row} (Some r) None = n in cc)
    by true false t n ih = ap (λ b. cond b (Some (change r)) (row_of id rs)) (ap (λ i. i == id) (k.id r) ∙ t) ∙ n
    by false false t n ih = ap (λ b. cond b (Some r) (row_of id (changed change at rs))) t ∙ ih n

pub table-changed : (change : Row → Row) (id : ℕ) (t : Table) (rows : List Row) → KeepsName change → IsTable t → rows ≡ changed change id t.rows → IsTable (record { rows = rows; ids = t.ids; limit = t.limit })
table-changed change id t rows k h e = subst (λ (rs : List Row). IsTable (record { rows = rs; ids = t.ids; limit = t.limit })) (sym e) (record {
  rises = rises-changed change id 1 t.rows t.ids.next k h.rises;
  ids = h.ids;
  apart = all-imply (λ i. row_of i t.rows ≡ None) (λ i. row_of i (changed change id t.rows) ≡ None) t.ids.free (λ i. none-changed change id i t.rows k) h.apart;
  least = h.least;
  most = h.most;
  fits = h.fits;
})

pub changed-length : (change : Row → Row) (id : ℕ) (rows : List Row) → length (changed change id rows) ≡ length rows
changed-length change id [] = refl
changed-length change id (r ∷ rs) = by (r.id == id) (changed-length change id rs)
  where
    by : (b : Bool) → length (changed change id rs) ≡ length rs → length (if b then change r ∷ rs else r ∷ changed change id rs) ≡ suc (length rs)
    by true h = refl
    by false h = ap suc h

none-without : (gone id : ℕ) (rows : List Row) (next : ℕ) → Rises 1 rows next → row_of id rows ≡ None → row_of id (without gone rows) ≡ None
none-without gone id rows next h n = row-without gone id 1 rows next h ∙ by (gone == id)
  where
    by : (b : Bool) → (if b then None else row_of id rows) ≡ None
    by true = refl
    by false = n

pub table-ended : (id : ℕ) (t : Table) (rows : List Row) → IsTable t → rows ≡ without id t.rows → IsTable (record { rows = rows; ids = t.ids; limit = t.limit })
table-ended id t rows h e = subst (λ (rs : List Row). IsTable (record { rows = rs; ids = t.ids; limit = t.limit })) (sym e) (record {
  rises = rises-without id 1 t.rows t.ids.next h.rises;
  ids = h.ids;
  apart = all-imply (λ i. row_of i t.rows ≡ None) (λ i. row_of i (without id t.rows) ≡ None) t.ids.free (λ i. none-without id i t.rows t.ids.next h.rises) h.apart;
  least = h.least;
  most = h.most;
  fits = h.fits;
})

pub without-length : (id : ℕ) (rows : List Row) → length (without id rows) ≤ length rows
without-length id [] = omega arith
without-length id (r ∷ rs) = by (r.id == id) (without-length id rs)
  where
    by : (b : Bool) → length (without id rs) ≤ length rs → length (if b then rs else r ∷ without id rs) ≤ suc (length rs)
    by true h = omega arith
    by false h = omega (arith, h)

pub taken-length : (id : ℕ) (rows : List Row) (r : Row) → row_of id rows ≡ Some r → length (without id rows) + 1 ≡ length rows
taken-length id [] r e = absurd (let bad : ◌≡◌ {A = Option Row} None (Some r) = e in cc)
taken-length id (x ∷ rs) r e = by (x.id == id) e (taken-length id rs r)
  where
    by : (b : Bool) → (if b then Some x else row_of id rs) ≡ Some r → (row_of id rs ≡ Some r → length (without id rs) + 1 ≡ length rs) → length (if b then rs else x ∷ without id rs) + 1 ≡ suc (length rs)
    by true f ih = omega arith
    by false f ih = let g = ih f in omega (arith, g)

-- a live identifier was given, and isn't free
live-given : (id low : ℕ) (rows : List Row) (next : ℕ) (r : Row) → Rises low rows next → row_of id rows ≡ Some r → (low ≤ id) × (id < next)
live-given id low [] next r h e = absurd (let bad : ◌≡◌ {A = Option Row} None (Some r) = e in cc)
live-given id low (x ∷ rs) next r h e = by (x.id == id) refl e (live-given id (x.id + 1) rs next r h.1)
  where
    by : (b : Bool) → (x.id == id) ≡ b → (if b then Some x else row_of id rs) ≡ Some r → (row_of id rs ≡ Some r → (x.id + 1 ≤ id) × (id < next)) → (low ≤ id) × (id < next)
    by true t f ih = let same = eqb-true x.id id t in let up = rises-le (x.id + 1) rs next h.1 in (omega (arith, same, h.0), omega (arith, same, up))
    by false t f ih = let g = ih f in (omega (arith, g.0, h.0), g.1)

pub was-given : (t : Table) (id : ℕ) (r : Row) → IsTable t → row_of id t.rows ≡ Some r → WasGiven t.ids.next id
was-given t id r h e = live-given id 1 t.rows t.ids.next r h.rises e

live-apart : (id : ℕ) (rows : List Row) (r : Row) (ids : List ℕ) → row_of id rows ≡ Some r → AllByRecursion (λ i. row_of i rows ≡ None) ids → has_id id ids ≡ false
live-apart id rows r [] e a = refl
live-apart id rows r (x ∷ xs) e a = by (x == id) refl (live-apart id rows r xs e a.1)
  where
    by : (b : Bool) → (x == id) ≡ b → has_id id xs ≡ false → (b || has_id id xs) ≡ false
    by true t h = absurd (let bad : ◌≡◌ {A = Option Row} None (Some r) = sym a.0 ∙ (ap (λ i. row_of i rows) (eqb-true x id t) ∙ e) in cc)
    by false t h = h

pub not-free : (t : Table) (id : ℕ) (r : Row) → IsTable t → row_of id t.rows ≡ Some r → has_id id t.ids.free ≡ false
not-free t id r h e = live-apart id t.rows r t.ids.free e h.apart

pub table-finished : (id : ℕ) (t : Table) (rows : List Row) (ids : Ids) → IsTable t → rows ≡ without id t.rows → ids ≡ with_freed (id ∷ []) t.ids → AreIds ids → IsTable (record { rows = rows; ids = ids; limit = t.limit })
table-finished id t rows ids h e f a =
    let ended = table-ended id t rows h e in
    let gone : row_of id rows ≡ None = ap (row_of id) e ∙ row-without id id 1 t.rows t.ids.next h.rises ∙ ap (λ b. if b then None else row_of id t.rows) (eq-eqb id id refl) in
    let next : t.ids.next ≡ ids.next = sym (ap (λ i. i.next) f) in
    record {
      rises = subst (λ (n : ℕ). Rises 1 rows n) next ended.rises;
      ids = a;
      apart = subst (λ (l : List ℕ). AllByRecursion (λ i. row_of i rows ≡ None) l) (sym (ap (λ i. i.free) f)) (all-push (λ i. row_of i rows ≡ None) t.ids.free id ended.apart gone);
      least = h.least;
      most = h.most;
      fits = let n = next in let m = h.fits in omega (arith, n, m);
    }

-- what is finished, by whether the identifier is live
pub finished-none : (id : ℕ) (t : Table) → row_of id t.rows ≡ None → t ≡ finished_at id t
finished-none id t e = ap (λ o. elim o [ None ↦ t | Some r ↦ record t { rows = without id t.rows; ids = with_freed (id ∷ []) t.ids } ]) (sym e)

pub finished-some : (id : ℕ) (t : Table) (r : Row) → row_of id t.rows ≡ Some r → record t { rows = without id t.rows; ids = with_freed (id ∷ []) t.ids } ≡ finished_at id t
finished-some id t r e = ap (λ o. elim o [ None ↦ t | Some r ↦ record t { rows = without id t.rows; ids = with_freed (id ∷ []) t.ids } ]) (sym e)

-- where no row has the identifier, none goes
pub none-gone : (id : ℕ) (rows : List Row) → row_of id rows ≡ None → without id rows ≡ rows
none-gone id [] e = refl
none-gone id (r ∷ rs) e = by (r.id == id) e (none-gone id rs)
  where
    by : (b : Bool) → (if b then Some r else row_of id rs) ≡ None → (row_of id rs ≡ None → without id rs ≡ rs) → (if b then rs else r ∷ without id rs) ≡ r ∷ rs
    by true f ih = absurd (let bad : ◌≡◌ {A = Option Row} (Some r) None = f in cc)
    by false f ih = ap (λ l. r ∷ l) (ih f)

pub same-room : (t v : Table) → t ≡ v → v.ids.next ≤ 2 * v.limit → t.ids.next ≤ 2 * t.limit
same-room t v e h = subst (λ (x : Table). x.ids.next ≤ 2 * x.limit) (sym e) h

pub same-limit : (t v : Table) → t ≡ v → v.ids.next ≤ v.limit → t.ids.next ≤ t.limit
same-limit t v e h = subst (λ (x : Table). x.ids.next ≤ x.limit) (sym e) h
