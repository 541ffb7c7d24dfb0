-- The rows of a plain list, by the places at which they stand.
use Rattle.std.proofs.Common.{◌≡◌, ℕ, suc, ◌≤◌, ◌<◌, Bool, true, false, ◌==◌, if◌then◌else◌, List, [], ◌∷◌, length, Some, None, arith, refl, ap}
use Rattle.std.specs.Prelude.{nat_lt, slice_index_or, slice_set}
use Rattle.std.specs.List.{insert, remove}
use Rattle.id_table.specs.Listed.{place_of, place_above}
use Rattle.id_table.specs.declared.row.Row.{Row}
use Rattle.id_table.specs.Rows.{row_of, put, without, changed}

pub put-at : (r : Row) (rows : List Row) → insert rows (place_above r.id rows) r ≡ put r rows
put-at r [] = refl
put-at r (x ∷ xs) = by (nat_lt r.id x.id) (put-at r xs)
  where
    by : (b : Bool) → insert xs (place_above r.id xs) r ≡ put r xs → insert (x ∷ xs) (if b then 0 else suc (place_above r.id xs)) r ≡ (if b then r ∷ x ∷ xs else x ∷ put r xs)
    by true h = refl
    by false h = ap (λ l. x ∷ l) h

pub above-within : (id : ℕ) (rows : List Row) → place_above id rows ≤ length rows
above-within id [] = omega arith
above-within id (r ∷ rs) = by (nat_lt id r.id) (above-within id rs)
  where
    by : (b : Bool) → place_above id rs ≤ length rs → (if b then 0 else suc (place_above id rs)) ≤ suc (length rs)
    by true h = omega arith
    by false h = omega (arith, h)

pub gone-at : (id : ℕ) (rows : List Row) → place_of id rows < length rows → remove rows (place_of id rows) ≡ without id rows
gone-at id [] h = refl
gone-at id (r ∷ rs) h = by (r.id == id) h (gone-at id rs)
  where
    by : (b : Bool) → (if b then 0 else suc (place_of id rs)) < suc (length rs) → (place_of id rs < length rs → remove rs (place_of id rs) ≡ without id rs) → remove (r ∷ rs) (if b then 0 else suc (place_of id rs)) ≡ (if b then rs else r ∷ without id rs)
    by true h ih = refl
    by false h ih = ap (λ l. r ∷ l) (ih (omega (arith, h)))

pub none-at : (id : ℕ) (rows : List Row) → length rows ≤ place_of id rows → (row_of id rows ≡ None) × (without id rows ≡ rows) × ((change : Row → Row) → changed change id rows ≡ rows)
none-at id [] h = (refl, refl, λ change. refl)
none-at id (r ∷ rs) h = by (r.id == id) h (none-at id rs)
  where
    by : (b : Bool) → suc (length rs) ≤ (if b then 0 else suc (place_of id rs)) → (length rs ≤ place_of id rs → (row_of id rs ≡ None) × (without id rs ≡ rs) × ((change : Row → Row) → changed change id rs ≡ rs)) → ((if b then Some r else row_of id rs) ≡ None) × ((if b then rs else r ∷ without id rs) ≡ r ∷ rs) × ((change : Row → Row) → (if b then change r ∷ rs else r ∷ changed change id rs) ≡ r ∷ rs)
    by true h ih = absurd (omega (arith, h))
    by false h ih = let g = ih (omega (arith, h)) in (g.0, ap (λ l. r ∷ l) g.1, λ change. ap (λ l. r ∷ l) (g.2 change))

pub changed-at : (change : Row → Row) (id : ℕ) (rows : List Row) (d : Row) → place_of id rows < length rows → slice_set rows (place_of id rows) (change (slice_index_or rows (place_of id rows) d)) ≡ changed change id rows
changed-at change id [] d h = refl
changed-at change id (x ∷ rs) d h = by (x.id == id) h (changed-at change id rs d)
  where
    by : (b : Bool) → (if b then 0 else suc (place_of id rs)) < suc (length rs) → (place_of id rs < length rs → slice_set rs (place_of id rs) (change (slice_index_or rs (place_of id rs) d)) ≡ changed change id rs) → slice_set (x ∷ rs) (if b then 0 else suc (place_of id rs)) (change (slice_index_or (x ∷ rs) (if b then 0 else suc (place_of id rs)) d)) ≡ (if b then change x ∷ rs else x ∷ changed change id rs)
    by true h ih = refl
    by false h ih = ap (λ l. x ∷ l) (ih (omega (arith, h)))

pub found-at : (id : ℕ) (rows : List Row) (d : Row) → place_of id rows < length rows → Some (slice_index_or rows (place_of id rows) d) ≡ row_of id rows
found-at id [] d h = absurd (omega (arith, h))
found-at id (r ∷ rs) d h = by (r.id == id) h (found-at id rs d)
  where
    by : (b : Bool) → (if b then 0 else suc (place_of id rs)) < suc (length rs) → (place_of id rs < length rs → Some (slice_index_or rs (place_of id rs) d) ≡ row_of id rs) → Some (slice_index_or (r ∷ rs) (if b then 0 else suc (place_of id rs)) d) ≡ (if b then Some r else row_of id rs)
    by true h ih = refl
    by false h ih = ih (omega (arith, h))
