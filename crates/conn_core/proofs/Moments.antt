-- The moments by identifier, where a row comes, goes or is answered.
use Rattle.std.proofs.Common.{◌≡◌, ℕ, ◌+◌, ◌≤◌, Bool, true, false, ◌==◌, if◌then◌else◌, cond, List, [], ◌∷◌, filter, map, length, Option, Some, None, arith, refl, ap, ◌∙◌, sym}
use Rattle.std.proofs.lemmas.Bool.Decides.{nat_tests}
use Rattle.std.specs.Prelude.{nat_lt}
use Rattle.std.specs.BTreeMap.{insert_entry, is_at}
use Rattle.std.specs.Map.{remove_entry, set_value}
use Rattle.std.specs.Ordering.{nat_cmp, match_ordering}
use Rattle.std.specs.declared.cmp.Ordering.{Ordering}
use Rattle.std.specs.declared.cmp.Ordering.TheVariants.{Less, Equal, Greater}
use Rattle.op_deadlines.specs.Due.{is_due, all_due}
use Rattle.id_table.specs.declared.row.Row.{Row}
use Rattle.id_table.specs.declared.row.Kept.{Kept}
use Rattle.id_table.specs.Rows.{row_of, put, without, changed, answered, kept_back, Rises}
use Rattle.conn_core.specs.Kept.{moments_of}

at-self : (id : ℕ) → is_at (nat_cmp id) id ≡ true
at-self id = grind (arith, nat_tests)

at-key : (id k : ℕ) → is_at (nat_cmp id) k ≡ (k == id)
at-key id k = grind (arith, nat_tests)

without-step : (b c : Bool) (e : ℕ × ℕ) (r : Row) (es : List (ℕ × ℕ)) (rs ts : List Row) → b ≡ c → e ≡ (r.id, r.last) → es ≡ moments_of ts → cond b (moments_of rs) (e ∷ es) ≡ moments_of (if c then rs else r ∷ ts)
without-step true true e r es rs ts h f g = refl
without-step false false e r es rs ts h f g = ap (λ x. x ∷ es) f ∙ ap (λ l. (r.id, r.last) ∷ l) g
without-step true false e r es rs ts h f g = absurd (let bad : true ≡ false = h in cc)
without-step false true e r es rs ts h f g = absurd (let bad : false ≡ true = h in cc)

-- a row goes
pub moments-without : (id : ℕ) (rows : List Row) → remove_entry (is_at (nat_cmp id)) (moments_of rows) ≡ moments_of (without id rows)
moments-without id [] = refl
moments-without id (r ∷ rs) = without-step (is_at (nat_cmp id) r.id) (r.id == id) (r.id, r.last) r _ rs _ (at-key id r.id) refl (moments-without id rs)

touch-step : (b c : Bool) (w : ℕ) (r t : Row) (es : List (ℕ × ℕ)) (rs ts : List Row) → b ≡ c → t.id ≡ r.id → t.last ≡ w → es ≡ moments_of ts → cond b ((r.id, w) ∷ moments_of rs) ((r.id, r.last) ∷ es) ≡ moments_of (if c then t ∷ rs else r ∷ ts)
touch-step true true w r t es rs ts h i f g = ap (λ n. (n, w) ∷ moments_of rs) (sym i) ∙ ap (λ n. (t.id, n) ∷ moments_of rs) (sym f)
touch-step false false w r t es rs ts h i f g = ap (λ l. (r.id, r.last) ∷ l) g
touch-step true false w r t es rs ts h i f g = absurd (let bad : true ≡ false = h in cc)
touch-step false true w r t es rs ts h i f g = absurd (let bad : false ≡ true = h in cc)

-- a row is answered, and is kept back
pub moments-answered : (id now : ℕ) (rows : List Row) → set_value (is_at (nat_cmp id)) (moments_of rows) now ≡ moments_of (changed (answered now) id rows)
moments-answered id now [] = refl
moments-answered id now (r ∷ rs) = touch-step (is_at (nat_cmp id) r.id) (r.id == id) now r (answered now r) _ rs _ (at-key id r.id) refl refl (moments-answered id now rs)

pub moments-kept : (id now : ℕ) (k : Kept) (rows : List Row) → set_value (is_at (nat_cmp id)) (moments_of rows) now ≡ moments_of (changed (kept_back now k) id rows)
moments-kept id now k [] = refl
moments-kept id now k (r ∷ rs) = touch-step (is_at (nat_cmp id) r.id) (r.id == id) now r (kept_back now k r) _ rs _ (at-key id r.id) refl refl (moments-kept id now k rs)

-- a row comes
pub moments-put : (r : Row) (rows : List Row) → row_of r.id rows ≡ None → insert_entry nat_cmp (moments_of rows) r.id r.last ≡ moments_of (put r rows)
moments-put r [] n = refl
moments-put r (x ∷ xs) n = by (nat_cmp r.id x.id) refl (x.id == r.id) refl n (moments-put r xs)
  where
    below : Less ≡ nat_cmp r.id x.id → nat_lt r.id x.id ≡ true
    below o = grind (arith, nat_tests, o)

    above : Greater ≡ nat_cmp r.id x.id → nat_lt r.id x.id ≡ false
    above o = grind (arith, nat_tests, o)

    same : Equal ≡ nat_cmp r.id x.id → (x.id == r.id) ≡ true
    same o = grind (arith, nat_tests, o)

    by : (o : Ordering) → o ≡ nat_cmp r.id x.id → (b : Bool) → (x.id == r.id) ≡ b → (if b then Some x else row_of r.id xs) ≡ None → (row_of r.id xs ≡ None → insert_entry nat_cmp (moments_of xs) r.id r.last ≡ moments_of (put r xs)) → match_ordering o ((r.id, r.last) ∷ (x.id, x.last) ∷ moments_of xs) ((x.id, r.last) ∷ moments_of xs) ((x.id, x.last) ∷ insert_entry nat_cmp (moments_of xs) r.id r.last) ≡ moments_of (put r (x ∷ xs))
    by Less o b t n ih = sym (ap (λ c. moments_of (if c then r ∷ x ∷ xs else x ∷ put r xs)) (below o))
    by Greater o false t n ih = ap (λ l. (x.id, x.last) ∷ l) (ih n) ∙ sym (ap (λ c. moments_of (if c then r ∷ x ∷ xs else x ∷ put r xs)) (above o))
    by Equal o false t n ih = absurd (let bad : false ≡ true = sym t ∙ same o in cc)
    by o p true t n ih = absurd (let bad : ◌≡◌ {A = Option Row} (Some x) None = n in cc)

-- what was put in is taken out again
pub put-back : (id now : ℕ) (rows : List Row) → row_of id rows ≡ None → remove_entry (is_at (nat_cmp id)) (insert_entry nat_cmp (moments_of rows) id now) ≡ moments_of rows
put-back id now [] n = ap (λ b. cond b [] ((id, now) ∷ [])) (at-self id)
put-back id now (x ∷ xs) n = by (nat_cmp id x.id) refl (x.id == id) refl n (put-back id now xs)
  where
    same : Equal ≡ nat_cmp id x.id → (x.id == id) ≡ true
    same o = grind (arith, nat_tests, o)

    by : (o : Ordering) → o ≡ nat_cmp id x.id → (b : Bool) → (x.id == id) ≡ b → (if b then Some x else row_of id xs) ≡ None → (row_of id xs ≡ None → remove_entry (is_at (nat_cmp id)) (insert_entry nat_cmp (moments_of xs) id now) ≡ moments_of xs) → remove_entry (is_at (nat_cmp id)) (match_ordering o ((id, now) ∷ (x.id, x.last) ∷ moments_of xs) ((x.id, now) ∷ moments_of xs) ((x.id, x.last) ∷ insert_entry nat_cmp (moments_of xs) id now)) ≡ (x.id, x.last) ∷ moments_of xs
    by Less o b t n ih = ap (λ c. cond c ((x.id, x.last) ∷ moments_of xs) ((id, now) ∷ remove_entry (is_at (nat_cmp id)) ((x.id, x.last) ∷ moments_of xs))) (at-self id)
    by Greater o false t n ih = ap (λ c. cond c (insert_entry nat_cmp (moments_of xs) id now) ((x.id, x.last) ∷ remove_entry (is_at (nat_cmp id)) (insert_entry nat_cmp (moments_of xs) id now))) (at-key id x.id ∙ t) ∙ ap (λ l. (x.id, x.last) ∷ l) (ih n)
    by Equal o false t n ih = absurd (let bad : false ≡ true = sym t ∙ same o in cc)
    by o p true t n ih = absurd (let bad : ◌≡◌ {A = Option Row} (Some x) None = n in cc)

due-step : (b : Bool) (r : Row) (ids : List ℕ) (rs : List Row) → ids ≡ map (λ x. x.id) rs → (if b then r.id ∷ ids else ids) ≡ map (λ x. x.id) (if b then r ∷ rs else rs)
due-step true r ids rs h = ap (λ l. r.id ∷ l) h
due-step false r ids rs h = h

-- which are due
pub moments-due : (timeout now : ℕ) (rows : List Row) → all_due timeout now (moments_of rows) ≡ map (λ x. x.id) (filter (λ x. is_due timeout now x.last) rows)
moments-due timeout now [] = refl
moments-due timeout now (r ∷ rs) = due-step (is_due timeout now r.last) r _ _ (moments-due timeout now rs)

-- there are no more rows than identifiers were given
pub rises-length : (low next : ℕ) (rows : List Row) → Rises low rows next → low + length rows ≤ next
rises-length low next [] h = omega (arith, h)
rises-length low next (r ∷ rs) h = omega (arith, h.0, rises-length (r.id + 1) next rs h.1)
