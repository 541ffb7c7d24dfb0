-- The entries of the map by number, and the operations that they stand for.
use Rattle.std.proofs.Common.{◌≡◌, ◌≤◌, ◌<◌, ◌+◌, ℕ, suc, Bool, true, false, not, ◌==◌, if◌then◌else◌, cond, List, [], ◌∷◌, ◌++◌, length, find, filter, map, Option, Some, None, arith, refl, ap, ◌∙◌, sym}
use Rattle.std.proofs.lemmas.Bool.Decides.{nat_tests}
use Rattle.std.specs.BTreeMap.{insert_entry, is_at}
use Rattle.std.specs.Map.{lookup, remove_entry, set_value, values_of}
use Rattle.std.specs.Ordering.{nat_cmp, match_ordering}
use Rattle.std.specs.declared.cmp.Ordering.{Ordering}
use Rattle.std.specs.declared.cmp.Ordering.TheVariants.{Less, Equal, Greater}
use Rattle.client_rows.specs.Rows.{has_number}
use Rattle.client_rows.specs.Rows as rows
use Rattle.client_rows.specs.Filed.{AreFiled, Rises}
use Rattle.client_rows.specs.declared.row.Row.{Row}

-- the map's test of a key is the test of the operation's number
at-key : (k j : ℕ) → is_at (nat_cmp k) j ≡ (j == k)
at-key k j = grind (arith, nat_tests)

pub same-test : (k : ℕ) (e : ℕ × Row) → e.1.k ≡ e.0 → has_number k e.1 ≡ is_at (nat_cmp k) e.0
same-test k e h = ap (λ j. j == k) h ∙ sym (at-key k e.0)

pub find-lookup : (k : ℕ) (es : List (ℕ × Row)) → AreFiled es → find (has_number k) (values_of es) ≡ lookup (is_at (nat_cmp k)) es
find-lookup k [] f = refl
find-lookup k (e ∷ es) f = ap (λ b. cond b (Some e.1) (find (has_number k) (values_of es))) (same-test k e f.0) ∙ ap (λ o. cond (is_at (nat_cmp k) e.0) (Some e.1) o) (find-lookup k es f.1)

pub rises-le : (low : ℕ) (es : List (ℕ × Row)) (next : ℕ) → Rises low es next → low ≤ next
rises-le low [] next h = h
rises-le low (e ∷ es) next h = let b = rises-le (e.0 + 1) es next h.1 in omega (arith, h.0, b)

pub rises-lower : (low high : ℕ) (es : List (ℕ × Row)) (next : ℕ) → low ≤ high → Rises high es next → Rises low es next
rises-lower low high [] next le h = omega (arith, le, h)
rises-lower low high (e ∷ es) next le h = (omega (arith, le, h.0), h.1)

pub rises-more : (low : ℕ) (es : List (ℕ × Row)) (next more : ℕ) → next ≤ more → Rises low es next → Rises low es more
rises-more low [] next more le h = omega (arith, le, h)
rises-more low (e ∷ es) next more le h = (h.0, rises-more (e.0 + 1) es next more le h.1)

-- the next number goes to the end
pub insert-end : (low : ℕ) (es : List (ℕ × Row)) (k : ℕ) (r : Row) → Rises low es k → insert_entry nat_cmp es k r ≡ es ++ (k, r) ∷ []
insert-end low [] k r h = refl
insert-end low (e ∷ es) k r h =
    let le = rises-le (e.0 + 1) es k h.1 in
    let above : nat_cmp k e.0 ≡ Greater = grind (arith, nat_tests, le) in
    rw above (ap (λ l. e ∷ l) (insert-end (e.0 + 1) es k r h.1))

pub rises-end : (low : ℕ) (es : List (ℕ × Row)) (k : ℕ) (r : Row) → Rises low es k → Rises low (es ++ (k, r) ∷ []) (k + 1)
rises-end low [] k r h = (h, omega arith)
rises-end low (e ∷ es) k r h = (h.0, rises-end (e.0 + 1) es k r h.1)

pub filed-end : (es : List (ℕ × Row)) (k : ℕ) (r : Row) → r.k ≡ k → AreFiled es → AreFiled (es ++ (k, r) ∷ [])
filed-end [] k r h f = (h, tt)
filed-end (e ∷ es) k r h f = (f.0, filed-end es k r h f.1)

pub values-end : (es : List (ℕ × Row)) (k : ℕ) (r : Row) → values_of (es ++ (k, r) ∷ []) ≡ values_of es ++ r ∷ []
values-end [] k r = refl
values-end (e ∷ es) k r = ap (λ l. e.1 ∷ l) (values-end es k r)

-- no operation behind a number has it
none-has : (k low : ℕ) (es : List (ℕ × Row)) (next : ℕ) → k < low → AreFiled es → Rises low es next → filter (λ r. not (has_number k r)) (values_of es) ≡ values_of es
none-has k low [] next l f h = refl
none-has k low (e ∷ es) next l f h =
    let other : has_number k e.1 ≡ false = same-test k e f.0 ∙ grind (arith, nat_tests, l, h.0) in
    rw other (ap (λ l. e.1 ∷ l) (none-has k (e.0 + 1) es next (omega (arith, l, h.0)) f.1 h.1))

pub values-remove : (k low : ℕ) (es : List (ℕ × Row)) (next : ℕ) → AreFiled es → Rises low es next → values_of (remove_entry (is_at (nat_cmp k)) es) ≡ filter (λ r. not (has_number k r)) (values_of es)
values-remove k low [] next f h = refl
values-remove k low (e ∷ es) next f h = by (is_at (nat_cmp k) e.0) refl (values-remove k (e.0 + 1) es next f.1 h.1)
  where
    by : (b : Bool) → is_at (nat_cmp k) e.0 ≡ b → values_of (remove_entry (is_at (nat_cmp k)) es) ≡ filter (λ r. not (has_number k r)) (values_of es) → values_of (cond b es (e ∷ remove_entry (is_at (nat_cmp k)) es)) ≡ filter (λ r. not (has_number k r)) (e.1 ∷ values_of es)
    by true t ih =
        let here : has_number k e.1 ≡ true = same-test k e f.0 ∙ t in
        let is : e.0 ≡ k = grind (arith, nat_tests, t) in
        rw here (sym (none-has k (e.0 + 1) es next (omega (arith, is)) f.1 h.1))
    by false t ih =
        let other : has_number k e.1 ≡ false = same-test k e f.0 ∙ t in
        rw other (ap (λ l. e.1 ∷ l) ih)

pub filed-remove : (k : ℕ) (es : List (ℕ × Row)) → AreFiled es → AreFiled (remove_entry (is_at (nat_cmp k)) es)
filed-remove k [] f = tt
filed-remove k (e ∷ es) f = by (is_at (nat_cmp k) e.0) (filed-remove k es f.1)
  where
    by : (b : Bool) → AreFiled (remove_entry (is_at (nat_cmp k)) es) → AreFiled (cond b es (e ∷ remove_entry (is_at (nat_cmp k)) es))
    by true g = f.1
    by false g = (f.0, g)

pub rises-remove : (k low : ℕ) (es : List (ℕ × Row)) (next : ℕ) → Rises low es next → Rises low (remove_entry (is_at (nat_cmp k)) es) next
rises-remove k low [] next h = h
rises-remove k low (e ∷ es) next h = by (is_at (nat_cmp k) e.0) (rises-remove k (e.0 + 1) es next h.1)
  where
    by : (b : Bool) → Rises (e.0 + 1) (remove_entry (is_at (nat_cmp k)) es) next → Rises low (cond b es (e ∷ remove_entry (is_at (nat_cmp k)) es)) next
    by true g = rises-lower low (e.0 + 1) es next (omega (arith, h.0)) h.1
    by false g = (h.0, g)

none-changed : (change : Row → Row) (k low : ℕ) (es : List (ℕ × Row)) (next : ℕ) → k < low → AreFiled es → Rises low es next → map (λ r. if r.k == k then change r else r) (values_of es) ≡ values_of es
none-changed change k low [] next l f h = refl
none-changed change k low (e ∷ es) next l f h =
    let other : (e.1.k == k) ≡ false = same-test k e f.0 ∙ grind (arith, nat_tests, l, h.0) in
    rw other (ap (λ l. e.1 ∷ l) (none-changed change k (e.0 + 1) es next (omega (arith, l, h.0)) f.1 h.1))

pub values-set : (change : Row → Row) (k low : ℕ) (es : List (ℕ × Row)) (next : ℕ) (r : Row) → AreFiled es → Rises low es next → lookup (is_at (nat_cmp k)) es ≡ Some r → values_of (set_value (is_at (nat_cmp k)) es (change r)) ≡ map (λ r. if r.k == k then change r else r) (values_of es)
values-set change k low [] next r f h has = absurd (let bad : ◌≡◌ {A = Option Row} None (Some r) = has in cc)
values-set change k low (e ∷ es) next r f h has = by (is_at (nat_cmp k) e.0) refl has (values-set change k (e.0 + 1) es next r f.1 h.1)
  where
    by : (b : Bool) → is_at (nat_cmp k) e.0 ≡ b → cond b (Some e.1) (lookup (is_at (nat_cmp k)) es) ≡ Some r → (lookup (is_at (nat_cmp k)) es ≡ Some r → values_of (set_value (is_at (nat_cmp k)) es (change r)) ≡ map (λ r. if r.k == k then change r else r) (values_of es)) → values_of (cond b ((e.0, change r) ∷ es) (e ∷ set_value (is_at (nat_cmp k)) es (change r))) ≡ map (λ r. if r.k == k then change r else r) (e.1 ∷ values_of es)
    by true t x ih =
        let here : (e.1.k == k) ≡ true = same-test k e f.0 ∙ t in
        let is : e.0 ≡ k = grind (arith, nat_tests, t) in
        let same : e.1 ≡ r = cc in
        rw (here, none-changed change k (e.0 + 1) es next (omega (arith, is)) f.1 h.1) (ap (λ x. change x ∷ values_of es) (sym same))
    by false t x ih =
        let other : (e.1.k == k) ≡ false = same-test k e f.0 ∙ t in
        rw other (ap (λ l. e.1 ∷ l) (ih x))

pub values-miss : (change : Row → Row) (k : ℕ) (es : List (ℕ × Row)) → AreFiled es → lookup (is_at (nat_cmp k)) es ≡ None → map (λ r. if r.k == k then change r else r) (values_of es) ≡ values_of es
values-miss change k [] f has = refl
values-miss change k (e ∷ es) f has = by (is_at (nat_cmp k) e.0) refl has (values-miss change k es f.1)
  where
    by : (b : Bool) → is_at (nat_cmp k) e.0 ≡ b → cond b (Some e.1) (lookup (is_at (nat_cmp k)) es) ≡ None → (lookup (is_at (nat_cmp k)) es ≡ None → map (λ r. if r.k == k then change r else r) (values_of es) ≡ values_of es) → map (λ r. if r.k == k then change r else r) (e.1 ∷ values_of es) ≡ e.1 ∷ values_of es
    by true t x ih = absurd (let bad : ◌≡◌ {A = Option Row} (Some e.1) None = x in cc)
    by false t x ih =
        let other : (e.1.k == k) ≡ false = same-test k e f.0 ∙ t in
        rw other (ap (λ l. e.1 ∷ l) (ih x))

pub filed-set : (k : ℕ) (es : List (ℕ × Row)) (r : Row) → AreFiled es → r.k ≡ k → AreFiled (set_value (is_at (nat_cmp k)) es r)
filed-set k [] r f h = tt
filed-set k (e ∷ es) r f h = by (is_at (nat_cmp k) e.0) refl (filed-set k es r f.1 h)
  where
    by : (b : Bool) → is_at (nat_cmp k) e.0 ≡ b → AreFiled (set_value (is_at (nat_cmp k)) es r) → AreFiled (cond b ((e.0, r) ∷ es) (e ∷ set_value (is_at (nat_cmp k)) es r))
    by true t g = (h ∙ grind (arith, nat_tests, t), f.1)
    by false t g = (f.0, g)

pub rises-set : (k low : ℕ) (es : List (ℕ × Row)) (next : ℕ) (r : Row) → Rises low es next → Rises low (set_value (is_at (nat_cmp k)) es r) next
rises-set k low [] next r h = h
rises-set k low (e ∷ es) next r h = by (is_at (nat_cmp k) e.0) (rises-set k (e.0 + 1) es next r h.1)
  where
    by : (b : Bool) → Rises (e.0 + 1) (set_value (is_at (nat_cmp k)) es r) next → Rises low (cond b ((e.0, r) ∷ es) (e ∷ set_value (is_at (nat_cmp k)) es r)) next
    by true g = h
    by false g = (h.0, g)

-- the operation that is found has the number
pub found-number : (k : ℕ) (es : List (ℕ × Row)) (r : Row) → AreFiled es → lookup (is_at (nat_cmp k)) es ≡ Some r → r.k ≡ k
found-number k [] r f has = absurd (let bad : ◌≡◌ {A = Option Row} None (Some r) = has in cc)
found-number k (e ∷ es) r f has = by (is_at (nat_cmp k) e.0) refl has (found-number k es r f.1)
  where
    by : (b : Bool) → is_at (nat_cmp k) e.0 ≡ b → cond b (Some e.1) (lookup (is_at (nat_cmp k)) es) ≡ Some r → (lookup (is_at (nat_cmp k)) es ≡ Some r → r.k ≡ k) → r.k ≡ k
    by true t x ih = let same : e.1 ≡ r = cc in sym (ap (λ y. y.k) same) ∙ f.0 ∙ grind (arith, nat_tests, t)
    by false t x ih = ih x

-- the numbers of the operations rise as those of the entries
pub numbered : (low : ℕ) (es : List (ℕ × Row)) (next : ℕ) → AreFiled es → Rises low es next → rows.Rises low (values_of es) next
numbered low [] next f h = h
numbered low (e ∷ es) next f h = rw (f.0) (h.0, numbered (e.0 + 1) es next f.1 h.1)
