-- The rows of the operations that were sent: their numbers rise, so each number finds its own row.
use Rattle.std.specs.Prelude.{◌≡◌, ℕ, zero, suc, ◌+◌, ◌<◌, ◌≤◌, Bool, true, ◌==◌, ◌&&◌, nat_lt, nat_le, List, [], ◌∷◌, ◌++◌, slice_get, slice_set, cond, Some, None}
use Rattle.std.specs.List.{list_all}
use Rattle.std.specs.Option.{option_or}
use Rattle.std.proofs.Common.{refl, ap, ◌∙◌, sym, arith}
use Rattle.std.proofs.lemmas.Bool.{eqb-true, eq-eqb, ne_eqb, ltb-true, lt-ltb, leb-true, le-leb}
use Rattle.std.proofs.lemmas.List.Folds.{find-append}
use Rattle.small_spec.proofs.Growth.{left, right, both}
use Rattle.small_laws.proofs.ListLaws.{found_passes, or_none}
use Rattle.small_world.specs.declared.world.Forwarded.{Forwarded}
use Rattle.small_world.specs.States.{answered}
use Rattle.small_world.specs.Stands.{row_of, are_rising}

-- tests of all elements, at a place and behind a write
pub all_at : {A : Type 0} (t : A → Bool) (xs : List A) (i : ℕ) (y : A) → slice_get xs i ≡ Some y → list_all t xs ≡ true → t y ≡ true
all_at t [] i y h k = absurd (let bad : None ≡ Some y = h in cc)
all_at t (x ∷ xs) zero y h k = let same : x ≡ y = cc in ap t (sym same) ∙ left (t x) _ k
all_at t (x ∷ xs) (suc i) y h k = all_at t xs i y h (right (t x) _ k)

pub all_set : {A : Type 0} (t : A → Bool) (xs : List A) (i : ℕ) (y : A) → t y ≡ true → list_all t xs ≡ true → list_all t (slice_set xs i y) ≡ true
all_set t [] i y h k = refl
all_set t (x ∷ xs) zero y h k = both (t y) _ h (right (t x) _ k)
all_set t (x ∷ xs) (suc i) y h k = both (t x) _ (left (t x) _ k) (all_set t xs i y h (right (t x) _ k))

-- the parts of what rises
rising_above : (low most : ℕ) (f : Forwarded) (fs : List Forwarded) → are_rising low most (f ∷ fs) ≡ true → low < f.k
rising_above low most f fs h = ltb-true low f.k (left (nat_lt low f.k) _ (left (nat_lt low f.k && nat_le f.k most) _ h))

rising_within : (low most : ℕ) (f : Forwarded) (fs : List Forwarded) → are_rising low most (f ∷ fs) ≡ true → f.k ≤ most
rising_within low most f fs h = leb-true f.k most (right (nat_lt low f.k) _ (left (nat_lt low f.k && nat_le f.k most) _ h))

rising_rest : (low most : ℕ) (f : Forwarded) (fs : List Forwarded) → are_rising low most (f ∷ fs) ≡ true → are_rising f.k most fs ≡ true
rising_rest low most f fs h = right (nat_lt low f.k && nat_le f.k most) _ h

rising_from : (low most : ℕ) (f : Forwarded) (fs : List Forwarded) → low < f.k → f.k ≤ most → are_rising f.k most fs ≡ true → are_rising low most (f ∷ fs) ≡ true
rising_from low most f fs h k l = both (nat_lt low f.k && nat_le f.k most) _ (both (nat_lt low f.k) _ (lt-ltb low f.k h) (le-leb f.k most k)) l

-- a row that isn't of this number, and one that is
row_passed : (k : ℕ) (f : Forwarded) (fs : List Forwarded) → (f.k ≡ k → ⊥) → row_of k (f ∷ fs) ≡ row_of k fs
row_passed k f fs h = ap (λ b. cond b (Some f) (row_of k fs)) (ne_eqb f.k k h)

row_here : (k : ℕ) (f : Forwarded) (fs : List Forwarded) → f.k ≡ k → row_of k (f ∷ fs) ≡ Some f
row_here k f fs h = ap (λ b. cond b (Some f) (row_of k fs)) (eq-eqb f.k k h)

-- a row's number is in the range, and finds the row
pub rising_row : (low most : ℕ) (rows : List Forwarded) (i : ℕ) (f : Forwarded) → are_rising low most rows ≡ true → slice_get rows i ≡ Some f → (low < f.k) × (f.k ≤ most) × (row_of f.k rows ≡ Some f)
rising_row low most [] i f h k = absurd (let bad : None ≡ Some f = k in cc)
rising_row low most (g ∷ gs) zero f h k = let same : g ≡ f = cc in let number : g.k ≡ f.k = ap (λ x. x.k) same in let above : low < g.k = rising_above low most g gs h in let within : g.k ≤ most = rising_within low most g gs h in (omega arith, omega arith, row_here f.k g gs number ∙ ap (λ x. Some x) same)
rising_row low most (g ∷ gs) (suc i) f h k = let ih : (g.k < f.k) × (f.k ≤ most) × (row_of f.k gs ≡ Some f) = rising_row g.k most gs i f (rising_rest low most g gs h) k in let above : low < g.k = rising_above low most g gs h in let apart : g.k < f.k = ih.0 in (omega arith, ih.1, row_passed f.k g gs (λ e. omega arith) ∙ ih.2)

-- there is no row of a number up to where they rise from, nor above where they end
pub none_below : (low most : ℕ) (rows : List Forwarded) (k : ℕ) → are_rising low most rows ≡ true → k ≤ low → row_of k rows ≡ None
none_below low most [] k h b = refl
none_below low most (g ∷ gs) k h b = let above : low < g.k = rising_above low most g gs h in row_passed k g gs (λ e. omega arith) ∙ none_below g.k most gs k (rising_rest low most g gs h) (omega arith)

pub none_above : (low most : ℕ) (rows : List Forwarded) (k : ℕ) → are_rising low most rows ≡ true → most < k → row_of k rows ≡ None
none_above low most [] k h b = refl
none_above low most (g ∷ gs) k h b = let within : g.k ≤ most = rising_within low most g gs h in row_passed k g gs (λ e. omega arith) ∙ none_above g.k most gs k (rising_rest low most g gs h) b

-- they rise to a larger number, and with one row more
pub rising_wider : (low most more : ℕ) (rows : List Forwarded) → are_rising low most rows ≡ true → most ≤ more → are_rising low more rows ≡ true
rising_wider low most more [] h b = refl
rising_wider low most more (g ∷ gs) h b = let within : g.k ≤ most = rising_within low most g gs h in rising_from low more g gs (rising_above low most g gs h) (omega arith) (rising_wider g.k most more gs (rising_rest low most g gs h) b)

pub rising_append : (low most : ℕ) (rows : List Forwarded) (f : Forwarded) → are_rising low most rows ≡ true → low ≤ most → f.k ≡ most + 1 → are_rising low (most + 1) (rows ++ f ∷ []) ≡ true
rising_append low most [] f h b e = rising_from low (most + 1) f [] (omega arith) (omega arith) refl
rising_append low most (g ∷ gs) f h b e = let within : g.k ≤ most = rising_within low most g gs h in rising_from low (most + 1) g (gs ++ f ∷ []) (rising_above low most g gs h) (omega arith) (rising_append g.k most gs f (rising_rest low most g gs h) within e)

-- and where one is answered
pub rising_answered : (low most : ℕ) (rows : List Forwarded) (i : ℕ) (f : Forwarded) → are_rising low most rows ≡ true → slice_get rows i ≡ Some f → are_rising low most (slice_set rows i (answered f)) ≡ true
rising_answered low most [] i f h k = refl
rising_answered low most (g ∷ gs) zero f h k = let same : g ≡ f = cc in ap (λ x. are_rising low most (answered x ∷ gs)) (sym same) ∙ h
rising_answered low most (g ∷ gs) (suc i) f h k = rising_from low most g (slice_set gs i (answered f)) (rising_above low most g gs h) (rising_within low most g gs h) (rising_answered g.k most gs i f (rising_rest low most g gs h) k)

-- the row that is found has the number
pub row_number : (k : ℕ) (rows : List Forwarded) (f : Forwarded) → row_of k rows ≡ Some f → f.k ≡ k
row_number k rows f h = eqb-true f.k k (found_passes (λ x. x.k == k) rows f h)

-- with one row more, the old numbers find what they found, and the new one the new row
pub row_of_old : (most : ℕ) (rows : List Forwarded) (f : Forwarded) (k : ℕ) → f.k ≡ most + 1 → k ≤ most → row_of k (rows ++ f ∷ []) ≡ row_of k rows
row_of_old most rows f k e b = find-append (λ x. x.k == k) rows (f ∷ []) ∙ ap (option_or (row_of k rows)) (row_passed k f [] (λ d. omega arith)) ∙ or_none (row_of k rows)

pub row_of_new : (low most : ℕ) (rows : List Forwarded) (f : Forwarded) → are_rising low most rows ≡ true → f.k ≡ most + 1 → row_of f.k (rows ++ f ∷ []) ≡ Some f
row_of_new low most rows f h e = find-append (λ x. x.k == f.k) rows (f ∷ []) ∙ ap (λ o. option_or o (row_of f.k (f ∷ []))) (none_above low most rows f.k h (omega arith)) ∙ row_here f.k f [] refl

-- where a row is answered, its number finds it so, and the others find what they found
pub row_of_answered : (low most : ℕ) (rows : List Forwarded) (i : ℕ) (f : Forwarded) → are_rising low most rows ≡ true → slice_get rows i ≡ Some f → row_of f.k (slice_set rows i (answered f)) ≡ Some (answered f)
row_of_answered low most [] i f h k = absurd (let bad : None ≡ Some f = k in cc)
row_of_answered low most (g ∷ gs) zero f h k = row_here f.k (answered f) gs refl
row_of_answered low most (g ∷ gs) (suc i) f h k = let ih : (g.k < f.k) × (f.k ≤ most) × (row_of f.k gs ≡ Some f) = rising_row g.k most gs i f (rising_rest low most g gs h) k in let apart : g.k < f.k = ih.0 in row_passed f.k g (slice_set gs i (answered f)) (λ e. omega arith) ∙ row_of_answered g.k most gs i f (rising_rest low most g gs h) k

pub row_of_other : (rows : List Forwarded) (i : ℕ) (f : Forwarded) (k : ℕ) → slice_get rows i ≡ Some f → (f.k ≡ k → ⊥) → row_of k (slice_set rows i (answered f)) ≡ row_of k rows
row_of_other [] i f k h d = refl
row_of_other (g ∷ gs) zero f k h d = let same : g ≡ f = cc in row_passed k (answered f) gs d ∙ sym (row_passed k g gs (λ e. d (sym (ap (λ x. x.k) same) ∙ e)))
row_of_other (g ∷ gs) (suc i) f k h d = ap (cond (g.k == k) (Some g)) (row_of_other gs i f k h d)
