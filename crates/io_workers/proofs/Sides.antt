-- Two lists of places, one behind the other.
use Rattle.std.proofs.Common.{◌≡◌, ℕ, ◌+◌, ◌≤◌, ◌<◌, not, ◌&&◌, ◌||◌, nat_le, nat_lt, Bool, true, false, min, List, [], ◌∷◌, ◌++◌, length, take, drop, Option, Some, None, refl, ap, sym, ◌∙◌, arith, if◌then◌else◌}
use Rattle.std.proofs.lemmas.Bool.Decides.{nat_tests}
use Rattle.std.proofs.lemmas.List.{take-append-drop}
use Rattle.lload_names.specs.Plans.{greatest_number}
use Rattle.io_workers.specs.declared.rows.Row.{Row}
use Rattle.io_workers.specs.Places.{has_waited_since, is_due, due, fresh}
use Rattle.io_workers.specs.Tree.{opens, opens_since, earliest, last_moment}

earliest-last : (rows : List Row) → earliest rows ≤ last_moment
earliest-last [] = omega arith
earliest-last (row ∷ rows) = let h = earliest-last rows in omega (arith, h)

pub earliest-append : (xs ys : List Row) → earliest (xs ++ ys) ≡ min (earliest xs) (earliest ys)
earliest-append [] ys = let h = earliest-last ys in omega (arith, h)
earliest-append (x ∷ xs) ys = let h = earliest-append xs ys in omega (arith, h)

-- a place isn't due before it opens

not-waited : (now retry : ℕ) (lost : Option ℕ) → now < opens_since retry lost → has_waited_since now retry lost ≡ false
not-waited now retry None h = absurd (omega (arith, h))
not-waited now retry (Some moment) h = let l : now < moment + retry = omega (arith, h) in grind (arith, nat_tests, l)

over-not-within : (a b : ℕ) → nat_lt a b ≡ not (nat_le b a)
over-not-within a b = grind (arith, nat_tests)

not-due-within : (within waited : Bool) (now opens : ℕ) → (now < opens → waited ≡ false) → now < (if not within then last_moment else opens) → within && waited ≡ false
not-due-within true waited now opens w h = w h
not-due-within false waited now opens w h = refl

not-due-linked : (is_linked within waited : Bool) (now opens : ℕ) → (now < opens → waited ≡ false) → now < (if is_linked || not within then last_moment else opens) → not is_linked && within && waited ≡ false
not-due-linked true within waited now opens w h = refl
not-due-linked false within waited now opens w h = not-due-within within waited now opens w h

not-due : (now : ℕ) (row : Row) → now < opens row → is_due now row ≡ false
not-due now row h =
    not-due-linked row.is_linked (nat_le row.conn greatest_number) (has_waited_since now row.retry row.lost) now (opens_since row.retry row.lost)
    (not-waited now row.retry row.lost)
    (rw (over-not-within greatest_number row.conn) at h)

none-step : (b : Bool) (conn : ℕ) (o : Option ℕ) → b ≡ false → o ≡ None → (if b then Some conn else o) ≡ None
none-step b conn o h n = rw h n

-- before the earliest of some places opens, none of them is due
pub none-due : (now : ℕ) (rows : List Row) → now < earliest rows → due now rows ≡ None
none-due now [] h = refl
none-due now (row ∷ rows) h =
    none-step (is_due now row) row.conn (due now rows) (not-due now row (omega (arith, h))) (none-due now rows (omega (arith, h)))

-- the lowest that is due

abbrev pub or_else : Option ℕ → Option ℕ → Option ℕ
or_else None o = o
or_else (Some conn) o = Some conn

due-step : (b : Bool) (conn : ℕ) (all o p : Option ℕ) → all ≡ or_else o p → (if b then Some conn else all) ≡ or_else (if b then Some conn else o) p
due-step true conn all o p h = refl
due-step false conn all o p h = h

pub due-append : (now : ℕ) (xs ys : List Row) → due now (xs ++ ys) ≡ or_else (due now xs) (due now ys)
due-append now [] ys = refl
due-append now (x ∷ xs) ys = due-step (is_due now x) x.conn _ _ _ (due-append now xs ys)

-- places as they begin

pub fresh-append : (n : ℕ) (xs ys : List ℕ) → fresh n (xs ++ ys) ≡ fresh n xs ++ fresh (n + length xs) ys
fresh-append n [] ys = let e : n ≡ n + 0 = omega arith in ap (λ m. fresh m ys) e
fresh-append n (x ∷ xs) ys =
    let e : n + 1 + length xs ≡ n + length (x ∷ xs) = omega arith in
    ap (λ (rows : List Row). record { conn = n; is_linked = false; lost = None; retry = x } ∷ rows) (fresh-append (n + 1) xs ys ∙ ap (λ m. fresh (n + 1) xs ++ fresh m ys) e)

pub length-fresh : (n : ℕ) (xs : List ℕ) → length (fresh n xs) ≡ length xs
length-fresh n [] = refl
length-fresh n (x ∷ xs) = let h = length-fresh (n + 1) xs in omega (arith, h)

-- the places of both parts of a list, each as it begins
pub fresh-joined : (first count : ℕ) (all a b : List ℕ) (l h : List Row) → a ≡ take count all → b ≡ drop count all → length a ≡ count → l ≡ fresh first a → h ≡ fresh (first + count) b → l ++ h ≡ fresh first all
fresh-joined first count all a b l h ea eb n el eh =
    let joined : a ++ b ≡ all = cc (ea, eb, take-append-drop count all) in
    let high : h ≡ fresh (first + length a) b = eh ∙ ap (λ m. fresh (first + m) b) (sym n) in
    cc (el, high, fresh-append first a b, joined)
