-- The numbers of connections, by place.
use Rattle.std.proofs.Common.{◌≡◌, ℕ, zero, suc, ◌+◌, ◌-◌, ◌%◌, ◌^◌, ◌≤◌, ◌<◌, not, ◌&&◌, Bool, true, false, List, [], ◌∷◌, length, Option, Some, None, refl, ap, subst, ◌∙◌, sym, arith, if◌then◌else◌}
use Rattle.std.specs.Prelude.{slice_get, IsSomeAnd}
use Rattle.std.proofs.Math.ListN.{set}
use Rattle.std.proofs.lemmas.List.{length-set}
use Rattle.std.proofs.lemmas.Option.{slice_get_within}
use Rattle.std.proofs.Math.Nat.{mod-eq_of_lt, add-mod_right}
use Rattle.io_workers.specs.declared.rows.Row.{Row}
use Rattle.io_workers.proofs.Sides.{length-fresh}
use Rattle.io_workers.specs.Places.{is_due, due, fresh, index_of, row_of, IsNext, IsTurnOf, linked, lost, changed, changed_for, AreNumbered, ArePlaces}

-- places as they begin are numbered
pub numbered-fresh : (count n i : ℕ) (xs : List ℕ) → i + length xs ≤ count → n ≡ i + 1 → AreNumbered count i (fresh n xs)
numbered-fresh count n i [] l e = tt
numbered-fresh count n i (x ∷ xs) l e =
    let within : n - 1 < count = omega arith in
    let is : n - 1 ≡ i = omega arith in
    (omega arith, mod-eq_of_lt within ∙ is, numbered-fresh count (n + 1) (suc i) xs (omega arith) (omega arith))

-- and so they are where one of them is put with a number of its own
pub numbered-set : (count i k : ℕ) (rows : List Row) (row : Row) → 1 ≤ row.conn → (row.conn - 1) % count ≡ i + k → AreNumbered count i rows → AreNumbered count i (set rows k row)
numbered-set count i k [] row s e h = tt
numbered-set count i zero (r ∷ rows) row s e h = (s, (e ∙ omega arith), h.2)
numbered-set count i (suc k) (r ∷ rows) row s e h =
    (h.0, h.1, numbered-set count (suc i) k rows row s (e ∙ omega arith) h.2)

-- the place with this index is free, and this is the connection that it links next
pub record NextAt (count i conn k : ℕ) (rows : List Row) (row : Row) : Type 0 where
  pub is : slice_get rows k ≡ Some row
  pub conn_is : row.conn ≡ conn
  pub is_free : row.is_linked ≡ false
  pub index_is : (conn - 1) % count ≡ i + k

abbrev Found : ℕ → ℕ → ℕ → List Row → Type 0
Found count i conn rows = (k : ℕ) × (row : Row) × NextAt count i conn k rows row

free-if-due : (is_linked within waited : Bool) → not is_linked && within && waited ≡ true → is_linked ≡ false
free-if-due true within waited h = absurd (let bad : false ≡ true = h in cc)
free-if-due false within waited h = refl

found-behind : (count i conn : ℕ) (row : Row) (rows : List Row) → Found count (suc i) conn rows → Found count i conn (row ∷ rows)
found-behind count i conn row rows f =
    let at : (conn - 1) % count ≡ suc i + f.0 = f.2.index_is in
    (suc f.0, f.1, record { is = f.2.is; conn_is = f.2.conn_is; is_free = f.2.is_free; index_is = omega (arith, at) })

found-step : (count i conn : ℕ) (row : Row) (rows : List Row) (b : Bool) (o : Option ℕ) → (b ≡ true → row.is_linked ≡ false) → (row.conn - 1) % count ≡ i → (o ≡ Some conn → Found count (suc i) conn rows) → (if b then Some row.conn else o) ≡ Some conn → Found count i conn (row ∷ rows)
found-step count i conn row rows true o free e rest h =
    let same : row.conn ≡ conn = cc in
    let at : (conn - 1) % count ≡ i = ap (λ n. (n - 1) % count) (sym same) ∙ e in
    (zero, row, record { is = refl; conn_is = same; is_free = free refl; index_is = omega (arith, at) })
found-step count i conn row rows false o free e rest h = found-behind count i conn row rows (rest h)

due-found : (now count i conn : ℕ) (rows : List Row) → AreNumbered count i rows → due now rows ≡ Some conn → Found count i conn rows
due-found now count i conn [] h e = absurd cc
due-found now count i conn (row ∷ rows) h e =
    found-step count i conn row rows (is_due now row) (due now rows) (free-if-due row.is_linked _ _) h.1 (due-found now count (suc i) conn rows h.2) e

next-in : (conn : ℕ) (o : Option Row) (row : Row) → o ≡ Some row → row.conn ≡ conn → row.is_linked ≡ false → IsSomeAnd o (λ (r : Row). (r.conn ≡ conn) × (r.is_linked ≡ false))
next-in conn o row e h k = subst (λ (p : Option Row). IsSomeAnd p (λ (r : Row). (r.conn ≡ conn) × (r.is_linked ≡ false))) (sym e) (h, k)

-- what is due at numbered places is the connection that its own place links next
pub due-next : (now count conn : ℕ) (rows : List Row) → count ≡ length rows → AreNumbered count 0 rows → due now rows ≡ Some conn → IsNext conn rows
due-next now count conn rows c h e =
    let f = due-found now count 0 conn rows h e in
    let at : (conn - 1) % count ≡ f.0 = omega (arith, f.2.index_is) in
    let here : index_of conn rows ≡ f.0 = ap (λ n. (conn - 1) % n) (sym c) ∙ at in
    next-in conn (row_of conn rows) f.1 (ap (slice_get rows) here ∙ f.2.is) f.2.conn_is f.2.is_free

-- a place that is put changed
pub set-changed : (change : Row → Row) (rows : List Row) (k : ℕ) (row : Row) → slice_get rows k ≡ Some row → set rows k (change row) ≡ changed change rows k
set-changed change [] k row h = absurd cc
set-changed change (r ∷ rows) zero row h = let same : r ≡ row = cc in ap (λ (x : Row). change x ∷ rows) (sym same)
set-changed change (r ∷ rows) (suc k) row h = ap (λ (l : List Row). r ∷ l) (set-changed change rows k row h)

-- the number after so many is of the same place
pub next-number : (conn count i : ℕ) → 1 ≤ conn → (conn - 1) % count ≡ i → (conn + count - 1) % count ≡ i
next-number conn count i s e =
    let moved : conn + count - 1 ≡ conn - 1 + count = omega arith in
    ap (λ n. n % count) moved ∙ add-mod_right (conn - 1) count ∙ e

-- a number that stands at a place is one of the place
pub numbered-get : (count i k : ℕ) (rows : List Row) (row : Row) → AreNumbered count i rows → slice_get rows k ≡ Some row → (1 ≤ row.conn) × ((row.conn - 1) % count ≡ i + k)
numbered-get count i k [] row h e = absurd cc
numbered-get count i zero (r ∷ rows) row h e =
    let same : r ≡ row = cc in
    let at : (r.conn - 1) % count ≡ i + 0 = omega (arith, h.1) in
    subst (λ (x : Row). (1 ≤ x.conn) × ((x.conn - 1) % count ≡ i + 0)) same (h.0, at)
numbered-get count i (suc k) (r ∷ rows) row h e =
    let there = numbered-get count (suc i) k rows row h.2 e in
    (there.0, there.1 ∙ omega arith)

next-turn-in : (conn : ℕ) (o : Option Row) → IsSomeAnd o (λ (r : Row). (r.conn ≡ conn) × (r.is_linked ≡ false)) → IsSomeAnd o (λ (r : Row). r.conn ≡ conn)
next-turn-in conn None h = h
next-turn-in conn (Some r) h = h.0

-- it is the turn of what a place links next
pub next-turn : (conn : ℕ) (rows : List Row) → IsNext conn rows → IsTurnOf conn rows
next-turn conn rows h = next-turn-in conn (row_of conn rows) h

-- the place of a connection whose turn it is
pub record Turn (conn : ℕ) (rows : List Row) (row : Row) : Type 0 where
  pub is : slice_get rows (index_of conn rows) ≡ Some row
  pub conn_is : row.conn ≡ conn

turn-in : (conn k : ℕ) (rows : List Row) (o : Option Row) → slice_get rows (index_of conn rows) ≡ o → IsSomeAnd o (λ (r : Row). r.conn ≡ conn) → (row : Row) × Turn conn rows row
turn-in conn k rows None e h = absurd h
turn-in conn k rows (Some row) e h = (row, record { is = e; conn_is = h })

pub turn : (conn : ℕ) (rows : List Row) → IsTurnOf conn rows → (row : Row) × Turn conn rows row
turn conn rows h = turn-in conn 0 rows (row_of conn rows) refl h

pub turn-positive : (count conn : ℕ) (rows : List Row) → ArePlaces count rows → IsTurnOf conn rows → 1 ≤ conn
turn-positive count conn rows p h =
    let t = turn conn rows h in
    let s = (numbered-get count 0 (index_of conn rows) rows t.0 p.numbered t.1.is).0 in
    omega (arith, s, t.1.conn_is)

pub turn-some : (count conn : ℕ) (rows : List Row) → ArePlaces count rows → IsTurnOf conn rows → 1 ≤ count
turn-some count conn rows p h =
    let t = turn conn rows h in
    omega (arith, slice_get_within rows (index_of conn rows) t.0 t.1.is, p.count_is)

-- what is put at the index of a connection's place
pub set-changed_for : (change : Row → Row) (rows : List Row) (i conn : ℕ) (row : Row) → i ≡ index_of conn rows → slice_get rows i ≡ Some row → set rows i (change row) ≡ changed_for conn change rows
set-changed_for change rows i conn row e h = set-changed change rows i row h ∙ ap (changed change rows) e

pub places-set : (count k : ℕ) (rows : List Row) (row : Row) → 1 ≤ row.conn → (row.conn - 1) % count ≡ k → ArePlaces count rows → ArePlaces count (set rows k row)
places-set count k rows row s e p =
    let same = length-set rows k row in
    record { few = p.few; count_is = p.count_is ∙ sym same; numbered = numbered-set count 0 k rows row s (omega (arith, e)) p.numbered }

-- the places stay so where one of them has its connection linked
pub places-linked : (count k : ℕ) (rows : List Row) (row : Row) → ArePlaces count rows → slice_get rows k ≡ Some row → ArePlaces count (set rows k (linked row))
places-linked count k rows row p e =
    let there = numbered-get count 0 k rows row p.numbered e in
    places-set count k rows (linked row) there.0 (omega (arith, there.1)) p

lost-number : (count k conn : ℕ) (b : Bool) → 1 ≤ conn → (conn - 1) % count ≡ k → (1 ≤ (if b then conn + count else conn)) × (((if b then conn + count else conn) - 1) % count ≡ k)
lost-number count k conn true s e = (omega arith, next-number conn count k s e)
lost-number count k conn false s e = (s, e)

-- and where one of them lost it
pub places-lost : (count k now : ℕ) (rows : List Row) (row : Row) → ArePlaces count rows → slice_get rows k ≡ Some row → ArePlaces count (set rows k (lost count now row))
places-lost count k now rows row p e =
    let there = numbered-get count 0 k rows row p.numbered e in
    let number = lost-number count k row.conn row.is_linked there.0 (omega (arith, there.1)) in
    places-set count k rows (lost count now row) number.0 number.1 p

-- places as they begin
pub places-fresh : (count : ℕ) (xs : List ℕ) (rows : List Row) → count < 2 ^ 63 → count ≡ length xs → rows ≡ fresh 1 xs → ArePlaces count rows
places-fresh count xs rows l e h =
    subst (ArePlaces count) (sym h) (record {
      few = l;
      count_is = e ∙ sym (length-fresh 1 xs);
      numbered = numbered-fresh count 1 0 xs (omega arith) (omega arith);
    })

some-and : (o : Option Row) (P : Row → Type 0) (row : Row) → o ≡ Some row → P row → IsSomeAnd o P
some-and o P row e h = subst (λ (p : Option Row). IsSomeAnd p P) (sym e) h

turn-row : (conn : ℕ) (o : Option Row) (row : Row) → o ≡ Some row → IsSomeAnd o (λ (r : Row). r.conn ≡ conn) → row.conn ≡ conn
turn-row conn o row e h = subst (λ (p : Option Row). IsSomeAnd p (λ (r : Row). r.conn ≡ conn)) e h

get-set : (rows : List Row) (k : ℕ) (old row : Row) → slice_get rows k ≡ Some old → slice_get (set rows k row) k ≡ Some row
get-set [] k old row h = absurd cc
get-set (r ∷ rows) zero old row h = refl
get-set (r ∷ rows) (suc k) old row h = get-set rows k old row h

-- it stays the turn of a connection whose place is linked
pub turn-linked : (rows : List Row) (i conn : ℕ) (row : Row) → i ≡ index_of conn rows → slice_get rows i ≡ Some row → IsTurnOf conn rows → IsTurnOf conn (set rows i (linked row))
turn-linked rows i conn row e there h =
    let same = length-set rows i (linked row) in
    let at : index_of conn (set rows i (linked row)) ≡ i = ap (λ n. (conn - 1) % n) same ∙ sym e in
    let is : slice_get (set rows i (linked row)) (index_of conn (set rows i (linked row))) ≡ Some (linked row) = ap (slice_get (set rows i (linked row))) at ∙ get-set rows i row (linked row) there in
    some-and (row_of conn (set rows i (linked row))) (λ (r : Row). r.conn ≡ conn) (linked row) is (turn-row conn (row_of conn rows) row (ap (slice_get rows) (sym e) ∙ there) h)
