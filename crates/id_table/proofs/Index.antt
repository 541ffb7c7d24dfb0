-- The rows by identifier, and the index of operations, where a row comes, goes or is changed.
use Rattle.std.proofs.Common.{◌≡◌, ℕ, ◌+◌, ◌≤◌, ◌<◌, Bool, true, false, ◌==◌, ◌&&◌, ◌⊎◌, inl, inr, if◌then◌else◌, cond, List, [], ◌∷◌, Option, Some, None, arith, refl, ap, subst, ◌∙◌, sym}
use Rattle.std.proofs.lemmas.Bool.Decides.{nat_tests}
use Rattle.std.proofs.lemmas.Bool.{cases_eq, eq-eqb, ne_eqb, eqb-true, leb-true}
use Rattle.std.specs.Prelude.{nat_lt, nat_le, IfSome, slice_get}
use Rattle.std.specs.Ordering.{is_gt}
use Rattle.std.specs.BTreeMap.{is_at}
use Rattle.std.specs.BTreeSet.{BTreeSet, contains}
use Rattle.lload_names.specs.declared.names.OpName.{OpName}
use Rattle.lload_names.specs.Same.{same_op}
use Rattle.id_table.specs.Rows.{row_of, id_of, put, without, changed, Rises, has_op}
use Rattle.id_table.specs.Filed.{key_cmp, Indexes}
use Rattle.id_table.specs.declared.row.Row.{Row}

pub rises-le : (low : ℕ) (rows : List Row) (next : ℕ) → Rises low rows next → low ≤ next
rises-le low [] next h = h
rises-le low (r ∷ rs) next h = omega (arith, h.0, rises-le (r.id + 1) rs next h.1)

pub rises-lower : (low high : ℕ) (rows : List Row) (next : ℕ) → low ≤ high → Rises high rows next → Rises low rows next
rises-lower low high [] next le h = omega (arith, le, h)
rises-lower low high (r ∷ rs) next le h = (omega (arith, le, h.0), h.1)

pub rises-further : (low : ℕ) (rows : List Row) (next more : ℕ) → next ≤ more → Rises low rows next → Rises low rows more
rises-further low [] next more le h = omega (arith, le, h)
rises-further low (r ∷ rs) next more le h = (h.0, rises-further (r.id + 1) rs next more le h.1)

without-step : (low : ℕ) (r : Row) (b : Bool) (rs ss : List Row) (next : ℕ) → low ≤ r.id → Rises (r.id + 1) rs next → Rises (r.id + 1) ss next → Rises low (if b then rs else r ∷ ss) next
without-step low r true rs ss next le h g = rises-lower low (r.id + 1) rs next (omega (arith, le)) h
without-step low r false rs ss next le h g = (le, g)

pub rises-without : (id low : ℕ) (rows : List Row) (next : ℕ) → Rises low rows next → Rises low (without id rows) next
rises-without id low [] next h = h
rises-without id low (r ∷ rs) next h = without-step low r (r.id == id) rs (without id rs) next h.0 h.1 (rises-without id (r.id + 1) rs next h.1)

-- a change that keeps identifier and operation
pub record KeepsName (change : Row → Row) : Type 0 where
  pub id : (r : Row) → (change r).id ≡ r.id
  pub op : (r : Row) → (change r).op ≡ r.op

pub rises-changed : (change : Row → Row) (id low : ℕ) (rows : List Row) (next : ℕ) → KeepsName change → Rises low rows next → Rises low (changed change id rows) next
rises-changed change id low [] next k h = h
rises-changed change id low (r ∷ rs) next k h = by (r.id == id) (rises-changed change id (r.id + 1) rs next k h.1)
  where
    by : (b : Bool) → Rises (r.id + 1) (changed change id rs) next → Rises low (if b then change r ∷ rs else r ∷ changed change id rs) next
    by true g = let same = k.id r in (omega (arith, h.0, same), subst (λ (n : ℕ). Rises (n + 1) rs next) (sym same) h.1)
    by false g = (h.0, g)

-- beyond the first, no row has a lower identifier
pub none-below : (id low : ℕ) (rows : List Row) (next : ℕ) → id < low → Rises low rows next → row_of id rows ≡ None
none-below id low [] next l h = refl
none-below id low (r ∷ rs) next l h = ap (λ b. cond b (Some r) (row_of id rs)) (ne_eqb r.id id (λ e. omega (arith, e, l, h.0))) ∙ none-below id (r.id + 1) rs next (omega (arith, l, h.0)) h.1

pub none-above : (id low : ℕ) (rows : List Row) (next : ℕ) → next ≤ id → Rises low rows next → row_of id rows ≡ None
none-above id low [] next l h = refl
none-above id low (r ∷ rs) next l h = ap (λ b. cond b (Some r) (row_of id rs)) (ne_eqb r.id id (λ e. let b = rises-le (r.id + 1) rs next h.1 in omega (arith, e, l, b))) ∙ none-above id (r.id + 1) rs next l h.1

-- the row of each identifier behind a row that came
pub row-put : (r : Row) (id : ℕ) (rows : List Row) → row_of r.id rows ≡ None → row_of id (put r rows) ≡ (if r.id == id then Some r else row_of id rows)
row-put r id [] none = refl
row-put r id (x ∷ rs) none = by (nat_lt r.id x.id) (x.id == r.id) refl none (row-put r id rs)
  where
    swap : (a b : Bool) (y : Option Row) → (a ≡ true → b ≡ false) → (if b then Some x else (if a then Some r else y)) ≡ (if a then Some r else (if b then Some x else y))
    swap true true y h = absurd (let bad : true ≡ false = h refl in cc)
    swap true false y h = refl
    swap false b y h = refl

    by : (b c : Bool) → (x.id == r.id) ≡ c → cond c (Some x) (row_of r.id rs) ≡ None → (row_of r.id rs ≡ None → row_of id (put r rs) ≡ (if r.id == id then Some r else row_of id rs)) → row_of id (if b then r ∷ x ∷ rs else x ∷ put r rs) ≡ (if r.id == id then Some r else (if x.id == id then Some x else row_of id rs))
    by true c t n ih = refl
    by b true t n ih = absurd (let bad : ◌≡◌ {A = Option Row} (Some x) None = n in cc)
    by false false t n ih = ap (λ o. if x.id == id then Some x else o) (ih n) ∙ swap (r.id == id) (x.id == id) (row_of id rs) (λ h. let e = eqb-true r.id id h in subst (λ (i : ℕ). (x.id == i) ≡ false) e t)

-- the row of an identifier has it
pub same-id : (id : ℕ) (rows : List Row) (r : Row) → row_of id rows ≡ Some r → r.id ≡ id
same-id id [] r h = absurd (let bad : ◌≡◌ {A = Option Row} None (Some r) = h in cc)
same-id id (x ∷ rs) r h = by (x.id == id) refl h (same-id id rs r)
  where
    by : (b : Bool) → (x.id == id) ≡ b → (if b then Some x else row_of id rs) ≡ Some r → (row_of id rs ≡ Some r → r.id ≡ id) → r.id ≡ id
    by true t e ih = let same : x ≡ r = cc in ap (λ y. y.id) (sym same) ∙ eqb-true x.id id t
    by false t e ih = ih e

pub rises-put : (r : Row) (low : ℕ) (rows : List Row) (next : ℕ) → low ≤ r.id → r.id < next → row_of r.id rows ≡ None → Rises low rows next → Rises low (put r rows) next
rises-put r low [] next le lt none h = (le, omega (arith, lt))
rises-put r low (x ∷ rs) next le lt none h = by (nat_lt r.id x.id) refl (x.id == r.id) refl none (λ l n. rises-put r (x.id + 1) rs next l lt n h.1)
  where
    by : (b : Bool) → nat_lt r.id x.id ≡ b → (c : Bool) → (x.id == r.id) ≡ c → cond c (Some x) (row_of r.id rs) ≡ None → (x.id + 1 ≤ r.id → row_of r.id rs ≡ None → Rises (x.id + 1) (put r rs) next) → Rises low (if b then r ∷ x ∷ rs else x ∷ put r rs) next
    by true t c u n ih = (le, (grind (arith, nat_tests, t), h.1))
    by false t false u n ih = (h.0, ih (grind (arith, nat_tests, t, u)) n)
    by false t true u n ih = absurd (let bad : ◌≡◌ {A = Option Row} (Some x) None = n in cc)

-- behind a row that went
pub row-without : (gone id low : ℕ) (rows : List Row) (next : ℕ) → Rises low rows next → row_of id (without gone rows) ≡ (if gone == id then None else row_of id rows)
row-without gone id low [] next h = by (gone == id)
  where
    by : (b : Bool) → ◌≡◌ {A = Option Row} None (if b then None else None)
    by true = refl
    by false = refl
row-without gone id low (r ∷ rs) next h = by (r.id == gone) refl (gone == id) refl (row-without gone id (r.id + 1) rs next h.1)
  where
    by : (a : Bool) → (r.id == gone) ≡ a → (b : Bool) → (gone == id) ≡ b → row_of id (without gone rs) ≡ (if b then None else row_of id rs) → row_of id (if a then rs else r ∷ without gone rs) ≡ (if b then None else (if r.id == id then Some r else row_of id rs))
    by true p true q ih = none-below id (r.id + 1) rs next (let e = eqb-true r.id gone p in let f = eqb-true gone id q in omega (arith, e, f)) h.1
    by true p false q ih = sym (ap (λ c. cond c (Some r) (row_of id rs)) (let e = eqb-true r.id gone p in subst (λ (i : ℕ). (i == id) ≡ false) (sym e) q))
    by false p true q ih = ap (λ c. cond c (Some r) (row_of id (without gone rs))) (let f = eqb-true gone id q in subst (λ (i : ℕ). (r.id == i) ≡ false) f p) ∙ ih
    by false p false q ih = ap (λ o. if r.id == id then Some r else o) ih

-- behind a change
pub row-changed : (change : Row → Row) (at id : ℕ) (op : OpName) (rows : List Row) → KeepsName change → has_op op (row_of id (changed change at rows)) ≡ has_op op (row_of id rows)
row-changed change at id op [] k = refl
row-changed change at id op (r ∷ rs) k = by (r.id == at) (row-changed change at id op rs k)
  where
    pick : (b : Bool) → has_op op (if b then Some (change r) else row_of id rs) ≡ has_op op (if b then Some r else row_of id rs)
    pick true = ap (λ o. same_op o op) (k.op r)
    pick false = refl

    keep : (b : Bool) (x y : Option Row) → has_op op x ≡ has_op op y → has_op op (if b then Some r else x) ≡ has_op op (if b then Some r else y)
    keep true x y h = refl
    keep false x y h = h

    by : (b : Bool) → has_op op (row_of id (changed change at rs)) ≡ has_op op (row_of id rs) → has_op op (row_of id (if b then change r ∷ rs else r ∷ changed change at rs)) ≡ has_op op (if r.id == id then Some r else row_of id rs)
    by true h = ap (λ n. has_op op (if n == id then Some (change r) else row_of id rs)) (k.id r) ∙ pick (r.id == id)
    by false h = keep (r.id == id) _ _ h

-- the set's test of a key is the test of operation and identifier
key-test : (o p : OpName) (i j : ℕ) → is_at (key_cmp (o, i)) (p, j) ≡ (same_op o p && i == j)
key-test o p i j = grind (arith, nat_tests)

-- the index behind a row that came, where a set says what it has
pub index-put : (old new : BTreeSet (OpName × ℕ)) (r : Row) (rows : List Row) → row_of r.id rows ≡ None → Indexes old rows → ((q : OpName × ℕ) → contains key_cmp new q ≡ cond (is_at (key_cmp (r.op, r.id)) q) true (contains key_cmp old q)) → Indexes new (put r rows)
index-put old new r rows none index up op id = up (op, id) ∙ ap (λ b. cond b true (contains key_cmp old (op, id))) (key-test r.op op r.id id) ∙ ap (λ b. cond (same_op r.op op && r.id == id) true b) (index op id) ∙ by (same_op r.op op) (r.id == id) refl refl ∙ sym (ap (has_op op) (row-put r id rows none))
  where
    by : (a b : Bool) → same_op r.op op ≡ a → (r.id == id) ≡ b → cond (a && b) true (has_op op (row_of id rows)) ≡ has_op op (if b then Some r else row_of id rows)
    by true true p q = sym p
    by false true p q = ap (has_op op) (let e = eqb-true r.id id q in ap (λ i. row_of i rows) (sym e) ∙ none) ∙ sym p
    by true false p q = refl
    by false false p q = refl

-- behind a row that came and went
pub index-undone : (old new back : BTreeSet (OpName × ℕ)) (r : Row) (rows : List Row) → row_of r.id rows ≡ None → Indexes old rows → ((q : OpName × ℕ) → contains key_cmp new q ≡ cond (is_at (key_cmp (r.op, r.id)) q) true (contains key_cmp old q)) → ((q : OpName × ℕ) → contains key_cmp back q ≡ cond (is_at (key_cmp (r.op, r.id)) q) false (contains key_cmp new q)) → Indexes back rows
index-undone old new back r rows none index up down op id = down (op, id) ∙ by (is_at (key_cmp (r.op, r.id)) (op, id)) refl (contains key_cmp new (op, id)) (up (op, id))
  where
    gone : is_at (key_cmp (r.op, r.id)) (op, id) ≡ true → false ≡ has_op op (row_of id rows)
    gone t = ap (has_op op) (sym none ∙ ap (λ i. row_of i rows) (eqb-true r.id id (grind (arith, nat_tests, t))))

    by : (b : Bool) → is_at (key_cmp (r.op, r.id)) (op, id) ≡ b → (c : Bool) → c ≡ cond b true (contains key_cmp old (op, id)) → cond b false c ≡ has_op op (row_of id rows)
    by true t c u = gone t
    by false t c u = u ∙ index op id

-- behind a row that went
pub index-take : (old new : BTreeSet (OpName × ℕ)) (r : Row) (id low : ℕ) (rows : List Row) (next : ℕ) → Rises low rows next → row_of id rows ≡ Some r → Indexes old rows → ((q : OpName × ℕ) → contains key_cmp new q ≡ cond (is_at (key_cmp (r.op, id)) q) false (contains key_cmp old q)) → Indexes new (without id rows)
index-take old new r id low rows next rises found index up op j = up (op, j) ∙ ap (λ b. cond b false (contains key_cmp old (op, j))) (key-test r.op op id j) ∙ ap (λ b. cond (same_op r.op op && id == j) false b) (index op j) ∙ by (same_op r.op op) (id == j) refl refl ∙ sym (ap (has_op op) (row-without id j low rows next rises))
  where
    by : (a b : Bool) → same_op r.op op ≡ a → (id == j) ≡ b → cond (a && b) false (has_op op (row_of j rows)) ≡ has_op op (if b then None else row_of j rows)
    by true true p q = refl
    by false true p q = ap (has_op op) (let e = eqb-true id j q in ap (λ i. row_of i rows) (sym e) ∙ found) ∙ p
    by true false p q = refl
    by false false p q = refl

-- the first row of an operation has it, and is the lowest that has it
id-has : (op : OpName) (low : ℕ) (rows : List Row) (next m : ℕ) → Rises low rows next → id_of op rows ≡ Some m → (has_op op (row_of m rows) ≡ true) × (low ≤ m)
id-has op low [] next m h e = absurd (let bad : ◌≡◌ {A = Option ℕ} None (Some m) = e in cc)
id-has op low (r ∷ rs) next m h e = by (same_op r.op op) refl e (id-has op (r.id + 1) rs next m h.1)
  where
    by : (b : Bool) → same_op r.op op ≡ b → (if b then Some r.id else id_of op rs) ≡ Some m → (id_of op rs ≡ Some m → (has_op op (row_of m rs) ≡ true) × (r.id + 1 ≤ m)) → (has_op op (if r.id == m then Some r else row_of m rs) ≡ true) × (low ≤ m)
    by true p f ih = let same : r.id ≡ m = cc in (ap (λ b. has_op op (if b then Some r else row_of m rs)) (eq-eqb r.id m same) ∙ p, omega (arith, same, h.0))
    by false p f ih = let g = ih f in (ap (λ b. has_op op (if b then Some r else row_of m rs)) (ne_eqb r.id m (λ e. omega (arith, e, g.1))) ∙ g.0, omega (arith, g.1, h.0))

id-none : (op : OpName) (id : ℕ) (rows : List Row) → id_of op rows ≡ None → has_op op (row_of id rows) ≡ false
id-none op id [] e = refl
id-none op id (r ∷ rs) e = by (same_op r.op op) refl e (r.id == id) (id-none op id rs)
  where
    by : (b : Bool) → same_op r.op op ≡ b → (if b then Some r.id else id_of op rs) ≡ None → (c : Bool) → (id_of op rs ≡ None → has_op op (row_of id rs) ≡ false) → has_op op (if c then Some r else row_of id rs) ≡ false
    by true p f c ih = absurd (let bad : ◌≡◌ {A = Option ℕ} (Some r.id) None = f in cc)
    by false p f true ih = p
    by false p f false ih = ih f

-- only identifiers from the lowest on have rows
above : (op : OpName) (id low : ℕ) (rows : List Row) (next : ℕ) → Rises low rows next → has_op op (row_of id rows) ≡ true → low ≤ id
above op id low rows next h t = by (nat_le low id) refl
  where
    by : (b : Bool) → nat_le low id ≡ b → low ≤ id
    by true e = leb-true low id e
    by false e = absurd (let bad : false ≡ true = sym (ap (has_op op) (none-below id low rows next (grind (arith, nat_tests, e)) h)) ∙ t in cc)

id-least : (op : OpName) (low : ℕ) (rows : List Row) (next m id : ℕ) → Rises low rows next → id_of op rows ≡ Some m → has_op op (row_of id rows) ≡ true → m ≤ id
id-least op low [] next m id h e t = absurd (let bad : ◌≡◌ {A = Option ℕ} None (Some m) = e in cc)
id-least op low (r ∷ rs) next m id h e t = by (same_op r.op op) refl e (cases_eq r.id id) (id-least op (r.id + 1) rs next m id h.1)
  where
    here : r.id ≡ id → same_op r.op op ≡ true
    here s = ap (λ b. has_op op (if b then Some r else row_of id rs)) (sym (eq-eqb r.id id s)) ∙ t

    beyond : (r.id ≡ id → ⊥) → has_op op (row_of id rs) ≡ true
    beyond d = ap (λ b. has_op op (if b then Some r else row_of id rs)) (sym (ne_eqb r.id id d)) ∙ t

    by : (b : Bool) → same_op r.op op ≡ b → (if b then Some r.id else id_of op rs) ≡ Some m → (r.id ≡ id) ⊎ (r.id ≡ id → ⊥) → (id_of op rs ≡ Some m → has_op op (row_of id rs) ≡ true → m ≤ id) → m ≤ id
    by true p f (inl s) ih = let same : r.id ≡ m = cc in omega (arith, same, s)
    by true p f (inr d) ih = let same : r.id ≡ m = cc in let up = above op id (r.id + 1) rs next h.1 (beyond d) in omega (arith, same, up)
    by false p f (inl s) ih = absurd (let bad : false ≡ true = sym p ∙ here s in cc)
    by false p f (inr d) ih = ih f (beyond d)

-- no identifier, where the set has the operation with none
pub id-missed : (op : OpName) (keys : BTreeSet (OpName × ℕ)) (low : ℕ) (rows : List Row) (next : ℕ) → Rises low rows next → Indexes keys rows → ((id : ℕ) → contains key_cmp keys (op, id) ≡ false) → id_of op rows ≡ None
id-missed op keys low rows next h index none = by (id_of op rows) refl
  where
    by : (o : Option ℕ) → id_of op rows ≡ o → o ≡ None
    by None e = refl
    by (Some m) e = absurd (let bad : true ≡ false = sym (id-has op low rows next m h e).0 ∙ (sym (index op m) ∙ none m) in cc)

-- the least identifier with which the set has the operation
pub id-found : (op : OpName) (id : ℕ) (keys : BTreeSet (OpName × ℕ)) (low : ℕ) (rows : List Row) (next : ℕ) → Rises low rows next → Indexes keys rows → contains key_cmp keys (op, id) ≡ true → ((j : ℕ) → contains key_cmp keys (op, j) ≡ true → id ≤ j) → id_of op rows ≡ Some id
id-found op id keys low rows next h index has least = by (id_of op rows) refl
  where
    there : has_op op (row_of id rows) ≡ true
    there = sym (index op id) ∙ has

    by : (o : Option ℕ) → id_of op rows ≡ o → o ≡ Some id
    by None e = absurd (let bad : false ≡ true = sym (id-none op id rows e) ∙ there in cc)
    by (Some m) e = let low' = id-least op low rows next m id h e there in let up = least m (index op m ∙ (id-has op low rows next m h e).0) in ap Some (omega (arith, low', up))

-- names of one operation
pub same-op : (o p : OpName) → same_op o p ≡ true → o ≡ p
same-op o p h =
    let c : o.client ≡ p.client = grind (arith, nat_tests, h) in
    let k : o.k ≡ p.k = grind (arith, nat_tests, h) in
    λ i. record { client = c i; k = k i }

pub differ : true ≡ false → ⊥
differ e = cc

-- keys in their order
pub from-first : (op : OpName) (id : ℕ) → is_gt (key_cmp (op, 0) (op, id)) ≡ false
from-first op id = grind (arith, nat_tests)

pub id-le : (op p : OpName) (i j : ℕ) → same_op p op ≡ true → is_gt (key_cmp (p, i) (op, j)) ≡ false → i ≤ j
id-le op p i j s e = grind (arith, nat_tests, s, e)

pub between : (op p : OpName) (i j : ℕ) → is_gt (key_cmp (op, 0) (p, i)) ≡ false → is_gt (key_cmp (p, i) (op, j)) ≡ false → same_op p op ≡ true
between op p i j e f = grind (arith, nat_tests, e, f)

pub least-key : (r t : List (OpName × ℕ)) (k q : OpName × ℕ) → r ≡ k ∷ t → IfSome (slice_get r 0) (λ k. is_gt (key_cmp k q) ≡ false) → is_gt (key_cmp k q) ≡ false
least-key r t k q e h = rw e at h

pub first-key : (r t : List (OpName × ℕ)) (k : OpName × ℕ) (P : OpName × ℕ → Type 0) → r ≡ k ∷ t → IfSome (slice_get r 0) P → P k
first-key r t k P e h = rw e at h
