-- What stands of a connection, where a row comes, goes or is answered.
use Rattle.std.proofs.Common.{◌≡◌, ℕ, Bool, true, false, ◌==◌, if◌then◌else◌, List, [], ◌∷◌, Option, Some, None, refl, ap, ◌∙◌, sym}
use Rattle.std.specs.Prelude.{nat_lt, is_none, cond}
use Rattle.lload_names.specs.declared.names.OpName.{OpName}
use Rattle.lload_names.specs.Same.{same_op}
use Rattle.id_table.specs.declared.row.Row.{Row}
use Rattle.id_table.specs.Rows.{id_of, put, without, changed, answered}
use Rattle.conn_core.specs.Kept.{has_op, EachOnce, open_rows, IsPlain, ArePlain}
use Rattle.conn_core.proofs.Plain.{same-sym}

-- Operations.

pub none-has : (op : OpName) (rows : List Row) → id_of op rows ≡ None → has_op op rows ≡ false
none-has op [] h = refl
none-has op (r ∷ rs) h = by (same_op r.op op) refl h (none-has op rs)
  where
    by : (b : Bool) → same_op r.op op ≡ b → (if b then Some r.id else id_of op rs) ≡ None → (id_of op rs ≡ None → has_op op rs ≡ false) → has_op op (r ∷ rs) ≡ false
    by true t k ih = absurd (let bad : ◌≡◌ {A = Option ℕ} (Some r.id) None = k in cc)
    by false t k ih = ap (λ (b : Bool). let c : Bool = elim b [ true ↦ true | false ↦ has_op op rs ] in c) (same-sym op r.op ∙ t) ∙ ih k

has-step : (op : OpName) (x : Row) (rows : List Row) (b : Bool) → same_op op x.op ≡ b → has_op op (x ∷ rows) ≡ (if b then true else has_op op rows)
has-step op x rows true t = ap (λ (b : Bool). let c : Bool = elim b [ true ↦ true | false ↦ has_op op rows ] in c) t
has-step op x rows false t = ap (λ (b : Bool). let c : Bool = elim b [ true ↦ true | false ↦ has_op op rows ] in c) t

pub not-head : (op : OpName) (x : Row) (rows : List Row) → has_op op (x ∷ rows) ≡ false → (same_op op x.op ≡ false) × (has_op op rows ≡ false)
not-head op x rows h = by (same_op op x.op) refl
  where
    by : (b : Bool) → same_op op x.op ≡ b → (same_op op x.op ≡ false) × (has_op op rows ≡ false)
    by true t = absurd (let bad : true ≡ false = sym (has-step op x rows true t) ∙ h in cc)
    by false t = (t, sym (has-step op x rows false t) ∙ h)

both-not : (op : OpName) (x : Row) (rows : List Row) → same_op op x.op ≡ false → has_op op rows ≡ false → has_op op (x ∷ rows) ≡ false
both-not op x rows e h = has-step op x rows false e ∙ h

has-put : (op : OpName) (r : Row) (rows : List Row) → same_op op r.op ≡ false → has_op op rows ≡ false → has_op op (put r rows) ≡ false
has-put op r [] e h = both-not op r [] e h
has-put op r (x ∷ xs) e h = let k = not-head op x xs h in by (nat_lt r.id x.id) (both-not op x (put r xs) k.0 (has-put op r xs e k.1))
  where
    by : (b : Bool) → has_op op (x ∷ put r xs) ≡ false → has_op op (if b then r ∷ x ∷ xs else x ∷ put r xs) ≡ false
    by true i = both-not op r (x ∷ xs) e h
    by false i = i

pub once-put : (r : Row) (rows : List Row) → has_op r.op rows ≡ false → EachOnce rows → EachOnce (put r rows)
once-put r [] h e = (h, tt)
once-put r (x ∷ xs) h e = let k = not-head r.op x xs h in by (nat_lt r.id x.id) (has-put x.op r xs (same-sym x.op r.op ∙ k.0) e.0, once-put r xs k.1 e.1)
  where
    by : (b : Bool) → EachOnce (x ∷ put r xs) → EachOnce (if b then r ∷ x ∷ xs else x ∷ put r xs)
    by true i = (h, e)
    by false i = i

has-without : (op : OpName) (id : ℕ) (rows : List Row) → has_op op rows ≡ false → has_op op (without id rows) ≡ false
has-without op id [] h = refl
has-without op id (x ∷ xs) h = let k = not-head op x xs h in by (x.id == id) (both-not op x (without id xs) k.0 (has-without op id xs k.1))
  where
    by : (b : Bool) → has_op op (x ∷ without id xs) ≡ false → has_op op (if b then xs else x ∷ without id xs) ≡ false
    by true i = (not-head op x xs h).1
    by false i = i

pub once-without : (id : ℕ) (rows : List Row) → EachOnce rows → EachOnce (without id rows)
once-without id [] e = tt
once-without id (x ∷ xs) e = by (x.id == id) (has-without x.op id xs e.0, once-without id xs e.1)
  where
    by : (b : Bool) → EachOnce (x ∷ without id xs) → EachOnce (if b then xs else x ∷ without id xs)
    by true i = e.1
    by false i = i

has-answered : (op : OpName) (now id : ℕ) (rows : List Row) → has_op op (changed (answered now) id rows) ≡ has_op op rows
has-answered op now id [] = refl
has-answered op now id (x ∷ xs) = by (x.id == id) (has-answered op now id xs)
  where
    by : (b : Bool) → has_op op (changed (answered now) id xs) ≡ has_op op xs → has_op op (if b then answered now x ∷ xs else x ∷ changed (answered now) id xs) ≡ has_op op (x ∷ xs)
    by true i = refl
    by false i = ap (λ (t : Bool). let c : Bool = elim (same_op op x.op) [ true ↦ true | false ↦ t ] in c) i

pub once-answered : (now id : ℕ) (rows : List Row) → EachOnce rows → EachOnce (changed (answered now) id rows)
once-answered now id [] e = tt
once-answered now id (x ∷ xs) e = by (x.id == id) (has-answered x.op now id xs ∙ e.0, once-answered now id xs e.1)
  where
    by : (b : Bool) → EachOnce (x ∷ changed (answered now) id xs) → EachOnce (if b then answered now x ∷ xs else x ∷ changed (answered now) id xs)
    by true i = e
    by false i = i

-- Plain rows.

pub plain-put : (r : Row) (rows : List Row) → IsPlain r → ArePlain rows → ArePlain (put r rows)
plain-put r [] h p = (h, tt)
plain-put r (x ∷ xs) h p = by (nat_lt r.id x.id) (p.0, plain-put r xs h p.1)
  where
    by : (b : Bool) → ArePlain (x ∷ put r xs) → ArePlain (if b then r ∷ x ∷ xs else x ∷ put r xs)
    by true i = (h, p)
    by false i = i

pub plain-without : (id : ℕ) (rows : List Row) → ArePlain rows → ArePlain (without id rows)
plain-without id [] p = tt
plain-without id (x ∷ xs) p = by (x.id == id) (p.0, plain-without id xs p.1)
  where
    by : (b : Bool) → ArePlain (x ∷ without id xs) → ArePlain (if b then xs else x ∷ without id xs)
    by true i = p.1
    by false i = i

pub plain-answered : (now id : ℕ) (rows : List Row) → ArePlain rows → ArePlain (changed (answered now) id rows)
plain-answered now id [] p = tt
plain-answered now id (x ∷ xs) p = by (x.id == id) (p.0, plain-answered now id xs p.1)
  where
    by : (b : Bool) → ArePlain (x ∷ changed (answered now) id xs) → ArePlain (if b then answered now x ∷ xs else x ∷ changed (answered now) id xs)
    by true i = (record { kind = p.0.kind; kept = p.0.kept }, p.1)
    by false i = i

-- Where the rows are plain, each may want one message of the proxy's own.
pub open-plain : (rows : List Row) → ArePlain rows → open_rows rows ≡ rows
open-plain [] p = refl
open-plain (r ∷ rs) p = ap (λ (o : Bool). cond o (r ∷ open_rows rs) (open_rows rs)) (ap is_none p.0.kept) ∙ ap (λ l. r ∷ l) (open-plain rs p.1)
