-- The rows of a regular connection, as the state has them: a message, an own message and the like are about one row.
use Rattle.std.proofs.Common.{◌≡◌, ℕ, ◌+◌, ◌<◌, Bool, true, false, ◌==◌, ◌&&◌, ◌||◌, not, if◌then◌else◌, List, [], ◌∷◌, ◌++◌, map, Option, Some, None, arith, refl, ap, ◌∙◌, sym}
use Rattle.std.proofs.lemmas.Bool.Decides.{nat_tests}
use Rattle.std.specs.Prelude.{nat_lt, flat_map, find, is_some}
use Rattle.std.specs.List.{list_any}
use Rattle.lload_names.specs.declared.names.OpName.{OpName}
use Rattle.lload_names.specs.Same.{same_op}
use Rattle.lload_spec.specs.BadMessages.{OpenRequest}
use Rattle.lload_spec.specs.BadMessages as bad
use Rattle.id_table.specs.declared.row.Row.{Row}
use Rattle.id_table.specs.declared.row.Kept.{Kept}
use Rattle.id_table.specs.Rows.{row_of, id_of, put, without, changed, Rises}
use Rattle.part_spec.specs.ConnectionState.{UpRow, put_row, is_under, is_under_who, open_request}
use Rattle.conn_core.specs.Kept.{up_kept, up_row, up_found, IsPlain, ArePlain}
use Rattle.conn_core.proofs.Rows.{other-row}

pub none-below : (id low next : ℕ) (rows : List Row) → Rises low rows next → id < low → row_of id rows ≡ None
none-below id low next [] h l = refl
none-below id low next (r ∷ rs) h l =
    let apart : (r.id == id) ≡ false = grind (arith, nat_tests, h.0, l) in
    other-row id r false _ apart refl ∙ none-below id (r.id + 1) next rs h.1 (omega (arith, h.0, l))

head-other : (b : Bool) (r : Row) (o : Option Row) → (if b then Some r else o) ≡ None → (b ≡ false) × (o ≡ None)
head-other true r o h = absurd (let bad : ◌≡◌ {A = Option Row} (Some r) None = h in cc)
head-other false r o h = (refl, h)

-- a function of rows that leaves each row apart from an identifier as it is
abbrev pub Leaves : (UpRow → List UpRow) → ℕ → Type 0
Leaves f id = (r : Row) → IsPlain r → (r.id == id) ≡ false → f (up_row r) ≡ up_row r ∷ []

two : (f g : List UpRow) (x : UpRow) (h : List UpRow) → f ≡ x ∷ [] → g ≡ h → f ++ g ≡ x ∷ h
two f g x h e k = ap (λ l. l ++ g) e ∙ ap (λ l. x ∷ l) k

module _ (f : UpRow → List UpRow) (id : ℕ) (leaves : Leaves f id) where
  pub flat-none : (rows : List Row) → ArePlain rows → row_of id rows ≡ None → flat_map f (map up_row rows) ≡ map up_row rows
  flat-none [] p n = refl
  flat-none (r ∷ rs) p n =
      let other = head-other (r.id == id) r (row_of id rs) n in
      two (f (up_row r)) _ (up_row r) _ (leaves r p.0 other.0) (flat-none rs p.1 other.1)

  pub flat-gone : (low next : ℕ) (rows : List Row) (x : Row) → Rises low rows next → ArePlain rows → row_of id rows ≡ Some x → f (up_row x) ≡ [] → flat_map f (map up_row rows) ≡ map up_row (without id rows)
  flat-gone low next [] x h p e g = absurd (let bad : ◌≡◌ {A = Option Row} None (Some x) = e in cc)
  flat-gone low next (r ∷ rs) x h p e g = by (r.id == id) refl e (flat-gone (r.id + 1) next rs x h.1 p.1)
    where
      here : (r.id == id) ≡ true → row_of id rs ≡ None
      here t = none-below id (r.id + 1) next rs h.1 (grind (arith, nat_tests, t))

      by : (b : Bool) → (r.id == id) ≡ b → (if b then Some r else row_of id rs) ≡ Some x → (row_of id rs ≡ Some x → f (up_row x) ≡ [] → flat_map f (map up_row rs) ≡ map up_row (without id rs)) → f (up_row r) ++ flat_map f (map up_row rs) ≡ map up_row (if b then rs else r ∷ without id rs)
      by true t k ih = let same : r ≡ x = cc in ap (λ (y : Row). f (up_row y) ++ flat_map f (map up_row rs)) same ∙ ap (λ l. l ++ flat_map f (map up_row rs)) g ∙ flat-none rs p.1 (here t)
      by false t k ih = two (f (up_row r)) _ (up_row r) _ (leaves r p.0 t) (ih k g)

  pub flat-changed : (c : Row → Row) (low next : ℕ) (rows : List Row) (x : Row) → Rises low rows next → ArePlain rows → row_of id rows ≡ Some x → f (up_row x) ≡ up_row (c x) ∷ [] → flat_map f (map up_row rows) ≡ map up_row (changed c id rows)
  flat-changed c low next [] x h p e g = absurd (let bad : ◌≡◌ {A = Option Row} None (Some x) = e in cc)
  flat-changed c low next (r ∷ rs) x h p e g = by (r.id == id) refl e (flat-changed c (r.id + 1) next rs x h.1 p.1)
    where
      here : (r.id == id) ≡ true → row_of id rs ≡ None
      here t = none-below id (r.id + 1) next rs h.1 (grind (arith, nat_tests, t))

      by : (b : Bool) → (r.id == id) ≡ b → (if b then Some r else row_of id rs) ≡ Some x → (row_of id rs ≡ Some x → f (up_row x) ≡ up_row (c x) ∷ [] → flat_map f (map up_row rs) ≡ map up_row (changed c id rs)) → f (up_row r) ++ flat_map f (map up_row rs) ≡ map up_row (if b then c r ∷ rs else r ∷ changed c id rs)
      by true t k ih = let same : r ≡ x = cc in two (f (up_row r)) _ (up_row (c r)) _ (ap (λ (y : Row). f (up_row y)) same ∙ g ∙ ap (λ (y : Row). up_row (c y) ∷ []) (sym same)) (flat-none rs p.1 (here t))
      by false t k ih = two (f (up_row r)) _ (up_row r) _ (leaves r p.0 t) (ih k g)

-- a function of rows that gives nothing for each row apart from an identifier
abbrev pub Skips : (UpRow → List ℕ) → ℕ → Type 0
Skips f id = (r : Row) → IsPlain r → (r.id == id) ≡ false → f (up_row r) ≡ []

skip : (f g h : List ℕ) → f ≡ [] → g ≡ h → f ++ g ≡ h
skip f g h e k = ap (λ l. l ++ g) e ∙ k

append-none : (f g : List ℕ) → g ≡ [] → f ++ g ≡ f
append-none [] g e = e
append-none (x ∷ f) g e = ap (λ l. x ∷ l) (append-none f g e)

module _ (f : UpRow → List ℕ) (id : ℕ) (skips : Skips f id) where
  pub skip-none : (rows : List Row) → ArePlain rows → row_of id rows ≡ None → flat_map f (map up_row rows) ≡ []
  skip-none [] p n = refl
  skip-none (r ∷ rs) p n =
      let other = head-other (r.id == id) r (row_of id rs) n in
      skip (f (up_row r)) _ _ (skips r p.0 other.0) (skip-none rs p.1 other.1)

  pub skip-one : (low next : ℕ) (rows : List Row) (x : Row) → Rises low rows next → ArePlain rows → row_of id rows ≡ Some x → flat_map f (map up_row rows) ≡ f (up_row x)
  skip-one low next [] x h p e = absurd (let bad : ◌≡◌ {A = Option Row} None (Some x) = e in cc)
  skip-one low next (r ∷ rs) x h p e = by (r.id == id) refl e (skip-one (r.id + 1) next rs x h.1 p.1)
    where
      here : (r.id == id) ≡ true → row_of id rs ≡ None
      here t = none-below id (r.id + 1) next rs h.1 (grind (arith, nat_tests, t))

      by : (b : Bool) → (r.id == id) ≡ b → (if b then Some r else row_of id rs) ≡ Some x → (row_of id rs ≡ Some x → flat_map f (map up_row rs) ≡ f (up_row x)) → f (up_row r) ++ flat_map f (map up_row rs) ≡ f (up_row x)
      by true t k ih = let same : r ≡ x = cc in append-none (f (up_row r)) _ (skip-none rs p.1 (here t)) ∙ ap (λ (y : Row). f (up_row y)) same
      by false t k ih = skip (f (up_row r)) _ _ (skips r p.0 t) (ih k)

-- a row comes
pub rows-put : (r : Row) (rows : List Row) → row_of r.id rows ≡ None → put_row (up_row r) (map up_row rows) ≡ map up_row (put r rows)
rows-put r [] n = refl
rows-put r (x ∷ xs) n = by (x.id == r.id) refl (nat_lt x.id r.id) refl n (rows-put r xs)
  where
    turned : (x.id == r.id) ≡ false → (b : Bool) → nat_lt x.id r.id ≡ b → nat_lt r.id x.id ≡ not b
    turned e true t = grind (arith, nat_tests, e, t)
    turned e false t = grind (arith, nat_tests, e, t)

    by : (b : Bool) → (x.id == r.id) ≡ b → (d : Bool) → nat_lt x.id r.id ≡ d → (if b then Some x else row_of r.id xs) ≡ None → (row_of r.id xs ≡ None → put_row (up_row r) (map up_row xs) ≡ map up_row (put r xs)) → (elim d [ true ↦ up_row x ∷ put_row (up_row r) (map up_row xs) | false ↦ up_row r ∷ up_row x ∷ map up_row xs ]) ≡ map up_row (put r (x ∷ xs))
    by true t d u k ih = absurd (let bad : ◌≡◌ {A = Option Row} (Some x) None = k in cc)
    by false t true u k ih = ap (λ l. up_row x ∷ l) (ih k) ∙ sym (ap (λ (c : Bool). map up_row (if c then r ∷ x ∷ xs else x ∷ put r xs)) (turned t true u))
    by false t false u k ih = sym (ap (λ (c : Bool). map up_row (if c then r ∷ x ∷ xs else x ∷ put r xs)) (turned t false u))

-- a plain row answers under its identifier alone
pub under-is : (id : ℕ) (r : Row) → r.kept ≡ None → is_under id (up_row r) ≡ (r.id == id)
under-is id r h = ap (λ (k : Option Kept). r.id == id && not (is_some (up_kept k))) h ∙ and-true (r.id == id)
  where
    and-true : (b : Bool) → (b && true) ≡ b
    and-true true = refl
    and-true false = refl

pub who-is : (id : ℕ) (r : Row) → r.kept ≡ None → is_under_who id (up_row r) ≡ false
who-is id r h = ap (λ (k : Option Kept). is_under_who id (record (up_row r) { kept = up_kept k })) h

pick : (a b : Bool) (r : Row) (o : Option UpRow) (p : Option Row) → a ≡ b → o ≡ up_found p → (if a then Some (up_row r) else o) ≡ up_found (if b then Some r else p)
pick true true r o p h e = refl
pick false false r o p h e = e
pick true false r o p h e = absurd (let bad : true ≡ false = h in cc)
pick false true r o p h e = absurd (let bad : false ≡ true = h in cc)

-- the row that a message answers
pub find-under : (id : ℕ) (rows : List Row) → ArePlain rows → find (is_under id) (map up_row rows) ≡ up_found (row_of id rows)
find-under id [] p = refl
find-under id (r ∷ rs) p = pick (is_under id (up_row r)) (r.id == id) r _ _ (under-is id r p.0.kept) (find-under id rs p.1)

abbrev pub asked : Option Row → Option OpenRequest
asked None = None
asked (Some r) = Some (open_request (up_row r))

pick-asked : (a b : Bool) (r : Row) (o : Option OpenRequest) (p : Option Row) → a ≡ b → o ≡ asked p → (if a then Some (open_request (up_row r)) else o) ≡ asked (if b then Some r else p)
pick-asked true true r o p h e = refl
pick-asked false false r o p h e = e
pick-asked true false r o p h e = absurd (let bad : true ≡ false = h in cc)
pick-asked false true r o p h e = absurd (let bad : false ≡ true = h in cc)

pub find-request : (id : ℕ) (rows : List Row) → ArePlain rows → find (bad.is_under id) (map open_request (map up_row rows)) ≡ asked (row_of id rows)
find-request id [] p = refl
find-request id (r ∷ rs) p = pick-asked (is_under id (up_row r)) (r.id == id) r _ _ (under-is id r p.0.kept) (find-request id rs p.1)

pub none-under-who : (id : ℕ) (rows : List Row) → ArePlain rows → list_any (bad.is_under_who id) (map open_request (map up_row rows)) ≡ false
none-under-who id [] p = refl
none-under-who id (r ∷ rs) p = both (is_under_who id (up_row r)) _ (who-is id r p.0.kept) (none-under-who id rs p.1)
  where
    both : (a b : Bool) → a ≡ false → b ≡ false → (a || b) ≡ false
    both true b h k = h
    both false b h k = k

-- Operations by their names.

pub same-sym : (a b : OpName) → same_op a b ≡ same_op b a
same-sym a b = grind (arith, nat_tests)

pub named-none : (op : OpName) (rows : List Row) → id_of op rows ≡ None → find (λ r. same_op op r.op) (map up_row rows) ≡ None
named-none op [] h = refl
named-none op (r ∷ rs) h = by (same_op r.op op) refl h (named-none op rs)
  where
    by : (b : Bool) → same_op r.op op ≡ b → (if b then Some r.id else id_of op rs) ≡ None → (id_of op rs ≡ None → find (λ x. same_op op x.op) (map up_row rs) ≡ None) → find (λ x. same_op op x.op) (map up_row (r ∷ rs)) ≡ None
    by true t k ih = absurd (let bad : ◌≡◌ {A = Option ℕ} (Some r.id) None = k in cc)
    by false t k ih = ap (λ (b : Bool). if b then Some (up_row r) else find (λ x. same_op op x.op) (map up_row rs)) (same-sym op r.op ∙ t) ∙ ih k
