-- The rows and identifiers of a regular connection: what is said of each, and of those without one.
use Rattle.std.proofs.Common.{◌≡◌, ℕ, ◌≤◌, Bool, true, false, ◌==◌, ◌||◌, not, if◌then◌else◌, List, [], ◌∷◌, ◌++◌, refl, ap, arith, ◌∙◌, sym, subst}
use Rattle.std.specs.Prelude.{Some, None, filter, flat_map, find, cond, nat_lt, is_some}
use Rattle.std.specs.List.{list_any, list_all}
use Rattle.std.specs.Str.{bytes_eq}
use Rattle.std.proofs.lemmas.Bool.{ltb-true, lt-ltb}
use Rattle.ldap_spec.specs.Bodies.{abandon}
use Rattle.lload_names.specs.declared.names.OpName.{OpName}
use Rattle.lload_spec.specs.Journal.{same_op}
use Rattle.lload_spec.specs.Identifiers.{Ids}
use Rattle.part_spec.specs.ConnectionState.{ConnectionState, UpRow}
use Rattle.move_laws.specs.World.{Conn, put2}
use Rattle.stands_laws.specs.Books.{Book, name}
use Rattle.stands_laws.specs.Lists.{Each, EachTwo}
use Rattle.stands_laws.specs.RegularStands.{RowIs, AreApart, IsFree, RegularRows, is_row_of}
use Rattle.lload_spec.proofs.Growth.{left, right, both}
use Rattle.lload_laws.proofs.ListLaws.{all_imply, bytes_same, found}
use Rattle.part_laws.proofs.ListLaws.{not_true, false_by, eqb_sym, eqb_same, same_number, same_op_refl, same_op_sym, same_op_eq}
use Rattle.connection_laws.proofs.Apart.{abandon_apart, is_apart, are_apart, apart_filter, is_taken, taken_filter}

-- What holds of each.
pub each_imply : {A : Type 0} (P Q : A → Type 0) (xs : List A) → ((x : A) → P x → Q x) → Each P xs → Each Q xs
each_imply P Q [] f h = tt
each_imply P Q (x ∷ xs) f h = (f x h.0, each_imply P Q xs f h.1)

pub each_both : {A : Type 0} (P Q : A → Type 0) (xs : List A) → Each P xs → Each Q xs → Each (λ x. P x × Q x) xs
each_both P Q [] h k = tt
each_both P Q (x ∷ xs) h k = ((h.0, k.0), each_both P Q xs h.1 k.1)

pub each_append : {A : Type 0} (P : A → Type 0) (xs ys : List A) → Each P xs → Each P ys → Each P (xs ++ ys)
each_append P [] ys h k = k
each_append P (x ∷ xs) ys h k = (h.0, each_append P xs ys h.1 k)

pub each_flat : {A : Type 0} (P Q : A → Type 0) (f : A → List A) (xs : List A) → ((x : A) → P x → Each Q (f x)) → Each P xs → Each Q (flat_map f xs)
each_flat P Q f [] g h = tt
each_flat P Q f (x ∷ xs) g h = each_append Q (f x) (flat_map f xs) (g x h.0) (each_flat P Q f xs g h.1)

pub each_filter : {A : Type 0} (P : A → Type 0) (t : A → Bool) (xs : List A) → Each P xs → Each P (filter t xs)
each_filter P t [] h = tt
each_filter P t (x ∷ xs) h = more (t x) (each_filter P t xs h.1)
  where
    more : (q : Bool) → Each P (filter t xs) → Each P (cond q (x ∷ filter t xs) (filter t xs))
    more true k = (h.0, k)
    more false k = k

pub each_found : {A : Type 0} (P : A → Type 0) (t : A → Bool) (xs : List A) (y : A) → find t xs ≡ Some y → Each P xs → P y
each_found P t [] y e h = absurd (let bad : None ≡ Some y = e in cc)
each_found P t (x ∷ xs) y e h = go (t x) e (λ i. each_found P t xs y i h.1)
  where
    go : (q : Bool) → cond q (Some x) (find t xs) ≡ Some y → (find t xs ≡ Some y → P y) → P y
    go true i k = let same : x ≡ y = cc in subst P same h.0
    go false i k = k i

-- what becomes of each is it or nothing
pub flat_filter : {A : Type 0} (f : A → List A) (t : A → Bool) (xs : List A) → Each (λ x. f x ≡ cond (t x) (x ∷ []) []) xs → flat_map f xs ≡ filter t xs
flat_filter f t [] h = refl
flat_filter f t (x ∷ xs) h = ap (λ l. l ++ flat_map f xs) h.0 ∙ (ap (λ l. cond (t x) (x ∷ []) [] ++ l) (flat_filter f t xs h.1) ∙ one (t x))
  where
    one : (q : Bool) → cond q (x ∷ []) [] ++ filter t xs ≡ cond q (x ∷ filter t xs) (filter t xs)
    one true = refl
    one false = refl

pub filter_all : {A : Type 0} (t : A → Bool) (xs : List A) → Each (λ x. t x ≡ true) xs → filter t xs ≡ xs
filter_all t [] h = refl
filter_all t (x ∷ xs) h = ap (λ q. cond q (x ∷ filter t xs) (filter t xs)) h.0 ∙ ap (λ l. x ∷ l) (filter_all t xs h.1)

-- Rows that are apart, as the laws of connections say it.
two_apart : (rows : List UpRow) → EachTwo AreApart rows → are_apart rows ≡ true
two_apart [] h = refl
two_apart (r ∷ rows) h = both _ _ (all_apart r rows h.0) (two_apart rows h.1)
  where
    all_apart : (r : UpRow) (qs : List UpRow) → Each (AreApart r) qs → list_all (is_apart r) qs ≡ true
    all_apart r [] h = refl
    all_apart r (q ∷ qs) h = both (is_apart r q) _ (both (not (same_op r.op q.op)) _ (ap not h.0.ops) (ap not h.0.ids)) (all_apart r qs h.1)

apart_two : (rows : List UpRow) → are_apart rows ≡ true → EachTwo AreApart rows
apart_two [] h = tt
apart_two (r ∷ rows) h = (each_apart r rows (left (list_all (is_apart r) rows) _ h), apart_two rows (right (list_all (is_apart r) rows) _ h))
  where
    one : (r q : UpRow) → is_apart r q ≡ true → AreApart r q
    one r q h = record { ops = not_true (same_op r.op q.op) (left (not (same_op r.op q.op)) _ h); ids = not_true (r.id == q.id) (right (not (same_op r.op q.op)) _ h) }

    each_apart : (r : UpRow) (qs : List UpRow) → list_all (is_apart r) qs ≡ true → Each (AreApart r) qs
    each_apart r [] h = tt
    each_apart r (q ∷ qs) h = (one r q (left (is_apart r q) _ h), each_apart r qs (right (is_apart r q) _ h))

-- the rows with the identifiers, and the operations that are live
pub record RowsStand (b : Book) (i : Ids) (rows : List UpRow) (live : ℕ → ℕ → Bool) : Type 0 where
  pub ops : (c k : ℕ) → list_any (is_row_of (name c k)) rows ≡ live c k
  pub each : Each (RowIs b i.next) rows
  pub apart : are_apart rows ≡ true
  pub above : list_all (λ n. nat_lt 0 n) i.free ≡ true
  pub below : list_all (λ n. nat_lt n i.next) i.free ≡ true
  pub free : list_all (λ n. not (is_taken rows n)) i.free ≡ true

pub rows_stand : (b : Book) (p : ConnectionState) (v : Conn) → RegularRows b p v → RowsStand b p.ids p.rows v.rows
rows_stand b p v h = record {
  ops = h.ops;
  each = h.each;
  apart = two_apart p.rows h.apart;
  above = all (λ n. nat_lt 0 n) p.ids.free (λ n k. lt-ltb 0 n k.above) h.free;
  below = all (λ n. nat_lt n p.ids.next) p.ids.free (λ n k. lt-ltb n p.ids.next k.below) h.free;
  free = all (λ n. not (is_taken p.rows n)) p.ids.free (λ n k. ap not k.unused) h.free;
}
  where
    all : (t : ℕ → Bool) (ns : List ℕ) → ((n : ℕ) → IsFree p.ids.next p.rows n → t n ≡ true) → Each (IsFree p.ids.next p.rows) ns → list_all t ns ≡ true
    all t [] f h = refl
    all t (n ∷ ns) f h = both (t n) _ (f n h.0) (all t ns f h.1)

pub regular_rows : (b : Book) (p : ConnectionState) (v : Conn) → RowsStand b p.ids p.rows v.rows → (p.linked ≡ false → p.own_bind ≡ None) → (is_some p.own_bind ≡ true → p.up ≡ false) → (p.up ≡ false → p.rows ≡ []) → RegularRows b p v
regular_rows b p v h g w z = record {
  ops = h.ops;
  each = h.each;
  apart = apart_two p.rows h.apart;
  free = free p.ids.free h.above h.below h.free;
  begun = g;
  waits = w;
  unused = z;
}
  where
    free : (ns : List ℕ) → list_all (λ n. nat_lt 0 n) ns ≡ true → list_all (λ n. nat_lt n p.ids.next) ns ≡ true → list_all (λ n. not (is_taken p.rows n)) ns ≡ true → Each (IsFree p.ids.next p.rows) ns
    free [] f g h = tt
    free (n ∷ ns) f g h = (record { above = ltb-true 0 n (left (nat_lt 0 n) _ f); below = ltb-true n p.ids.next (left (nat_lt n p.ids.next) _ g); unused = not_true (is_taken p.rows n) (left (not (is_taken p.rows n)) _ h) }, free ns (right (nat_lt 0 n) _ f) (right (nat_lt n p.ids.next) _ g) (right (not (is_taken p.rows n)) _ h))

-- A row among those that are apart: it alone has its name, and its identifier.
pub record Alike (r q : UpRow) : Type 0 where
  pub same : (q.id == r.id) ≡ true → q ≡ r
  pub op : (q.id == r.id) ≡ same_op r.op q.op

pub alike : (t : UpRow → Bool) (rows : List UpRow) (r : UpRow) → find t rows ≡ Some r → are_apart rows ≡ true → Each (Alike r) rows
alike t [] r e h = tt
alike t (x ∷ rows) r e h = go (t x) e (λ i. alike t rows r i (right (list_all (is_apart x) rows) _ h))
  where
    itself : x ≡ r → Alike r x
    itself i = record { same = λ _. i; op = ap (λ (q : UpRow). q.id == r.id) i ∙ (eqb_same r.id ∙ (sym (same_op_refl r.op) ∙ ap (λ (q : UpRow). same_op r.op q.op) (sym i))) }

    other : (q : UpRow) → is_apart r q ≡ true → Alike r q
    other q k =
        let ids : (q.id == r.id) ≡ false = eqb_sym q.id r.id ∙ not_true (r.id == q.id) (right (not (same_op r.op q.op)) _ k) in
        record { same = λ i. absurd (let bad : true ≡ false = sym i ∙ ids in cc); op = ids ∙ sym (not_true (same_op r.op q.op) (left (not (same_op r.op q.op)) _ k)) }

    others : (qs : List UpRow) → list_all (is_apart r) qs ≡ true → Each (Alike r) qs
    others [] k = tt
    others (q ∷ qs) k = (other q (left (is_apart r q) _ k), others qs (right (is_apart r q) _ k))

    turned : (q p : UpRow) → is_apart q p ≡ true → is_apart p q ≡ true
    turned q p k = both (not (same_op p.op q.op)) _ (ap not (same_op_sym p.op q.op) ∙ left (not (same_op q.op p.op)) _ k) (ap not (eqb_sym p.id q.id) ∙ right (not (same_op q.op p.op)) _ k)

    go : (b : Bool) → cond b (Some x) (find t rows) ≡ Some r → (find t rows ≡ Some r → Each (Alike r) rows) → Each (Alike r) (x ∷ rows)
    go true i k = let same : x ≡ r = cc in (itself same, others rows (ap (λ q. list_all (is_apart q) rows) (sym same) ∙ left (list_all (is_apart x) rows) _ h))
    go false i k = (other x (turned x r (found (is_apart x) t rows r i (left (list_all (is_apart x) rows) _ h))), k i)

-- which operations are live without one
pub any_dropped : (n o : OpName) (t : UpRow → Bool) (rows : List UpRow) → Each (λ r. t r ≡ not (same_op o r.op)) rows → list_any (is_row_of n) (filter t rows) ≡ (if same_op n o then false else list_any (is_row_of n) rows)
any_dropped n o t [] h = none (same_op n o)
  where
    none : (q : Bool) → false ≡ (if q then false else false)
    none true = refl
    none false = refl
any_dropped n o t (r ∷ rows) h = ap (λ q. list_any (is_row_of n) (cond q (r ∷ filter t rows) (filter t rows))) h.0 ∙ go (same_op o r.op) (same_op n o) (same_op n r.op) refl refl refl (any_dropped n o t rows h.1)
  where
    go : (p z q : Bool) → same_op o r.op ≡ p → same_op n o ≡ z → same_op n r.op ≡ q → list_any (is_row_of n) (filter t rows) ≡ (if same_op n o then false else list_any (is_row_of n) rows) → list_any (is_row_of n) (cond (not p) (r ∷ filter t rows) (filter t rows)) ≡ (if z then false else (same_op n r.op || list_any (is_row_of n) rows))
    go true true q i j k e = e ∙ ap (λ (x : Bool). if x then false else list_any (is_row_of n) rows) j
    go true false q i j k e = e ∙ (ap (λ (x : Bool). if x then false else list_any (is_row_of n) rows) j ∙ ap (λ x. x || list_any (is_row_of n) rows) (sym (ap (same_op n) (sym (same_op_eq o r.op i)) ∙ j)))
    go false true q i j k e = ap (λ x. x || list_any (is_row_of n) (filter t rows)) (ap (λ m. same_op m r.op) (same_op_eq n o j) ∙ i) ∙ (e ∙ ap (λ (x : Bool). if x then false else list_any (is_row_of n) rows) j)
    go false false q i j k e = ap (λ x. same_op n r.op || x) (e ∙ ap (λ (x : Bool). if x then false else list_any (is_row_of n) rows) j)

-- fewer rows
pub rows_filter : (b : Book) (i : Ids) (rows : List UpRow) (live more : ℕ → ℕ → Bool) (t : UpRow → Bool) → RowsStand b i rows live → ((c k : ℕ) → list_any (is_row_of (name c k)) (filter t rows) ≡ more c k) → RowsStand b i (filter t rows) more
rows_filter b i rows live more t h ops = record {
  ops = ops;
  each = each_filter (RowIs b i.next) t rows h.each;
  apart = apart_filter t rows h.apart;
  above = h.above;
  below = h.below;
  free = all_imply (λ n. not (is_taken rows n)) (λ n. not (is_taken (filter t rows) n)) i.free (λ n k. ap not (taken_filter t n rows (not_true (is_taken rows n) k))) h.free;
}

-- the rows without one of them
pub rows_without : (b : Book) (i : Ids) (rows : List UpRow) (live : ℕ → ℕ → Bool) (t : UpRow → Bool) (r : UpRow) → RowsStand b i rows live → Each (λ q. t q ≡ not (same_op r.op q.op)) rows → RowsStand b i (filter t rows) (put2 live r.op.client r.op.k false)
rows_without b i rows live t r h e = rows_filter b i rows live (put2 live r.op.client r.op.k false) t h (λ c k. any_dropped (name c k) r.op t rows e ∙ ap (λ (x : Bool). if same_op (name c k) r.op then false else x) (h.ops c k))

-- a later next identifier
pub rows_later : (b : Book) (i : Ids) (next : ℕ) (rows : List UpRow) (live : ℕ → ℕ → Bool) → i.next ≤ next → RowsStand b i rows live → RowsStand b (record i { next = next }) rows live
rows_later b i next rows live l h = record {
  ops = h.ops;
  each = each_imply (RowIs b i.next) (RowIs b next) rows (λ r k. let m = k.below in record { kind = k.kind; plain = k.plain; kept = k.kept; above = k.above; below = omega arith }) h.each;
  apart = h.apart;
  above = h.above;
  below = all_imply (λ n. nat_lt n i.next) (λ n. nat_lt n next) i.free (λ n k. lt-ltb n next (let m = ltb-true n i.next k in omega arith)) h.below;
  free = h.free;
}

-- an Abandon names one identifier
pub abandon_test : (i j : ℕ) → bytes_eq (abandon i) (abandon j) ≡ (j == i)
abandon_test i j = go (j == i) refl
  where
    go : (q : Bool) → (j == i) ≡ q → bytes_eq (abandon i) (abandon j) ≡ q
    go true e = ap (λ n. bytes_eq (abandon i) (abandon n)) (same_number j i e) ∙ bytes_same (abandon i)
    go false e = false_by (bytes_eq (abandon i) (abandon j)) (λ k. sym e ∙ (ap (λ n. j == n) (abandon_apart i j k) ∙ eqb_same j))
