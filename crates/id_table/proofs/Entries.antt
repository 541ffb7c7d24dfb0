-- The entries of the map, and the rows that they stand for.
use Rattle.std.proofs.Common.{◌≡◌, ℕ, suc, Bool, true, false, ◌==◌, if◌then◌else◌, cond, List, [], ◌∷◌, length, Option, Some, None, arith, refl, ap, ◌∙◌, sym}
use Rattle.std.proofs.lemmas.Bool.Decides.{nat_tests}
use Rattle.std.specs.Prelude.{nat_lt}
use Rattle.std.specs.BTreeMap.{insert_entry, is_at}
use Rattle.std.specs.Map.{lookup, remove_entry, set_value}
use Rattle.std.specs.Ordering.{nat_cmp, match_ordering}
use Rattle.std.specs.declared.cmp.Ordering.{Ordering}
use Rattle.std.specs.declared.cmp.Ordering.TheVariants.{Less, Equal, Greater}
use Rattle.id_table.specs.Rows.{row_of, put, without, changed}
use Rattle.id_table.specs.Filed.{rows_of, AreFiled}
use Rattle.id_table.specs.declared.row.Row.{Row}

-- the map's test of a key is the rows' test of an identifier
at-key : (id k : ℕ) → is_at (nat_cmp id) k ≡ (k == id)
at-key id k = grind (arith, nat_tests)

same-test : (id : ℕ) (e : ℕ × Row) → e.1.id ≡ e.0 → (e.1.id == id) ≡ is_at (nat_cmp id) e.0
same-test id e h = ap (λ k. k == id) h ∙ sym (at-key id e.0)

pub rows-length : (es : List (ℕ × Row)) → length (rows_of es) ≡ length es
rows-length [] = refl
rows-length (e ∷ es) = ap suc (rows-length es)

pick : {A : Type 0} (a b : Bool) (x y z : A) → a ≡ b → y ≡ z → (if a then x else y) ≡ cond b x z
pick true true x y z p e = refl
pick false false x y z p e = e
pick true false x y z p e = absurd (let bad : true ≡ false = p in cc)
pick false true x y z p e = absurd (let bad : false ≡ true = p in cc)

-- a row is found where the map finds it
pub row-lookup : (id : ℕ) (es : List (ℕ × Row)) → AreFiled es → row_of id (rows_of es) ≡ lookup (is_at (nat_cmp id)) es
row-lookup id [] f = refl
row-lookup id (e ∷ es) f = pick (e.1.id == id) (is_at (nat_cmp id) e.0) (Some e.1) _ _ (same-test id e f.0) (row-lookup id es f.1)

remove-step : (a b : Bool) (e : ℕ × Row) (es fs : List (ℕ × Row)) (y : List Row) → a ≡ b → y ≡ rows_of fs → (if a then rows_of es else e.1 ∷ y) ≡ rows_of (cond b es (e ∷ fs))
remove-step true true e es fs y p h = refl
remove-step false false e es fs y p h = ap (λ z. e.1 ∷ z) h
remove-step true false e es fs y p h = absurd (let bad : true ≡ false = p in cc)
remove-step false true e es fs y p h = absurd (let bad : false ≡ true = p in cc)

-- what is left in the map is what is left of the rows
pub rows-remove : (id : ℕ) (es : List (ℕ × Row)) → AreFiled es → without id (rows_of es) ≡ rows_of (remove_entry (is_at (nat_cmp id)) es)
rows-remove id [] f = refl
rows-remove id (e ∷ es) f = remove-step (e.1.id == id) (is_at (nat_cmp id) e.0) e es _ _ (same-test id e f.0) (rows-remove id es f.1)

filed-step : (b : Bool) (e : ℕ × Row) (es fs : List (ℕ × Row)) → AreFiled (e ∷ es) → AreFiled fs → AreFiled (cond b es (e ∷ fs))
filed-step true e es fs f g = f.1
filed-step false e es fs f g = (f.0, g)

pub filed-remove : (id : ℕ) (es : List (ℕ × Row)) → AreFiled es → AreFiled (remove_entry (is_at (nat_cmp id)) es)
filed-remove id [] f = tt
filed-remove id (e ∷ es) f = filed-step (is_at (nat_cmp id) e.0) e es _ f (filed-remove id es f.1)

-- a row that is new to the map goes to its place
pub rows-insert : (id : ℕ) (r : Row) (es : List (ℕ × Row)) → r.id ≡ id → AreFiled es → lookup (is_at (nat_cmp id)) es ≡ None → rows_of (insert_entry nat_cmp es id r) ≡ put r (rows_of es)
rows-insert id r [] h f none = refl
rows-insert id r (e ∷ es) h f none = by (nat_cmp id e.0) refl (is_at (nat_cmp id) e.0) refl none (rows-insert id r es h f.1)
  where
    below : Less ≡ nat_cmp id e.0 → nat_lt r.id e.1.id ≡ true
    below o = ap (λ n. nat_lt n e.1.id) h ∙ ap (nat_lt id) f.0 ∙ grind (arith, nat_tests, o)

    above : Greater ≡ nat_cmp id e.0 → nat_lt r.id e.1.id ≡ false
    above o = ap (λ n. nat_lt n e.1.id) h ∙ ap (nat_lt id) f.0 ∙ grind (arith, nat_tests, o)

    by : (o : Ordering) → o ≡ nat_cmp id e.0 → (b : Bool) → is_at (nat_cmp id) e.0 ≡ b → cond b (Some e.1) (lookup (is_at (nat_cmp id)) es) ≡ None → (lookup (is_at (nat_cmp id)) es ≡ None → rows_of (insert_entry nat_cmp es id r) ≡ put r (rows_of es)) → rows_of (match_ordering o ((id, r) ∷ e ∷ es) ((e.0, r) ∷ es) (e ∷ insert_entry nat_cmp es id r)) ≡ put r (e.1 ∷ rows_of es)
    by Less o b t n ih = sym (ap (λ c. cond c (r ∷ e.1 ∷ rows_of es) (e.1 ∷ put r (rows_of es))) (below o))
    by Greater o false t n ih = ap (λ l. e.1 ∷ l) (ih n) ∙ sym (ap (λ c. cond c (r ∷ e.1 ∷ rows_of es) (e.1 ∷ put r (rows_of es))) (above o))
    by Equal o false t n ih = absurd (let bad : false ≡ true = sym t ∙ grind (arith, nat_tests, o) in cc)
    by o p true t n ih = absurd (let bad : ◌≡◌ {A = Option Row} (Some e.1) None = n in cc)

-- what is written to a found row is written to the row of the identifier
set-step : (change : Row → Row) (a b : Bool) (e : ℕ × Row) (r : Row) (x : Option Row) (es fs : List (ℕ × Row)) (y : List Row) → a ≡ b → cond b (Some e.1) x ≡ Some r → (x ≡ Some r → y ≡ rows_of fs) → (if a then change e.1 ∷ rows_of es else e.1 ∷ y) ≡ rows_of (cond b ((e.0, change r) ∷ es) (e ∷ fs))
set-step change true true e r x es fs y p f h = let same : e.1 ≡ r = cc in ap (λ i. change i ∷ rows_of es) same
set-step change false false e r x es fs y p f h = ap (λ z. e.1 ∷ z) (h f)
set-step change true false e r x es fs y p f h = absurd (let bad : true ≡ false = p in cc)
set-step change false true e r x es fs y p f h = absurd (let bad : false ≡ true = p in cc)

pub rows-set : (change : Row → Row) (id : ℕ) (es : List (ℕ × Row)) (r : Row) → AreFiled es → lookup (is_at (nat_cmp id)) es ≡ Some r → changed change id (rows_of es) ≡ rows_of (set_value (is_at (nat_cmp id)) es (change r))
rows-set change id [] r f h = absurd (let bad : ◌≡◌ {A = Option Row} None (Some r) = h in cc)
rows-set change id (e ∷ es) r f h = set-step change (e.1.id == id) (is_at (nat_cmp id) e.0) e r _ es _ _ (same-test id e f.0) h (rows-set change id es r f.1)

miss-step : (change : Row → Row) (a b : Bool) (r : Row) (x : Option Row) (rs y : List Row) → a ≡ b → cond b (Some r) x ≡ None → (x ≡ None → y ≡ rs) → (if a then change r ∷ rs else r ∷ y) ≡ r ∷ rs
miss-step change false false r x rs y p f h = ap (λ z. r ∷ z) (h f)
miss-step change a true r x rs y p f h = absurd (let bad : ◌≡◌ {A = Option Row} (Some r) None = f in cc)
miss-step change true false r x rs y p f h = absurd (let bad : true ≡ false = p in cc)

pub rows-miss : (change : Row → Row) (id : ℕ) (es : List (ℕ × Row)) → AreFiled es → lookup (is_at (nat_cmp id)) es ≡ None → changed change id (rows_of es) ≡ rows_of es
rows-miss change id [] f h = refl
rows-miss change id (e ∷ es) f h = miss-step change (e.1.id == id) (is_at (nat_cmp id) e.0) e.1 _ (rows_of es) _ (same-test id e f.0) h (rows-miss change id es f.1)

pub filed-set : (id : ℕ) (es : List (ℕ × Row)) (r : Row) → AreFiled es → r.id ≡ id → AreFiled (set_value (is_at (nat_cmp id)) es r)
filed-set id [] r f h = tt
filed-set id (e ∷ es) r f h = by (is_at (nat_cmp id) e.0) refl (filed-set id es r f.1 h)
  where
    by : (b : Bool) → is_at (nat_cmp id) e.0 ≡ b → AreFiled (set_value (is_at (nat_cmp id)) es r) → AreFiled (cond b ((e.0, r) ∷ es) (e ∷ set_value (is_at (nat_cmp id)) es r))
    by true t g = (h ∙ grind (arith, nat_tests, t), f.1)
    by false t g = (f.0, g)

pub filed-insert : (id : ℕ) (r : Row) (es : List (ℕ × Row)) → r.id ≡ id → AreFiled es → AreFiled (insert_entry nat_cmp es id r)
filed-insert id r [] h f = (h, tt)
filed-insert id r (e ∷ es) h f = by (nat_cmp id e.0) refl (filed-insert id r es h f.1)
  where
    by : (o : Ordering) → o ≡ nat_cmp id e.0 → AreFiled (insert_entry nat_cmp es id r) → AreFiled (match_ordering o ((id, r) ∷ e ∷ es) ((e.0, r) ∷ es) (e ∷ insert_entry nat_cmp es id r))
    by Less o g = (h, f)
    by Greater o g = (f.0, g)
    by Equal o g = (h ∙ grind (arith, nat_tests, o), f.1)
