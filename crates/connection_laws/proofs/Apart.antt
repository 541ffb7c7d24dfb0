-- The rows of a connection are apart: no two have one name, or one identifier. And Abandons of two identifiers are two.
use Rattle.std.proofs.Common.{◌≡◌, ℕ, ◌≤◌, Bool, true, false, ◌==◌, ◌&&◌, ◌||◌, not, List, [], ◌∷◌, ◌++◌, length, refl, ap, arith, ◌∙◌, sym}
use Rattle.std.specs.Prelude.{Option, Some, None, filter, flat_map, cond, is_none, nat_lt}
use Rattle.std.specs.List.{list_any, list_all}
use Rattle.std.specs.Str.{bytes_eq}
use Rattle.std.proofs.lemmas.Slice.Eq.{bytes_eq-Decides}
use Rattle.std.proofs.Math.Bool.{or-false}
use Rattle.std.proofs.lemmas.Bool.Decides.{nat_tests}
use Rattle.std.proofs.lemmas.List.Folds.{list_all-append, list_any-append}
use Rattle.ldap_spec.specs.Messages.{Message}
use Rattle.ldap_spec.specs.Kinds.{is_final, fits, tag_of}
use Rattle.ldap_spec.specs.Responses.{result_code}
use Rattle.ldap_spec.specs.Elements.{shortest_integer}
use Rattle.ldap_spec.specs.Bodies.{abandon, who_am_i}
use Rattle.ldap_spec.proofs.Numbers.{length-shortest_integer, short_length}
use Rattle.std.proofs.lemmas.Bool.{ltb-true, lt-ltb}
use Rattle.lload_names.specs.declared.names.Entry.{Entry}
use Rattle.lload_names.specs.declared.names.PartName.{PartName}
use Rattle.lload_names.specs.declared.names.OpName.{OpName}
use Rattle.lload_names.specs.declared.names.What.TheVariants as what
use Rattle.lload_spec.specs.Lists.{passes}
use Rattle.lload_spec.specs.Journal.{same_op}
use Rattle.lload_spec.specs.Entries.{sent_message, is_own}
use Rattle.part_spec.specs.ConnectionState.{ConnectionState, UpRow, Kept, is_bind_row, is_under, is_under_who, keeps_back, behind_message, behind_own, freed_id, put_row}
use Rattle.lload_spec.proofs.Growth.{left, right, both}
use Rattle.connection_laws.proofs.Rows.{all_filter, all_put, is_sound, sent_here, no_bind, not_kept}
use Rattle.part_laws.proofs.ListLaws.{false_by, not_true, same_op_sym, eqb_sym, eqb_same, or_left, or_right, any_filtered, none_of_both}
use Rattle.lload_laws.proofs.ListLaws.{all_imply, all_both, any_imply, passes_imply}

-- the octets of a number tell it
pub digits_apart : (m n : ℕ) → shortest_integer m ≡ shortest_integer n → m ≡ n
digits_apart m n h = grind (arith, nat_tests, h)

pub abandon_digits : (i : ℕ) → abandon i ≡ 0x50 ∷ (length (shortest_integer i) ∷ []) ++ shortest_integer i
abandon_digits i = ap (λ l. 0x50 ∷ (l ++ shortest_integer i)) (short_length (length (shortest_integer i)) (let four = length-shortest_integer i in omega arith))

pub abandon_apart : (i j : ℕ) → bytes_eq (abandon i) (abandon j) ≡ true → i ≡ j
abandon_apart i j h =
    let same : abandon i ≡ abandon j = (bytes_eq-Decides (abandon i) (abandon j)).0 h in
    let whole : 0x50 ∷ length (shortest_integer i) ∷ shortest_integer i ≡ 0x50 ∷ length (shortest_integer j) ∷ shortest_integer j = sym (abandon_digits i) ∙ same ∙ abandon_digits j in
    digits_apart i j (cc)

-- rows that are apart
abbrev pub is_apart : UpRow → UpRow → Bool
is_apart r q = not (same_op r.op q.op) && not (r.id == q.id)

abbrev pub are_apart : List UpRow → Bool
are_apart [] = true
are_apart (r ∷ rows) = list_all (is_apart r) rows && are_apart rows

-- what a row becomes, under the same name and identifier and of the same kind if it stays
abbrev pub Shrinks : UpRow → List UpRow → Type 0
Shrinks r [] = Unit {0}
Shrinks r (q ∷ []) = (r.id ≡ q.id) × (r.op ≡ q.op) × (r.kind ≡ q.kind)
Shrinks r (q ∷ x ∷ xs) = ⊥

pub apart_one : (a r : UpRow) (rs : List UpRow) → Shrinks r rs → is_apart a r ≡ true → list_all (is_apart a) rs ≡ true
apart_one a r [] h k = refl
apart_one a r (q ∷ []) h k = both (is_apart a q) true (ap (λ i. not (same_op a.op q.op) && not (a.id == i)) (sym h.0) ∙ ap (λ o. not (same_op a.op o) && not (a.id == r.id)) (sym h.1) ∙ k) refl
apart_one a r (q ∷ x ∷ xs) h k = absurd h

pub apart_flat : (f : UpRow → List UpRow) (rows : List UpRow) → ((r : UpRow) → Shrinks r (f r)) → are_apart rows ≡ true → are_apart (flat_map f rows) ≡ true
apart_flat f rows g h = flat rows g h
  where
    all_from : (a : UpRow) (rs : List UpRow) → ((r : UpRow) → Shrinks r (f r)) → list_all (is_apart a) rs ≡ true → list_all (is_apart a) (flat_map f rs) ≡ true
    all_from a [] g k = refl
    all_from a (r ∷ rs) g k = list_all-append (is_apart a) (f r) (flat_map f rs) ∙ both (list_all (is_apart a) (f r)) _ (apart_one a r (f r) (g r) (left (is_apart a r) _ k)) (all_from a rs g (right (is_apart a r) _ k))

    same_apart : (r q : UpRow) (rs : List UpRow) → r.id ≡ q.id → r.op ≡ q.op → list_all (is_apart r) rs ≡ true → list_all (is_apart q) rs ≡ true
    same_apart r q [] e d k = refl
    same_apart r q (x ∷ rs) e d k = both (is_apart q x) _ (ap (λ i. not (same_op q.op x.op) && not (i == x.id)) (sym e) ∙ ap (λ o. not (same_op o x.op) && not (r.id == x.id)) (sym d) ∙ left (is_apart r x) _ k) (same_apart r q rs e d (right (is_apart r x) _ k))

    put : (r : UpRow) (rs rest : List UpRow) → Shrinks r rs → list_all (is_apart r) rest ≡ true → are_apart rest ≡ true → are_apart (rs ++ rest) ≡ true
    put r [] rest s k j = j
    put r (q ∷ []) rest s k j = both (list_all (is_apart q) rest) _ (same_apart r q rest s.0 s.1 k) j
    put r (q ∷ x ∷ xs) rest s k j = absurd s

    flat : (rs : List UpRow) → ((r : UpRow) → Shrinks r (f r)) → are_apart rs ≡ true → are_apart (flat_map f rs) ≡ true
    flat [] g k = refl
    flat (r ∷ rs) g k = put r (f r) (flat_map f rs) (g r) (all_from r rs g (left (list_all (is_apart r) rs) _ k)) (flat rs g (right (list_all (is_apart r) rs) _ k))

-- a row behind a message, and behind an own message
pub shrinks_message : (at : ℕ) (m : Message) (r : UpRow) → Shrinks r (behind_message at m r)
shrinks_message at m r = under (is_under m.id r) (fits r.kind m.rest) (is_final r.kind m.rest) (is_bind_row r) (keeps_back r m.rest) (is_none (result_code m.rest)) (is_under_who m.id r) (tag_of m.rest == 0x78)
  where
    under : (a f g k b n w x : Bool) → Shrinks r (elim a [ true ↦ elim f [ false ↦ r ∷ [] | true ↦ elim g [ true ↦ elim k [ false ↦ [] | true ↦ elim b [ true ↦ record r { answered = at; kept = Some (record { rest = m.rest; who = None }) } ∷ [] | false ↦ elim n [ true ↦ record r { answered = at } ∷ [] | false ↦ [] ] ] ] | false ↦ record r { answered = at } ∷ [] ] ] | false ↦ elim w [ true ↦ elim x [ true ↦ [] | false ↦ record r { answered = at } ∷ [] ] | false ↦ r ∷ [] ] ])
    under true false g k b n w x = (refl, refl, refl)
    under true true true true true n w x = (refl, refl, refl)
    under true true true true false true w x = (refl, refl, refl)
    under true true true true false false w x = tt
    under true true true false b n w x = tt
    under true true false k b n w x = (refl, refl, refl)
    under false f g k b n true true = tt
    under false f g k b n true false = (refl, refl, refl)
    under false f g k b n false x = (refl, refl, refl)

pub shrinks_own : (m : Message) (r : UpRow) → Shrinks r (behind_own m r)
shrinks_own m r = by (bytes_eq m.rest who_am_i && passes (λ k. is_none k.who) r.kept) (not (is_bind_row r) && bytes_eq m.rest (abandon r.id))
  where
    by : (a b : Bool) → Shrinks r (elim a [ true ↦ record r { kept = elim r.kept [ None ↦ None | Some k ↦ Some (record k { who = Some m.id }) ] } ∷ [] | false ↦ elim b [ true ↦ [] | false ↦ r ∷ [] ] ])
    by true b = (refl, refl, refl)
    by false true = tt
    by false false = (refl, refl, refl)

pub apart_filter : (t : UpRow → Bool) (rows : List UpRow) → are_apart rows ≡ true → are_apart (filter t rows) ≡ true
apart_filter t [] h = refl
apart_filter t (r ∷ rows) h = more (t r) (apart_filter t rows (right (list_all (is_apart r) rows) _ h)) (all_filter (is_apart r) t rows (left (list_all (is_apart r) rows) _ h))
  where
    more : (b : Bool) → are_apart (filter t rows) ≡ true → list_all (is_apart r) (filter t rows) ≡ true → are_apart (cond b (r ∷ filter t rows) (filter t rows)) ≡ true
    more true k j = both (list_all (is_apart r) (filter t rows)) _ j k
    more false k j = k

-- a row more, apart from each
pub apart_sym : (a b : UpRow) → is_apart a b ≡ is_apart b a
apart_sym a b = ap (λ x. not x && not (a.id == b.id)) (same_op_sym a.op b.op) ∙ ap (λ x. not (same_op b.op a.op) && not x) (eqb_sym a.id b.id)

pub apart_push : (rows : List UpRow) (q : UpRow) → list_all (λ r. is_apart r q) rows ≡ true → are_apart rows ≡ true → are_apart (put_row q rows) ≡ true
apart_push [] q h k = refl
apart_push (r ∷ rows) q h k = by (nat_lt r.id q.id) (apart_push rows q (right (is_apart r q) _ h) (right (list_all (is_apart r) rows) _ k))
  where
    by : (b : Bool) → are_apart (put_row q rows) ≡ true → are_apart (elim b [ true ↦ r ∷ put_row q rows | false ↦ q ∷ r ∷ rows ]) ≡ true
    by true j = both (list_all (is_apart r) (put_row q rows)) _ (all_put (is_apart r) q rows (left (is_apart r q) _ h) (left (list_all (is_apart r) rows) _ k)) j
    by false j = both (list_all (is_apart q) (r ∷ rows)) _ (all_imply (λ x. is_apart x q) (is_apart q) (r ∷ rows) (λ x i. apart_sym q x ∙ i) h) k

-- What is below the next identifier stays so.
abbrev pub is_below : ℕ → UpRow → Bool
is_below n r = nat_lt r.id n

pub below_more : (n m : ℕ) (rows : List UpRow) → n ≤ m → list_all (is_below n) rows ≡ true → list_all (is_below m) rows ≡ true
below_more n m rows h k = all_imply (is_below n) (is_below m) rows (λ r j. one r.id j) k
  where
    one : (i : ℕ) → nat_lt i n ≡ true → nat_lt i m ≡ true
    one i j = lt-ltb i m (let below = ltb-true i n j in omega (arith, below, h))

pub below_shrinks : (n : ℕ) (r : UpRow) (rs : List UpRow) → Shrinks r rs → is_below n r ≡ true → list_all (is_below n) rs ≡ true
below_shrinks n r [] h k = refl
below_shrinks n r (q ∷ []) h k = both (is_below n q) true (ap (λ i. nat_lt i n) (sym h.0) ∙ k) refl
below_shrinks n r (q ∷ x ∷ xs) h k = absurd h

-- what is in the list of the Sent entries is an entry
pub sent_entry : (op : OpName) (id : ℕ) (es : List Entry) → list_any (sent_here id op) es ≡ true → list_any (λ e. passes (λ y. same_op op y.op) (sent_message e.what)) es ≡ true
sent_entry op id es h = any_imply (sent_here id op) (λ e. passes (λ y. same_op op y.op) (sent_message e.what)) es (λ e k. passes_imply (λ y. y.value.id == id && same_op op y.op) (λ y. same_op op y.op) (sent_message e.what) (λ y j. right (y.value.id == id) _ j) k) h

-- a free identifier is no row's, and no Abandon names it
abbrev pub is_taken : List UpRow → ℕ → Bool
is_taken rows n = list_any (λ r. r.id == n) rows

-- rows apart, each below the next identifier, and none named by an Abandon; and the same of the free identifiers
pub record RowsApart (place : List Entry) (p : ConnectionState) : Type 0 where
  pub apart : are_apart p.rows ≡ true
  pub below : list_all (λ r. nat_lt r.id p.ids.next) p.rows ≡ true
  pub unnamed : list_all (λ r. not (list_any (is_own (abandon r.id)) place)) p.rows ≡ true
  pub free_below : list_all (λ n. nat_lt n p.ids.next) p.ids.free ≡ true
  pub free_unnamed : list_all (λ n. not (list_any (is_own (abandon n)) place)) p.ids.free ≡ true
  pub free_apart : list_all (λ n. not (is_taken p.rows n)) p.ids.free ≡ true

abbrev pub is_unnamed : List Entry → UpRow → Bool
is_unnamed place r = not (list_any (is_own (abandon r.id)) place)

pub unnamed_shrinks : (place : List Entry) (r : UpRow) (rs : List UpRow) → Shrinks r rs → is_unnamed place r ≡ true → list_all (is_unnamed place) rs ≡ true
unnamed_shrinks place r [] h k = refl
unnamed_shrinks place r (q ∷ []) h k = both (is_unnamed place q) true (ap (λ i. not (list_any (is_own (abandon i)) place)) (sym h.0) ∙ k) refl
unnamed_shrinks place r (q ∷ x ∷ xs) h k = absurd h

-- an entry that names none of them
pub one_unnamed : (place : List Entry) (e : Entry) (i : ℕ) → is_own (abandon i) e ≡ false → not (list_any (is_own (abandon i)) place) ≡ true → not (list_any (is_own (abandon i)) (place ++ e ∷ [])) ≡ true
one_unnamed place e i n h = ap not (list_any-append (is_own (abandon i)) place (e ∷ []) ∙ ap (λ b. list_any (is_own (abandon i)) place || (b || false)) n ∙ or-false (list_any (is_own (abandon i)) place)) ∙ h

pub unnamed_push : (place : List Entry) (e : Entry) (rows : List UpRow) → ((i : ℕ) → is_own (abandon i) e ≡ false) → list_all (is_unnamed place) rows ≡ true → list_all (is_unnamed (place ++ e ∷ [])) rows ≡ true
unnamed_push place e rows n h = all_imply (is_unnamed place) (is_unnamed (place ++ e ∷ [])) rows (λ r k. one_unnamed place e r.id (n r.id) k) h

-- behind an own message, the rows that it doesn't name
pub unnamed_own : (u : ℕ) (place : List Entry) (part : PartName) (at id : ℕ) (rest : List ℕ) (r : UpRow) → (is_sound u place r && is_unnamed place r) ≡ true → list_all (is_unnamed (place ++ record { part = part; at = at; what = what.Own id rest } ∷ [])) (behind_own (record { id = id; rest = rest }) r) ≡ true
unnamed_own u place part at id rest r h = who r.kept (not_kept u place r (left (is_sound u place r) _ h)) (bytes_eq rest who_am_i)
  where
    named : (b : Bool) → bytes_eq rest (abandon r.id) ≡ b → (c : Bool) → not c ≡ true → list_all (is_unnamed (place ++ record { part = part; at = at; what = what.Own id rest } ∷ [])) (elim (not c && b) [ true ↦ [] | false ↦ r ∷ [] ]) ≡ true
    named b e true j = absurd (let bad : false ≡ true = j in cc)
    named true e false j = refl
    named false e false j = both (is_unnamed (place ++ record { part = part; at = at; what = what.Own id rest } ∷ []) r) true (one_unnamed place (record { part = part; at = at; what = what.Own id rest }) r.id e (right (is_sound u place r) _ h)) refl

    who : (o : Option Kept) → is_none o ≡ true → (a : Bool) → list_all (is_unnamed (place ++ record { part = part; at = at; what = what.Own id rest } ∷ [])) (elim (a && passes (λ k. is_none k.who) o) [ true ↦ record r { kept = elim o [ None ↦ None | Some k ↦ Some (record k { who = Some id }) ] } ∷ [] | false ↦ elim (not (is_bind_row r) && bytes_eq rest (abandon r.id)) [ true ↦ [] | false ↦ r ∷ [] ] ]) ≡ true
    who (Some k) j a = absurd (let bad : false ≡ true = j in cc)
    who None j true = named (bytes_eq rest (abandon r.id)) refl (is_bind_row r) (no_bind u place r (left (is_sound u place r) _ h))
    who None j false = named (bytes_eq rest (abandon r.id)) refl (is_bind_row r) (no_bind u place r (left (is_sound u place r) _ h))

-- rows behind what each becomes, where what holds of each before gives what holds behind
pub all_flat_by : (q t : UpRow → Bool) (f : UpRow → List UpRow) (rows : List UpRow) → ((r : UpRow) → q r ≡ true → list_all t (f r) ≡ true) → list_all q rows ≡ true → list_all t (flat_map f rows) ≡ true
all_flat_by q t f [] g h = refl
all_flat_by q t f (r ∷ rows) g h = list_all-append t (f r) (flat_map f rows) ∙ both (list_all t (f r)) _ (g r (left (q r) _ h)) (all_flat_by q t f rows g (right (q r) _ h))

-- the identifiers that a message frees

pub free_unnamed_push : (place : List Entry) (e : Entry) (ns : List ℕ) → ((n : ℕ) → list_any (λ m. m == n) ns ≡ true → is_own (abandon n) e ≡ false) → list_all (λ n. not (list_any (is_own (abandon n)) place)) ns ≡ true → list_all (λ n. not (list_any (is_own (abandon n)) (place ++ e ∷ []))) ns ≡ true
free_unnamed_push place e [] f h = refl
free_unnamed_push place e (n ∷ ns) f h = both (not (list_any (is_own (abandon n)) (place ++ e ∷ []))) _ (one_unnamed place e n (f n (or_left (n == n) _ (eqb_same n))) (left (not (list_any (is_own (abandon n)) place)) _ h)) (free_unnamed_push place e ns (λ k j. f k (or_right (n == k) _ j)) (right (not (list_any (is_own (abandon n)) place)) _ h))

-- the row's identifier is freed where it stays no row
pub freed_by : (at : ℕ) (m : Message) (r : UpRow) (rs : List UpRow) → behind_message at m r ≡ rs → freed_id at m r ≡ (elim rs [ [] ↦ r.id ∷ [] | x ∷ xs ↦ [] ])
freed_by at m r rs e = ap (λ l. elim l [ [] ↦ r.id ∷ [] | x ∷ xs ↦ [] ]) e

abbrev pub freed_of : UpRow → List UpRow → List ℕ
freed_of r rs = elim rs [ [] ↦ r.id ∷ [] | x ∷ xs ↦ [] ]

-- what holds of the rows' identifiers holds of those that are freed
pub freed_all : (q : ℕ → Bool) (at : ℕ) (m : Message) (rows : List UpRow) → list_all (λ r. q r.id) rows ≡ true → list_all q (flat_map (freed_id at m) rows) ≡ true
freed_all q at m [] h = refl
freed_all q at m (r ∷ rows) h = list_all-append q (freed_id at m r) (flat_map (freed_id at m) rows) ∙ both (list_all q (freed_id at m r)) _ (one (behind_message at m r)) (freed_all q at m rows (right (q r.id) _ h))
  where
    one : (rs : List UpRow) → list_all q (freed_of r rs) ≡ true
    one [] = both (q r.id) true (left (q r.id) _ h) refl
    one (x ∷ xs) = refl

-- an identifier that no row has, none has behind a message
pub taken_shrinks : (n : ℕ) (r : UpRow) (rs : List UpRow) → Shrinks r rs → (r.id == n) ≡ false → is_taken rs n ≡ false
taken_shrinks n r [] h k = refl
taken_shrinks n r (q ∷ []) h k = ap (λ b. b || false) (ap (λ i. i == n) (sym h.0) ∙ k)
taken_shrinks n r (q ∷ x ∷ xs) h k = absurd h

pub or_false_left : (a b : Bool) → (a || b) ≡ false → a ≡ false
or_false_left true b h = h
or_false_left false b h = refl

pub or_false_right : (a b : Bool) → (a || b) ≡ false → b ≡ false
or_false_right true b h = absurd (let bad : true ≡ false = h in cc)
or_false_right false b h = h

pub not_taken : (f : UpRow → List UpRow) (n : ℕ) (rows : List UpRow) → ((r : UpRow) → Shrinks r (f r)) → is_taken rows n ≡ false → is_taken (flat_map f rows) n ≡ false
not_taken f n [] g h = refl
not_taken f n (r ∷ rows) g h = none_of_both (λ x. x.id == n) (f r) (flat_map f rows) (taken_shrinks n r (f r) (g r) (or_false_left (r.id == n) _ h)) (not_taken f n rows g (or_false_right (r.id == n) _ h))

pub free_shrinks : (f : UpRow → List UpRow) (rows : List UpRow) (ns : List ℕ) → ((r : UpRow) → Shrinks r (f r)) → list_all (λ n. not (is_taken rows n)) ns ≡ true → list_all (λ n. not (is_taken (flat_map f rows) n)) ns ≡ true
free_shrinks f rows ns g h = all_imply (λ n. not (is_taken rows n)) (λ n. not (is_taken (flat_map f rows) n)) ns (λ n k. ap not (not_taken f n rows g (not_true (is_taken rows n) k))) h

-- a row that is apart from others has none of their identifiers
pub apart_taken : (r : UpRow) (rows : List UpRow) → list_all (is_apart r) rows ≡ true → is_taken rows r.id ≡ false
apart_taken r [] h = refl
apart_taken r (x ∷ rows) h = ap (λ b. b || is_taken rows r.id) (eqb_sym x.id r.id ∙ not_true (r.id == x.id) (right (not (same_op r.op x.op)) _ (left (is_apart r x) _ h))) ∙ apart_taken r rows (right (is_apart r x) _ h)

-- the identifiers that a message frees are no rows'
pub freed_apart : (at : ℕ) (m : Message) (rows : List UpRow) → are_apart rows ≡ true → list_all (λ n. not (is_taken (flat_map (behind_message at m) rows) n)) (flat_map (freed_id at m) rows) ≡ true
freed_apart at m [] h = refl
freed_apart at m (r ∷ rows) h = list_all-append whole (freed_id at m r) (flat_map (freed_id at m) rows) ∙ both (list_all whole (freed_id at m r)) _ (one (behind_message at m r) refl) (all_imply (λ n. not (is_taken (flat_map (behind_message at m) rows) n) && not (r.id == n)) whole (flat_map (freed_id at m) rows) (λ n k. ap not (none_of_both (λ x. x.id == n) (behind_message at m r) (flat_map (behind_message at m) rows) (taken_shrinks n r (behind_message at m r) (shrinks_message at m r) (not_true (r.id == n) (right (not (is_taken (flat_map (behind_message at m) rows) n)) _ k))) (not_true (is_taken (flat_map (behind_message at m) rows) n) (left (not (is_taken (flat_map (behind_message at m) rows) n)) _ k)))) (all_both (λ n. not (is_taken (flat_map (behind_message at m) rows) n)) (λ n. not (r.id == n)) (flat_map (freed_id at m) rows) (freed_apart at m rows (right (list_all (is_apart r) rows) _ h)) (freed_all (λ n. not (r.id == n)) at m rows (all_imply (is_apart r) (λ q. not (r.id == q.id)) rows (λ q k. right (not (same_op r.op q.op)) _ k) (left (list_all (is_apart r) rows) _ h)))))
  where
    whole : ℕ → Bool
    whole n = not (is_taken (flat_map (behind_message at m) (r ∷ rows)) n)

    one : (rs : List UpRow) → behind_message at m r ≡ rs → list_all (λ n. not (is_taken (behind_message at m r ++ flat_map (behind_message at m) rows) n)) (freed_of r rs) ≡ true
    one (x ∷ xs) e = refl
    one [] e = both (not (is_taken (behind_message at m r ++ flat_map (behind_message at m) rows) r.id)) true (ap (λ l. not (is_taken (l ++ flat_map (behind_message at m) rows) r.id)) e ∙ ap not (not_taken (behind_message at m) r.id rows (shrinks_message at m) (apart_taken r rows (left (list_all (is_apart r) rows) _ h)))) refl

-- a row more has the identifier or not
pub taken_put : (n : ℕ) (q : UpRow) (rows : List UpRow) → (q.id == n) ≡ false → is_taken rows n ≡ false → is_taken (put_row q rows) n ≡ false
taken_put n q [] h k = ap (λ b. b || false) h
taken_put n q (r ∷ rows) h k = by (nat_lt r.id q.id) (taken_put n q rows h (or_false_right (r.id == n) _ k))
  where
    by : (b : Bool) → is_taken (put_row q rows) n ≡ false → is_taken (elim b [ true ↦ r ∷ put_row q rows | false ↦ q ∷ r ∷ rows ]) n ≡ false
    by true j = ap (λ b. b || is_taken (put_row q rows) n) (or_false_left (r.id == n) _ k) ∙ j
    by false j = ap (λ b. b || is_taken (r ∷ rows) n) h ∙ k

pub taken_filter : (t : UpRow → Bool) (n : ℕ) (rows : List UpRow) → is_taken rows n ≡ false → is_taken (filter t rows) n ≡ false
taken_filter t n rows h = false_by (is_taken (filter t rows) n) (λ k. sym h ∙ any_filtered (λ r. r.id == n) t rows k)
