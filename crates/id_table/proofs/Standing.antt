-- What stands of the live rows stands after each call.
use Rattle.std.proofs.Common.{◌≡◌, ℕ, ◌<◌, true, false, cond, List, Option, Some, None, Ok, Err, arith, refl, ap, subst, ◌∙◌, sym}
use Rattle.std.specs.Prelude.{Result, is_err, OnOk, OnErr}
use Rattle.std.specs.BTreeMap.{insert_entry, is_at}
use Rattle.std.specs.BTreeSet.{BTreeSet, contains}
use Rattle.std.specs.Map.{lookup, remove_entry, set_value}
use Rattle.std.specs.Ordering.{nat_cmp}
use Rattle.lload_names.specs.declared.names.OpName.{OpName}
use Rattle.id_table.specs.Rows.{row_of, put, without, changed, Rises, has_op}
use Rattle.id_table.specs.Places.{with_found, changed_entry}
use Rattle.id_table.specs.Filed.{rows_of, AreFiled, key_cmp, Indexes}
use Rattle.id_table.specs.declared.row.Row.{Row}
use Rattle.id_table.proofs.Entries.{row-lookup, rows-remove, filed-remove, rows-insert, filed-insert, rows-set, filed-set, rows-miss}
use Rattle.id_table.proofs.Index.{KeepsName, rises-without, rises-changed, rises-put, row-changed, index-put, index-take, index-undone, same-id}

-- what stands of a set and the entries of a map
abbrev pub Stands : BTreeSet (OpName × ℕ) → List (ℕ × Row) → Type 0
Stands ids es = AreFiled es × Rises 0 (rows_of es) 4294967296 × Indexes ids (rows_of es)

pub on-ok : {A E : Type 0} (r : Result A E) (P : Type 0) → is_err r ≡ false → OnOk r P → P
on-ok (Ok x) P h p = p
on-ok (Err e) P h p = absurd (let bad : true ≡ false = h in cc)

pub on-err : {A E : Type 0} (r : Result A E) (P : Type 0) → is_err r ≡ true → OnErr r P → P
on-err (Err e) P h p = p
on-err (Ok x) P h p = absurd (let bad : false ≡ true = h in cc)

lookup-id : (id : ℕ) (es : List (ℕ × Row)) (r : Row) → AreFiled es → lookup (is_at (nat_cmp id)) es ≡ Some r → r.id ≡ id
lookup-id id es r f h = same-id id (rows_of es) r (row-lookup id es f ∙ h)

-- a found row is changed
changed-rows : (change : Row → Row) (id : ℕ) (ids : BTreeSet (OpName × ℕ)) (es fs : List (ℕ × Row)) (r : Row) → Stands ids es → lookup (is_at (nat_cmp id)) es ≡ Some r → fs ≡ set_value (is_at (nat_cmp id)) es (change r) → rows_of fs ≡ changed change id (rows_of es)
changed-rows change id ids es fs r s found e = ap rows_of e ∙ sym (rows-set change id es r s.0 found)

changed-stands : (change : Row → Row) (id : ℕ) (ids : BTreeSet (OpName × ℕ)) (es fs : List (ℕ × Row)) (r : Row) → KeepsName change → Stands ids es → lookup (is_at (nat_cmp id)) es ≡ Some r → fs ≡ set_value (is_at (nat_cmp id)) es (change r) → Stands ids fs
changed-stands change id ids es fs r k s found e =
    let rows = changed-rows change id ids es fs r s found e in
    (subst AreFiled (sym e) (filed-set id es (change r) s.0 (k.id r ∙ lookup-id id es r s.0 found)), subst (λ (rs : List Row). Rises 0 rs 4294967296) (sym rows) (rises-changed change id 0 (rows_of es) 4294967296 k s.1), λ op j. s.2 op j ∙ sym (row-changed change id j op (rows_of es) k) ∙ ap (λ rs. has_op op (row_of j rs)) (sym rows))

pub same-stands : (ids : BTreeSet (OpName × ℕ)) (es fs : List (ℕ × Row)) → fs ≡ es → Stands ids es → Stands ids fs
same-stands ids es fs e s = subst (Stands ids) (sym e) s

-- a row is changed, where it is found
changed-found : (change : Row → Row) (id : ℕ) (ids : BTreeSet (OpName × ℕ)) (es : List (ℕ × Row)) (o : Option Row) → KeepsName change → Stands ids es → lookup (is_at (nat_cmp id)) es ≡ o → Stands ids (with_found change id es o) × (rows_of (with_found change id es o) ≡ changed change id (rows_of es))
changed-found change id ids es None k s f = (s, sym (rows-miss change id es s.0 f))
changed-found change id ids es (Some r) k s f = (changed-stands change id ids es _ r k s f refl, changed-rows change id ids es _ r s f refl)

pub entry-changed : (change : Row → Row) (id : ℕ) (ids : BTreeSet (OpName × ℕ)) (es fs : List (ℕ × Row)) → KeepsName change → Stands ids es → fs ≡ changed_entry change id es → Stands ids fs × (rows_of fs ≡ changed change id (rows_of es))
entry-changed change id ids es fs k s e =
    let h = changed-found change id ids es (lookup (is_at (nat_cmp id)) es) k s refl in
    (subst (Stands ids) (sym e) h.0, ap rows_of e ∙ h.1)

-- a row is put in
pub put-rows : (r : Row) (ids : BTreeSet (OpName × ℕ)) (es fs : List (ℕ × Row)) → Stands ids es → row_of r.id (rows_of es) ≡ None → fs ≡ insert_entry nat_cmp es r.id r → rows_of fs ≡ put r (rows_of es)
put-rows r ids es fs s none e = ap rows_of e ∙ rows-insert r.id r es refl s.0 (sym (row-lookup r.id es s.0) ∙ none)

pub put-stands : (r : Row) (old new : BTreeSet (OpName × ℕ)) (es fs : List (ℕ × Row)) → r.id < 4294967296 → Stands old es → row_of r.id (rows_of es) ≡ None → fs ≡ insert_entry nat_cmp es r.id r → ((q : OpName × ℕ) → contains key_cmp new q ≡ cond (is_at (key_cmp (r.op, r.id)) q) true (contains key_cmp old q)) → Stands new fs
put-stands r old new es fs small s none e up =
    let rows = put-rows r old es fs s none e in
    (subst AreFiled (sym e) (filed-insert r.id r es refl s.0), subst (λ (rs : List Row). Rises 0 rs 4294967296) (sym rows) (rises-put r 0 (rows_of es) 4294967296 (omega arith) small none s.1), λ op j. index-put old new r (rows_of es) none s.2 up op j ∙ ap (λ rs. has_op op (row_of j rs)) (sym rows))

-- the index is what it was, where what was put in is taken out
pub undone-stands : (r : Row) (old new back : BTreeSet (OpName × ℕ)) (es fs : List (ℕ × Row)) → fs ≡ es → Stands old es → row_of r.id (rows_of es) ≡ None → ((q : OpName × ℕ) → contains key_cmp new q ≡ cond (is_at (key_cmp (r.op, r.id)) q) true (contains key_cmp old q)) → ((q : OpName × ℕ) → contains key_cmp back q ≡ cond (is_at (key_cmp (r.op, r.id)) q) false (contains key_cmp new q)) → Stands back fs
undone-stands r old new back es fs e s none up down = same-stands back es fs e (s.0, s.1, index-undone old new back r (rows_of es) none s.2 up down)

-- a found row is taken out
pub taken-rows : (id : ℕ) (ids : BTreeSet (OpName × ℕ)) (es fs : List (ℕ × Row)) → Stands ids es → fs ≡ remove_entry (is_at (nat_cmp id)) es → rows_of fs ≡ without id (rows_of es)
taken-rows id ids es fs s e = ap rows_of e ∙ sym (rows-remove id es s.0)

pub taken-stands : (r : Row) (id : ℕ) (old new : BTreeSet (OpName × ℕ)) (es fs : List (ℕ × Row)) → Stands old es → lookup (is_at (nat_cmp id)) es ≡ Some r → fs ≡ remove_entry (is_at (nat_cmp id)) es → ((q : OpName × ℕ) → contains key_cmp new q ≡ cond (is_at (key_cmp (r.op, id)) q) false (contains key_cmp old q)) → Stands new fs
taken-stands r id old new es fs s found e up =
    let rows = taken-rows id old es fs s e in
    (subst AreFiled (sym e) (filed-remove id es s.0), subst (λ (rs : List Row). Rises 0 rs 4294967296) (sym rows) (rises-without id 0 (rows_of es) 4294967296 s.1), λ op j. index-take old new r id 0 (rows_of es) 4294967296 s.1 (row-lookup id es s.0 ∙ found) s.2 up op j ∙ ap (λ rs. has_op op (row_of j rs)) (sym rows))
