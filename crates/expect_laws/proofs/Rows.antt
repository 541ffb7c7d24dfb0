-- The row of an operation that is expected: what is found among rows, what its Drop is, and what becomes of it at an Out.
use Rattle.std.proofs.Common.{◌≡◌, ◌⊎◌, inl, inr, ℕ, Bool, true, false, ◌==◌, ◌&&◌, ◌||◌, not, List, [], ◌∷◌, ◌++◌, refl, ap, ◌∙◌, sym, subst}
use Rattle.std.specs.Prelude.{Option, Some, None, cond, filter, find, flat_map, map}
use Rattle.std.specs.List.{list_any, list_all}
use Rattle.lload_names.specs.declared.names.Letter.TheVariants.{Drop}
use Rattle.lload_names.specs.declared.names.PartName.{PartName}
use Rattle.lload_names.specs.declared.names.PartName.TheVariants.{Up as Connection}
use Rattle.lload_names.specs.declared.names.Posted.{Posted}
use Rattle.lload_names.specs.declared.names.What.TheVariants as what
use Rattle.lload_spec.specs.Journal.{same_op}
use Rattle.lload_spec.specs.Lists.{last, passes}
use Rattle.lload_spec.specs.Operations.{is_final_for}
use Rattle.lload_spec.specs.Settings.{Settings}
use Rattle.lload_spec.proofs.Growth.{both, left, right}
use Rattle.lload_laws.proofs.ListLaws.{any-filter, found, found_passes}
use Rattle.part_laws.proofs.ListLaws.{any_before, any_behind, eq_eqb, eqb_sym, not_true, or_elim, or_left, or_right, same_number}
use Rattle.part_spec.specs.ClientState.{ClientRow, ClientState, client_behind, is_bind_row, name_of, row_under, step_client}
use Rattle.part_spec.specs.ClientTurn.{closing, drop_of, drops, endings, leave, resumes}
use Rattle.part_spec.specs.Fit.{Expected, is_drop_of}
use Rattle.part_spec.specs.Marked.{Taken, letters_to}
use Rattle.client_laws.proofs.ClientEnds.{out_left}
use Rattle.client_laws.proofs.Matches.{are_apart, is_apart, left_by}
use Rattle.client_answer_laws.proofs.Each.{Each}
use Rattle.joined_laws.proofs.Taken.{letters_to_both}
use Rattle.expect_laws.specs.Laws.{has_row, is_dropped, went_as}

-- What is found.
pub found_any : {A : Type 0} (t q : A → Bool) (xs : List A) (x : A) → find t xs ≡ Some x → q x ≡ true → list_any q xs ≡ true
found_any t q [] x e h = absurd (let bad : None ≡ Some x = e in cc)
found_any t q (y ∷ ys) x e h = by (t y) e (λ k. found_any t q ys x k h)
  where
    by : (b : Bool) → cond b (Some y) (find t ys) ≡ Some x → (find t ys ≡ Some x → list_any q ys ≡ true) → (q y || list_any q ys) ≡ true
    by true k ih = let same : y ≡ x = cc in or_left (q y) _ (ap q same ∙ h)
    by false k ih = or_right (q y) _ (ih k)

pub any_found : {A : Type 0} (t : A → Bool) (xs : List A) → list_any t xs ≡ true → (x : A) × (find t xs ≡ Some x)
any_found t [] h = absurd (let bad : false ≡ true = h in cc)
any_found {A = A} t (y ∷ ys) h = by (t y) h (any_found t ys)
  where
    by : (b : Bool) → (b || list_any t ys) ≡ true → (list_any t ys ≡ true → (x : A) × (find t ys ≡ Some x)) → (x : A) × (cond b (Some y) (find t ys) ≡ Some x)
    by true k ih = (y, refl)
    by false k ih = ih k

pub found_map : {A B : Type 0} (t : A → Bool) (q : B → Bool) (f : A → B) (xs : List A) (x : A) → find t xs ≡ Some x → q (f x) ≡ true → list_any q (map f xs) ≡ true
found_map t q f [] x e h = absurd (let bad : None ≡ Some x = e in cc)
found_map t q f (y ∷ ys) x e h = by (t y) e (λ k. found_map t q f ys x k h)
  where
    by : (b : Bool) → cond b (Some y) (find t ys) ≡ Some x → (find t ys ≡ Some x → list_any q (map f ys) ≡ true) → (q (f y) || list_any q (map f ys)) ≡ true
    by true k ih = let same : y ≡ x = cc in or_left (q (f y)) _ (ap (λ z. q (f z)) same ∙ h)
    by false k ih = or_right (q (f y)) _ (ih k)

-- the last of those that pass is one of them
pub last_each : {A : Type 0} (P : A → Type 0) (t : A → Bool) (xs : List A) (x : A) → Each P xs → last (filter t xs) ≡ Some x → P x × (t x ≡ true)
last_each P t [] x h e = absurd (let bad : None ≡ Some x = e in cc)
last_each {A = A} P t (y ∷ ys) x h e = by (t y) refl e (last_each P t ys x h.1)
  where
    first : (zs : List A) → filter t ys ≡ zs → t y ≡ true → last (y ∷ zs) ≡ Some x → (last (filter t ys) ≡ Some x → P x × (t x ≡ true)) → P x × (t x ≡ true)
    first [] i j k ih = let same : y ≡ x = cc in (subst P same h.0, ap t (sym same) ∙ j)
    first (z ∷ zs) i j k ih = ih (ap last i ∙ k)

    by : (b : Bool) → t y ≡ b → last (cond b (y ∷ filter t ys) (filter t ys)) ≡ Some x → (last (filter t ys) ≡ Some x → P x × (t x ≡ true)) → P x × (t x ≡ true)
    by true j k ih = first (filter t ys) refl j k ih
    by false j k ih = ih k

pub last_any : {A : Type 0} (t : A → Bool) (xs : List A) (x : A) (q : A → Bool) → last (filter t xs) ≡ Some x → q x ≡ true → list_any (λ y. t y && q y) xs ≡ true
last_any t [] x q e h = absurd (let bad : None ≡ Some x = e in cc)
last_any {A = A} t (y ∷ ys) x q e h = by (t y) e (λ k. last_any t ys x q k h)
  where
    first : (zs : List A) → filter t ys ≡ zs → last (y ∷ zs) ≡ Some x → (last (filter t ys) ≡ Some x → list_any (λ z. t z && q z) ys ≡ true) → (q y || list_any (λ z. t z && q z) ys) ≡ true
    first [] i k ih = let same : y ≡ x = cc in or_left (q y) _ (ap q same ∙ h)
    first (z ∷ zs) i k ih = or_right (q y) _ (ih (ap last i ∙ k))

    by : (b : Bool) → last (cond b (y ∷ filter t ys) (filter t ys)) ≡ Some x → (last (filter t ys) ≡ Some x → list_any (λ z. t z && q z) ys ≡ true) → ((b && q y) || list_any (λ z. t z && q z) ys) ≡ true
    by true k ih = first (filter t ys) refl k ih
    by false k ih = ih k

-- Rows apart: two that are found and have one number, or one identifier, are one.
module _ (key : ClientRow → ℕ) (apart : (r q : ClientRow) → is_apart r q ≡ true → (key r == key q) ≡ false) where
  pub one_row : (t t' : ClientRow → Bool) (rows : List ClientRow) (r q : ClientRow) → are_apart rows ≡ true → find t rows ≡ Some r → find t' rows ≡ Some q → key r ≡ key q → r ≡ q
  one_row t t' [] r q a e f k = absurd (let bad : None ≡ Some r = e in cc)
  one_row t t' (x ∷ rows) r q a e f k = by (t x) (t' x) e f (λ i j. one_row t t' rows r q (right (list_all (is_apart x) rows) _ a) i j k)
    where
      clash : (y z : ClientRow) → is_apart y z ≡ true → key y ≡ key z → false ≡ true
      clash y z i j = sym (apart y z i) ∙ eq_eqb (key y) (key z) j

      others : list_all (is_apart x) rows ≡ true
      others = left (list_all (is_apart x) rows) _ a

      by : (b d : Bool) → cond b (Some x) (find t rows) ≡ Some r → cond d (Some x) (find t' rows) ≡ Some q → (find t rows ≡ Some r → find t' rows ≡ Some q → r ≡ q) → r ≡ q
      by true true i j ih = let one : x ≡ r = cc in let two : x ≡ q = cc in sym one ∙ two
      by true false i j ih = let one : x ≡ r = cc in absurd (let bad : false ≡ true = clash x q (found (is_apart x) t' rows q j others) (ap key one ∙ k) in cc)
      by false true i j ih = let two : x ≡ q = cc in absurd (let bad : false ≡ true = clash x r (found (is_apart x) t rows r i others) (ap key two ∙ sym k) in cc)
      by false false i j ih = ih i j

pub by_number : (r q : ClientRow) → is_apart r q ≡ true → (r.k == q.k) ≡ false
by_number r q h = not_true (r.k == q.k) (left (not (r.k == q.k)) _ h)

pub by_identifier : (r q : ClientRow) → is_apart r q ≡ true → (r.request.id == q.request.id) ≡ false
by_identifier r q h = not_true (r.request.id == q.request.id) (right (not (r.k == q.k)) _ h)

module _ (x : Expected) where
  -- Its Drop.
  pub drop_before : (xs ys : List Posted) → is_dropped x xs ≡ true → is_dropped x (xs ++ ys) ≡ true
  drop_before xs ys h = subst (λ l. list_any (is_drop_of x.op) l ≡ true) (sym (letters_to_both (Connection x.connection) xs ys)) (any_before (is_drop_of x.op) (letters_to (Connection x.connection) xs) (letters_to (Connection x.connection) ys) h)

  pub drop_behind : (xs ys : List Posted) → is_dropped x ys ≡ true → is_dropped x (xs ++ ys) ≡ true
  drop_behind xs ys h = subst (λ l. list_any (is_drop_of x.op) l ≡ true) (sym (letters_to_both (Connection x.connection) xs ys)) (any_behind (is_drop_of x.op) (letters_to (Connection x.connection) xs) (letters_to (Connection x.connection) ys) h)

  module _ (p : ClientState) (own : x.op.client ≡ p.number) where
    pub one_drop : (r : ClientRow) → went_as x r ≡ true → is_dropped x (drop_of p r) ≡ true
    one_drop r h = by (is_bind_row r) r.connection (right (r.k == x.op.k) _ h)
      where
        named : same_op x.op (name_of p r) ≡ true
        named = both (x.op.client == p.number) _ (eq_eqb x.op.client p.number own) (eqb_sym x.op.k r.k ∙ left (r.k == x.op.k) _ h)

        by : (b : Bool) (o : Option ℕ) → (not b && passes (λ v. v == x.connection) o) ≡ true → is_dropped x (elim b [ true ↦ [] | false ↦ elim o [ None ↦ [] | Some v ↦ record { to = Connection v; letter = Drop (name_of p r) } ∷ [] ] ]) ≡ true
        by true o k = absurd (let bad : false ≡ true = k in cc)
        by false None k = absurd (let bad : false ≡ true = k in cc)
        by false (Some v) k = ap (λ b. list_any (is_drop_of x.op) ((elim b [ true ↦ Drop (name_of p r) ∷ [] | false ↦ [] ]) ++ [])) (eqb_sym x.connection v ∙ k) ∙ or_left (same_op x.op (name_of p r)) false named

    in_rows : (rows : List ClientRow) → has_row x rows ≡ true → is_dropped x (flat_map (drop_of p) rows) ≡ true
    in_rows [] h = absurd (let bad : false ≡ true = h in cc)
    in_rows (r ∷ rows) h = or_elim (went_as x r) (has_row x rows) (λ k. drop_before (drop_of p r) (flat_map (drop_of p) rows) (one_drop r k)) (λ k. drop_behind (drop_of p r) (flat_map (drop_of p) rows) (in_rows rows k)) h

    pub in_drops : has_row x p.rows ≡ true → is_dropped x (drops p) ≡ true
    in_drops h = in_rows p.rows h

    pub in_endings : has_row x p.rows ≡ true → is_dropped x (endings p) ≡ true
    in_endings h = drop_before (drops p) (leave p) (in_drops h)

    pub in_closing : has_row x p.rows ≡ true → is_dropped x (closing p) ≡ true
    in_closing h = drop_before (endings p) (resumes p) (in_endings h)

  -- An Out: the row stays, or it is the one under the identifier, and the Out is final for it.
  pub record Outs (q : ClientState) (id : ℕ) (rest : List ℕ) : Type 0 where
    pub row : ClientRow
    pub is : row_under q id ≡ Some row
    pub number : (row.k == x.op.k) ≡ true
    pub final : is_final_for row.request rest ≡ true

  pub out_row : (s : Settings) (q : ClientState) (part : PartName) (at : ℕ) (mark : Option Taken) (id : ℕ) (rest : List ℕ) → has_row x q.rows ≡ true → (has_row x (step_client s q (record { entry = record { part = part; at = at; what = what.Out id rest }; mark = mark })).rows ≡ true) ⊎ Outs q id rest
  out_row s q part at mark id rest h = by (row_under q id) refl
    where
      rows_are : (client_behind s at mark q (what.Out id rest)).rows ≡ left_by id (λ r. is_final_for r.request rest) (row_under q id) q.rows
      rows_are = out_left s at mark q rest id (row_under q id)

      stays : (r : ClientRow) → (r.k == x.op.k) ≡ false → has_row x (filter (λ y. not (y.k == r.k)) q.rows) ≡ true
      stays r other =
          let one = any_found (went_as x) q.rows h in
          let passed : went_as x one.0 ≡ true = found_passes (went_as x) q.rows one.0 one.1 in
          let apart : (one.0.k == r.k) ≡ false = ap (λ n. n == r.k) (same_number one.0.k x.op.k (left (one.0.k == x.op.k) _ passed)) ∙ eqb_sym x.op.k r.k ∙ other in
          any-filter (went_as x) (λ y. not (y.k == r.k)) q.rows ∙ found_any (went_as x) (λ y. not (y.k == r.k) && went_as x y) q.rows one.0 one.1 (both (not (one.0.k == r.k)) _ (ap not apart) passed)

      left_as : Option ClientRow → List ClientRow
      left_as o = left_by id (λ r. is_final_for r.request rest) o q.rows

      cut : Bool → ClientRow → List ClientRow
      cut f r = elim f [ false ↦ q.rows | true ↦ filter (λ y. not (y.k == r.k)) q.rows ]

      some : (r : ClientRow) → row_under q id ≡ Some r → (f : Bool) → is_final_for r.request rest ≡ f → (n : Bool) → (r.k == x.op.k) ≡ n → (has_row x (client_behind s at mark q (what.Out id rest)).rows ≡ true) ⊎ Outs q id rest
      some r e false i n j = inl (ap (has_row x) (rows_are ∙ ap left_as e ∙ ap (λ f. cut f r) i) ∙ h)
      some r e true i true j = inr (record { row = r; is = e; number = j; final = i })
      some r e true i false j = inl (ap (has_row x) (rows_are ∙ ap left_as e ∙ ap (λ f. cut f r) i) ∙ stays r j)

      by : (o : Option ClientRow) → row_under q id ≡ o → (has_row x (client_behind s at mark q (what.Out id rest)).rows ≡ true) ⊎ Outs q id rest
      by None e = inl (ap (has_row x) (rows_are ∙ ap left_as e) ∙ h)
      by (Some r) e = some r e (is_final_for r.request rest) refl (r.k == x.op.k) refl
