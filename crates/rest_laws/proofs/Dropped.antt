-- An operation whose Drop a regular connection took isn't open there: the Drop ended it, or found nothing to end, and no
-- Forward of it came behind.
use Rattle.std.proofs.Common.{◌≡◌, ℕ, Bool, true, false, ◌&&◌, ◌||◌, not, if◌then◌else◌, List, [], ◌∷◌, ◌++◌, refl, ap, ◌∙◌, sym, subst}
use Rattle.std.specs.Prelude.{Option, Some, None, cond, filter, find, flat_map, is_none}
use Rattle.std.specs.List.{list_any, list_all}
use Rattle.std.specs.Str.{bytes_eq}
use Rattle.ldap_spec.specs.Bodies.{who_am_i}
use Rattle.ldap_spec.specs.Messages.{Message}
use Rattle.lload_names.specs.declared.names.ConnKind.TheVariants.{Regular}
use Rattle.lload_names.specs.declared.names.Letter.{Letter}
use Rattle.lload_names.specs.declared.names.Letter.TheVariants.{Drop, Forward}
use Rattle.lload_names.specs.declared.names.OpName.{OpName}
use Rattle.lload_names.specs.declared.names.PartName.{PartName}
use Rattle.lload_names.specs.declared.names.PartName.TheVariants.{Client, Up as Connection}
use Rattle.lload_names.specs.declared.names.What.{What}
use Rattle.lload_names.specs.declared.names.What.TheVariants as what
use Rattle.lload_spec.specs.Answers.{Sending, is_open, of_operation, sendings}
use Rattle.lload_spec.specs.Journal.{Family, same_op, same_part}
use Rattle.lload_spec.specs.Lists.{last, passes}
use Rattle.lload_spec.specs.Owed.{is_open_at}
use Rattle.lload_spec.specs.Settings.{Settings, is_of_kind}
use Rattle.lload_spec.proofs.Growth.{left, right}
use Rattle.lload_laws.proofs.ListLaws.{found}
use Rattle.part_laws.proofs.ListLaws.{any_before, any_behind, any_filtered, any_split, false_by, none_of_both, not_true, or_elim, or_left, or_right, same_op_eq}
use Rattle.part_spec.specs.Laws.{FitIsWhole}
use Rattle.part_spec.specs.ConnectionState.{ConnectionState, Kept, UpRow, behind_message, behind_own, connection_behind, is_abandoned_by, is_bind, is_under_own, put_row, row_named, rows_sent, step_connection}
use Rattle.part_spec.specs.Fit.{ConnectionLedger, are_fit_from, empty_connection_ledger, fits_connection, is_drop_of, is_forward_of, is_of_its_kind, is_taken_last, is_unfit, ledger_behind, step_connection_ledger, with_mark}
use Rattle.part_spec.specs.Marked.{Marked, Taken, entries, letter_from, taken_from}
use Rattle.part_spec.specs.Marks.{each_from, has_connection_mark, marks_connection, must_mark_connection}
use Rattle.part_spec.specs.Share.{ConnectionShare}
use Rattle.connection_laws.proofs.Apart.{are_apart, is_apart}
use Rattle.connection_laws.proofs.Rows.{is_sound, not_kept}
use Rattle.client_answer_laws.proofs.Each.{Each, each_both, each_imply}
use Rattle.joined_laws.proofs.Taken.{is_fit_there}
use Rattle.carried_laws.specs.Laws.{ForwardsAreRight, Played}
use Rattle.rows_laws.proofs.Known.{AtEach, Known, at_end}
use Rattle.rows_laws.proofs.Lives.{is_open_in}
use Rattle.rows_laws.proofs.Live.{Live}
use Rattle.rows_laws.proofs.Regular.{known_at_each}
use Rattle.rows_laws.proofs.Somewhere.{OneIn, each_put, one_passes}
use Rattle.rest_laws.specs.Laws.{DroppedAreOver}
use Rattle.rest_laws.proofs.Rows.{IsOp, same_answer, same_own}

module _ (op : OpName) where
  abbrev is_its : UpRow → Bool
  is_its r = same_op op r.op

  abbrev has_row : List UpRow → Bool
  has_row rows = list_any (λ r. same_op op r.op) rows

  abbrev was_forwarded : List Taken → Bool
  was_forwarded taken = list_any (λ t. is_forward_of op t.letter) taken

  abbrev was_dropped : List Taken → Bool
  was_dropped taken = list_any (λ t. is_drop_of op t.letter) taken

  -- rows of other operations
  others : (q : OpName) (rows : List UpRow) → Each (IsOp q) rows → same_op op q ≡ false → list_any (λ r. same_op op r.op) rows ≡ false
  others q [] h k = refl
  others q (r ∷ rows) h k = ap (λ b. b || has_row rows) (ap (same_op op) h.0 ∙ k) ∙ others q rows h.1 k

  none_flat : (f : UpRow → List UpRow) (rows : List UpRow) → Each (λ r. list_any (λ q. same_op op q.op) (f r) ≡ false) rows → list_any (λ r. same_op op r.op) (flat_map f rows) ≡ false
  none_flat f [] h = refl
  none_flat f (r ∷ rows) h = none_of_both is_its (f r) (flat_map f rows) h.0 (none_flat f rows h.1)

  each_none : (rows : List UpRow) → list_any (λ r. same_op op r.op) rows ≡ false → Each (λ r. same_op op r.op ≡ false) rows
  each_none [] h = tt
  each_none (r ∷ rows) h = by (same_op op r.op) refl h (each_none rows)
    where
      by : (b : Bool) → same_op op r.op ≡ b → (b || list_any (λ x. same_op op x.op) rows) ≡ false → (list_any (λ x. same_op op x.op) rows ≡ false → Each (λ x. same_op op x.op ≡ false) rows) → (same_op op r.op ≡ false) × Each (λ x. same_op op x.op ≡ false) rows
      by true e k ih = absurd (let bad : true ≡ false = k in cc)
      by false e k ih = (e, ih k)

  none_became : (f : UpRow → List UpRow) → ((r : UpRow) → Each (IsOp r.op) (f r)) → (rows : List UpRow) → list_any (λ r. same_op op r.op) rows ≡ false → list_any (λ r. same_op op r.op) (flat_map f rows) ≡ false
  none_became f same rows h = none_flat f rows (each_imply (λ r. same_op op r.op ≡ false) (λ r. has_row (f r) ≡ false) rows (λ r k. others r.op (f r) (same r) k) (each_none rows h))

  none_put : (r : UpRow) (rows : List UpRow) → same_op op r.op ≡ false → list_any (λ q. same_op op q.op) rows ≡ false → list_any (λ q. same_op op q.op) (put_row r rows) ≡ false
  none_put r rows h k = none_each (put_row r rows) (each_put (λ q. same_op op q.op ≡ false) r rows h (each_none rows k))
    where
      none_each : (qs : List UpRow) → Each (λ q. same_op op q.op ≡ false) qs → list_any (λ q. same_op op q.op) qs ≡ false
      none_each [] i = refl
      none_each (q ∷ qs) i = ap (λ b. b || has_row qs) i.0 ∙ none_each qs i.1

  -- where there is no row of it, there is none behind an entry, but the Sent of its Forward
  module _ (s : Settings) (m : Marked) (p : ConnectionState) (none : list_any (λ r. same_op op r.op) p.rows ≡ false) (unsent : passes (λ t. is_forward_of op t.letter) m.mark ≡ false) where
    put_none : (id : ℕ) (o : Option Taken) → passes (λ t. is_forward_of op t.letter) o ≡ false → list_any (λ r. same_op op r.op) (elim o [ None ↦ p.rows | Some t ↦ rows_sent m.entry.at id p.rows t.letter ]) ≡ false
    put_none id None k = none
    put_none id (Some t) k = by t.letter k
      where
        by : (x : Letter) → is_forward_of op x ≡ false → list_any (λ r. same_op op r.op) (rows_sent m.entry.at id p.rows x) ≡ false
        by (Forward o sort rest ask holder) j = none_put (record { id = id; op = o; kind = sort; ask_who = ask; sent = m.entry.at; answered = m.entry.at; kept = None }) p.rows j none
        by _ j = none

    none_after : (w : What) → list_any (λ r. same_op op r.op) (connection_behind s m.entry m.mark p w).rows ≡ false
    none_after (what.Sent id o rest) = put_none id m.mark unsent
    none_after (what.Got id rest) = by (is_under_own p id)
      where
        by : (b : Bool) → list_any (λ r. same_op op r.op) (if b then p.rows else flat_map (behind_message m.entry.at (record { id = id; rest = rest })) p.rows) ≡ false
        by true = none
        by false = none_became (behind_message m.entry.at (record { id = id; rest = rest })) (same_answer m.entry.at (record { id = id; rest = rest })) p.rows none
    none_after (what.Own id rest) = none_became (behind_own (record { id = id; rest = rest })) (same_own (record { id = id; rest = rest })) p.rows none
    none_after (what.Expired o) = false_by (list_any is_its (filter (λ r. not (same_op o r.op)) p.rows)) (λ k. sym none ∙ any_filtered is_its (λ r. not (same_op o r.op)) p.rows k)
    none_after (what.Down why) = refl
    none_after _ = none

  -- what holds of the row that is found holds of each row of its name, since rows are apart
  of_name : (P : UpRow → Type 0) (rows : List UpRow) (r : UpRow) → are_apart rows ≡ true → find (λ q. same_op op q.op) rows ≡ Some r → P r → Each (λ q. same_op op q.op ≡ true → P q) rows
  of_name P [] r a e h = tt
  of_name P (x ∷ rows) r a e h = by (same_op op x.op) refl e (λ k. of_name P rows r (right (list_all (is_apart x) rows) _ a) k h)
    where
      apart : (qs : List UpRow) → same_op op x.op ≡ true → list_all (is_apart x) qs ≡ true → Each (λ q. same_op op q.op ≡ true → P q) qs
      apart [] i k = tt
      apart (q ∷ qs) i k = (λ j. absurd (let bad : false ≡ true = sym (not_true (same_op x.op q.op) (left (not (same_op x.op q.op)) _ (left (is_apart x q) _ k))) ∙ ap (λ n. same_op n q.op) (sym (same_op_eq op x.op i)) ∙ j in cc), apart qs i (right (is_apart x q) _ k))

      by : (b : Bool) → same_op op x.op ≡ b → cond b (Some x) (find (λ q. same_op op q.op) rows) ≡ Some r → (find (λ q. same_op op q.op) rows ≡ Some r → Each (λ q. same_op op q.op ≡ true → P q) rows) → (same_op op x.op ≡ true → P x) × Each (λ q. same_op op q.op ≡ true → P q) rows
      by true i k ih = let same : x ≡ r = cc in (λ j. subst P (sym same) h, apart rows i (left (list_all (is_apart x) rows) _ a))
      by false i k ih = (λ j. absurd (let bad : false ≡ true = sym i ∙ j in cc), ih k)

  unfound : (rows : List UpRow) → find (λ q. same_op op q.op) rows ≡ None → list_any (λ q. same_op op q.op) rows ≡ false
  unfound [] e = refl
  unfound (x ∷ rows) e = by (same_op op x.op) e (unfound rows)
    where
      by : (b : Bool) → cond b (Some x) (find (λ q. same_op op q.op) rows) ≡ None → (find (λ q. same_op op q.op) rows ≡ None → list_any (λ q. same_op op q.op) rows ≡ false) → (b || list_any (λ q. same_op op q.op) rows) ≡ false
      by true k ih = absurd (let bad : Some x ≡ None = k in cc)
      by false k ih = ih k

  -- What is kept: a Drop came behind the Forward, and there is no row.
  abbrev pub Over : ConnectionLedger → Type 0
  Over l = list_any (λ t. is_drop_of op t.letter) l.taken ≡ true → (list_any (λ t. is_forward_of op t.letter) l.taken ≡ true) × (list_any (λ r. same_op op r.op) l.state.rows ≡ false)

  -- what was taken last was taken
  last_taken : (q : OpName) (sender : PartName) (ts : List Taken) → is_taken_last (is_forward_of q) (is_drop_of q) sender ts ≡ true → list_any (λ t. is_forward_of q t.letter) ts ≡ true
  last_taken q sender ts h = any_filtered (λ t. is_forward_of q t.letter) (λ t. same_part sender t.sender && (is_forward_of q t.letter || is_drop_of q t.letter)) ts (by (filter (λ t. same_part sender t.sender && (is_forward_of q t.letter || is_drop_of q t.letter)) ts) h)
    where
      by : (xs : List Taken) → passes (λ t. is_forward_of q t.letter) (last xs) ≡ true → list_any (λ t. is_forward_of q t.letter) xs ≡ true
      by [] k = absurd (let bad : false ≡ true = k in cc)
      by (x ∷ []) k = or_left (is_forward_of q x.letter) false k
      by (x ∷ y ∷ xs) k = or_right (is_forward_of q x.letter) _ (by (y ∷ xs) k)

  -- a Forward comes once
  fresh_forward : (s : Settings) (l : ConnectionLedger) (sender : PartName) (x : Letter) → fits_connection s l sender x ≡ true → is_forward_of op x ≡ true → list_any (λ t. is_forward_of op t.letter) l.taken ≡ true → false ≡ true
  fresh_forward s l sender (Forward o sort rest ask holder) f k j =
      let apart : not (list_any (λ t. is_forward_of o t.letter) l.taken) ≡ true =
      right (same_part sender (Client o.client) && same_part sender (Client holder.client)) _
      (left (same_part sender (Client o.client) && same_part sender (Client holder.client) && not (list_any (λ t. is_forward_of o t.letter) l.taken)) _
      (left (same_part sender (Client o.client) && same_part sender (Client holder.client) && not (list_any (λ t. is_forward_of o t.letter) l.taken) && l.state.up) _
      (left (same_part sender (Client o.client) && same_part sender (Client holder.client) && not (list_any (λ t. is_forward_of o t.letter) l.taken) && l.state.up && is_of_its_kind s l.state sort rest ask) _ f))) in
      sym (not_true (list_any (λ t. is_forward_of o t.letter) l.taken) apart) ∙ subst (λ n. list_any (λ t. is_forward_of n t.letter) l.taken ≡ true) (same_op_eq op o k) j
  fresh_forward s l sender _ f k j = k

  module _ (s : Settings) (F : Family) (u : ℕ) (before : List Marked) (l : ConnectionLedger) (known : Known s F u before l) where
    -- an own message that abandons the row
    abandoned : (id : ℕ) (rest : List ℕ) (o : Option UpRow) → find (λ r. same_op op r.op) l.state.rows ≡ o → passes (is_abandoned_by rest) o ≡ true → list_any (λ r. same_op op r.op) (flat_map (behind_own (record { id = id; rest = rest })) l.state.rows) ≡ false
    abandoned id rest None e k = absurd (let bad : false ≡ true = k in cc)
    abandoned id rest (Some r) e k =
        none_flat (behind_own msg) l.state.rows
        (each_imply (λ q. (same_op op q.op ≡ true → behind_own msg q ≡ []) × (same_op op q.op ≡ true → behind_own msg q ≡ [])) (λ q. has_row (behind_own msg q) ≡ false) l.state.rows (λ q h. by q (same_op op q.op) refl h.0)
        (each_both (λ q. same_op op q.op ≡ true → behind_own msg q ≡ []) (λ q. same_op op q.op ≡ true → behind_own msg q ≡ []) l.state.rows gone gone))
      where
        msg : Message
        msg = record { id = id; rest = rest }

        unkept : r.kept ≡ None
        unkept = none_is r.kept (not_kept u (entries before) r (found (is_sound u (entries before)) (λ q. same_op op q.op) l.state.rows r e known.sound))
          where
            none_is : (x : Option Kept) → is_none x ≡ true → x ≡ None
            none_is None j = refl
            none_is (Some kept) j = absurd (let bad : false ≡ true = j in cc)

        off : (b : Bool) → (b && false) ≡ false
        off true = refl
        off false = refl

        turned : Bool → Bool → List UpRow
        turned a b = elim a [ true ↦ record r { kept = elim r.kept [ None ↦ None | Some kept ↦ Some (record kept { who = Some id }) ] } ∷ [] | false ↦ elim b [ true ↦ [] | false ↦ r ∷ [] ] ]

        ended : behind_own (record { id = id; rest = rest }) r ≡ []
        ended = ap (λ a. turned a (is_abandoned_by rest r)) (ap (λ x. bytes_eq rest who_am_i && passes (λ kept. is_none kept.who) x) unkept ∙ off (bytes_eq rest who_am_i)) ∙ ap (turned false) k

        gone : Each (λ q. same_op op q.op ≡ true → behind_own (record { id = id; rest = rest }) q ≡ []) l.state.rows
        gone = of_name (λ q. behind_own msg q ≡ []) l.state.rows r known.apart.apart e ended

        by : (q : UpRow) (b : Bool) → same_op op q.op ≡ b → (same_op op q.op ≡ true → behind_own (record { id = id; rest = rest }) q ≡ []) → list_any (λ x. same_op op x.op) (behind_own (record { id = id; rest = rest }) q) ≡ false
        by q true i h = ap has_row (h i)
        by q false i h = others q.op (behind_own msg q) (same_own msg q) i

    -- a Drop of it
    dropped : (m : Marked) (o : OpName) → same_op op o ≡ true → (w : What) → marks_connection l.state w (Drop o) ≡ true → list_any (λ r. same_op op r.op) (connection_behind s m.entry m.mark l.state w).rows ≡ false
    dropped m o k (what.Own id rest) i = abandoned id rest (row_named l.state op) refl (subst (λ n. passes (is_abandoned_by rest) (row_named l.state n) ≡ true) (sym (same_op_eq op o k)) i)
    dropped m o k (what.Idle q) i = unfound l.state.rows (none_is (row_named l.state op) (subst (λ n. is_none (row_named l.state n) ≡ true) (sym (same_op_eq op o k)) (right (same_op q o) _ i)))
      where
        none_is : (x : Option UpRow) → is_none x ≡ true → x ≡ None
        none_is None j = refl
        none_is (Some r) j = absurd (let bad : false ≡ true = j in cc)
    dropped m o k _ i = absurd (let bad : false ≡ true = i in cc)

    over_step : (m : Marked) → Over l → has_connection_mark l.state m ≡ true → ((t : Taken) → m.mark ≡ Some t → fits_connection s l t.sender t.letter ≡ true) → Over (step_connection_ledger s l m)
    over_step m h k f = by m.mark refl k
      where
        by : (o : Option Taken) → m.mark ≡ o → (elim o [ None ↦ not (must_mark_connection l.state m.entry.what) | Some t ↦ marks_connection l.state m.entry.what t.letter ]) ≡ true → list_any (λ t. is_drop_of op t.letter) (with_mark o l.taken) ≡ true → (list_any (λ t. is_forward_of op t.letter) (with_mark o l.taken) ≡ true) × (list_any (λ r. same_op op r.op) (connection_behind s m.entry m.mark l.state m.entry.what).rows ≡ false)
        by None e i d = let b = h d in (b.0, none_after s m l.state b.1 (ap (passes (λ t. is_forward_of op t.letter)) e) m.entry.what)
        by (Some t) e i d = any_split (λ x. is_drop_of op x.letter) l.taken (t ∷ []) earlier now d
          where
            earlier : list_any (λ x. is_drop_of op x.letter) l.taken ≡ true → (list_any (λ x. is_forward_of op x.letter) (l.taken ++ t ∷ []) ≡ true) × (list_any (λ r. same_op op r.op) (connection_behind s m.entry m.mark l.state m.entry.what).rows ≡ false)
            earlier j =
                let b = h j in
                let unsent : is_forward_of op t.letter ≡ false = false_by (is_forward_of op t.letter) (λ g. fresh_forward s l t.sender t.letter (f t e) g b.0) in
                (any_before (λ x. is_forward_of op x.letter) l.taken (t ∷ []) b.0, none_after s m l.state b.1 (ap (passes (λ x. is_forward_of op x.letter)) e ∙ unsent) m.entry.what)

            letter : (x : Letter) → is_drop_of op x ≡ true → marks_connection l.state m.entry.what x ≡ true → fits_connection s l t.sender x ≡ true → (list_any (λ y. is_forward_of op y.letter) l.taken ≡ true) × (list_any (λ r. same_op op r.op) (connection_behind s m.entry m.mark l.state m.entry.what).rows ≡ false)
            letter (Drop o) j g q = (subst (λ n. list_any (λ y. is_forward_of n y.letter) l.taken ≡ true) (sym (same_op_eq op o j)) (last_taken o t.sender l.taken (right (not (is_bind l.state)) _ q)), dropped m o j m.entry.what g)
            letter _ j g q = absurd (let bad : false ≡ true = j in cc)

            now : list_any (λ x. is_drop_of op x.letter) (t ∷ []) ≡ true → (list_any (λ x. is_forward_of op x.letter) (l.taken ++ t ∷ []) ≡ true) × (list_any (λ r. same_op op r.op) (connection_behind s m.entry m.mark l.state m.entry.what).rows ≡ false)
            now j =
                let b = letter t.letter (or_elim (is_drop_of op t.letter) false (λ x. x) (λ x. absurd (let bad : false ≡ true = x in cc)) j) i (f t e) in
                (any_before (λ x. is_forward_of op x.letter) l.taken (t ∷ []) b.0, b.1)

  over_all : (s : Settings) (F : Family) (u : ℕ) (before : List Marked) (l : ConnectionLedger) (ms : List Marked) → AtEach s (Known s F u) before l ms → Over l → each_from (step_connection s) has_connection_mark l.state ms ≡ true → are_fit_from (fits_connection s) (step_connection_ledger s) l ms ≡ true → Over (ledger_behind (step_connection_ledger s) l ms)
  over_all s F u before l [] a h k f = h
  over_all s F u before l (m ∷ ms) a h k f =
      over_all s F u (before ++ m ∷ []) (step_connection_ledger s l m) ms a.1
      (over_step s F u before l a.0 m h (left (has_connection_mark l.state m) _ k) (fit_mark m.mark f))
      (right (has_connection_mark l.state m) _ k) (right (not (is_unfit (fits_connection s) l m.mark)) _ f)
    where
      fit_mark : (o : Option Taken) → (not (is_unfit (fits_connection s) l o) && are_fit_from (fits_connection s) (step_connection_ledger s) (step_connection_ledger s l m) ms) ≡ true → (t : Taken) → o ≡ Some t → fits_connection s l t.sender t.letter ≡ true
      fit_mark None g t e = absurd (let bad : None ≡ Some t = e in cc)
      fit_mark (Some x) g t e = let same : x ≡ t = cc in subst (λ y. fits_connection s l y.sender y.letter ≡ true) same (is_fit_there (fits_connection s) l x (are_fit_from (fits_connection s) (step_connection_ledger s) (step_connection_ledger s l m) ms) g)

-- what a list's marks took is among the letters of the ledger
ledger_taken : (s : Settings) (p : PartName) (test : Letter → Bool) (l : ConnectionLedger) (ms : List Marked) → list_any test (taken_from p ms) ≡ true → list_any (λ t. test t.letter) (ledger_behind (step_connection_ledger s) l ms).taken ≡ true
ledger_taken s p test l [] h = absurd (let bad : false ≡ true = h in cc)
ledger_taken s p test l (m ∷ ms) h = any_split test (letter_from p m.mark) (taken_from p ms) (λ k. kept (step_connection_ledger s l m) ms (here m.mark k)) (λ k. ledger_taken s p test (step_connection_ledger s l m) ms k) h
  where
    kept : (q : ConnectionLedger) (ns : List Marked) → list_any (λ t. test t.letter) q.taken ≡ true → list_any (λ t. test t.letter) (ledger_behind (step_connection_ledger s) q ns).taken ≡ true
    kept q [] k = k
    kept q (n ∷ ns) k = kept (step_connection_ledger s q n) ns (by n.mark)
      where
        by : (o : Option Taken) → list_any (λ t. test t.letter) (with_mark o q.taken) ≡ true
        by None = k
        by (Some t) = any_before (λ x. test x.letter) q.taken (t ∷ []) k

    here : (o : Option Taken) → list_any test (letter_from p o) ≡ true → list_any (λ t. test t.letter) (with_mark o l.taken) ≡ true
    here None k = absurd (let bad : false ≡ true = k in cc)
    here (Some t) k = any_behind (λ x. test x.letter) l.taken (t ∷ []) (by (same_part p t.sender) k)
      where
        by : (b : Bool) → list_any test (elim b [ true ↦ t.letter ∷ [] | false ↦ [] ]) ≡ true → list_any (λ x. test x.letter) (t ∷ []) ≡ true
        by true j = j
        by false j = absurd (let bad : false ≡ true = j in cc)

module _ (rightly : ForwardsAreRight) (whole : FitIsWhole) (s : Settings) (F : Family) (marked : PartName → List Marked) (h : Played s F marked) (u : ℕ) (kind : is_of_kind s Regular u ≡ true) (op : OpName) (dropped_there : list_any (is_drop_of op) (taken_from (Client op.client) (marked (Connection u))) ≡ true) where
  abbrev list : List Marked
  list = marked (Connection u)

  abbrev l0 : ConnectionLedger
  l0 = empty_connection_ledger s u

  share : ConnectionShare s u (marked (Connection u))
  share = h.joined.shared.shares (Connection u)

  at_each : AtEach s (Known s F u) [] (empty_connection_ledger s u) (marked (Connection u))
  at_each = known_at_each rightly whole s F marked h u kind

  no_row : list_any (λ r. same_op op r.op) (ledger_behind (step_connection_ledger s) (empty_connection_ledger s u) (marked (Connection u))).state.rows ≡ false
  no_row = (over_all op s F u [] l0 list at_each (λ k. absurd (let bad : false ≡ true = k in cc)) share.marks (h.joined.fit (Connection u)) (ledger_taken s (Client op.client) (is_drop_of op) l0 list dropped_there)).1

  -- an open Sent of it has a row
  opened : (xs : List Sending) → Each (λ x. is_open_in s F x ≡ true → OneIn (λ r. Live s F r x) (ledger_behind (step_connection_ledger s) (empty_connection_ledger s u) (marked (Connection u))).state.rows) xs → list_any (λ x. same_op op x.op && of_operation F (is_open s) x) xs ≡ true → false ≡ true
  opened [] e k = k
  opened (x ∷ xs) e k = or_elim (same_op op x.op && of_operation F (is_open s) x) (list_any (λ y. same_op op y.op && of_operation F (is_open s) y) xs) one (opened xs e.1) k
    where
      one : (same_op op x.op && of_operation F (is_open s) x) ≡ true → false ≡ true
      one j = sym no_row ∙ one_passes (λ r. Live s F r x) (λ r. same_op op r.op) (ledger_behind (step_connection_ledger s) l0 list).state.rows (λ r live. ap (same_op op) (sym live.op) ∙ left (same_op op x.op) _ j) (e.0 (right (same_op op x.op) _ j))

  pub not_open : is_open_at s F u (F.connection u) op ≡ false
  not_open =
      let last : Known s F u list (ledger_behind (step_connection_ledger s) l0 list) = at_end s (Known s F u) [] l0 list at_each in
      false_by (is_open_at s F u (F.connection u) op)
      (λ k. opened (sendings u (F.connection u)) (subst (λ es. Each (λ x. is_open_in s F x ≡ true → OneIn (λ r. Live s F r x) (ledger_behind (step_connection_ledger s) l0 list).state.rows) (sendings u es)) (h.joined.shared.same_entries (Connection u)) last.lives.of_sents) k)

pub dropped_over : ForwardsAreRight → FitIsWhole → DroppedAreOver
dropped_over rightly whole s F marked h u kind op k = not_open rightly whole s F marked h u kind op k
