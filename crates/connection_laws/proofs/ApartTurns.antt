-- The rows and identifiers of a regular connection stay apart through its turns.
use Rattle.std.proofs.Common.{◌≡◌, ℕ, suc, Bool, true, false, ◌==◌, ◌&&◌, ◌||◌, not, List, [], ◌∷◌, ◌++◌, refl, ap, arith, ◌∙◌, sym, subst, append_assoc}
use Rattle.std.specs.Prelude.{Option, Some, None, filter, flat_map, find, cond, is_none, max, nat_lt, if◌then◌else◌}
use Rattle.std.specs.List.{list_any, list_all}
use Rattle.std.specs.Str.{bytes_eq}
use Rattle.std.proofs.lemmas.Bool.Decides.{nat_tests}
use Rattle.std.proofs.lemmas.List.Folds.{list_all-append}
use Rattle.ldap_spec.specs.Messages.{Message}
use Rattle.ldap_spec.specs.Bodies.{abandon}
use Rattle.std.proofs.lemmas.Bool.{ltb-true, lt-ltb}
use Rattle.lload_names.specs.declared.names.Entry.{Entry}
use Rattle.lload_names.specs.declared.names.PartName.{PartName}
use Rattle.lload_names.specs.declared.names.OpName.{OpName}
use Rattle.lload_names.specs.declared.names.Letter.{Letter}
use Rattle.lload_names.specs.declared.names.Letter.TheVariants.{Forward}
use Rattle.lload_names.specs.declared.names.What.{What}
use Rattle.lload_names.specs.declared.names.What.TheVariants as what
use Rattle.lload_spec.specs.Lists.{passes}
use Rattle.lload_spec.specs.Settings.{Settings}
use Rattle.lload_spec.specs.Journal.{same_op}
use Rattle.lload_spec.specs.Entries.{sent_message, is_own}
use Rattle.lload_spec.specs.Identifiers.{Ids, id_for, has_right_id, with_freed}
use Rattle.part_spec.specs.Marks.{has_connection_mark, marks_connection}
use Rattle.part_spec.specs.Fit.{is_forward_of, ConnectionLedger, step_connection_ledger, ledger_behind as behind}
use Rattle.part_spec.specs.ConnectionState.{ConnectionState, UpRow, is_bind_row, is_under_own, step_connection, behind_message, behind_own, freed_id, put_row, with_got, with_sent, with_missed, connection_behind}
use Rattle.lload_spec.proofs.Growth.{left, right, both}
use Rattle.connection_laws.proofs.Rows.{all_filter, all_flat, all_put, is_sound, sent_as, row_of_mark, rows_more, marks_no_bind}
use Rattle.connection_laws.proofs.Permits.{Chain, UpStands, up_stands_more, push_entry, sends_new}
use Rattle.part_spec.specs.Marked.{Marked, Taken, entries}
use Rattle.std.proofs.lemmas.List.{append-nil}
use Rattle.part_laws.proofs.ListLaws.{false_by, not_true, same_number, same_op_eq, eqb_sym, eqb_same, or_left, or_right, all_kept}
use Rattle.lload_laws.proofs.ListLaws.{all_imply, all_both, all_always, found}
use Rattle.connection_laws.proofs.Apart.{abandon_apart, is_apart, are_apart, apart_flat, shrinks_message, shrinks_own, apart_filter, apart_push, below_more, below_shrinks, sent_entry, is_taken, RowsApart, is_unnamed, unnamed_shrinks, one_unnamed, unnamed_push, unnamed_own, all_flat_by, free_unnamed_push, freed_all, or_false_left, or_false_right, free_shrinks, freed_apart, taken_put, taken_filter}

module _ (s : Settings) (u : ℕ) (place : List Entry) (taken : List Taken) (p : ConnectionState) (h : RowsApart place p) (sound : list_all (is_sound u place) p.rows ≡ true) (sent : (op : OpName) → list_any (λ e. passes (λ y. same_op op y.op) (sent_message e.what)) place ≡ true → list_any (λ t. is_forward_of op t.letter) taken ≡ true) (abandoned : (i : ℕ) → list_any (is_own (abandon i)) place ≡ true → nat_lt i p.ids.next ≡ true) where
  -- what the identifier of an operation is: no row's, and named by no Abandon
  apart_number : (m n : ℕ) → nat_lt m n ≡ true → (m == n) ≡ false
  apart_number m n k = grind (arith, nat_tests, k)

  never : (n : ℕ) → nat_lt n n ≡ true → false ≡ true
  never n k = absurd (grind (arith, nat_tests, k))

  next_untaken : (rows : List UpRow) → list_all (λ r. nat_lt r.id p.ids.next) rows ≡ true → is_taken rows p.ids.next ≡ false
  next_untaken [] k = refl
  next_untaken (r ∷ rows) k = ap (λ b. b || is_taken rows p.ids.next) (apart_number r.id p.ids.next (left (nat_lt r.id p.ids.next) _ k)) ∙ next_untaken rows (right (nat_lt r.id p.ids.next) _ k)

  abbrev head_of : List ℕ → ℕ
  head_of ns = elim ns [ [] ↦ p.ids.next | n ∷ xs ↦ n ]

  untaken : is_taken p.rows (id_for p.ids) ≡ false
  untaken = by p.ids.free h.free_apart
    where
      by : (ns : List ℕ) → list_all (λ n. not (is_taken p.rows n)) ns ≡ true → is_taken p.rows (head_of ns) ≡ false
      by [] k = next_untaken p.rows h.below
      by (n ∷ ns) k = not_true (is_taken p.rows n) (left (not (is_taken p.rows n)) _ k)

  id_unnamed : not (list_any (is_own (abandon (id_for p.ids))) place) ≡ true
  id_unnamed = by p.ids.free h.free_unnamed
    where
      by : (ns : List ℕ) → list_all (λ n. not (list_any (is_own (abandon n)) place)) ns ≡ true → not (list_any (is_own (abandon (head_of ns))) place) ≡ true
      by [] k = ap not (false_by (list_any (is_own (abandon p.ids.next)) place) (λ j. never p.ids.next (abandoned p.ids.next j)))
      by (n ∷ ns) k = left (not (list_any (is_own (abandon n)) place)) _ k

  taken_row : (i : ℕ) (rows : List UpRow) → is_taken rows i ≡ false → list_all (λ r. not (r.id == i)) rows ≡ true
  taken_row i [] k = refl
  taken_row i (r ∷ rows) k = both (not (r.id == i)) _ (ap not (or_false_left (r.id == i) _ k)) (taken_row i rows (or_false_right (r.id == i) _ k))

  -- a row is apart from a new one
  apart_new : (r : UpRow) (op : OpName) (q : UpRow) → is_sound u place r ≡ true → not (r.id == q.id) ≡ true → q.op ≡ op → list_any (λ t. is_forward_of op t.letter) taken ≡ false → is_apart r q ≡ true
  apart_new r op q a b o new = both (not (same_op r.op q.op)) _ (ap not (false_by (same_op r.op q.op) (λ k. let one : r.op ≡ op = same_op_eq r.op q.op k ∙ o in sym new ∙ sent op (subst (λ z. list_any (λ e. passes (λ y. same_op z y.op) (sent_message e.what)) place ≡ true) one (sent_entry r.op r.id place (sym (sent_as u place r.id r.op) ∙ right (not (is_bind_row r) && is_none r.kept) _ a)))))) b

  above_id : (i n : ℕ) → nat_lt i (max n (suc i)) ≡ true
  above_id i n = lt-ltb i (max n (suc i)) (omega arith)

  -- behind a Sent of the right identifier, with its Forward
  sent_apart : (part : PartName) (at id : ℕ) (op : OpName) (rest : List ℕ) (sender : PartName) (x : Letter) → marks_connection p (what.Sent id op rest) x ≡ true → id ≡ id_for p.ids → list_any (λ t. is_forward_of op t.letter) taken ≡ false → RowsApart (place ++ record { part = part; at = at; what = what.Sent id op rest } ∷ []) (with_sent at id (Some (record { sender = sender; letter = x })) p)
  sent_apart part at id op rest sender (Forward o sort body ask holder) m i new =
      let row : UpRow = record { id = id; op = o; kind = sort; ask_who = ask; sent = at; answered = at; kept = None } in
      let e : Entry = record { part = part; at = at; what = what.Sent id op rest } in
      let free : is_taken p.rows id ≡ false = ap (is_taken p.rows) i ∙ untaken in
      record {
        apart = apart_push p.rows row (all_imply (λ r. is_sound u place r && not (r.id == id)) (λ r. is_apart r row) p.rows (λ r k. apart_new r op row (left (is_sound u place r) _ k) (right (is_sound u place r) _ k) (row_of_mark p at id op rest (Forward o sort body ask holder) m o row refl) new) (all_both (is_sound u place) (λ r. not (r.id == id)) p.rows sound (taken_row id p.rows free))) h.apart;
        below = all_put (λ r. nat_lt r.id (max p.ids.next (suc id))) row p.rows (above_id id p.ids.next) (below_more p.ids.next (max p.ids.next (suc id)) p.rows (omega arith) h.below);
        unnamed = all_put (is_unnamed (place ++ e ∷ [])) row p.rows (one_unnamed place e id refl (ap (λ n. not (list_any (is_own (abandon n)) place)) i ∙ id_unnamed)) (unnamed_push place e p.rows (λ n. refl) h.unnamed);
        free_below = all_kept (λ n. nat_lt n (max p.ids.next (suc id))) (λ n. not (n == id)) p.ids.free (lower p.ids.free h.free_below);
        free_unnamed = free_unnamed_push place e (filter (λ n. not (n == id)) p.ids.free) (λ n k. refl) (all_kept (λ n. not (list_any (is_own (abandon n)) place)) (λ n. not (n == id)) p.ids.free h.free_unnamed);
        free_apart = apart_free row p.ids.free h.free_apart;
      }
    where
      lower : (ns : List ℕ) → list_all (λ n. nat_lt n p.ids.next) ns ≡ true → list_all (λ n. nat_lt n (max p.ids.next (suc id))) ns ≡ true
      lower ns k = all_imply (λ n. nat_lt n p.ids.next) (λ n. nat_lt n (max p.ids.next (suc id))) ns (λ n j. lt-ltb n (max p.ids.next (suc id)) (let below = ltb-true n p.ids.next j in omega (arith, below))) k

      apart_free : (row : UpRow) (ns : List ℕ) → list_all (λ n. not (is_taken p.rows n)) ns ≡ true → list_all (λ n. not (is_taken (put_row row p.rows) n)) (filter (λ n. not (n == row.id)) ns) ≡ true
      apart_free row [] k = refl
      apart_free row (n ∷ ns) k = more (n == row.id) refl (apart_free row ns (right (not (is_taken p.rows n)) _ k))
        where
          more : (b : Bool) → (n == row.id) ≡ b → list_all (λ n. not (is_taken (put_row row p.rows) n)) (filter (λ n. not (n == row.id)) ns) ≡ true → list_all (λ n. not (is_taken (put_row row p.rows) n)) (cond (not b) (n ∷ filter (λ n. not (n == row.id)) ns) (filter (λ n. not (n == row.id)) ns)) ≡ true
          more true e j = j
          more false e j = both (not (is_taken (put_row row p.rows) n)) _ (ap not (taken_put n row p.rows (eqb_sym row.id n ∙ e) (not_true (is_taken p.rows n) (left (not (is_taken p.rows n)) _ k)))) j
  sent_apart part at id op rest sender _ m i new = absurd (let bad : false ≡ true = m in cc)

  -- where an entry leaves the rows and identifiers
  apart_idle : (e : Entry) (q : ConnectionState) → q.rows ≡ p.rows → q.ids ≡ p.ids → ((i : ℕ) → is_own (abandon i) e ≡ false) → RowsApart (place ++ e ∷ []) q
  apart_idle e q rows ids n =
      record {
        apart = ap are_apart rows ∙ h.apart;
        below = ap (λ l. list_all (λ r. nat_lt r.id q.ids.next) l) rows ∙ ap (λ x. list_all (λ r. nat_lt r.id x.next) p.rows) ids ∙ h.below;
        unnamed = ap (list_all (is_unnamed (place ++ e ∷ []))) rows ∙ unnamed_push place e p.rows n h.unnamed;
        free_below = ap (λ x. list_all (λ n. nat_lt n x.next) x.free) ids ∙ h.free_below;
        free_unnamed = ap (λ x. list_all (λ n. not (list_any (is_own (abandon n)) (place ++ e ∷ []))) x.free) ids ∙ free_unnamed_push place e p.ids.free (λ i k. n i) h.free_unnamed;
        free_apart = ap (λ l. list_all (λ n. not (is_taken l n)) q.ids.free) rows ∙ ap (λ x. list_all (λ n. not (is_taken p.rows n)) x.free) ids ∙ h.free_apart;
      }

  -- the rows behind an entry
  pub apart_more : (part : PartName) (at : ℕ) (mark : Option Taken) (w : What) → has_connection_mark p (record { entry = record { part = part; at = at; what = w }; mark = mark }) ≡ true → has_right_id p.ids w ≡ true → sends_new taken w ≡ true → ((i : ℕ) → is_own (abandon i) (record { part = part; at = at; what = w }) ≡ true → list_any (λ n. n == i) p.ids.free ≡ false) → RowsApart (place ++ record { part = part; at = at; what = w } ∷ []) (connection_behind s (record { part = part; at = at; what = w }) mark p w)
  apart_more part at None (what.Sent id op rest) fit next new named = absurd (let bad : false ≡ true = fit in cc)
  apart_more part at (Some t) (what.Sent id op rest) fit next new named = sent_apart part at id op rest t.sender t.letter fit (same_number id (id_for p.ids) next) (not_true (list_any (λ t. is_forward_of op t.letter) taken) new)
  apart_more part at mark (what.Own id rest) fit next new named =
      record {
        apart = apart_flat (behind_own (record { id = id; rest = rest })) p.rows (shrinks_own (record { id = id; rest = rest })) h.apart;
        below = all_flat (λ r. nat_lt r.id (max p.ids.next (suc id))) (behind_own (record { id = id; rest = rest })) p.rows (λ r k. below_shrinks (max p.ids.next (suc id)) r (behind_own (record { id = id; rest = rest }) r) (shrinks_own (record { id = id; rest = rest }) r) k) (below_more p.ids.next (max p.ids.next (suc id)) p.rows (omega arith) h.below);
        unnamed = all_flat_by (λ r. is_sound u place r && is_unnamed place r) (is_unnamed (place ++ record { part = part; at = at; what = what.Own id rest } ∷ [])) (behind_own (record { id = id; rest = rest })) p.rows (λ r k. unnamed_own u place part at id rest r k) (all_both (is_sound u place) (is_unnamed place) p.rows sound h.unnamed);
        free_below = all_imply (λ n. nat_lt n p.ids.next) (λ n. nat_lt n (max p.ids.next (suc id))) p.ids.free (λ n j. lt-ltb n (max p.ids.next (suc id)) (let below = ltb-true n p.ids.next j in omega (arith, below))) h.free_below;
        free_unnamed = free_unnamed_push place (record { part = part; at = at; what = what.Own id rest }) p.ids.free (λ n k. false_by (is_own (abandon n) (record { part = part; at = at; what = what.Own id rest })) (λ j. sym (named n j) ∙ k)) h.free_unnamed;
        free_apart = free_shrinks (behind_own (record { id = id; rest = rest })) p.rows p.ids.free (shrinks_own (record { id = id; rest = rest })) h.free_apart;
      }
  apart_more part at mark (what.Got id rest) fit next new named =
      let m : Message = record { id = id; rest = rest } in
      let e : Entry = record { part = part; at = at; what = what.Got id rest } in
      record {
        apart = by (is_under_own p id);
        below = low (is_under_own p id);
        unnamed = unnamed_push place e (if is_under_own p id then p.rows else flat_map (behind_message at m) p.rows) (λ i. refl) (bare (is_under_own p id));
        free_below = free_low (is_under_own p id);
        free_unnamed = free_unnamed_push place e (with_got at m p).ids.free (λ i k. refl) (free_bare (is_under_own p id));
        free_apart = free_of (is_under_own p id);
      }
    where
      ids_behind : Bool → Ids
      ids_behind b = if b then p.ids else with_freed (flat_map (freed_id at (record { id = id; rest = rest })) p.rows) p.ids

      by : (b : Bool) → are_apart (if b then p.rows else flat_map (behind_message at (record { id = id; rest = rest })) p.rows) ≡ true
      by true = h.apart
      by false = apart_flat (behind_message at (record { id = id; rest = rest })) p.rows (shrinks_message at (record { id = id; rest = rest })) h.apart

      bare : (b : Bool) → list_all (is_unnamed place) (if b then p.rows else flat_map (behind_message at (record { id = id; rest = rest })) p.rows) ≡ true
      bare true = h.unnamed
      bare false = all_flat (is_unnamed place) (behind_message at (record { id = id; rest = rest })) p.rows (λ r k. unnamed_shrinks place r (behind_message at (record { id = id; rest = rest }) r) (shrinks_message at (record { id = id; rest = rest }) r) k) h.unnamed

      low : (b : Bool) → list_all (λ r. nat_lt r.id (ids_behind b).next) (if b then p.rows else flat_map (behind_message at (record { id = id; rest = rest })) p.rows) ≡ true
      low true = h.below
      low false = all_flat (λ r. nat_lt r.id p.ids.next) (behind_message at (record { id = id; rest = rest })) p.rows (λ r k. below_shrinks p.ids.next r (behind_message at (record { id = id; rest = rest }) r) (shrinks_message at (record { id = id; rest = rest }) r) k) h.below

      free_low : (b : Bool) → list_all (λ n. nat_lt n (ids_behind b).next) (ids_behind b).free ≡ true
      free_low true = h.free_below
      free_low false = list_all-append (λ n. nat_lt n p.ids.next) p.ids.free (flat_map (freed_id at (record { id = id; rest = rest })) p.rows) ∙ both (list_all (λ n. nat_lt n p.ids.next) p.ids.free) _ h.free_below (freed_all (λ n. nat_lt n p.ids.next) at (record { id = id; rest = rest }) p.rows h.below)

      free_bare : (b : Bool) → list_all (λ n. not (list_any (is_own (abandon n)) place)) (ids_behind b).free ≡ true
      free_bare true = h.free_unnamed
      free_bare false = list_all-append (λ n. not (list_any (is_own (abandon n)) place)) p.ids.free (flat_map (freed_id at (record { id = id; rest = rest })) p.rows) ∙ both (list_all (λ n. not (list_any (is_own (abandon n)) place)) p.ids.free) _ h.free_unnamed (freed_all (λ n. not (list_any (is_own (abandon n)) place)) at (record { id = id; rest = rest }) p.rows h.unnamed)

      free_of : (b : Bool) → list_all (λ n. not (is_taken (if b then p.rows else flat_map (behind_message at (record { id = id; rest = rest })) p.rows) n)) (ids_behind b).free ≡ true
      free_of true = h.free_apart
      free_of false = list_all-append (λ n. not (is_taken (flat_map (behind_message at (record { id = id; rest = rest })) p.rows) n)) p.ids.free (flat_map (freed_id at (record { id = id; rest = rest })) p.rows) ∙ both (list_all (λ n. not (is_taken (flat_map (behind_message at (record { id = id; rest = rest })) p.rows) n)) p.ids.free) _ (free_shrinks (behind_message at (record { id = id; rest = rest })) p.rows p.ids.free (shrinks_message at (record { id = id; rest = rest })) h.free_apart) (freed_apart at (record { id = id; rest = rest }) p.rows h.apart)
  apart_more part at mark (what.Expired op) fit next new named =
      let e : Entry = record { part = part; at = at; what = what.Expired op } in
      record {
        apart = apart_filter (λ r. not (same_op op r.op)) p.rows h.apart;
        below = all_filter (λ r. nat_lt r.id p.ids.next) (λ r. not (same_op op r.op)) p.rows h.below;
        unnamed = unnamed_push place e (filter (λ r. not (same_op op r.op)) p.rows) (λ i. refl) (all_filter (is_unnamed place) (λ r. not (same_op op r.op)) p.rows h.unnamed);
        free_below = h.free_below;
        free_unnamed = free_unnamed_push place e p.ids.free (λ n k. refl) h.free_unnamed;
        free_apart = all_imply (λ n. not (is_taken p.rows n)) (λ n. not (is_taken (filter (λ r. not (same_op op r.op)) p.rows) n)) p.ids.free (λ n k. ap not (taken_filter (λ r. not (same_op op r.op)) n p.rows (not_true (is_taken p.rows n) k))) h.free_apart;
      }
  apart_more part at mark (what.Down why) fit next new named = record { apart = refl; below = refl; unnamed = refl; free_below = h.free_below; free_unnamed = free_unnamed_push place (record { part = part; at = at; what = what.Down why }) p.ids.free (λ n k. refl) h.free_unnamed; free_apart = all_always (λ n. true) p.ids.free (λ n. refl) }
  apart_more part at mark (what.Missed op) fit next new named = apart_idle (record { part = part; at = at; what = what.Missed op }) (with_missed p) refl refl (λ i. refl)
  apart_more part at mark (what.Arrived) fit next new named = apart_idle (record { part = part; at = at; what = what.Arrived }) (connection_behind s (record { part = part; at = at; what = what.Arrived }) mark p (what.Arrived)) refl refl (λ i. refl)
  apart_more part at mark (what.In id rest) fit next new named = apart_idle (record { part = part; at = at; what = what.In id rest }) (connection_behind s (record { part = part; at = at; what = what.In id rest }) mark p (what.In id rest)) refl refl (λ i. refl)
  apart_more part at mark (what.Chosen op answer) fit next new named = apart_idle (record { part = part; at = at; what = what.Chosen op answer }) (connection_behind s (record { part = part; at = at; what = what.Chosen op answer }) mark p (what.Chosen op answer)) refl refl (λ i. refl)
  apart_more part at mark (what.Out id rest) fit next new named = apart_idle (record { part = part; at = at; what = what.Out id rest }) (connection_behind s (record { part = part; at = at; what = what.Out id rest }) mark p (what.Out id rest)) refl refl (λ i. refl)
  apart_more part at mark (what.Late op) fit next new named = apart_idle (record { part = part; at = at; what = what.Late op }) (connection_behind s (record { part = part; at = at; what = what.Late op }) mark p (what.Late op)) refl refl (λ i. refl)
  apart_more part at mark (what.Gone why) fit next new named = apart_idle (record { part = part; at = at; what = what.Gone why }) (connection_behind s (record { part = part; at = at; what = what.Gone why }) mark p (what.Gone why)) refl refl (λ i. refl)
  apart_more part at mark (what.Linked) fit next new named = apart_idle (record { part = part; at = at; what = what.Linked }) (connection_behind s (record { part = part; at = at; what = what.Linked }) mark p (what.Linked)) refl refl (λ i. refl)
  apart_more part at mark (what.Up) fit next new named = apart_idle (record { part = part; at = at; what = what.Up }) (connection_behind s (record { part = part; at = at; what = what.Up }) mark p (what.Up)) refl refl (λ i. refl)
  apart_more part at mark (what.Retired) fit next new named = apart_idle (record { part = part; at = at; what = what.Retired }) (connection_behind s (record { part = part; at = at; what = what.Retired }) mark p (what.Retired)) refl refl (λ i. refl)
  apart_more part at mark (what.Idle op) fit next new named = apart_idle (record { part = part; at = at; what = what.Idle op }) (connection_behind s (record { part = part; at = at; what = what.Idle op }) mark p (what.Idle op)) refl refl (λ i. refl)
  apart_more part at mark (what.Asked op want) fit next new named = apart_idle (record { part = part; at = at; what = what.Asked op want }) (connection_behind s (record { part = part; at = at; what = what.Asked op want }) mark p (what.Asked op want)) refl refl (λ i. refl)
  apart_more part at mark (what.Chose op answer word) fit next new named = apart_idle (record { part = part; at = at; what = what.Chose op answer word }) (connection_behind s (record { part = part; at = at; what = what.Chose op answer word }) mark p (what.Chose op answer word)) refl refl (λ i. refl)
  apart_more part at mark (what.Heard x) fit next new named = apart_idle (record { part = part; at = at; what = what.Heard x }) (connection_behind s (record { part = part; at = at; what = what.Heard x }) mark p (what.Heard x)) refl refl (λ i. refl)
  apart_more part at mark (what.Stalled) fit next new named = apart_idle (record { part = part; at = at; what = what.Stalled }) (connection_behind s (record { part = part; at = at; what = what.Stalled }) mark p (what.Stalled)) refl refl (λ i. refl)
  apart_more part at mark (what.Flowing) fit next new named = apart_idle (record { part = part; at = at; what = what.Flowing }) (connection_behind s (record { part = part; at = at; what = what.Flowing }) mark p (what.Flowing)) refl refl (λ i. refl)
  apart_more part at mark (what.Paused client) fit next new named = apart_idle (record { part = part; at = at; what = what.Paused client }) (connection_behind s (record { part = part; at = at; what = what.Paused client }) mark p (what.Paused client)) refl refl (λ i. refl)
  apart_more part at mark (what.Resumed client) fit next new named = apart_idle (record { part = part; at = at; what = what.Resumed client }) (connection_behind s (record { part = part; at = at; what = what.Resumed client }) mark p (what.Resumed client)) refl refl (λ i. refl)
  apart_more part at mark (what.Replanned number base) fit next new named = apart_idle (record { part = part; at = at; what = what.Replanned number base }) (connection_behind s (record { part = part; at = at; what = what.Replanned number base }) mark p (what.Replanned number base)) refl refl (λ i. refl)

pub apart_through : (s : Settings) (u : ℕ) (ms : List Marked) (before : List Marked) (l : ConnectionLedger) → UpStands s u before l → Chain s before l ms → list_all (λ m. marks_no_bind m.mark) ms ≡ true → list_all (is_sound u (entries before)) l.state.rows ≡ true → RowsApart (entries before) l.state → RowsApart (entries (before ++ ms)) (behind (step_connection_ledger s) l ms).state
apart_through s u [] before l g k n sound h = subst (λ b. RowsApart (entries b) l.state) (sym (append-nil before)) h
apart_through s u (m ∷ ms) before l g k n sound h = subst (λ b. RowsApart (entries b) (behind (step_connection_ledger s) (step_connection_ledger s l m) ms).state) (append_assoc before (m ∷ []) ms) (apart_through s u ms (before ++ m ∷ []) (step_connection_ledger s l m) (up_stands_more s u before l m ms g k.0) k.1 (right (marks_no_bind m.mark) _ n) (ap (λ place. list_all (is_sound u place) (step_connection s l.state m).rows) (push_entry before m) ∙ rows_more s u (entries before) m.entry.part m.entry.at m.mark l.state m.entry.what k.0.fitting (left (marks_no_bind m.mark) _ n) sound) (with_moment (apart_more s u (entries before) l.taken l.state h sound g.sent g.abandoned m.entry.part m.entry.at m.mark m.entry.what k.0.fitting k.0.id_right k.0.fresh (λ i q. (k.0.named i q).2))))
  where
    with_moment : RowsApart (entries before ++ m.entry ∷ []) (connection_behind s m.entry m.mark l.state m.entry.what) → RowsApart (entries (before ++ m ∷ [])) (step_connection s l.state m)
    with_moment a = record { apart = a.apart; below = a.below; unnamed = ap (λ place. list_all (is_unnamed place) (step_connection s l.state m).rows) (push_entry before m) ∙ a.unnamed; free_below = a.free_below; free_unnamed = ap (λ place. list_all (λ n. not (list_any (is_own (abandon n)) place)) (step_connection s l.state m).ids.free) (push_entry before m) ∙ a.free_unnamed; free_apart = a.free_apart }

-- no free identifier is a row's
free_other : (rows : List UpRow) (t : UpRow → Bool) (r : UpRow) (ns : List ℕ) → find t rows ≡ Some r → list_all (λ n. not (is_taken rows n)) ns ≡ true → list_any (λ n. n == r.id) ns ≡ false
free_other rows t r [] f h = refl
free_other rows t r (n ∷ ns) f h = ap (λ b. b || list_any (λ m. m == r.id) ns) (false_by (n == r.id) (λ k. sym (not_true (is_taken rows n) (left (not (is_taken rows n)) _ h)) ∙ ap (is_taken rows) (same_number n r.id k) ∙ is_in rows f)) ∙ free_other rows t r ns f (right (not (is_taken rows n)) _ h)
  where
    is_in : (rs : List UpRow) → find t rs ≡ Some r → is_taken rs r.id ≡ true
    is_in [] g = absurd (let bad : None ≡ Some r = g in cc)
    is_in (x ∷ rs) g = more (t x) g (is_in rs)
      where
        more : (b : Bool) → cond b (Some x) (find t rs) ≡ Some r → (find t rs ≡ Some r → is_taken rs r.id ≡ true) → ((x.id == r.id) || is_taken rs r.id) ≡ true
        more true g k = let same : x ≡ r = cc in or_left (x.id == r.id) _ (ap (λ y. y.id == r.id) same ∙ eqb_same r.id)
        more false g k = or_right (x.id == r.id) _ (k g)

-- an Abandon of a row is the first of its identifier
pub names_first : (place : List Entry) (p : ConnectionState) (t : UpRow → Bool) (r : UpRow) → RowsApart place p → find t p.rows ≡ Some r → (i : ℕ) → bytes_eq (abandon r.id) (abandon i) ≡ true → (list_any (is_own (abandon i)) place ≡ false) × (nat_lt i p.ids.next ≡ true) × (list_any (λ n. n == i) p.ids.free ≡ false)
names_first place p t r h f i e = subst (λ n. (list_any (is_own (abandon n)) place ≡ false) × (nat_lt n p.ids.next ≡ true) × (list_any (λ m. m == n) p.ids.free ≡ false)) (abandon_apart r.id i e) (not_true (list_any (is_own (abandon r.id)) place) (found (λ q. not (list_any (is_own (abandon q.id)) place)) t p.rows r f h.unnamed), found (λ q. nat_lt q.id p.ids.next) t p.rows r f h.below, free_other p.rows t r p.ids.free f h.free_apart)
