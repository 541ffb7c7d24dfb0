-- What expires on a regular connection, and what is abandoned there, is open.
use Rattle.std.proofs.Common.{◌≡◌, ℕ, Bool, true, false, ◌==◌, ◌&&◌, ◌||◌, not, List, [], ◌∷◌, ◌++◌, refl, ap, ◌∙◌, sym, subst}
use Rattle.std.specs.Prelude.{Option, Some, None, is_some, map, if◌then◌else◌}
use Rattle.std.specs.List.{list_any, list_all}
use Rattle.std.specs.Str.{bytes_eq}
use Rattle.std.proofs.lemmas.List.{append-nil}
use Rattle.std.proofs.lemmas.Slice.Eq.{bytes_eq-Decides}
use Rattle.ldap_spec.specs.Bodies.{abandon, simple_bind, who_am_i}
use Rattle.ldap_spec.specs.Messages.{Message}
use Rattle.lload_names.specs.declared.names.EndWhy.TheVariants.{TimedOut}
use Rattle.lload_names.specs.declared.names.Entry.{Entry}
use Rattle.lload_names.specs.declared.names.OpKind.TheVariants.{Bind}
use Rattle.lload_names.specs.declared.names.OpName.{OpName}
use Rattle.lload_names.specs.declared.names.What.{What}
use Rattle.lload_names.specs.declared.names.What.TheVariants as what
use Rattle.lload_spec.specs.Answers.{Sending, is_last_sent, is_open, is_sent_under, of_operation, sending_made, sendings}
use Rattle.lload_spec.specs.Entries.{expired_op, is_down_by, is_expired, is_own, own_message, sent_message}
use Rattle.lload_spec.specs.Journal.{Family, same_op}
use Rattle.lload_spec.specs.Lists.{each_split_from, first_passes, implies, last_passes, passes, where_there}
use Rattle.lload_spec.specs.OneEach.{is_bind_due, is_own_bind}
use Rattle.lload_spec.specs.Operations.{is_of}
use Rattle.lload_spec.specs.Settings.{OwnBind, Settings}
use Rattle.lload_spec.specs.Strict.{is_abandon_open, is_expired_open, is_expiry_told}
use Rattle.lload_spec.specs.Owed.{is_open_at}
use Rattle.lload_spec.proofs.Growth.{left, right, both}
use Rattle.lload_laws.specs.ConnectionGrowth.{later_sending}
use Rattle.lload_laws.proofs.ConnectionGrowth.{sendings_grow}
use Rattle.lload_laws.proofs.ListLaws.{found_passes, implied, implies_by}
use Rattle.part_laws.proofs.ListLaws.{eq_eqb, last_push, none_of_both, not_true, or_elim, or_left, or_right, same_op_eq, same_op_refl}
use Rattle.part_spec.specs.ConnectionState.{ConnectionState, UpRow, is_bind_row, row_named, step_connection}
use Rattle.part_spec.specs.ConnectionTurn.{is_due}
use Rattle.part_spec.specs.Fit.{ConnectionLedger, step_connection_ledger}
use Rattle.part_spec.specs.Marked.{Marked, entries}
use Rattle.part_spec.specs.Share.{drops, each_place, has_due_messages, has_letter, has_reason, is_due_abandon, is_expired_due, is_sent_once, is_who_awaited, is_expiry_told as is_told_by_row}
use Rattle.connection_laws.proofs.Apart.{abandon_apart}
use Rattle.connection_laws.proofs.Permits.{push_entry}
use Rattle.connection_laws.proofs.Rows.{is_sound, no_bind}
use Rattle.client_answer_laws.proofs.Each.{Each, each_found, each_imply, each_map}
use Rattle.rows_laws.proofs.Known.{AtEach, Known}
use Rattle.rows_laws.proofs.Live.{Live, open_here}
use Rattle.rows_laws.proofs.Somewhere.{OneIn}
use Rattle.lload_laws.proofs.ListLaws.{found}
use Rattle.open_laws.proofs.Alone.{Once, new_by, once_more, one_of, reigns_last, sends, single_out}
use Rattle.open_laws.proofs.Among.{Among, Such, all_among, among_one, among_passing, any_among, of_each}

-- An own message that abandons is no other one.

own_is : (rest : List ℕ) (e : Entry) → is_own rest e ≡ true → is_some (own_message e.what) ≡ true
own_is rest e h = by (own_message e.what) h
  where
    by : (o : Option Message) → passes (λ m. bytes_eq m.rest rest) o ≡ true → is_some o ≡ true
    by None k = k
    by (Some m) k = refl

-- two bodies of one own message are the same
pub own_same : (a b : List ℕ) (e : Entry) → is_own a e ≡ true → is_own b e ≡ true → bytes_eq b a ≡ true
own_same a b e h k = by (own_message e.what) h k
  where
    by : (o : Option Message) → passes (λ m. bytes_eq m.rest a) o ≡ true → passes (λ m. bytes_eq m.rest b) o ≡ true → bytes_eq b a ≡ true
    by None i j = absurd (let bad : false ≡ true = i in cc)
    by (Some m) i j = ap (λ xs. bytes_eq xs a) (sym ((bytes_eq-Decides m.rest b).0 j)) ∙ i

pub no_own_bind : (s : Settings) (id : ℕ) (e : Entry) → is_own (abandon id) e ≡ true → is_own_bind s e ≡ true → false ≡ true
no_own_bind s id e h k = by s.own_bind k
  where
    by : (o : Option OwnBind) → passes (λ own. is_own (simple_bind own.dn own.credentials) e) o ≡ true → false ≡ true
    by None j = j
    by (Some own) j = own_same (abandon id) (simple_bind own.dn own.credentials) e h j

pub no_who : (id : ℕ) (e : Entry) → is_own (abandon id) e ≡ true → is_own who_am_i e ≡ true → false ≡ true
no_who id e h k = own_same (abandon id) who_am_i e h k

-- so its reason is that of an Abandon
pub abandon_reason : (s : Settings) (p : ConnectionState) (place : List Entry) (m : Marked) (id : ℕ) → is_own (abandon id) m.entry ≡ true → has_reason s p place m ≡ true → is_due_abandon p place m ≡ true
abandon_reason s p place m id h k = or_elim (is_own_bind s m.entry && last_passes (is_bind_due s p.number) place || is_own who_am_i m.entry && list_any is_who_awaited p.rows) (is_due_abandon p place m) (λ j. or_elim (is_own_bind s m.entry && last_passes (is_bind_due s p.number) place) (is_own who_am_i m.entry && list_any is_who_awaited p.rows) (λ i. absurd (let bad : false ≡ true = no_own_bind s id m.entry h (left (is_own_bind s m.entry) _ i) in cc)) (λ i. absurd (let bad : false ≡ true = no_who id m.entry h (left (is_own who_am_i m.entry) _ i) in cc)) j) (λ j. j) (implied (is_some (own_message m.entry.what)) _ k (own_is (abandon id) m.entry h))

-- The last entry.
pub last_was : (t : Entry → Bool) (place : List Entry) (e : Entry) → last_passes t (place ++ e ∷ []) ≡ true → t e ≡ true
last_was t place e h = sym (ap (λ o. elim o [ None ↦ false | Some x ↦ t x ]) (last_push place e)) ∙ h

expired_unsent : (w : What) (op : OpName) → expired_op w ≡ Some op → sent_message w ≡ None
expired_unsent (what.Expired op) q e = refl
expired_unsent _ q e = absurd (let bad : None ≡ Some q = e in cc)

module _ (s : Settings) (F : Family) (u : ℕ) where
  -- where an operation expired in the last entry, its Sent is the last under its identifier
  abbrev Late : List Entry → Type 0
  Late place = (op : OpName) → last_passes (is_expired op) place ≡ true → Each (λ x. same_op op x.op ≡ true → list_any (is_sent_under x.id) x.behind ≡ false) (sendings u place)

  module _ (before : List Marked) (l : ConnectionLedger) (h : Known s F u before l) (once : Once u (entries before)) where
    abbrev sents : List Sending
    sents = sendings u (entries before)

    -- the Sent of a row
    sent_of : (op : OpName) (r : UpRow) → row_named l.state op ≡ Some r → Such (λ x. Live s F r x) sents
    sent_of op r e = among_one (λ x. Live s F r x) sents (each_found (λ q. OneIn (λ x. Live s F q x) sents) (λ q. same_op op q.op) l.state.rows r e h.lives.of_rows)

    op_of : (op : OpName) (r : UpRow) (x : Sending) → row_named l.state op ≡ Some r → Live s F r x → same_op op x.op ≡ true
    op_of op r x e k = ap (same_op op) k.op ∙ found_passes (λ q. same_op op q.op) l.state.rows r e

    -- What expires.
    module _ (m : Marked) (ms : List Marked) where
      told : (r : UpRow) (x : Sending) → Live s F r x → is_bind_row r ≡ false → is_told_by_row (entries ms) r ≡ true → of_operation F (is_expiry_told (entries ms)) x ≡ true
      told r x k bare j = ap (passes (λ o. is_expiry_told (entries ms) o x)) k.found ∙ implies_by (not (is_of Bind k.o)) (first_passes (is_own (abandon x.id)) (entries ms)) (λ i. ap (λ n. first_passes (is_own (abandon n)) (entries ms)) k.id ∙ sym (ap (λ b. if b then first_passes (is_down_by TimedOut) (entries ms) else first_passes (is_own (abandon r.id)) (entries ms)) bare) ∙ j)

      expired_open : is_expired_due s l.state m ms ≡ true → is_expired_open s F u (entries before) m.entry (entries ms) ≡ true
      expired_open k = by (expired_op m.entry.what) k
        where
          row : (op : OpName) (o : Option UpRow) → row_named l.state op ≡ o → passes (λ r. is_due s m.entry.at r && is_told_by_row (entries ms) r) o ≡ true → (is_open_at s F u (entries before) op && list_all (λ x. implies (same_op op x.op) (of_operation F (is_expiry_told (entries ms)) x)) sents) ≡ true
          row op None e j = absurd (let bad : false ≡ true = j in cc)
          row op (Some r) e j =
              let z : Such (λ x. Live s F r x) sents = sent_of op r e in
              let same : same_op op z.it.op ≡ true = op_of op r z.it e z.so in
              let bare : is_bind_row r ≡ false = not_true (is_bind_row r) (no_bind u (entries before) r (found (is_sound u (entries before)) (λ q. same_op op q.op) l.state.rows r e h.sound)) in
              both (is_open_at s F u (entries before) op) _
              (any_among (λ x. same_op op x.op && of_operation F (is_open s) x) sents z.it z.among (both (same_op op z.it.op) _ same (open_here s F r z.it z.so)))
              (all_among (λ x. implies (same_op op x.op) (of_operation F (is_expiry_told (entries ms)) x)) sents (λ x a. implies_by (same_op op x.op) (of_operation F (is_expiry_told (entries ms)) x) (λ i. subst (λ y. of_operation F (is_expiry_told (entries ms)) y ≡ true) (sym (of_each (λ y. same_op op y.op ≡ true → y ≡ z.it) sents x (one_of u (entries before) op z.it once z.among same) a i)) (told r z.it z.so bare (right (is_due s m.entry.at r) _ j)))))

          by : (o : Option OpName) → (elim o [ None ↦ true | Some op ↦ passes (λ r. is_due s m.entry.at r && is_told_by_row (entries ms) r) (row_named l.state op) ]) ≡ true → where_there (λ op. is_open_at s F u (entries before) op && list_all (λ x. implies (same_op op x.op) (of_operation F (is_expiry_told (entries ms)) x)) sents) o ≡ true
          by None j = refl
          by (Some op) j = row op (row_named l.state op) refl j

      -- the Sent of what expires reigns
      expired_last : (op : OpName) → is_expired op m.entry ≡ true → is_expired_due s l.state m ms ≡ true → (sent_message m.entry.what ≡ None) × Each (λ x. same_op op x.op ≡ true → list_any (is_sent_under x.id) x.behind ≡ false) sents
      expired_last op j k = by (expired_op m.entry.what) refl j k
        where
          row : (q : OpName) → same_op op q ≡ true → (o : Option UpRow) → row_named l.state q ≡ o → passes (λ r. is_due s m.entry.at r && is_told_by_row (entries ms) r) o ≡ true → Each (λ x. same_op op x.op ≡ true → list_any (is_sent_under x.id) x.behind ≡ false) sents
          row q f None e i = absurd (let bad : false ≡ true = i in cc)
          row q f (Some r) e i =
              let z : Such (λ x. Live s F r x) sents = sent_of q r e in
              let same : same_op op z.it.op ≡ true = ap (λ n. same_op n z.it.op) (same_op_eq op q f) ∙ op_of q r z.it e z.so in
              each_imply (λ x. same_op op x.op ≡ true → x ≡ z.it) (λ x. same_op op x.op ≡ true → list_any (is_sent_under x.id) x.behind ≡ false) sents (λ x g n. ap (λ y. list_any (is_sent_under y.id) y.behind) (g n) ∙ reigns_last z.it.id z.it.behind z.so.reigns) (one_of u (entries before) op z.it once z.among same)

          by : (o : Option OpName) → expired_op m.entry.what ≡ o → passes (same_op op) o ≡ true → (elim o [ None ↦ true | Some q ↦ passes (λ r. is_due s m.entry.at r && is_told_by_row (entries ms) r) (row_named l.state q) ]) ≡ true → (sent_message m.entry.what ≡ None) × Each (λ x. same_op op x.op ≡ true → list_any (is_sent_under x.id) x.behind ≡ false) sents
          by None e i n = absurd (let bad : false ≡ true = i in cc)
          by (Some q) e i n = (expired_unsent m.entry.what q e, row q i (row_named l.state q) refl n)

      late_more : is_expired_due s l.state m ms ≡ true → Late (entries before ++ m.entry ∷ [])
      late_more k op j = let it = expired_last op (last_was (is_expired op) (entries before) m.entry j) k in subst (Each (λ x. same_op op x.op ≡ true → list_any (is_sent_under x.id) x.behind ≡ false)) (sym (sendings_grow u (entries before) m.entry ∙ ap (λ o. map (later_sending m.entry) sents ++ sending_made u (entries before) m.entry [] o) it.0 ∙ append-nil (map (later_sending m.entry) sents))) (each_map (λ x. same_op op x.op ≡ true → list_any (is_sent_under x.id) x.behind ≡ false) (later_sending m.entry) sents (each_imply (λ x. same_op op x.op ≡ true → list_any (is_sent_under x.id) x.behind ≡ false) (λ x. same_op op x.op ≡ true → list_any (is_sent_under x.id) (x.behind ++ m.entry ∷ []) ≡ false) sents (λ x f i. none_of_both (is_sent_under x.id) x.behind (m.entry ∷ []) (f i) (ap (λ o. passes (λ q. q.value.id == x.id) o || false) it.0)) it.1))

    -- What is abandoned.
    module _ (late : Late (entries before)) (m : Marked) where
      abbrev open_or_late : Sending → Bool
      open_or_late x = of_operation F (is_open s) x || last_passes (is_expired x.op) (entries before)

      -- the last Sent under an identifier is the one that reigns
      same_last : (x y : Sending) → Among x sents → Among y sents → x.id ≡ y.id → list_any (is_sent_under x.id) x.behind ≡ false → list_any (is_sent_under y.id) y.behind ≡ false → x ≡ y
      same_last x y a b e i j = of_each (λ z. (z.id == y.id) ≡ true → list_any (sends (λ q. q.value.id == y.id)) z.behind ≡ false → z ≡ y) sents x (single_out (λ q. q.value.id == y.id) u [] (entries before) y b (eq_eqb y.id y.id refl) j) a (eq_eqb x.id y.id e) (ap (λ n. list_any (is_sent_under n) x.behind) (sym e) ∙ i)

      by_drop : (x y : Sending) → Among x sents → Among y sents → x.id ≡ y.id → list_any (is_sent_under x.id) x.behind ≡ false → is_some (row_named l.state y.op) ≡ true → open_or_late x ≡ true
      by_drop x y a b e i k = row (row_named l.state y.op) refl k
        where
          row : (o : Option UpRow) → row_named l.state y.op ≡ o → is_some o ≡ true → open_or_late x ≡ true
          row None f j = absurd (let bad : false ≡ true = j in cc)
          row (Some r) f j =
              let z : Such (λ v. Live s F r v) sents = sent_of y.op r f in
              let same : y ≡ z.it = of_each (λ v. same_op y.op v.op ≡ true → v ≡ z.it) sents y (one_of u (entries before) y.op z.it once z.among (op_of y.op r z.it f z.so)) b (same_op_refl y.op) in
              let it : x ≡ z.it = same_last x z.it a z.among (e ∙ ap (λ v. v.id) same) i (reigns_last z.it.id z.it.behind z.so.reigns) in
              or_left (of_operation F (is_open s) x) _ (ap (of_operation F (is_open s)) it ∙ open_here s F r z.it z.so)

      by_expiry : (x y : Sending) → Among x sents → Among y sents → x.id ≡ y.id → list_any (is_sent_under x.id) x.behind ≡ false → last_passes (is_expired y.op) (entries before) ≡ true → open_or_late x ≡ true
      by_expiry x y a b e i k =
          let it : x ≡ y = same_last x y a b e i (of_each (λ v. same_op y.op v.op ≡ true → list_any (is_sent_under v.id) v.behind ≡ false) sents y (late y.op k) b (same_op_refl y.op)) in
          or_right (of_operation F (is_open s) x) _ (ap (λ v. last_passes (is_expired v.op) (entries before)) it ∙ k)

      abbrev due : Sending → Bool
      due y = is_own (abandon y.id) m.entry && (is_some (row_named l.state y.op) && has_letter (drops y.op) m || last_passes (is_expired y.op) (entries before))

      abandon_open : has_reason s l.state (entries before) m ≡ true → is_abandon_open s F u (entries before) m.entry ≡ true
      abandon_open k = all_among (λ x. implies (is_last_sent x && is_own (abandon x.id) m.entry) (open_or_late x)) sents (λ x a. implies_by (is_last_sent x && is_own (abandon x.id) m.entry) (open_or_late x) (λ j. by x a (not_true (list_any (is_sent_under x.id) x.behind) (left (is_last_sent x) _ j)) (right (is_last_sent x) _ j)))
        where
          by : (x : Sending) → Among x sents → list_any (is_sent_under x.id) x.behind ≡ false → is_own (abandon x.id) m.entry ≡ true → open_or_late x ≡ true
          by x a i j =
              let y : Such (λ v. due v ≡ true) sents = among_passing due sents (subst (λ n. list_any due (sendings n (entries before)) ≡ true) h.stands.number (abandon_reason s l.state (entries before) m x.id j k)) in
              let e : x.id ≡ y.it.id = abandon_apart x.id y.it.id (own_same (abandon y.it.id) (abandon x.id) m.entry (left (is_own (abandon y.it.id) m.entry) _ y.so) j) in
              or_elim (is_some (row_named l.state y.it.op) && has_letter (drops y.it.op) m) (last_passes (is_expired y.it.op) (entries before))
              (λ n. by_drop x y.it a y.among e i (left (is_some (row_named l.state y.it.op)) _ n))
              (λ n. by_expiry x y.it a y.among e i n)
              (right (is_own (abandon y.it.id) m.entry) _ y.so)

  abbrev expired_so : ConnectionState → List Marked → Marked → List Marked → Bool
  expired_so p b m behind = is_expired_due s p m behind

  abbrev once_so : ConnectionState → List Marked → Marked → List Marked → Bool
  once_so p b m behind = is_sent_once p (entries b) m

  abbrev reason_so : ConnectionState → List Marked → Marked → List Marked → Bool
  reason_so p b m behind = has_due_messages s p m behind && has_reason s p (entries b) m

  pub regular_open : (ms before : List Marked) (l : ConnectionLedger) → AtEach s (Known s F u) before l ms → Once u (entries before) → Late (entries before) → each_place (step_connection s) expired_so l.state before ms ≡ true → each_place (step_connection s) once_so l.state before ms ≡ true → each_place (step_connection s) reason_so l.state before ms ≡ true → (each_split_from (is_expired_open s F u) (entries before) (entries ms) ≡ true) × (each_split_from (λ place e behind. is_abandon_open s F u place e) (entries before) (entries ms) ≡ true)
  regular_open [] before l h once late x o r = (refl, refl)
  regular_open (m ∷ ms) before l h once late x o r =
      let due : is_expired_due s l.state m ms ≡ true = left (is_expired_due s l.state m ms) _ x in
      let next : (each_split_from (is_expired_open s F u) (entries (before ++ m ∷ [])) (entries ms) ≡ true) × (each_split_from (λ place e behind. is_abandon_open s F u place e) (entries (before ++ m ∷ [])) (entries ms) ≡ true) = regular_open ms (before ++ m ∷ []) (step_connection_ledger s l m) h.1 (subst (Once u) (sym (push_entry before m)) (once_more u (entries before) m.entry (new_by l.state (entries before) m (left (is_sent_once l.state (entries before) m) _ o)) once)) (subst Late (sym (push_entry before m)) (late_more before l h.0 once m ms due)) (right (is_expired_due s l.state m ms) _ x) (right (is_sent_once l.state (entries before) m) _ o) (right (reason_so l.state before m ms) _ r) in
      (both (is_expired_open s F u (entries before) m.entry (entries ms)) _ (expired_open before l h.0 once m ms due) (subst (λ place. each_split_from (is_expired_open s F u) place (entries ms) ≡ true) (push_entry before m) next.0), both (is_abandon_open s F u (entries before) m.entry) _ (abandon_open before l h.0 once late m (right (has_due_messages s l.state m ms) _ (left (reason_so l.state before m ms) _ r))) (subst (λ place. each_split_from (λ pl e behind. is_abandon_open s F u pl e) place (entries ms) ≡ true) (push_entry before m) next.1))
