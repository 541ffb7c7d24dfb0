-- On a regular connection an operation that was abandoned, and didn't expire, is one whose Drop was taken.
use Rattle.std.proofs.Common.{◌≡◌, ℕ, Bool, true, false, ◌==◌, ◌&&◌, ◌||◌, not, List, [], ◌∷◌, ◌++◌, refl, ap, ◌∙◌, sym, subst}
use Rattle.std.specs.Prelude.{Option, Some, None, is_some, map}
use Rattle.std.specs.List.{list_any}
use Rattle.std.specs.Str.{bytes_eq}
use Rattle.std.proofs.lemmas.Slice.Eq.{bytes_eq-Decides}
use Rattle.ldap_spec.specs.Bodies.{abandon, simple_bind, who_am_i}
use Rattle.ldap_spec.specs.Messages.{Message}
use Rattle.lload_names.specs.declared.names.Entry.{Entry}
use Rattle.lload_names.specs.declared.names.Letter.{Letter}
use Rattle.lload_names.specs.declared.names.Letter.TheVariants.{Drop}
use Rattle.lload_names.specs.declared.names.OpKind.TheVariants.{Bind}
use Rattle.lload_names.specs.declared.names.OpName.{OpName}
use Rattle.lload_names.specs.declared.names.What.{What}
use Rattle.lload_names.specs.declared.names.What.TheVariants as what
use Rattle.lload_spec.specs.Answers.{Sending, is_abandoned_at, is_last_sent, is_sent_under, of_operation, sending_made, sendings, sendings_from, until_sent}
use Rattle.lload_spec.specs.Entries.{Named, expired_op, is_expired, is_own, own_message, sent_message}
use Rattle.lload_spec.specs.Journal.{Family, same_op}
use Rattle.lload_spec.specs.Lists.{last, last_passes, passes}
use Rattle.lload_spec.specs.OneEach.{is_bind_due, is_own_bind}
use Rattle.lload_spec.specs.Operations.{Operation, is_of, operation}
use Rattle.lload_spec.specs.Settings.{OwnBind, Settings}
use Rattle.lload_spec.proofs.Growth.{left, right, both}
use Rattle.lload_laws.specs.ConnectionGrowth.{later_sending}
use Rattle.lload_laws.proofs.ConnectionGrowth.{sendings_grow}
use Rattle.lload_laws.proofs.ListLaws.{any_imply, found_passes}
use Rattle.part_laws.proofs.ListLaws.{any_before, any_behind, any_split, eq_eqb, eqb_same, false_by, not_true, or_elim, or_left, or_right, same_number, same_op_eq, same_op_refl}
use Rattle.part_spec.specs.ConnectionState.{UpRow, is_abandoned_by, is_bind_row, row_named}
use Rattle.part_spec.specs.Fit.{ConnectionLedger, is_drop_of, with_mark}
use Rattle.part_spec.specs.Marked.{Marked, Taken, entries}
use Rattle.part_spec.specs.Marks.{has_connection_mark, marks_connection, must_mark_connection}
use Rattle.part_spec.specs.Share.{is_who_awaited, is_due_abandon as abandon_by_state}
use Rattle.connection_laws.proofs.Apart.{abandon_apart, abandon_digits}
use Rattle.client_answer_laws.proofs.Each.{Each, each_append, each_both, each_found, each_imply, each_map}
use Rattle.rows_laws.proofs.Known.{Known}
use Rattle.rows_laws.proofs.Live.{Live}
use Rattle.rows_laws.proofs.Somewhere.{OneIn, one_passes}
use Rattle.leave_laws.proofs.IdleRegular.{is_dropped}
use Rattle.leave_laws.proofs.OwnRegular.{last_one, unmarked_expired}

-- Two Sents that are the last with one identifier are of one operation.

abbrev pub is_last_under : ℕ → OpName → Sending → Bool
is_last_under i op x = is_last_sent x && (x.id == i) && same_op op x.op

under_there : (u i : ℕ) (op : OpName) (before es : List Entry) → list_any (is_last_under i op) (sendings_from u before es) ≡ true → list_any (is_sent_under i) es ≡ true
under_there u i op before [] h = h
under_there u i op before (e ∷ es) h = any_split (is_last_under i op) (sending_made u before e es (sent_message e.what)) (sendings_from u (before ++ e ∷ []) es) (λ k. or_left (is_sent_under i e) _ (made (sent_message e.what) k)) (λ k. or_right (is_sent_under i e) _ (under_there u i op (before ++ e ∷ []) es k)) h
  where
    made : (o : Option (Named Message)) → list_any (is_last_under i op) (sending_made u before e es o) ≡ true → passes (λ n. n.value.id == i) o ≡ true
    made None k = k
    made (Some n) k = right (not (list_any (is_sent_under n.value.id) es)) _ (left (not (list_any (is_sent_under n.value.id) es) && (n.value.id == i)) _ (or_elim (not (list_any (is_sent_under n.value.id) es) && (n.value.id == i) && same_op op n.op) false (λ j. j) (λ j. absurd (let bad : false ≡ true = j in cc)) k))

one_last : (u i : ℕ) (a b : OpName) (before es : List Entry) → list_any (is_last_under i a) (sendings_from u before es) ≡ true → list_any (is_last_under i b) (sendings_from u before es) ≡ true → a ≡ b
one_last u i a b before [] h k = absurd (let bad : false ≡ true = h in cc)
one_last u i a b before (e ∷ es) h k = by (sent_message e.what) (under_there u i a (before ++ e ∷ []) es) (under_there u i b (before ++ e ∷ []) es) (one_last u i a b (before ++ e ∷ []) es) h k
  where
    by : (o : Option (Named Message)) → (list_any (is_last_under i a) (sendings_from u (before ++ e ∷ []) es) ≡ true → list_any (is_sent_under i) es ≡ true) → (list_any (is_last_under i b) (sendings_from u (before ++ e ∷ []) es) ≡ true → list_any (is_sent_under i) es ≡ true) → (list_any (is_last_under i a) (sendings_from u (before ++ e ∷ []) es) ≡ true → list_any (is_last_under i b) (sendings_from u (before ++ e ∷ []) es) ≡ true → a ≡ b) → list_any (is_last_under i a) (sending_made u before e es o ++ sendings_from u (before ++ e ∷ []) es) ≡ true → list_any (is_last_under i b) (sending_made u before e es o ++ sendings_from u (before ++ e ∷ []) es) ≡ true → a ≡ b
    by None f g ih x y = ih x y
    by (Some n) f g ih x y = or_elim (test a) (list_any (is_last_under i a) (sendings_from u (before ++ e ∷ []) es)) (λ p. or_elim (test b) (list_any (is_last_under i b) (sendings_from u (before ++ e ∷ []) es)) (λ q. same_op_eq a n.op (right (not (list_any (is_sent_under n.value.id) es) && (n.value.id == i)) _ p) ∙ sym (same_op_eq b n.op (right (not (list_any (is_sent_under n.value.id) es) && (n.value.id == i)) _ q))) (λ q. apart a p (g q)) y) (λ p. or_elim (test b) (list_any (is_last_under i b) (sendings_from u (before ++ e ∷ []) es)) (λ q. apart b q (f p)) (λ q. ih p q) y) x
      where
        test : OpName → Bool
        test op = not (list_any (is_sent_under n.value.id) es) && (n.value.id == i) && same_op op n.op

        apart : {C : Type 0} (op : OpName) → (not (list_any (is_sent_under n.value.id) es) && (n.value.id == i) && same_op op n.op) ≡ true → list_any (is_sent_under i) es ≡ true → C
        apart op p j =
            let front : (not (list_any (is_sent_under n.value.id) es) && (n.value.id == i)) ≡ true = left (not (list_any (is_sent_under n.value.id) es) && (n.value.id == i)) _ p in
            absurd (let bad : false ≡ true = sym (not_true (list_any (is_sent_under n.value.id) es) (left (not (list_any (is_sent_under n.value.id) es)) _ front)) ∙ ap (λ v. list_any (is_sent_under v) es) (same_number n.value.id i (right (not (list_any (is_sent_under n.value.id) es)) _ front)) ∙ j in cc)

-- each is among all
each_self : {A : Type 0} (c : A → Bool) (t : A → A → Bool) (xs : List A) → ((x : A) → c x ≡ true → t x x ≡ true) → Each (λ x. c x ≡ true → list_any (t x) xs ≡ true) xs
each_self c t [] f = tt
each_self c t (x ∷ xs) f = (λ k. or_left (t x x) _ (f x k), each_imply (λ y. c y ≡ true → list_any (t y) xs ≡ true) (λ y. c y ≡ true → list_any (t y) (x ∷ xs) ≡ true) xs (λ y g k. or_right (t y x) _ (g k)) (each_self c t xs f))

-- what stands last stands behind each Sent
expired_behind : (u : ℕ) (before es : List Entry) → Each (λ x. last_passes (is_expired x.op) es ≡ true → list_any (is_expired x.op) x.behind ≡ true) (sendings_from u before es)
expired_behind u before [] = tt
expired_behind u before (e ∷ []) = each_append (λ x. last_passes (is_expired x.op) (e ∷ []) ≡ true → list_any (is_expired x.op) x.behind ≡ true) (sending_made u before e [] (sent_message e.what)) [] (made e.what) tt
  where
    made : (w : What) → Each (λ x. passes (same_op x.op) (expired_op w) ≡ true → list_any (is_expired x.op) x.behind ≡ true) (sending_made u before e [] (sent_message w))
    made (what.Sent id op rest) = (λ k. k, tt)
    made _ = tt
expired_behind u before (e ∷ y ∷ es) = each_append (λ x. last_passes (is_expired x.op) (y ∷ es) ≡ true → list_any (is_expired x.op) x.behind ≡ true) (sending_made u before e (y ∷ es) (sent_message e.what)) (sendings_from u (before ++ e ∷ []) (y ∷ es)) (made (sent_message e.what)) (expired_behind u (before ++ e ∷ []) (y ∷ es))
  where
    somewhere : (t : Entry → Bool) (xs : List Entry) → last_passes t xs ≡ true → list_any t xs ≡ true
    somewhere t [] k = k
    somewhere t (x ∷ []) k = or_left (t x) false k
    somewhere t (x ∷ z ∷ xs) k = or_right (t x) _ (somewhere t (z ∷ xs) k)

    made : (o : Option (Named Message)) → Each (λ x. last_passes (is_expired x.op) (y ∷ es) ≡ true → list_any (is_expired x.op) x.behind ≡ true) (sending_made u before e (y ∷ es) o)
    made None = tt
    made (Some n) = (somewhere (is_expired n.op) (y ∷ es), tt)

-- an entry more before the next Sent with the identifier
until_more : (t : Entry → Bool) (id : ℕ) (es : List Entry) (e : Entry) → list_any t (until_sent id (es ++ e ∷ [])) ≡ true → (list_any t (until_sent id es) || (not (list_any (is_sent_under id) es) && t e)) ≡ true
until_more t id [] e h = by (is_sent_under id e) h
  where
    by : (b : Bool) → list_any t (elim b [ true ↦ [] | false ↦ e ∷ [] ]) ≡ true → t e ≡ true
    by true k = absurd (let bad : false ≡ true = k in cc)
    by false k = or_elim (t e) false (λ j. j) (λ j. absurd (let bad : false ≡ true = j in cc)) k
until_more t id (x ∷ es) e h = by (is_sent_under id x) h (until_more t id es e)
  where
    by : (b : Bool) → list_any t (elim b [ true ↦ [] | false ↦ x ∷ until_sent id (es ++ e ∷ []) ]) ≡ true → (list_any t (until_sent id (es ++ e ∷ [])) ≡ true → (list_any t (until_sent id es) || (not (list_any (is_sent_under id) es) && t e)) ≡ true) → (list_any t (elim b [ true ↦ [] | false ↦ x ∷ until_sent id es ]) || (not (b || list_any (is_sent_under id) es) && t e)) ≡ true
    by true k ih = absurd (let bad : false ≡ true = k in cc)
    by false k ih = or_elim (t x) (list_any t (until_sent id (es ++ e ∷ []))) (λ j. or_left (t x || list_any t (until_sent id es)) _ (or_left (t x) _ j)) (λ j. more (t x) (list_any t (until_sent id es)) (ih j)) k
      where
        more : (a b : Bool) → (b || (not (list_any (is_sent_under id) es) && t e)) ≡ true → ((a || b) || (not (list_any (is_sent_under id) es) && t e)) ≡ true
        more true b q = refl
        more false b q = q

module _ (s : Settings) (F : Family) (u : ℕ) where
  -- whether an operation was abandoned, and didn't expire
  abbrev pub is_let_go : Sending → Bool
  is_let_go x = of_operation F is_abandoned_at x && not (list_any (is_expired x.op) x.behind)

  abbrev pub LetGo : List Taken → List Sending → Type 0
  LetGo taken xs = Each (λ x. is_let_go x ≡ true → is_dropped x.op taken ≡ true) xs

  abbrev pub expires_here : List Entry → Entry → Bool
  expires_here place e = list_any (λ y. is_last_sent y && is_own (abandon y.id) e && last_passes (is_expired y.op) place) (sendings u place)

  module _ (before : List Marked) (l : ConnectionLedger) (known : Known s F u before l) (m : Marked) (ms : List Marked) (marks : has_connection_mark l.state m ≡ true) (reason : is_some (own_message m.entry.what) ≡ true → (is_own_bind s m.entry && last_passes (is_bind_due s l.state.number) (entries before) || is_own who_am_i m.entry && list_any is_who_awaited l.state.rows || abandon_by_state l.state (entries before) m) ≡ true) (expired : last_passes (λ e. is_some (expired_op e.what)) (entries before) ≡ true → list_any (λ y. is_last_sent y && is_own (abandon y.id) m.entry && last_passes (is_expired y.op) (entries before)) (sendings u (entries before)) ≡ true) where
    -- an own message that abandons this Sent
    module _ (x : Sending) (there : list_any (is_last_under x.id x.op) (sendings u (entries before)) ≡ true) (unexpired : last_passes (is_expired x.op) (entries before) ≡ true → false ≡ true) (id : ℕ) (rest : List ℕ) (is_one : m.entry.what ≡ what.Own id rest) (text : rest ≡ abandon x.id) where
      apart_bind : is_own_bind s m.entry ≡ true → false ≡ true
      apart_bind k = by s.own_bind (sym (ap (λ w. passes (λ own. passes (λ y. bytes_eq y.rest (simple_bind own.dn own.credentials)) (own_message w)) s.own_bind) is_one) ∙ k)
        where
          by : (o : Option OwnBind) → passes (λ own. bytes_eq rest (simple_bind own.dn own.credentials)) o ≡ true → false ≡ true
          by None j = j
          by (Some own) j = sym (ap (λ v. bytes_eq v (simple_bind own.dn own.credentials)) (text ∙ abandon_digits x.id)) ∙ j

      apart_who : is_own who_am_i m.entry ≡ true → false ≡ true
      apart_who k = sym (ap (λ v. bytes_eq v who_am_i) (text ∙ abandon_digits x.id)) ∙ sym (ap (λ w. passes (λ (y : Message). bytes_eq y.rest who_am_i) (own_message w)) is_one) ∙ k

      -- none that no letter made
      unmarked : m.mark ≡ None → false ≡ true
      unmarked z =
          or_elim (is_own_bind s m.entry && last_passes (is_bind_due s l.state.number) (entries before) || is_own who_am_i m.entry && list_any is_who_awaited l.state.rows) (abandon_by_state l.state (entries before) m)
          (λ k. or_elim (is_own_bind s m.entry && last_passes (is_bind_due s l.state.number) (entries before)) (is_own who_am_i m.entry && list_any is_who_awaited l.state.rows) (λ j. apart_bind (left (is_own_bind s m.entry) _ j)) (λ j. apart_who (left (is_own who_am_i m.entry) _ j)) k)
          (λ k. of_last (last (entries before)) refl (expired (unmarked_expired s F u before l known m ms z k)))
          (reason (ap (λ w. is_some (own_message w)) is_one))
        where
          of_last : (o : Option Entry) → last (entries before) ≡ o → list_any (λ y. is_last_sent y && is_own (abandon y.id) m.entry && (elim o [ None ↦ false | Some e ↦ is_expired y.op e ])) (sendings u (entries before)) ≡ true → false ≡ true
          of_last o e k = by o e k
            where
              never : (xs : List Sending) → list_any (λ y. is_last_sent y && is_own (abandon y.id) m.entry && false) xs ≡ true → false ≡ true
              never [] j = j
              never (y ∷ xs) j = or_elim (is_last_sent y && is_own (abandon y.id) m.entry && false) (list_any (λ q. is_last_sent q && is_own (abandon q.id) m.entry && false) xs) (λ i. right (is_last_sent y && is_own (abandon y.id) m.entry) _ i) (never xs) j

              by : (q : Option Entry) → last (entries before) ≡ q → list_any (λ y. is_last_sent y && is_own (abandon y.id) m.entry && (elim q [ None ↦ false | Some e ↦ is_expired y.op e ])) (sendings u (entries before)) ≡ true → false ≡ true
              by None z j = never (sendings u (entries before)) j
              by (Some e) z j = of_op (expired_op e.what) refl j
                where
                  of_op : (b : Option OpName) → expired_op e.what ≡ b → list_any (λ y. is_last_sent y && is_own (abandon y.id) m.entry && passes (same_op y.op) b) (sendings u (entries before)) ≡ true → false ≡ true
                  of_op None f i = never (sendings u (entries before)) i
                  of_op (Some b) f i = unexpired (ap (λ q. elim q [ None ↦ false | Some y ↦ is_expired x.op y ]) z ∙ ap (passes (same_op x.op)) f ∙ ap (λ n. same_op n b) (sym same) ∙ same_op_refl b)
                    where
                      one : (y : Sending) → (is_last_sent y && is_own (abandon y.id) m.entry && same_op y.op b) ≡ true → is_last_under x.id b y ≡ true
                      one y q =
                          let front : (is_last_sent y && is_own (abandon y.id) m.entry) ≡ true = left (is_last_sent y && is_own (abandon y.id) m.entry) _ q in
                          let own : bytes_eq rest (abandon y.id) ≡ true = sym (ap (λ w. passes (λ (v : Message). bytes_eq v.rest (abandon y.id)) (own_message w)) is_one) ∙ right (is_last_sent y) _ front in
                          let ids : x.id ≡ y.id = abandon_apart x.id y.id (ap (λ v. bytes_eq v (abandon y.id)) (sym text) ∙ own) in
                          both (is_last_sent y && (y.id == x.id)) _ (both (is_last_sent y) _ (left (is_last_sent y) _ front) (eq_eqb y.id x.id (sym ids))) (ap (same_op b) (same_op_eq y.op b (right (is_last_sent y && is_own (abandon y.id) m.entry) _ q)) ∙ same_op_refl b)

                      same : b ≡ x.op
                      same = one_last u x.id b x.op [] (entries before) (any_imply (λ y. is_last_sent y && is_own (abandon y.id) m.entry && same_op y.op b) (is_last_under x.id b) (sendings u (entries before)) one i) there

      -- one that a Drop made is of this operation
      of_drop : (t : Taken) → m.mark ≡ Some t → (y : Letter) → t.letter ≡ y → marks_connection l.state (what.Own id rest) y ≡ true → is_dropped x.op (with_mark m.mark l.taken) ≡ true
      of_drop t z (Drop op) e k = by (row_named l.state op) refl k
        where
          by : (o : Option UpRow) → row_named l.state op ≡ o → passes (is_abandoned_by rest) o ≡ true → is_dropped x.op (with_mark m.mark l.taken) ≡ true
          by None f j = absurd (let bad : false ≡ true = j in cc)
          by (Some r) f j =
              let ids : x.id ≡ r.id = abandon_apart x.id r.id (ap (λ v. bytes_eq v (abandon r.id)) (sym text) ∙ right (not (is_bind_row r)) _ j) in
              let name : op ≡ r.op = same_op_eq op r.op (found_passes (λ q. same_op op q.op) l.state.rows r f) in
              let mine : list_any (is_last_under x.id op) (sendings u (entries before)) ≡ true = one_passes (λ y. Live s F r y) (is_last_under x.id op) (sendings u (entries before)) (λ y live. both (is_last_sent y && (y.id == x.id)) _ (both (is_last_sent y) _ (last_one s F u r y live) (eq_eqb y.id x.id (live.id ∙ sym ids))) (ap (same_op op) (live.op ∙ sym name) ∙ same_op_refl op)) (each_found (λ q. OneIn (λ y. Live s F q y) (sendings u (entries before))) (λ q. same_op op q.op) l.state.rows r f known.lives.of_rows) in
              let same : op ≡ x.op = one_last u x.id op x.op [] (entries before) mine there in
              subst (λ q. is_dropped x.op (with_mark q l.taken) ≡ true) (sym z) (any_behind (λ y. is_drop_of x.op y.letter) l.taken (t ∷ []) (or_left (is_drop_of x.op t.letter) false (ap (is_drop_of x.op) e ∙ ap (same_op x.op) same ∙ same_op_refl x.op)))
      of_drop t z _ e k = absurd (let bad : false ≡ true = k in cc)

      abandoned : is_dropped x.op (with_mark m.mark l.taken) ≡ true
      abandoned = by m.mark refl (sym (ap (λ w. elim m.mark [ None ↦ not (must_mark_connection l.state w) | Some t ↦ marks_connection l.state w t.letter ]) is_one) ∙ marks)
        where
          by : (o : Option Taken) → m.mark ≡ o → (elim o [ None ↦ not (must_mark_connection l.state (what.Own id rest)) | Some t ↦ marks_connection l.state (what.Own id rest) t.letter ]) ≡ true → is_dropped x.op (with_mark m.mark l.taken) ≡ true
          by None z k = absurd (let bad : false ≡ true = unmarked z in cc)
          by (Some t) z k = of_drop t z t.letter refl k

    one_more : (x : Sending) → (is_let_go x ≡ true → is_dropped x.op l.taken ≡ true) → (is_last_sent x ≡ true → list_any (is_last_under x.id x.op) (sendings u (entries before)) ≡ true) → (last_passes (is_expired x.op) (entries before) ≡ true → list_any (is_expired x.op) x.behind ≡ true) → is_let_go (later_sending m.entry x) ≡ true → is_dropped x.op (with_mark m.mark l.taken) ≡ true
    one_more x old there behind k = by (operation F x.op) refl (left (of_operation F is_abandoned_at (later_sending m.entry x)) _ k)
      where
        unexpired : list_any (is_expired x.op) x.behind ≡ false
        unexpired = false_by (list_any (is_expired x.op) x.behind) (λ j. sym (not_true (list_any (is_expired x.op) (x.behind ++ m.entry ∷ [])) (right (of_operation F is_abandoned_at (later_sending m.entry x)) _ k)) ∙ any_before (is_expired x.op) x.behind (m.entry ∷ []) j)

        more : is_dropped x.op l.taken ≡ true → is_dropped x.op (with_mark m.mark l.taken) ≡ true
        more j = kept m.mark
          where
            kept : (o : Option Taken) → is_dropped x.op (with_mark o l.taken) ≡ true
            kept None = j
            kept (Some t) = any_before (λ y. is_drop_of x.op y.letter) l.taken (t ∷ []) j

        new : (not (list_any (is_sent_under x.id) x.behind) && is_own (abandon x.id) m.entry) ≡ true → is_dropped x.op (with_mark m.mark l.taken) ≡ true
        new j = here m.entry.what refl (right (not (list_any (is_sent_under x.id) x.behind)) _ j)
          where
            here : (w : What) → m.entry.what ≡ w → passes (λ (y : Message). bytes_eq y.rest (abandon x.id)) (own_message w) ≡ true → is_dropped x.op (with_mark m.mark l.taken) ≡ true
            here (what.Own id rest) e i = abandoned x (there (left (not (list_any (is_sent_under x.id) x.behind)) _ j)) (λ q. sym unexpired ∙ behind q) id rest e ((bytes_eq-Decides rest (abandon x.id)).0 i)
            here _ e i = absurd (let bad : false ≡ true = i in cc)

        by : (o : Option Operation) → operation F x.op ≡ o → passes (λ q. is_abandoned_at q (later_sending m.entry x)) o ≡ true → is_dropped x.op (with_mark m.mark l.taken) ≡ true
        by None z j = absurd (let bad : false ≡ true = j in cc)
        by (Some o) z j =
            or_elim (list_any (is_own (abandon x.id)) (until_sent x.id x.behind)) (not (list_any (is_sent_under x.id) x.behind) && is_own (abandon x.id) m.entry)
            (λ i. more (old (both (of_operation F is_abandoned_at x) _ (ap (passes (λ q. is_abandoned_at q x)) z ∙ both (not (is_of Bind o)) _ (left (not (is_of Bind o)) _ j) i) (ap not unexpired))))
            new (until_more (is_own (abandon x.id)) x.id x.behind m.entry (right (not (is_of Bind o)) _ j))

    pub let_go_next : LetGo l.taken (sendings u (entries before)) → LetGo (with_mark m.mark l.taken) (sendings u (entries before ++ m.entry ∷ []))
    let_go_next h = subst (LetGo (with_mark m.mark l.taken)) (sym (sendings_grow u (entries before) m.entry)) (each_append (λ x. is_let_go x ≡ true → is_dropped x.op (with_mark m.mark l.taken) ≡ true) (map (later_sending m.entry) (sendings u (entries before))) (sending_made u (entries before) m.entry [] (sent_message m.entry.what)) olds (made (sent_message m.entry.what)))
      where
        olds : Each (λ x. is_let_go x ≡ true → is_dropped x.op (with_mark m.mark l.taken) ≡ true) (map (later_sending m.entry) (sendings u (entries before)))
        olds =
            each_map (λ x. is_let_go x ≡ true → is_dropped x.op (with_mark m.mark l.taken) ≡ true) (later_sending m.entry) (sendings u (entries before))
            (each_imply (λ x. (is_let_go x ≡ true → is_dropped x.op l.taken ≡ true) × ((is_last_sent x ≡ true → list_any (is_last_under x.id x.op) (sendings u (entries before)) ≡ true) × (last_passes (is_expired x.op) (entries before) ≡ true → list_any (is_expired x.op) x.behind ≡ true))) (λ x. is_let_go (later_sending m.entry x) ≡ true → is_dropped x.op (with_mark m.mark l.taken) ≡ true) (sendings u (entries before)) (λ x k. one_more x k.0 k.1.0 k.1.1)
            (each_both (λ x. is_let_go x ≡ true → is_dropped x.op l.taken ≡ true) (λ x. (is_last_sent x ≡ true → list_any (is_last_under x.id x.op) (sendings u (entries before)) ≡ true) × (last_passes (is_expired x.op) (entries before) ≡ true → list_any (is_expired x.op) x.behind ≡ true)) (sendings u (entries before)) h
            (each_both (λ x. is_last_sent x ≡ true → list_any (is_last_under x.id x.op) (sendings u (entries before)) ≡ true) (λ x. last_passes (is_expired x.op) (entries before) ≡ true → list_any (is_expired x.op) x.behind ≡ true) (sendings u (entries before))
            (each_self is_last_sent (λ x. is_last_under x.id x.op) (sendings u (entries before)) (λ x k. both (is_last_sent x && (x.id == x.id)) _ (both (is_last_sent x) _ k (eqb_same x.id)) (same_op_refl x.op))) (expired_behind u [] (entries before)))))

        made : (o : Option (Named Message)) → Each (λ x. is_let_go x ≡ true → is_dropped x.op (with_mark m.mark l.taken) ≡ true) (sending_made u (entries before) m.entry [] o)
        made None = tt
        made (Some n) = (λ k. absurd (let bad : false ≡ true = by (operation F n.op) (left (passes (λ o. not (is_of Bind o) && false) (operation F n.op)) _ k) in cc), tt)
          where
            by : (q : Option Operation) → passes (λ o. not (is_of Bind o) && false) q ≡ true → false ≡ true
            by None j = j
            by (Some o) j = right (not (is_of Bind o)) _ j
