-- On a regular connection each own message stands where it is due, and an Abandon is of an operation that its client ended, or
-- that expired directly before.
use Rattle.std.proofs.Common.{◌≡◌, inl, inr, ℕ, Bool, true, false, ◌==◌, ◌&&◌, ◌||◌, not, if◌then◌else◌, List, [], ◌∷◌, ◌++◌, refl, ap, ◌∙◌, sym, subst}
use Rattle.std.specs.Prelude.{Option, Some, None, is_none, is_some, map}
use Rattle.std.specs.List.{list_any, list_all}
use Rattle.std.specs.Str.{bytes_eq}
use Rattle.std.proofs.lemmas.List.{append-nil}
use Rattle.ldap_spec.specs.Bodies.{abandon, who_am_i}
use Rattle.ldap_spec.specs.Kinds.{same_kind}
use Rattle.ldap_spec.specs.Messages.{Message}
use Rattle.lload_names.specs.declared.names.EndWhy.TheVariants.{TimedOut}
use Rattle.lload_names.specs.declared.names.Entry.{Entry}
use Rattle.lload_names.specs.declared.names.Letter.{Letter}
use Rattle.lload_names.specs.declared.names.Letter.TheVariants.{Drop}
use Rattle.lload_names.specs.declared.names.OpKind.TheVariants.{Bind}
use Rattle.lload_names.specs.declared.names.OpName.{OpName}
use Rattle.lload_names.specs.declared.names.What.{What}
use Rattle.lload_names.specs.declared.names.What.TheVariants as what
use Rattle.lload_spec.specs.Answers.{Sending, asks_who, final_answer, gives_id, is_last_sent, is_open, is_reigning, is_sent_under, of_operation, sending_made, sendings}
use Rattle.lload_spec.specs.Entries.{expired_op, given_id, got_message, is_down_by, is_expired, is_own, own_message, sent_message}
use Rattle.lload_spec.specs.Journal.{Family, same_op}
use Rattle.lload_spec.specs.Lists.{each_split_from, first_passes, implies, last, last_passes, passes}
use Rattle.lload_spec.specs.OneEach.{has_due_messages, has_reason, is_bind_due, is_due_abandon, is_own_bind, last_is_who_due, may_be_abandoned, succeeds}
use Rattle.lload_spec.specs.Operations.{Operation, is_ended_by_client, is_of, operation}
use Rattle.lload_spec.specs.Settings.{Settings}
use Rattle.lload_spec.proofs.Growth.{left, right, both}
use Rattle.lload_laws.specs.ConnectionGrowth.{later_sending}
use Rattle.lload_laws.proofs.ConnectionGrowth.{sendings_grow}
use Rattle.lload_laws.proofs.ListLaws.{found_passes, implies_by, implied}
use Rattle.part_laws.proofs.ListLaws.{false_by, last_push, none_of_both, not_true, or_elim, or_left, or_right, same_op_eq, same_op_refl}
use Rattle.part_spec.specs.ConnectionState.{ConnectionState, Kept, UpRow, is_abandoned_by, is_bind_row, row_named, step_connection}
use Rattle.part_spec.specs.ConnectionTurn.{is_due}
use Rattle.part_spec.specs.Fit.{ConnectionLedger, step_connection_ledger}
use Rattle.part_spec.specs.Marked.{Marked, Taken, entries}
use Rattle.part_spec.specs.Marks.{each_from, has_connection_mark, marks_connection}
use Rattle.part_spec.specs.Share.{drops, each_place, has_letter, is_expired_due, is_expiry_told, is_who_awaited, has_due_messages as due_by_state, has_reason as reason_by_state, is_due_abandon as abandon_by_state}
use Rattle.connection_laws.proofs.Permits.{push_entry}
use Rattle.connection_laws.proofs.Rows.{is_sound, no_bind, not_kept}
use Rattle.client_answer_laws.proofs.Each.{Each, each_found}
use Rattle.rows_laws.proofs.Known.{AtEach, Known}
use Rattle.rows_laws.proofs.Live.{Live, none_imply}
use Rattle.rows_laws.proofs.Lives.{is_open_in}
use Rattle.rows_laws.proofs.Somewhere.{OneIn, one_map, one_passes}
use Rattle.rows_laws.proofs.Steps.{op_named}
use Rattle.rows_laws.proofs.Walk.{each_row}

pub any_gives : {A C : Type 0} (t : A → Bool) (xs : List A) → ((x : A) → t x ≡ true → C) → list_any t xs ≡ true → C
any_gives t [] f h = absurd (let bad : false ≡ true = h in cc)
any_gives t (x ∷ xs) f h = or_elim (t x) (list_any t xs) (f x) (any_gives t xs f) h

-- an own message of the rest that abandons this identifier
own_is : (i j : ℕ) (e : Entry) → i ≡ j → is_own (abandon i) e ≡ true → is_own (abandon j) e ≡ true
own_is i j e same h = subst (λ n. is_own (abandon n) e ≡ true) same h

module _ (s : Settings) (F : Family) (u : ℕ) where
  -- the Sent of a row is the last with its identifier
  pub last_one : (r : UpRow) (x : Sending) → Live s F r x → is_last_sent x ≡ true
  last_one r x l = ap not (none_imply (is_sent_under x.id) (gives_id x.id) x.behind (λ y k. gives y.what k) l.reigns)
    where
      gives : (w : What) → passes (λ n. n.value.id == x.id) (sent_message w) ≡ true → passes (λ given. given == x.id) (given_id w) ≡ true
      gives (what.Sent id op rest) k = k
      gives _ k = absurd (let bad : false ≡ true = k in cc)

  not_bind : (r : UpRow) (x : Sending) → (l : Live s F r x) → not (is_bind_row r) ≡ true → not (is_of Bind l.o) ≡ true
  not_bind r x l k = ap not (ap (passes (same_kind Bind)) l.kind) ∙ k

  -- an Abandon of a row's Sent, where its operation may be abandoned
  due_by : (place : List Entry) (e : Entry) (rows : List UpRow) (r : UpRow) → not (is_bind_row r) ≡ true → is_own (abandon r.id) e ≡ true → OneIn (λ x. Live s F r x) (sendings u place) → ((x : Sending) (l : Live s F r x) → (is_ended_by_client l.o || last_passes (is_expired l.o.name) place) ≡ true) → is_due_abandon F u place e ≡ true
  due_by place e rows r bare own one f = one_passes (λ x. Live s F r x) (λ x. is_last_sent x && is_own (abandon x.id) e && of_operation F (may_be_abandoned place) x) (sendings u place) (λ x l. both (is_last_sent x && is_own (abandon x.id) e) _ (both (is_last_sent x) _ (last_one r x l) (own_is r.id x.id e (sym l.id) own)) (ap (passes (λ o. may_be_abandoned place o x)) l.found ∙ both (not (is_of Bind l.o)) _ (not_bind r x l bare) (f x l))) one

  module _ (before : List Marked) (l : ConnectionLedger) (h : Known s F u before l) (m : Marked) (ms : List Marked) where
    bare : (r : UpRow) → is_sound u (entries before) r ≡ true → not (is_bind_row r) ≡ true
    bare r k = no_bind u (entries before) r k

    -- no Who Am I is due
    no_who : (y : Message) (xs : List Sending) → Each (λ x. is_open_in s F x ≡ true → OneIn (λ r. Live s F r x) l.state.rows) xs → list_any (of_operation F (succeeds s y)) xs ≡ false
    no_who y [] e = refl
    no_who y (x ∷ xs) e = ap (λ b. b || list_any (of_operation F (succeeds s y)) xs) (false_by (of_operation F (succeeds s y) x) (λ k. by (operation F x.op) refl k)) ∙ no_who y xs e.1
      where
        none : (o : Operation) → operation F x.op ≡ Some o → asks_who s o ≡ true → (rs : List UpRow) → Each (λ r. is_sound u (entries before) r ≡ true) rs → OneIn (λ r. Live s F r x) rs → false ≡ true
        none o z asks [] b i = absurd i
        none o z asks (r ∷ rs) b (inl live) =
            let same : live.o ≡ o = (let founds : Some live.o ≡ Some o = sym live.found ∙ z in cc) in
            let bind : is_of Bind o ≡ true = right s.proxies_authorization _ (left (s.proxies_authorization && is_of Bind o) _ asks) in
            sym (not_true (is_of Bind live.o) (not_bind r x live (bare r b.0))) ∙ ap (is_of Bind) same ∙ bind
        none o z asks (r ∷ rs) b (inr i) = none o z asks rs b.1 i

        by : (q : Option Operation) → operation F x.op ≡ q → passes (λ o. succeeds s y o x) q ≡ true → false ≡ true
        by None z k = k
        by (Some o) z k =
            let opened : (asks_who s o && is_reigning x && is_open s o x) ≡ true = left (asks_who s o && is_reigning x && is_open s o x) _ (left (asks_who s o && is_reigning x && is_open s o x && is_none (final_answer o x)) _ k) in
            none o z (left (asks_who s o) _ (left (asks_who s o && is_reigning x) _ opened)) l.state.rows (each_row (is_sound u (entries before)) l.state.rows h.sound) (e.0 (ap (passes (λ q. is_open s q x)) z ∙ right (asks_who s o && is_reigning x) _ opened))

    one_due : due_by_state s l.state m ms ≡ true → has_due_messages s F u (entries before) m.entry (entries ms) ≡ true
    one_due k = both (implies (is_bind_due s u m.entry) (first_passes (is_own_bind s) (entries ms))) _ (ap (λ n. implies (is_bind_due s n m.entry) (first_passes (is_own_bind s) (entries ms))) (sym h.stands.number) ∙ left (implies (is_bind_due s l.state.number m.entry) (first_passes (is_own_bind s) (entries ms))) _ k) (ap (λ b. implies b (first_passes (is_own who_am_i) (entries ms))) (never (got_message m.entry.what)))
      where
        never : (o : Option Message) → passes (λ y. list_any (of_operation F (succeeds s y)) (sendings u (entries before))) o ≡ false
        never None = refl
        never (Some y) = no_who y (sendings u (entries before)) h.lives.of_sents

    -- no Who Am I is awaited
    none_awaited : (rs : List UpRow) → list_all (is_sound u (entries before)) rs ≡ true → list_any is_who_awaited rs ≡ false
    none_awaited [] b = refl
    none_awaited (r ∷ rs) b = none_of_both is_who_awaited (r ∷ []) rs (ap (λ x. x || false) (one r.kept (not_kept u (entries before) r (left (is_sound u (entries before) r) _ b)))) (none_awaited rs (right (is_sound u (entries before) r) _ b))
      where
        one : (o : Option Kept) → is_none o ≡ true → passes (λ k. is_none k.who) o ≡ false
        one None k = refl
        one (Some q) k = absurd (let bad : false ≡ true = k in cc)

    -- an own message that a Drop made
    dropped : (id : ℕ) (rest : List ℕ) → m.entry.what ≡ what.Own id rest → (x : Letter) → marks_connection l.state (what.Own id rest) x ≡ true → ((op : OpName) → drops op x ≡ true → passes is_ended_by_client (operation F op) ≡ true) → is_due_abandon F u (entries before) m.entry ≡ true
    dropped id rest e (Drop op) k f = by (row_named l.state op) refl k
      where
        by : (o : Option UpRow) → row_named l.state op ≡ o → passes (is_abandoned_by rest) o ≡ true → is_due_abandon F u (entries before) m.entry ≡ true
        by None z j = absurd (let bad : false ≡ true = j in cc)
        by (Some r) z j =
            due_by (entries before) m.entry l.state.rows r (left (not (is_bind_row r)) _ j) (ap (λ w. passes (λ y. bytes_eq y.rest (abandon r.id)) (own_message w)) e ∙ right (not (is_bind_row r)) _ j) (each_found (λ q. OneIn (λ x. Live s F q x) (sendings u (entries before))) (λ q. same_op op q.op) l.state.rows r z h.lives.of_rows)
            (λ x live. or_left (is_ended_by_client live.o) _ (sym (ap (passes is_ended_by_client) (ap (operation F) (same_op_eq op r.op (found_passes (λ q. same_op op q.op) l.state.rows r z) ∙ sym live.op) ∙ live.found)) ∙ f op (same_op_refl op)))
    dropped id rest e _ k f = absurd (let bad : false ≡ true = k in cc)

    -- one that no letter made is of an operation that expired directly before
    pub unmarked_expired : m.mark ≡ None → abandon_by_state l.state (entries before) m ≡ true → last_passes (λ e. is_some (expired_op e.what)) (entries before) ≡ true
    unmarked_expired z k = any_gives (λ x. is_own (abandon x.id) m.entry && (is_some (row_named l.state x.op) && has_letter (drops x.op) m || last_passes (is_expired x.op) (entries before))) (sendings l.state.number (entries before)) (λ x j. or_elim (is_some (row_named l.state x.op) && has_letter (drops x.op) m) (last_passes (is_expired x.op) (entries before)) (λ i. absurd (let bad : false ≡ true = sym (ap (passes (λ t. drops x.op t.letter)) z) ∙ right (is_some (row_named l.state x.op)) _ i in cc)) (λ i. some x (last (entries before)) i) (right (is_own (abandon x.id) m.entry) _ j)) k
      where
        some : (x : Sending) (o : Option Entry) → (elim o [ None ↦ false | Some e ↦ is_expired x.op e ]) ≡ true → (elim o [ None ↦ false | Some e ↦ is_some (expired_op e.what) ]) ≡ true
        some x None i = i
        some x (Some e) i = one (expired_op e.what) i
          where
            one : (o : Option OpName) → passes (same_op x.op) o ≡ true → is_some o ≡ true
            one None q = q
            one (Some n) q = refl

    module _ (marks : has_connection_mark l.state m ≡ true) (expired : last_passes (λ e. is_some (expired_op e.what)) (entries before) ≡ true → is_due_abandon F u (entries before) m.entry ≡ true) (ended : (op : OpName) → has_letter (drops op) m ≡ true → passes is_ended_by_client (operation F op) ≡ true) where
      abandoned : is_some (own_message m.entry.what) ≡ true → abandon_by_state l.state (entries before) m ≡ true → is_due_abandon F u (entries before) m.entry ≡ true
      abandoned own k = by m.mark refl marks
        where
          none : m.mark ≡ None → is_due_abandon F u (entries before) m.entry ≡ true
          none z = expired (unmarked_expired z k)

          made : (t : Taken) → m.mark ≡ Some t → (w : What) → m.entry.what ≡ w → is_some (own_message w) ≡ true → marks_connection l.state w t.letter ≡ true → is_due_abandon F u (entries before) m.entry ≡ true
          made t z (what.Own id rest) e i j = dropped id rest e t.letter j (λ op q. ended op (ap (passes (λ y. drops op y.letter)) z ∙ q))
          made t z _ e i j = absurd (let bad : false ≡ true = i in cc)

          by : (o : Option Taken) → m.mark ≡ o → has_connection_mark l.state (record { entry = m.entry; mark = o }) ≡ true → is_due_abandon F u (entries before) m.entry ≡ true
          by None z j = none z
          by (Some t) z j = made t z m.entry.what refl own j

      one_reasoned : reason_by_state s l.state (entries before) m ≡ true → has_reason s F u (entries before) m.entry ≡ true
      one_reasoned k = implies_by (is_some (own_message m.entry.what)) _ (λ own. by own (implied (is_some (own_message m.entry.what)) _ k own))
        where
          by : is_some (own_message m.entry.what) ≡ true → (is_own_bind s m.entry && last_passes (is_bind_due s l.state.number) (entries before) || is_own who_am_i m.entry && list_any is_who_awaited l.state.rows || abandon_by_state l.state (entries before) m) ≡ true → (is_own_bind s m.entry && last_passes (is_bind_due s u) (entries before) || is_own who_am_i m.entry && last_is_who_due s F u [] (entries before) || is_due_abandon F u (entries before) m.entry) ≡ true
          by own j =
              or_elim (is_own_bind s m.entry && last_passes (is_bind_due s l.state.number) (entries before) || is_own who_am_i m.entry && list_any is_who_awaited l.state.rows) (abandon_by_state l.state (entries before) m)
              (λ i. or_elim (is_own_bind s m.entry && last_passes (is_bind_due s l.state.number) (entries before)) (is_own who_am_i m.entry && list_any is_who_awaited l.state.rows)
              (λ q. or_left (is_own_bind s m.entry && last_passes (is_bind_due s u) (entries before) || is_own who_am_i m.entry && last_is_who_due s F u [] (entries before)) _ (or_left (is_own_bind s m.entry && last_passes (is_bind_due s u) (entries before)) _ (ap (λ n. is_own_bind s m.entry && last_passes (is_bind_due s n) (entries before)) (sym h.stands.number) ∙ q)))
              (λ q. absurd (let bad : false ≡ true = sym (none_awaited l.state.rows h.sound) ∙ right (is_own who_am_i m.entry) _ q in cc)) i)
              (λ i. or_right (is_own_bind s m.entry && last_passes (is_bind_due s u) (entries before) || is_own who_am_i m.entry && last_is_who_due s F u [] (entries before)) _ (abandoned own i)) j

    -- what stands behind Expired abandons the Sent of the operation's row
    pub behind_expiry : (t : Sending → Bool) → ((op : OpName) → m.entry.what ≡ what.Expired op → (r : UpRow) → not (is_bind_row r) ≡ true → op ≡ r.op → (x : Sending) → Live s F r x → t (later_sending m.entry x) ≡ true) → is_expired_due s l.state m ms ≡ true → last_passes (λ e. is_some (expired_op e.what)) (entries before ++ m.entry ∷ []) ≡ true → first_passes (λ y. list_any (λ x. is_last_sent x && is_own (abandon x.id) y && t x) (sendings u (entries before ++ m.entry ∷ []))) (entries ms) ≡ true
    behind_expiry t so k last = by m.entry.what refl k (sym (ap (λ o. elim o [ None ↦ false | Some e ↦ is_some (expired_op e.what) ]) (last_push (entries before) m.entry)) ∙ last)
      where
        of_row : (op : OpName) → m.entry.what ≡ what.Expired op → (r : UpRow) → row_named l.state op ≡ Some r → is_expiry_told (entries ms) r ≡ true → first_passes (λ y. list_any (λ x. is_last_sent x && is_own (abandon x.id) y && t x) (sendings u (entries before ++ m.entry ∷ []))) (entries ms) ≡ true
        of_row op e r z told = first (entries ms) (sym (ap (λ b. if b then first_passes (is_down_by TimedOut) (entries ms) else first_passes (is_own (abandon r.id)) (entries ms)) (not_true (is_bind_row r) none)) ∙ told)
          where
            none : not (is_bind_row r) ≡ true
            none = bare r (each_found (λ q. is_sound u (entries before) q ≡ true) (λ q. same_op op q.op) l.state.rows r z (each_row (is_sound u (entries before)) l.state.rows h.sound))

            sents : sendings u (entries before ++ m.entry ∷ []) ≡ map (later_sending m.entry) (sendings u (entries before))
            sents = sendings_grow u (entries before) m.entry ∙ ap (λ w. map (later_sending m.entry) (sendings u (entries before)) ++ sending_made u (entries before) m.entry [] (sent_message w)) e ∙ append-nil (map (later_sending m.entry) (sendings u (entries before)))

            there : OneIn (λ x. Live s F r x) (sendings u (entries before))
            there = each_found (λ q. OneIn (λ x. Live s F q x) (sendings u (entries before))) (λ q. same_op op q.op) l.state.rows r z h.lives.of_rows

            one : (y : Entry) → is_own (abandon r.id) y ≡ true → (x : Sending) → Live s F r x → (is_last_sent (later_sending m.entry x) && is_own (abandon x.id) y && t (later_sending m.entry x)) ≡ true
            one y own x live =
                both (is_last_sent (later_sending m.entry x) && is_own (abandon x.id) y) _
                (both (is_last_sent (later_sending m.entry x)) _ (ap not (none_of_both (is_sent_under x.id) x.behind (m.entry ∷ []) (not_true (list_any (is_sent_under x.id) x.behind) (last_one r x live)) (ap (λ w. passes (λ n. n.value.id == x.id) (sent_message w) || false) e))) (own_is r.id x.id y (sym live.id) own))
                (so op e r none (same_op_eq op r.op (found_passes (λ q. same_op op q.op) l.state.rows r z)) x live)

            first : (es : List Entry) → first_passes (is_own (abandon r.id)) es ≡ true → first_passes (λ y. list_any (λ x. is_last_sent x && is_own (abandon x.id) y && t x) (sendings u (entries before ++ m.entry ∷ []))) es ≡ true
            first [] j = j
            first (y ∷ es) j = subst (λ xs. list_any (λ x. is_last_sent x && is_own (abandon x.id) y && t x) xs ≡ true) (sym sents) (one_passes (λ x. (is_last_sent x && is_own (abandon x.id) y && t x) ≡ true) (λ x. is_last_sent x && is_own (abandon x.id) y && t x) (map (later_sending m.entry) (sendings u (entries before))) (λ x q. q) (one_map (λ x. Live s F r x) (λ x. (is_last_sent x && is_own (abandon x.id) y && t x) ≡ true) (later_sending m.entry) (sendings u (entries before)) (one y j) there))

        row : (op : OpName) → m.entry.what ≡ what.Expired op → (o : Option UpRow) → row_named l.state op ≡ o → passes (λ r. is_due s m.entry.at r && is_expiry_told (entries ms) r) o ≡ true → first_passes (λ y. list_any (λ x. is_last_sent x && is_own (abandon x.id) y && t x) (sendings u (entries before ++ m.entry ∷ []))) (entries ms) ≡ true
        row op e None z j = absurd (let bad : false ≡ true = j in cc)
        row op e (Some r) z j = of_row op e r z (right (is_due s m.entry.at r) _ j)

        by : (w : What) → m.entry.what ≡ w → (elim (expired_op w) [ None ↦ true | Some op ↦ passes (λ r. is_due s m.entry.at r && is_expiry_told (entries ms) r) (row_named l.state op) ]) ≡ true → is_some (expired_op w) ≡ true → first_passes (λ y. list_any (λ x. is_last_sent x && is_own (abandon x.id) y && t x) (sendings u (entries before ++ m.entry ∷ []))) (entries ms) ≡ true
        by (what.Expired op) e j i = row op e (row_named l.state op) refl j
        by _ e j i = absurd (let bad : false ≡ true = i in cc)

    -- the last entry is the Expired of this operation
    pub expired_last : (op n : OpName) → m.entry.what ≡ what.Expired op → n ≡ op → last_passes (is_expired n) (entries before ++ m.entry ∷ []) ≡ true
    expired_last op n e same = ap (λ o. elim o [ None ↦ false | Some q ↦ is_expired n q ]) (last_push (entries before) m.entry) ∙ ap (λ w. passes (same_op n) (expired_op w)) e ∙ ap (λ v. same_op v op) same ∙ same_op_refl op

    behind_expired : is_expired_due s l.state m ms ≡ true → last_passes (λ e. is_some (expired_op e.what)) (entries before ++ m.entry ∷ []) ≡ true → first_passes (is_due_abandon F u (entries before ++ m.entry ∷ [])) (entries ms) ≡ true
    behind_expired k last = behind_expiry (of_operation F (may_be_abandoned (entries before ++ m.entry ∷ []))) (λ op e r none same x live. ap (passes (λ o. may_be_abandoned (entries before ++ m.entry ∷ []) o (later_sending m.entry x))) live.found ∙ both (not (is_of Bind live.o)) _ (not_bind r x live none) (or_right (is_ended_by_client live.o) _ (expired_last op live.o.name e (sym (op_named F x.op live.o live.found) ∙ live.op ∙ sym same)))) k last

  abbrev reasons : ConnectionState → List Marked → Marked → List Marked → Bool
  reasons p b m behind = due_by_state s p m behind && reason_by_state s p (entries b) m

  abbrev due_so : ConnectionState → List Marked → Marked → List Marked → Bool
  due_so p b m behind = is_expired_due s p m behind

  abbrev pub own_so : List Entry → Entry → List Entry → Bool
  own_so place e behind = has_due_messages s F u place e behind && has_reason s F u place e

  pub regular_own : (ms before : List Marked) (l : ConnectionLedger) → AtEach s (Known s F u) before l ms → each_from (step_connection s) has_connection_mark l.state ms ≡ true → each_place (step_connection s) reasons l.state before ms ≡ true → each_place (step_connection s) due_so l.state before ms ≡ true → (last_passes (λ e. is_some (expired_op e.what)) (entries before) ≡ true → first_passes (is_due_abandon F u (entries before)) (entries ms) ≡ true) → ((op : OpName) → list_any (has_letter (drops op)) ms ≡ true → passes is_ended_by_client (operation F op) ≡ true) → each_split_from own_so (entries before) (entries ms) ≡ true
  regular_own [] before l h marks k due expired ended = refl
  regular_own (m ∷ ms) before l h marks k due expired ended =
      both (own_so (entries before) m.entry (entries ms)) _
      (both (has_due_messages s F u (entries before) m.entry (entries ms)) _ (one_due before l h.0 m ms (left (due_by_state s l.state m ms) _ here)) (one_reasoned before l h.0 m ms (left (has_connection_mark l.state m) _ marks) expired (λ op j. ended op (or_left (has_letter (drops op) m) _ j)) (right (due_by_state s l.state m ms) _ here)))
      (subst (λ place. each_split_from own_so place (entries ms) ≡ true) (push_entry before m) (regular_own ms (before ++ m ∷ []) (step_connection_ledger s l m) h.1 (right (has_connection_mark l.state m) _ marks) (right (reasons l.state before m ms) _ k) (right (is_expired_due s l.state m ms) _ due) (subst (λ place. last_passes (λ e. is_some (expired_op e.what)) place ≡ true → first_passes (is_due_abandon F u place) (entries ms) ≡ true) (sym (push_entry before m)) (behind_expired before l h.0 m ms (left (is_expired_due s l.state m ms) _ due))) (λ op j. ended op (or_right (has_letter (drops op) m) _ j))))
    where
      here : reasons l.state before m ms ≡ true
      here = left (reasons l.state before m ms) _ k
