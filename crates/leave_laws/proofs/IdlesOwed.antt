-- On a regular connection each Idle is owed: along its list.
use Rattle.std.proofs.Common.{◌≡◌, ℕ, Bool, true, false, ◌&&◌, ◌||◌, not, List, [], ◌∷◌, ◌++◌, refl, ap, ◌∙◌, sym, subst}
use Rattle.std.specs.Prelude.{Option, Some, None, if◌then◌else◌, is_some}
use Rattle.std.specs.List.{list_any}
use Rattle.ldap_spec.specs.Bodies.{who_am_i}
use Rattle.lload_names.specs.declared.names.Entry.{Entry}
use Rattle.lload_names.specs.declared.names.OpKind.TheVariants.{Bind}
use Rattle.lload_names.specs.declared.names.OpName.{OpName}
use Rattle.lload_names.specs.declared.names.PartName.TheVariants.{Up as Connection}
use Rattle.lload_names.specs.declared.names.What.{What}
use Rattle.lload_names.specs.declared.names.What.TheVariants as what
use Rattle.lload_spec.specs.Answers.{Sending, is_abandoned_at, of_operation, sendings}
use Rattle.lload_spec.specs.Entries.{expired_op, idle_op, is_expired, is_own, own_message}
use Rattle.lload_spec.specs.Journal.{Family, same_op}
use Rattle.lload_spec.specs.Lists.{each_split_from, first_passes, last_passes, passes, where_there}
use Rattle.lload_spec.specs.OneEach.{is_bind_due, is_own_bind}
use Rattle.lload_spec.specs.Operations.{Operation, is_ended_by_client, is_of, operation}
use Rattle.lload_spec.specs.Owed.{is_drop_idle, is_idle_owed, is_leave_idle, is_open_at, was_dropped_at, was_forwarded}
use Rattle.lload_spec.specs.Settings.{Settings}
use Rattle.lload_spec.proofs.Growth.{left, right, both}
use Rattle.lload_laws.proofs.ListLaws.{implied}
use Rattle.part_laws.proofs.ListLaws.{false_by, or_elim, same_op_eq, splits_both}
use Rattle.part_spec.specs.ConnectionState.{ConnectionState, step_connection}
use Rattle.part_spec.specs.Fit.{ConnectionLedger, are_fit_from, empty_connection_ledger, fits_connection, is_unfit, step_connection_ledger}
use Rattle.part_spec.specs.Laws.{FitIsWhole}
use Rattle.part_spec.specs.Marked.{Marked, Taken, entries}
use Rattle.part_spec.specs.Marks.{each_from, has_connection_mark}
use Rattle.part_spec.specs.Share.{ConnectionShare, each_place, has_due_messages, has_reason, is_expired_due, is_who_awaited, is_due_abandon as abandon_by_state}
use Rattle.carried_laws.specs.Laws.{ForwardsAreRight, are_forwards_right, is_forward_right}
use Rattle.connection_laws.proofs.Permits.{push_entry}
use Rattle.joined_laws.proofs.Taken.{is_fit_there}
use Rattle.rows_laws.proofs.Known.{AtEach, Known}
use Rattle.rows_laws.proofs.Regular.{known_at_each}
use Rattle.rows_laws.proofs.Steps.{op_named}
use Rattle.leave_laws.specs.Laws.{RegularIdlesAreOwed, RegularIdlesHaveNothingToEnd, has_nothing_to_end, is_idle_for_nothing}
use Rattle.leave_laws.proofs.Ends.{splits_imply}
use Rattle.leave_laws.proofs.IdleRegular.{Idles, idles_next, is_dropped, none_idle, undropped}
use Rattle.leave_laws.proofs.LetGo.{LetGo, expires_here, let_go_next}
use Rattle.leave_laws.proofs.OwnRegular.{behind_expiry, expired_last}

module _ (s : Settings) (F : Family) (u : ℕ) where
  -- whether an Idle is of an operation that wasn't dropped before
  abbrev is_undropped : List Entry → Entry → Bool
  is_undropped place e = where_there (λ op. not (was_dropped_at F u place op)) (idle_op e.what)

  -- what was dropped is one whose Drop was taken
  dropped_taken : (taken : List Taken) (op : OpName) (xs : List Sending) → LetGo s F u taken xs → list_any (λ x. same_op op x.op && of_operation F is_abandoned_at x && not (list_any (is_expired op) x.behind)) xs ≡ true → is_dropped op taken ≡ true
  dropped_taken taken op [] h k = absurd (let bad : false ≡ true = k in cc)
  dropped_taken taken op (x ∷ xs) h k =
      or_elim (same_op op x.op && of_operation F is_abandoned_at x && not (list_any (is_expired op) x.behind)) (list_any (λ y. same_op op y.op && of_operation F is_abandoned_at y && not (list_any (is_expired op) y.behind)) xs)
      (λ j.
      let front : (same_op op x.op && of_operation F is_abandoned_at x) ≡ true = left (same_op op x.op && of_operation F is_abandoned_at x) _ j in
      let same : op ≡ x.op = same_op_eq op x.op (left (same_op op x.op) _ front) in
      subst (λ n. is_dropped n taken ≡ true) (sym same) (h.0 (both (of_operation F is_abandoned_at x) _ (right (same_op op x.op) _ front) (subst (λ n. not (list_any (is_expired n) x.behind) ≡ true) same (right (same_op op x.op && of_operation F is_abandoned_at x) _ j)))))
      (dropped_taken taken op xs h.1) k

  abbrev reasons : ConnectionState → List Marked → Marked → List Marked → Bool
  reasons p b m behind = has_due_messages s p m behind && has_reason s p (entries b) m

  abbrev due_so : ConnectionState → List Marked → Marked → List Marked → Bool
  due_so p b m behind = is_expired_due s p m behind

  undropped_so : (ms before : List Marked) (l : ConnectionLedger) → AtEach s (Known s F u) before l ms → Idles s F u before l → LetGo s F u l.taken (sendings u (entries before)) → are_fit_from (fits_connection s) (step_connection_ledger s) l ms ≡ true → each_from (step_connection s) has_connection_mark l.state ms ≡ true → are_forwards_right s F ms ≡ true → each_place (step_connection s) reasons l.state before ms ≡ true → each_place (step_connection s) due_so l.state before ms ≡ true → (last_passes (λ e. is_some (expired_op e.what)) (entries before) ≡ true → first_passes (expires_here s F u (entries before)) (entries ms) ≡ true) → each_split_from (λ place e behind. is_undropped place e) (entries before) (entries ms) ≡ true
  undropped_so [] before l a h g fit marks told k due expired = refl
  undropped_so (m ∷ ms) before l a h g fit marks told k due expired =
      both (is_undropped (entries before) m.entry) _ (here m.entry.what refl)
      (subst (λ place. each_split_from (λ p e behind. is_undropped p e) place (entries ms) ≡ true) (push_entry before m)
      (undropped_so ms (before ++ m ∷ []) (step_connection_ledger s l m) a.1 (idles_next s F u before l a.0 h m mark fits (left (where_there (λ t. is_forward_right s F t.letter) m.mark) _ told))
      (subst (λ place. LetGo s F u (step_connection_ledger s l m).taken (sendings u place)) (sym (push_entry before m)) (let_go_next s F u before l a.0 m ms mark reason expired g))
      (right (not (is_unfit (fits_connection s) l m.mark)) _ fit) (right (has_connection_mark l.state m) _ marks) (right (where_there (λ t. is_forward_right s F t.letter) m.mark) _ told) (right (reasons l.state before m ms) _ k) (right (is_expired_due s l.state m ms) _ due)
      (subst (λ place. last_passes (λ e. is_some (expired_op e.what)) place ≡ true → first_passes (expires_here s F u place) (entries ms) ≡ true) (sym (push_entry before m)) (behind_expiry s F u before l a.0 m ms (λ y. last_passes (is_expired y.op) (entries before ++ m.entry ∷ [])) (λ op e r none same x live. expired_last s F u before l a.0 m ms op x.op e (live.op ∙ sym same)) (left (is_expired_due s l.state m ms) _ due)))))
    where
      mark : has_connection_mark l.state m ≡ true
      mark = left (has_connection_mark l.state m) _ marks

      fits : (t : Taken) → m.mark ≡ Some t → fits_connection s l t.sender t.letter ≡ true
      fits t e = is_fit_there (fits_connection s) l t (are_fit_from (fits_connection s) (step_connection_ledger s) (step_connection_ledger s l m) ms) (ap (λ q. not (is_unfit (fits_connection s) l q) && are_fit_from (fits_connection s) (step_connection_ledger s) (step_connection_ledger s l m) ms) (sym e) ∙ fit)

      reason : is_some (own_message m.entry.what) ≡ true → (is_own_bind s m.entry && last_passes (is_bind_due s l.state.number) (entries before) || is_own who_am_i m.entry && list_any is_who_awaited l.state.rows || abandon_by_state l.state (entries before) m) ≡ true
      reason own = implied (is_some (own_message m.entry.what)) _ (right (has_due_messages s l.state m ms) _ (left (reasons l.state before m ms) _ k)) own

      one : (op : OpName) → m.entry.what ≡ what.Idle op → was_dropped_at F u (entries before) op ≡ false
      one op e = false_by (was_dropped_at F u (entries before) op) (λ j. sym (undropped s F u before l a.0 h m mark fits (left (where_there (λ t. is_forward_right s F t.letter) m.mark) _ told) op e) ∙ dropped_taken l.taken op (sendings u (entries before)) g j)

      here : (w : What) → m.entry.what ≡ w → is_undropped (entries before) m.entry ≡ true
      here (what.Idle op) e = ap (λ w. where_there (λ n. not (was_dropped_at F u (entries before) n)) (idle_op w)) e ∙ ap not (one op e)
      here w e = ap (λ v. where_there (λ n. not (was_dropped_at F u (entries before) n)) (idle_op v)) e

pub idles_owed : ForwardsAreRight → FitIsWhole → RegularIdlesHaveNothingToEnd → RegularIdlesAreOwed
idles_owed rightly whole nothing s F marked h u kind =
    splits_imply (λ place e behind. is_idle_for_nothing s F u place e && is_undropped s F u place e) (λ place e behind. is_idle_owed s F u place e) [] (F.connection u) one
    (splits_both (λ place e behind. is_idle_for_nothing s F u place e) (λ place e behind. is_undropped s F u place e) [] (F.connection u) (nothing s F marked h u kind) (subst (λ l. each_split_from (λ place e behind. is_undropped s F u place e) [] l ≡ true) (h.joined.shared.same_entries (Connection u)) undropped_all))
  where
    share : ConnectionShare s u (marked (Connection u))
    share = h.joined.shared.shares (Connection u)

    undropped_all : each_split_from (λ place e behind. is_undropped s F u place e) [] (entries (marked (Connection u))) ≡ true
    undropped_all = undropped_so s F u (marked (Connection u)) [] (empty_connection_ledger s u) (known_at_each rightly whole s F marked h u kind) (none_idle s F u (empty_connection_ledger s u) refl) tt (h.joined.fit (Connection u)) share.marks (rightly s F marked h.joined (Connection u)) (left (each_place (step_connection s) (reasons s F u) (empty_connection_ledger s u).state [] (marked (Connection u))) _ share.own_reasoned) share.expired (λ k. absurd (let bad : false ≡ true = k in cc))

    owed : (place : List Entry) (o : Operation) → has_nothing_to_end s F u place o ≡ true → not (was_dropped_at F u place o.name) ≡ true → (was_forwarded o.name place && not (list_any (λ e. passes (same_op o.name) (idle_op e.what)) place) && (if is_of Bind o then is_leave_idle s F u place o else is_drop_idle s F u place o)) ≡ true
    owed place o k j =
        let open_no : (was_forwarded o.name place && not (list_any (λ e. passes (same_op o.name) (idle_op e.what)) place) && not (is_of Bind o) && is_ended_by_client o) ≡ true = left (was_forwarded o.name place && not (list_any (λ e. passes (same_op o.name) (idle_op e.what)) place) && not (is_of Bind o) && is_ended_by_client o) _ k in
        let ended : (was_forwarded o.name place && not (list_any (λ e. passes (same_op o.name) (idle_op e.what)) place) && not (is_of Bind o)) ≡ true = left (was_forwarded o.name place && not (list_any (λ e. passes (same_op o.name) (idle_op e.what)) place) && not (is_of Bind o)) _ open_no in
        both (was_forwarded o.name place && not (list_any (λ e. passes (same_op o.name) (idle_op e.what)) place)) _ (left (was_forwarded o.name place && not (list_any (λ e. passes (same_op o.name) (idle_op e.what)) place)) _ ended)
        (ap (λ b. if b then is_leave_idle s F u place o else is_drop_idle s F u place o) (unbound (is_of Bind o) (right (was_forwarded o.name place && not (list_any (λ e. passes (same_op o.name) (idle_op e.what)) place)) _ ended))
        ∙ both (is_ended_by_client o && not (is_open_at s F u place o.name)) _ (both (is_ended_by_client o) _ (right (was_forwarded o.name place && not (list_any (λ e. passes (same_op o.name) (idle_op e.what)) place) && not (is_of Bind o)) _ open_no) (right (was_forwarded o.name place && not (list_any (λ e. passes (same_op o.name) (idle_op e.what)) place) && not (is_of Bind o) && is_ended_by_client o) _ k)) j)
      where
        unbound : (b : Bool) → not b ≡ true → b ≡ false
        unbound true q = absurd (let bad : false ≡ true = q in cc)
        unbound false q = refl

    one : (place : List Entry) (e : Entry) (behind : List Entry) → (is_idle_for_nothing s F u place e && is_undropped s F u place e) ≡ true → is_idle_owed s F u place e ≡ true
    one place e behind k = by (idle_op e.what) (left (is_idle_for_nothing s F u place e) _ k) (right (is_idle_for_nothing s F u place e) _ k)
      where
        by : (o : Option OpName) → where_there (λ op. passes (has_nothing_to_end s F u place) (operation F op)) o ≡ true → where_there (λ op. not (was_dropped_at F u place op)) o ≡ true → where_there (λ op. passes (λ q. was_forwarded q.name place && not (list_any (λ y. passes (same_op q.name) (idle_op y.what)) place) && (if is_of Bind q then is_leave_idle s F u place q else is_drop_idle s F u place q)) (operation F op)) o ≡ true
        by None i j = refl
        by (Some op) i j = found (operation F op) refl i
          where
            found : (q : Option Operation) → operation F op ≡ q → passes (has_nothing_to_end s F u place) q ≡ true → passes (λ y. was_forwarded y.name place && not (list_any (λ z. passes (same_op y.name) (idle_op z.what)) place) && (if is_of Bind y then is_leave_idle s F u place y else is_drop_idle s F u place y)) q ≡ true
            found None z p = p
            found (Some q) z p = owed place q p (ap (λ n. not (was_dropped_at F u place n)) (sym (op_named F op q z)) ∙ j)
