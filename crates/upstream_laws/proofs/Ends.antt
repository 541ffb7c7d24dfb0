-- Each end of a connection has its cause, but for an exchange that its client left.
use Rattle.std.proofs.Common.{◌≡◌, ℕ, Bool, true, false, ◌==◌, ◌&&◌, ◌||◌, not, List, [], ◌∷◌, ◌++◌, length, refl, ap, ◌∙◌, sym, subst}
use Rattle.std.specs.Prelude.{Option, Some, None, is_none, is_some, if◌then◌else◌}
use Rattle.std.specs.List.{list_any}
use Rattle.lload_names.specs.declared.names.ConnKind.TheVariants.{Bind as BindKind, Regular}
use Rattle.lload_names.specs.declared.names.EndWhy.{EndWhy}
use Rattle.lload_names.specs.declared.names.EndWhy.TheVariants.{Drained, OwnBind, TimedOut, Unfinished}
use Rattle.lload_names.specs.declared.names.Entry.{Entry}
use Rattle.lload_names.specs.declared.names.OpName.{OpName}
use Rattle.lload_names.specs.declared.names.PartName.TheVariants.{Up as Connection}
use Rattle.lload_spec.specs.Answers.{Sending, is_open, of_operation, sendings}
use Rattle.lload_spec.specs.CausedUp.{has_down_cause, holder, is_bind_expired, is_down_caused, is_drained, is_holding, is_own_bind_due}
use Rattle.lload_spec.specs.Entries.{down_why, expired_op, is_down, is_linked, is_of_connection, is_retired, same_why}
use Rattle.lload_spec.specs.Journal.{Family}
use Rattle.lload_spec.specs.Lists.{agrees, each_split_from, implies, last, last_passes, where_there}
use Rattle.lload_spec.specs.Settings.{Settings, is_of_kind}
use Rattle.lload_spec.specs.Strict.{is_empty, lives_as_connection, may_follow_down}
use Rattle.lload_spec.proofs.Growth.{left, right, both}
use Rattle.part_laws.proofs.ListLaws.{or_elim, or_left, or_right}
use Rattle.part_spec.specs.ConnectionState.{ConnectionState, is_bind, step_connection}
use Rattle.part_spec.specs.ConnectionTurn.{is_drained as is_drained_by_state}
use Rattle.part_spec.specs.Fit.{ConnectionLedger, are_fit_from, empty_connection_ledger, fits_connection, is_unfit, step_connection_ledger}
use Rattle.part_spec.specs.Laws.{FitIsWhole}
use Rattle.part_spec.specs.Marked.{Marked, Taken, entries}
use Rattle.part_spec.specs.Marks.{each_from, has_connection_mark}
use Rattle.part_spec.specs.Share.{ConnectionShare, each_place, has_down_cause as has_cause_by_state, is_down_caused as is_caused_by_state, is_expired_due, is_sent_once}
use Rattle.connection_laws.proofs.ConnectionSays.{up_says_nothing}
use Rattle.connection_laws.proofs.Permits.{push_entry}
use Rattle.connection_laws.proofs.Through.{no_rows}
use Rattle.bind_laws.specs.Turns.{are_told_rightly, is_told_rightly}
use Rattle.carried_laws.specs.Laws.{ForwardsAreRight}
use Rattle.caused_laws.specs.Laws.{BindConnectionsSay}
use Rattle.client_answer_laws.proofs.Each.{Each}
use Rattle.joined_laws.proofs.Taken.{is_fit_there}
use Rattle.rows_laws.proofs.Lives.{none_open}
use Rattle.rows_laws.proofs.Regular.{known_at_each}
use Rattle.upstream_laws.specs.Laws.{EndsAreCaused, is_end_caused}
use Rattle.upstream_laws.proofs.BindDowns.{Rowed, Unheld}
use Rattle.upstream_laws.proofs.BindEnds.{Here, here_step}
use Rattle.upstream_laws.proofs.Downs.{regular_downs}
use Rattle.upstream_laws.proofs.Heads.{AtHeads, bind_heads}
use Rattle.upstream_laws.proofs.Places.{each_connection}

module _ (s : Settings) (F : Family) (u : ℕ) (kind : is_of_kind s BindKind u ≡ true) where
  abbrev holder_by : Bool → Option Sending → Option ℕ
  holder_by b o = elim o [ None ↦ None | Some x ↦ if b && of_operation F (is_holding s) x then Some x.op.client else None ]

  -- and without a holder the list has none
  no_holder : (place : List Entry) → Unheld s F (last (sendings u place)) → holder s F u place ≡ None
  no_holder place h = by (last (sendings u place)) h
    where
      off : (b : Bool) → (b && false) ≡ false
      off true = refl
      off false = refl

      by : (o : Option Sending) → Unheld s F o → holder_by (is_of_kind s BindKind u) o ≡ None
      by None k = refl
      by (Some x) k = ap (λ b. if is_of_kind s BindKind u && b then Some x.op.client else None) k ∙ ap (λ b. if b then Some x.op.client else None) (off (is_of_kind s BindKind u))

  module _ (before : List Marked) (l : ConnectionLedger) (h : Here s F u before l) (m : Marked) where
    drained : is_drained_by_state l.state ≡ true → is_drained s F u (entries before) ≡ true
    drained k =
        let empty : (l.state.retired && not l.state.down && length l.state.rows == 0) ≡ true = left (l.state.retired && not l.state.down && length l.state.rows == 0) _ k in
        let none : l.state.rows ≡ [] = no_rows l.state.rows (right (l.state.retired && not l.state.down) _ empty) in
        both (list_any (λ e. is_retired e.what) (entries before) && not (list_any (of_operation F (is_open s)) (sendings u (entries before)))) _
        (both (list_any (λ e. is_retired e.what) (entries before)) _ (sym h.says.retired ∙ left l.state.retired _ (left (l.state.retired && not l.state.down) _ empty))
        (ap not (none_open s F (sendings u (entries before)) (subst (λ rows. Each (Rowed s F rows) (sendings u (entries before))) none h.rowed))))
        (ap is_none (no_holder (entries before) (h.unheld (free l.state.holder (right (l.state.retired && not l.state.down && length l.state.rows == 0) _ k)))))
      where
        free : (o : Option OpName) → is_none o ≡ true → o ≡ None
        free None j = refl
        free (Some n) j = absurd (let bad : false ≡ true = j in cc)

    caused : (why : EndWhy) → has_cause_by_state s l.state (entries before) m why ≡ true → (same_why why Unfinished || has_down_cause s F u (entries before) m.entry.at why) ≡ true
    caused TimedOut k = or_elim (is_bind l.state && last_passes (λ e. is_some (expired_op e.what)) (entries before)) (is_own_bind_due s l.state.number (entries before) m.entry.at) (λ j. or_left (is_bind_expired F u (entries before)) _ (h.expired (right (is_bind l.state) _ j))) (λ j. or_right (is_bind_expired F u (entries before)) _ (ap (λ n. is_own_bind_due s n (entries before) m.entry.at) (sym h.number) ∙ j)) k
    caused Unfinished k = refl
    caused Drained k = drained k
    caused OwnBind k = refl
    caused _ k = k

    one_caused : is_caused_by_state s l.state (entries before) m ≡ true → is_end_caused s F u (entries before) m.entry ≡ true
    one_caused k = by (down_why m.entry.what) k
      where
        by : (o : Option EndWhy) → (elim o [ None ↦ true | Some why ↦ has_cause_by_state s l.state (entries before) m why ]) ≡ true → where_there (λ why. same_why why Unfinished || has_down_cause s F u (entries before) m.entry.at why) o ≡ true
        by None j = refl
        by (Some why) j = caused why j

  abbrev causes : ConnectionState → List Marked → Marked → List Marked → Bool
  causes p b m behind = is_caused_by_state s p (entries b) m

  abbrev once_so : ConnectionState → List Marked → Marked → List Marked → Bool
  once_so p b m behind = is_sent_once p (entries b) m

  abbrev due_so : ConnectionState → List Marked → Marked → List Marked → Bool
  due_so p b m behind = is_expired_due s p m behind

  abbrev lives_so : List Entry → Entry → List Entry → Bool
  lives_so place e behind = is_of_connection e.what && lives_as_connection place e

  abbrev by_list : List Entry → Entry → List Entry → Bool
  by_list place e behind = is_end_caused s F u place e

  pub bind_ends : (ms before : List Marked) (l : ConnectionLedger) → AtHeads s F u before l ms → Here s F u before l → are_fit_from (fits_connection s) (step_connection_ledger s) l ms ≡ true → each_from (step_connection s) has_connection_mark l.state ms ≡ true → each_place (step_connection s) once_so l.state before ms ≡ true → each_split_from lives_so (entries before) (entries ms) ≡ true → are_told_rightly s F ms ≡ true → each_place (step_connection s) due_so l.state before ms ≡ true → each_place (step_connection s) causes l.state before ms ≡ true → each_split_from by_list (entries before) (entries ms) ≡ true
  bind_ends [] before l a h fit marks once life told due k = refl
  bind_ends (m ∷ ms) before l a h fit marks once life told due k =
      let alive : implies (list_any is_down (entries before)) (may_follow_down m.entry.what) ≡ true = right (agrees (is_linked m.entry.what) (is_empty (entries before))) _ (left (agrees (is_linked m.entry.what) (is_empty (entries before)) && implies (list_any is_down (entries before)) (may_follow_down m.entry.what)) _ (right (is_of_connection m.entry.what) _ (left (lives_so (entries before) m.entry (entries ms)) _ life))) in
      let next : Here s F u (before ++ m ∷ []) (step_connection_ledger s l m) = here_step s F u kind before l h m.entry.part m.entry.at m.mark m.entry.what ms (record { begun = a.0; marked = left (has_connection_mark l.state m) _ marks; once = left (is_sent_once l.state (entries before) m) _ once; alive = alive; told = left (where_there (λ t. is_told_rightly s F t.letter) m.mark) _ told; fit = here }) (left (is_expired_due s l.state m ms) _ due) in
      both (by_list (entries before) m.entry (entries ms)) _ (one_caused before l h m (left (is_caused_by_state s l.state (entries before) m) _ k)) (subst (λ place. each_split_from by_list place (entries ms) ≡ true) (push_entry before m) (bind_ends ms (before ++ m ∷ []) (step_connection_ledger s l m) a.1 next (right (not (is_unfit (fits_connection s) l m.mark)) _ fit) (right (has_connection_mark l.state m) _ marks) (right (is_sent_once l.state (entries before) m) _ once) (subst (λ place. each_split_from lives_so place (entries ms) ≡ true) (sym (push_entry before m)) (right (lives_so (entries before) m.entry (entries ms)) _ life)) (right (where_there (λ t. is_told_rightly s F t.letter) m.mark) _ told) (right (is_expired_due s l.state m ms) _ due) (right (is_caused_by_state s l.state (entries before) m) _ k)))
    where
      here : (t : Taken) → m.mark ≡ Some t → fits_connection s l t.sender t.letter ≡ true
      here t e = is_fit_there (fits_connection s) l t (are_fit_from (fits_connection s) (step_connection_ledger s) (step_connection_ledger s l m) ms) (ap (λ q. not (is_unfit (fits_connection s) l q) && are_fit_from (fits_connection s) (step_connection_ledger s) (step_connection_ledger s l m) ms) (sym e) ∙ fit)

  pub nothing_here : Here s F u [] (empty_connection_ledger s u)
  nothing_here = record { said = tt; rowed = tt; binds = refl; unheld = λ e. tt; expired = λ e. e; says = up_says_nothing s u; number = refl; kind = ap (λ b. if b then BindKind else Regular) kind }

-- a cause is one where more is let pass
eased : (s : Settings) (F : Family) (u : ℕ) (before es : List Entry) → each_split_from (λ place e behind. is_down_caused s F u place e) before es ≡ true → each_split_from (λ place e behind. is_end_caused s F u place e) before es ≡ true
eased s F u before [] h = refl
eased s F u before (e ∷ es) h = both (is_end_caused s F u before e) _ (by (down_why e.what) (left (is_down_caused s F u before e) _ h)) (eased s F u (before ++ e ∷ []) es (right (is_down_caused s F u before e) _ h))
  where
    by : (o : Option EndWhy) → where_there (λ why. has_down_cause s F u before e.at why) o ≡ true → where_there (λ why. same_why why Unfinished || has_down_cause s F u before e.at why) o ≡ true
    by None k = refl
    by (Some why) k = or_right (same_why why Unfinished) _ k

pub ends_caused : ForwardsAreRight → FitIsWhole → BindConnectionsSay → EndsAreCaused
ends_caused rightly whole says s F marked h =
    each_connection s F marked h (λ u list. each_split_from (λ place e behind. is_end_caused s F u place e) [] list) (λ u kind. eased s F u [] (entries (marked (Connection u))) (regular_downs s F u kind (marked (Connection u)) [] (empty_connection_ledger s u) (known_at_each rightly whole s F marked h u kind) (h.joined.fit (Connection u)) (share u).downs)) (λ u kind. bind_ends s F u kind (marked (Connection u)) [] (empty_connection_ledger s u) (bind_heads says s F marked h u kind) (nothing_here s F u kind) (h.joined.fit (Connection u)) (share u).marks (share u).sent_once (share u).life (says s F marked h u kind).told (share u).expired (share u).downs) (λ u. refl)
  where
    share : (u : ℕ) → ConnectionShare s u (marked (Connection u))
    share u = h.joined.shared.shares (Connection u)
