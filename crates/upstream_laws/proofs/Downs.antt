-- Each end of a regular connection has its cause.
use Rattle.std.proofs.Common.{◌≡◌, ℕ, Bool, true, false, ◌==◌, ◌&&◌, not, List, [], ◌∷◌, ◌++◌, length, refl, ap, ◌∙◌, sym, subst}
use Rattle.std.specs.Prelude.{Option, Some, None, is_none, is_some, if◌then◌else◌}
use Rattle.std.specs.List.{list_any}
use Rattle.lload_names.specs.declared.names.ConnKind.TheVariants.{Bind as BindKind, Regular}
use Rattle.lload_names.specs.declared.names.EndWhy.{EndWhy}
use Rattle.lload_names.specs.declared.names.EndWhy.TheVariants.{Drained, OwnBind, TimedOut, Unfinished}
use Rattle.lload_names.specs.declared.names.Entry.{Entry}
use Rattle.lload_names.specs.declared.names.Letter.{Letter}
use Rattle.lload_names.specs.declared.names.Letter.TheVariants.{Leave}
use Rattle.lload_names.specs.declared.names.PartName.TheVariants.{Up as Connection}
use Rattle.lload_spec.specs.Answers.{Sending, is_open, of_operation, sendings}
use Rattle.lload_spec.specs.CausedUp.{has_down_cause, holder, is_bind_expired, is_down_caused, is_drained, is_holding, is_own_bind_due}
use Rattle.lload_spec.specs.Entries.{down_why, expired_op, is_retired}
use Rattle.lload_spec.specs.Journal.{Family}
use Rattle.lload_spec.specs.Lists.{each_split_from, last, last_passes, passes, where_there}
use Rattle.lload_spec.specs.Settings.{Settings, is_kind, is_of_kind}
use Rattle.lload_spec.proofs.Growth.{left, right, both}
use Rattle.part_laws.proofs.ListLaws.{or_elim, or_right}
use Rattle.part_spec.specs.ConnectionState.{ConnectionState, is_bind, step_connection}
use Rattle.part_spec.specs.ConnectionTurn.{is_drained as is_drained_by_state}
use Rattle.part_spec.specs.Fit.{ConnectionLedger, are_fit_from, empty_connection_ledger, fits_connection, is_unfit, step_connection_ledger}
use Rattle.part_spec.specs.Laws.{FitIsWhole}
use Rattle.part_spec.specs.Marked.{Marked, Taken, entries}
use Rattle.part_spec.specs.Share.{ConnectionShare, each_place, has_down_cause as has_cause_by_state, has_letter, is_down_caused as is_caused_by_state, leaves}
use Rattle.connection_laws.proofs.Permits.{push_entry}
use Rattle.connection_laws.proofs.Through.{no_rows}
use Rattle.carried_laws.specs.Laws.{ForwardsAreRight}
use Rattle.client_answer_laws.proofs.Each.{Each}
use Rattle.joined_laws.proofs.Taken.{is_fit_there}
use Rattle.rows_laws.proofs.Known.{AtEach, Known}
use Rattle.rows_laws.proofs.Live.{Live}
use Rattle.rows_laws.proofs.Lives.{is_open_in, none_open}
use Rattle.rows_laws.proofs.Regular.{known_at_each}
use Rattle.rows_laws.proofs.Somewhere.{OneIn}
use Rattle.upstream_laws.specs.Laws.{RegularEndsAreCaused}
use Rattle.upstream_laws.proofs.Places.{regular_alone}

module _ (s : Settings) (F : Family) (u : ℕ) (kind : is_of_kind s Regular u ≡ true) where
  abbrev holder_by : Bool → Option Sending → Option ℕ
  holder_by b o = elim o [ None ↦ None | Some x ↦ if b && of_operation F (is_holding s) x then Some x.op.client else None ]

  no_holder : (place : List Entry) → holder s F u place ≡ None
  no_holder place = ap (λ b. holder_by b (last (sendings u place))) (regular_alone s u kind) ∙ by (last (sendings u place))
    where
      by : (o : Option Sending) → holder_by false o ≡ None
      by None = refl
      by (Some x) = refl

  module _ (before : List Marked) (l : ConnectionLedger) (h : Known s F u before l) (m : Marked) (fit : (t : Taken) → m.mark ≡ Some t → fits_connection s l t.sender t.letter ≡ true) where
    regular : is_bind l.state ≡ false
    regular = ap (is_kind BindKind) h.kind

    drained : is_drained_by_state l.state ≡ true → is_drained s F u (entries before) ≡ true
    drained k =
        let empty : (l.state.retired && not l.state.down && length l.state.rows == 0) ≡ true = left (l.state.retired && not l.state.down && length l.state.rows == 0) _ k in
        let none : l.state.rows ≡ [] = no_rows l.state.rows (right (l.state.retired && not l.state.down) _ empty) in
        both (list_any (λ e. is_retired e.what) (entries before) && not (list_any (of_operation F (is_open s)) (sendings u (entries before)))) _
        (both (list_any (λ e. is_retired e.what) (entries before)) _ (sym h.stands.says.retired ∙ left l.state.retired _ (left (l.state.retired && not l.state.down) _ empty))
        (ap not (none_open s F (sendings u (entries before)) (subst (λ rows. Each (λ x. is_open_in s F x ≡ true → OneIn (λ r. Live s F r x) rows) (sendings u (entries before))) none h.lives.of_sents))))
        (ap is_none (no_holder (entries before)))

    -- no Leave comes
    not_left : has_letter (leaves l.state) m ≡ true → false ≡ true
    not_left k = by m.mark refl k
      where
        of : (t : Taken) (x : Letter) → fits_connection s l t.sender x ≡ true → leaves l.state x ≡ true → false ≡ true
        of t (Leave n) f j = sym regular ∙ left (is_bind l.state) _ f
        of t _ f j = j

        by : (o : Option Taken) → m.mark ≡ o → passes (λ t. leaves l.state t.letter) o ≡ true → false ≡ true
        by None e j = j
        by (Some t) e j = of t t.letter (fit t e) j

    caused : (why : EndWhy) → has_cause_by_state s l.state (entries before) m why ≡ true → has_down_cause s F u (entries before) m.entry.at why ≡ true
    caused TimedOut k = or_right (is_bind_expired F u (entries before)) _ (or_elim (is_bind l.state && last_passes (λ e. is_some (expired_op e.what)) (entries before)) (is_own_bind_due s l.state.number (entries before) m.entry.at) (λ j. absurd (let bad : false ≡ true = sym regular ∙ left (is_bind l.state) _ j in cc)) (λ j. ap (λ n. is_own_bind_due s n (entries before) m.entry.at) (sym h.stands.number) ∙ j) k)
    caused Unfinished k = absurd (let bad : false ≡ true = not_left k in cc)
    caused Drained k = drained k
    caused OwnBind k = refl
    caused _ k = k

    pub one_caused : is_caused_by_state s l.state (entries before) m ≡ true → is_down_caused s F u (entries before) m.entry ≡ true
    one_caused k = by (down_why m.entry.what) k
      where
        by : (o : Option EndWhy) → (elim o [ None ↦ true | Some why ↦ has_cause_by_state s l.state (entries before) m why ]) ≡ true → where_there (λ why. has_down_cause s F u (entries before) m.entry.at why) o ≡ true
        by None j = refl
        by (Some why) j = caused why j

  abbrev by_state : ConnectionState → List Marked → Marked → List Marked → Bool
  by_state p b m behind = is_caused_by_state s p (entries b) m

  abbrev by_list : List Entry → Entry → List Entry → Bool
  by_list place e behind = is_down_caused s F u place e

  pub regular_downs : (ms before : List Marked) (l : ConnectionLedger) → AtEach s (Known s F u) before l ms → are_fit_from (fits_connection s) (step_connection_ledger s) l ms ≡ true → each_place (step_connection s) by_state l.state before ms ≡ true → each_split_from by_list (entries before) (entries ms) ≡ true
  regular_downs [] before l h fit k = refl
  regular_downs (m ∷ ms) before l h fit k = both (by_list (entries before) m.entry (entries ms)) _ (one_caused before l h.0 m here (left (is_caused_by_state s l.state (entries before) m) _ k)) (subst (λ place. each_split_from by_list place (entries ms) ≡ true) (push_entry before m) (regular_downs ms (before ++ m ∷ []) (step_connection_ledger s l m) h.1 (right (not (is_unfit (fits_connection s) l m.mark)) _ fit) (right (is_caused_by_state s l.state (entries before) m) _ k)))
    where
      here : (t : Taken) → m.mark ≡ Some t → fits_connection s l t.sender t.letter ≡ true
      here t e = is_fit_there (fits_connection s) l t (are_fit_from (fits_connection s) (step_connection_ledger s) (step_connection_ledger s l m) ms) (ap (λ q. not (is_unfit (fits_connection s) l q) && are_fit_from (fits_connection s) (step_connection_ledger s) (step_connection_ledger s l m) ms) (sym e) ∙ fit)

pub regular_ends : ForwardsAreRight → FitIsWhole → RegularEndsAreCaused
regular_ends rightly whole s F marked h u kind = subst (λ l. each_split_from (λ place e behind. is_down_caused s F u place e) [] l ≡ true) (h.joined.shared.same_entries (Connection u)) (regular_downs s F u kind (marked (Connection u)) [] (empty_connection_ledger s u) (known_at_each rightly whole s F marked h u kind) (h.joined.fit (Connection u)) share.downs)
  where
    share : ConnectionShare s u (marked (Connection u))
    share = h.joined.shared.shares (Connection u)
