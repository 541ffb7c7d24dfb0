-- Each connection's list is one of a connection's life, with expiries and Abandons where they may stand.
use Rattle.std.proofs.Common.{◌≡◌, ℕ, true, false, ◌&&◌, List, [], refl, sym, subst}
use Rattle.std.specs.List.{list_all}
use Rattle.lload_names.specs.declared.names.ConnKind.TheVariants.{Bind as BindKind, Regular}
use Rattle.lload_names.specs.declared.names.Entry.{Entry}
use Rattle.lload_names.specs.declared.names.PartName.{PartName}
use Rattle.lload_names.specs.declared.names.PartName.TheVariants.{Up as Connection}
use Rattle.lload_spec.specs.Answers.{sendings}
use Rattle.lload_spec.specs.Entries.{is_of_connection}
use Rattle.lload_spec.specs.Journal.{Family}
use Rattle.lload_spec.specs.Lists.{each_split_from}
use Rattle.lload_spec.specs.OneEach.{is_named_once}
use Rattle.lload_spec.specs.Settings.{Settings, is_of_kind}
use Rattle.lload_spec.specs.Strict.{has_place_in_connection, is_abandon_open, is_expired_open, is_missed_rightly, is_passed, lives_as_connection}
use Rattle.lload_spec.proofs.Growth.{left}
use Rattle.part_laws.proofs.ListLaws.{splits_both}
use Rattle.part_spec.specs.ConnectionState.{empty_connection, kind_at, step_connection}
use Rattle.part_spec.specs.Fit.{empty_connection_ledger}
use Rattle.part_spec.specs.Laws.{FitIsWhole}
use Rattle.part_spec.specs.Marked.{Marked, entries}
use Rattle.part_spec.specs.Share.{ConnectionShare, each_place, has_due_messages, has_reason}
use Rattle.joined_laws.proofs.Choices.{split_right}
use Rattle.carried_laws.specs.Laws.{ForwardsAreRight, Played}
use Rattle.caused_laws.specs.Laws.{BindConnectionsSay}
use Rattle.rows_laws.proofs.Regular.{known_at_each}
use Rattle.sent_laws.specs.Laws.{GoesRightly}
use Rattle.upstream_laws.proofs.Ends.{nothing_here}
use Rattle.upstream_laws.proofs.Heads.{bind_heads}
use Rattle.upstream_laws.proofs.Places.{each_connection}
use Rattle.open_laws.specs.Laws.{ConnectionsLive}
use Rattle.open_laws.proofs.BindLives.{bind_open}
use Rattle.open_laws.proofs.Passed.{at_splits, bind_kind, passed, regular_kind}
use Rattle.open_laws.proofs.RegularOpen.{regular_open}

module _ (rightly : ForwardsAreRight) (whole : FitIsWhole) (says : BindConnectionsSay) (goes : GoesRightly) (s : Settings) (F : Family) (marked : PartName → List Marked) (h : Played s F marked) (u : ℕ) where
  share : ConnectionShare s u (marked (Connection u))
  share = h.joined.shared.shares (Connection u)

  abbrev list : List Marked
  list = marked (Connection u)

  abbrev reasons : each_place (step_connection s) (λ p b m behind. has_due_messages s p m behind && has_reason s p (entries b) m) (empty_connection s u) [] list ≡ true
  reasons = left (each_place (step_connection s) (λ p b m behind. has_due_messages s p m behind && has_reason s p (entries b) m) (empty_connection s u) [] list) (list_all (is_named_once (entries list)) (sendings u (entries list))) share.own_reasoned

  abbrev IsOpen : Type 0
  IsOpen = (each_split_from (is_expired_open s F u) [] (entries list) ≡ true) × (each_split_from (λ b e behind. is_abandon_open s F u b e) [] (entries list) ≡ true)

  regular : is_of_kind s Regular u ≡ true → IsOpen
  regular kind = regular_open s F u list [] (empty_connection_ledger s u) (known_at_each rightly whole s F marked h u kind) tt (λ op j. absurd (let bad : false ≡ true = j in cc)) share.expired share.sent_once reasons

  bind : is_of_kind s BindKind u ≡ true → IsOpen
  bind kind = bind_open s F u kind list [] (empty_connection_ledger s u) (bind_heads says s F marked h u kind) (nothing_here s F u kind) tt (λ op j. absurd (let bad : false ≡ true = j in cc)) (h.joined.fit (Connection u)) share.marks share.life (says s F marked h u kind).told share.expired share.sent_once reasons

  lives : each_split_from (λ place (e : Entry) behind. lives_as_connection place e) [] (entries list) ≡ true
  lives = split_right (λ place (e : Entry) behind. is_of_connection e.what) (λ place (e : Entry) behind. lives_as_connection place e) [] (entries list) share.life

  missed : each_split_from (λ place (e : Entry) behind. is_missed_rightly s F u e) [] (entries list) ≡ true
  missed = at_splits (is_missed_rightly s F u) [] (entries list) (subst (λ es. list_all (is_missed_rightly s F u) es ≡ true) (sym (h.joined.shared.same_entries (Connection u))) ((goes s F marked h).missed u))

  whole_so : each_split_from (λ place (e : Entry) behind. is_passed s u place e) [] (entries list) ≡ true → IsOpen → each_split_from (has_place_in_connection s F u) [] (entries list) ≡ true
  whole_so pass opened =
      splits_both (λ place (e : Entry) behind. lives_as_connection place e && is_passed s u place e && is_expired_open s F u place e behind && is_abandon_open s F u place e) (λ place (e : Entry) behind. is_missed_rightly s F u e) [] (entries list)
      (splits_both (λ place (e : Entry) behind. lives_as_connection place e && is_passed s u place e && is_expired_open s F u place e behind) (λ place (e : Entry) behind. is_abandon_open s F u place e) [] (entries list)
      (splits_both (λ place (e : Entry) behind. lives_as_connection place e && is_passed s u place e) (is_expired_open s F u) [] (entries list)
      (splits_both (λ place (e : Entry) behind. lives_as_connection place e) (λ place (e : Entry) behind. is_passed s u place e) [] (entries list) lives pass) opened.0) opened.1) missed

  regular_lives : is_of_kind s Regular u ≡ true → each_split_from (has_place_in_connection s F u) [] (entries list) ≡ true
  regular_lives kind = whole_so (passed s u (kind_at s u) (regular_kind s u kind) list [] (empty_connection s u) refl refl share.passed) (regular kind)

  bind_lives : is_of_kind s BindKind u ≡ true → each_split_from (has_place_in_connection s F u) [] (entries list) ≡ true
  bind_lives kind = whole_so (passed s u (kind_at s u) (bind_kind s u kind) list [] (empty_connection s u) refl refl share.passed) (bind kind)

pub all_live : ForwardsAreRight → FitIsWhole → BindConnectionsSay → GoesRightly → ConnectionsLive
all_live rightly whole says goes s F marked h = each_connection s F marked h (λ u list. each_split_from (has_place_in_connection s F u) [] list) (regular_lives rightly whole says goes s F marked h) (bind_lives rightly whole says goes s F marked h) (λ u. refl)
