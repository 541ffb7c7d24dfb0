-- Each own message has its reason, on each connection.
use Rattle.std.proofs.Common.{◌≡◌, ℕ, Bool, true, false, ◌&&◌, List, [], refl}
use Rattle.std.specs.List.{list_all}
use Rattle.lload_names.specs.declared.names.ConnKind.TheVariants.{Bind as BindKind, Regular}
use Rattle.lload_names.specs.declared.names.Entry.{Entry}
use Rattle.lload_names.specs.declared.names.PartName.{PartName}
use Rattle.lload_names.specs.declared.names.PartName.TheVariants.{Up as Connection}
use Rattle.lload_spec.specs.Answers.{sendings}
use Rattle.lload_spec.specs.Journal.{Family}
use Rattle.lload_spec.specs.Lists.{each_split_from}
use Rattle.lload_spec.specs.OneEach.{is_named_once}
use Rattle.lload_spec.specs.Settings.{Settings, is_of_kind}
use Rattle.lload_spec.proofs.Growth.{left, right, both}
use Rattle.part_spec.specs.ConnectionState.{ConnectionState, empty_connection, step_connection}
use Rattle.part_spec.specs.Fit.{empty_connection_ledger}
use Rattle.part_spec.specs.Laws.{FitIsWhole}
use Rattle.part_spec.specs.Marked.{Marked, entries}
use Rattle.part_spec.specs.Share.{ConnectionShare, each_place, has_due_messages, has_reason}
use Rattle.carried_laws.specs.Laws.{ForwardsAreRight, Played}
use Rattle.caused_laws.specs.Laws.{BindConnectionsSay}
use Rattle.rows_laws.proofs.Regular.{known_at_each}
use Rattle.upstream_laws.proofs.Ends.{nothing_here}
use Rattle.upstream_laws.proofs.Heads.{bind_heads}
use Rattle.upstream_laws.proofs.Places.{each_connection}
use Rattle.leave_laws.specs.Laws.{DropsAreOfEnded, OwnMessagesAreReasoned}
use Rattle.leave_laws.proofs.OwnBindWalk.{bind_own, nothing_beside}
use Rattle.leave_laws.proofs.OwnRegular.{own_so, regular_own}

module _ (s : Settings) (F : Family) (marked : PartName → List Marked) (h : Played s F marked) where
  share : (u : ℕ) → ConnectionShare s u (marked (Connection u))
  share u = h.joined.shared.shares (Connection u)

  abbrev reasons : ConnectionState → List Marked → Marked → List Marked → Bool
  reasons p b m behind = has_due_messages s p m behind && has_reason s p (entries b) m

  abbrev owns : ℕ → List Entry → Bool
  owns u list = each_split_from (own_so s F u) [] list && list_all (is_named_once list) (sendings u list)

  by_state : (u : ℕ) → each_place (step_connection s) reasons (empty_connection s u) [] (marked (Connection u)) ≡ true
  by_state u = left (each_place (step_connection s) reasons (empty_connection s u) [] (marked (Connection u))) _ (share u).own_reasoned

  named_once : (u : ℕ) → list_all (is_named_once (entries (marked (Connection u)))) (sendings u (entries (marked (Connection u)))) ≡ true
  named_once u = right (each_place (step_connection s) reasons (empty_connection s u) [] (marked (Connection u))) _ (share u).own_reasoned

  regular : ForwardsAreRight → FitIsWhole → DropsAreOfEnded → (u : ℕ) → is_of_kind s Regular u ≡ true → owns u (entries (marked (Connection u))) ≡ true
  regular rightly whole drops u kind = both (each_split_from (own_so s F u) [] (entries (marked (Connection u)))) _ (regular_own s F u (marked (Connection u)) [] (empty_connection_ledger s u) (known_at_each rightly whole s F marked h u kind) (share u).marks (by_state u) (share u).expired (λ k. absurd (let bad : false ≡ true = k in cc)) (λ op k. drops s F marked h u op k)) (named_once u)

  of_bind : BindConnectionsSay → (u : ℕ) → is_of_kind s BindKind u ≡ true → owns u (entries (marked (Connection u))) ≡ true
  of_bind says u kind = both (each_split_from (own_so s F u) [] (entries (marked (Connection u)))) _ (bind_own s F u kind (marked (Connection u)) [] (empty_connection_ledger s u) (bind_heads says s F marked h u kind) (nothing_here s F u kind) (nothing_beside s F u kind (empty_connection_ledger s u) (marked (Connection u)) refl) (h.joined.fit (Connection u)) (share u).marks (share u).sent_once (share u).life (says s F marked h u kind).told (share u).expired (by_state u)) (named_once u)

pub owns_reasoned : ForwardsAreRight → FitIsWhole → BindConnectionsSay → DropsAreOfEnded → OwnMessagesAreReasoned
owns_reasoned rightly whole says drops s F marked h = each_connection s F marked h (owns s F marked h) (regular s F marked h rightly whole drops) (of_bind s F marked h says) (λ u. refl)
