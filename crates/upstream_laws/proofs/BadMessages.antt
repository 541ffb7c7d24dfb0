-- Each bad message takes its connection down.
use Rattle.std.proofs.Common.{◌≡◌, ◌⊎◌, inl, inr, ℕ, Bool, true, false, ◌&&◌, not, List, [], ◌∷◌, ◌++◌, refl, ap, ◌∙◌, sym, subst}
use Rattle.std.specs.Prelude.{Option, Some, None, is_none}
use Rattle.std.specs.List.{list_any}
use Rattle.ldap_spec.specs.Messages.{Message}
use Rattle.lload_names.specs.declared.names.ConnKind.TheVariants.{Regular, Bind as BindKind}
use Rattle.lload_names.specs.declared.names.EndWhy.TheVariants.{Bad}
use Rattle.lload_names.specs.declared.names.Entry.{Entry}
use Rattle.lload_names.specs.declared.names.PartName.TheVariants.{Up as Connection}
use Rattle.lload_spec.specs.BadMessages.{is_bad}
use Rattle.lload_spec.specs.CausedUp.{is_bad_told, message_facts as facts_by_list, takes_messages}
use Rattle.lload_spec.specs.Entries.{got_message, is_down, is_down_by, is_linked}
use Rattle.lload_spec.specs.Journal.{Family}
use Rattle.lload_spec.specs.Lists.{each_split_from, first_passes, implies, passes}
use Rattle.lload_spec.specs.Pauses.{is_waiting, waiting_clients}
use Rattle.lload_spec.specs.Settings.{Settings, is_kind, is_of_kind}
use Rattle.lload_spec.proofs.Growth.{left, right, both}
use Rattle.lload_laws.proofs.ListLaws.{implied, implies_by}
use Rattle.part_spec.specs.ConnectionState.{ConnectionState, empty_connection, is_holding, is_there, message_facts, step_connection}
use Rattle.part_spec.specs.Fit.{ConnectionLedger, empty_connection_ledger, step_connection_ledger, ledger_behind as behind}
use Rattle.part_spec.specs.Laws.{FitIsWhole}
use Rattle.part_spec.specs.Marked.{Marked, entries}
use Rattle.part_spec.specs.Share.{ConnectionShare, each_place, is_bad_told as is_told_by_state}
use Rattle.part_spec.proofs.Joins.{connection-waits}
use Rattle.connection_laws.proofs.ConnectionSays.{UpSays}
use Rattle.connection_laws.proofs.Permits.{push_entry, state_through}
use Rattle.connection_laws.proofs.Through.{steps_are}
use Rattle.bind_laws.specs.Turns.{BindMeets}
use Rattle.carried_laws.specs.Laws.{ForwardsAreRight}
use Rattle.carried_laws.proofs.TurnHeads.{is_no_message}
use Rattle.caused_laws.specs.Laws.{BindConnectionsSay}
use Rattle.rows_laws.proofs.Known.{AtEach, Known}
use Rattle.rows_laws.proofs.Regular.{known_at_each}
use Rattle.upstream_laws.specs.Laws.{BadMessagesAreTold}
use Rattle.upstream_laws.proofs.Facts.{same_bad}
use Rattle.upstream_laws.proofs.Heads.{AtHeads, Head, Tail, bind_heads, head_meets}
use Rattle.upstream_laws.proofs.Places.{bind_alone, each_connection}

-- the ledger of a list, behind an entry more
pub ledger_push : (s : Settings) (l : ConnectionLedger) (L : List Marked) (m : Marked) → behind (step_connection_ledger s) l (L ++ m ∷ []) ≡ step_connection_ledger s (behind (step_connection_ledger s) l L) m
ledger_push s l [] m = refl
ledger_push s l (x ∷ L) m = ledger_push s (step_connection_ledger s l x) L m

module _ (s : Settings) (F : Family) (u : ℕ) where
  -- whether messages are taken, by the list and by the state
  takes : (before : List Marked) (l : ConnectionLedger) → UpSays (entries before) l.state → behind (step_connection_ledger s) (empty_connection_ledger s u) before ≡ l → is_kind Regular l.state.kind ≡ is_of_kind s Regular u → takes_messages s u (entries before) ≡ true → (is_there l.state ≡ true) × (not (is_holding l.state) ≡ true)
  takes before l says ledger kind h =
      let there : (list_any (λ e. is_linked e.what) (entries before) && not (list_any is_down (entries before))) ≡ true = left (list_any (λ e. is_linked e.what) (entries before) && not (list_any is_down (entries before))) _ h in
      let waits : l.state.waiting ≡ waiting_clients (entries before) = ap (λ (q : ConnectionLedger). q.state.waiting) (sym ledger) ∙ ap (λ (p : ConnectionState). p.waiting) (state_through s before (empty_connection_ledger s u) ∙ sym (steps_are s (empty_connection s u) before)) ∙ connection-waits s (empty_connection s u) before in (
        both l.state.linked _ (says.linked ∙ left (list_any (λ e. is_linked e.what) (entries before)) _ there) (ap not says.down ∙ right (list_any (λ e. is_linked e.what) (entries before)) _ there),
        ap (λ b. not (b && not l.state.down && is_waiting l.state.waiting)) kind ∙ ap (λ b. not (is_of_kind s Regular u && not b && is_waiting l.state.waiting)) says.down ∙ ap (λ cs. not (is_of_kind s Regular u && not (list_any is_down (entries before)) && is_waiting cs)) waits ∙ right (list_any (λ e. is_linked e.what) (entries before) && not (list_any is_down (entries before))) _ h,
      )

  -- where the same messages are bad
  one_told : (before : List Marked) (l : ConnectionLedger) (m : Marked) (ms : List Marked) → UpSays (entries before) l.state → behind (step_connection_ledger s) (empty_connection_ledger s u) before ≡ l → is_kind Regular l.state.kind ≡ is_of_kind s Regular u → ((x : Message) → is_bad (message_facts l.state) x ≡ is_bad (facts_by_list s F u (entries before)) x) → is_told_by_state l.state m ms ≡ true → is_bad_told s F u (entries before) m.entry (entries ms) ≡ true
  one_told before l m ms says ledger kind same told = implies_by (takes_messages s u (entries before) && passes (is_bad (facts_by_list s F u (entries before))) (got_message m.entry.what)) (first_passes (is_down_by Bad) (entries ms)) (λ k. let taken = takes before l says ledger kind (left (takes_messages s u (entries before)) _ k) in implied (passes (is_bad (message_facts l.state)) (got_message m.entry.what) && is_there l.state && not (is_holding l.state)) (first_passes (is_down_by Bad) (entries ms)) told (both (passes (is_bad (message_facts l.state)) (got_message m.entry.what) && is_there l.state) _ (both (passes (is_bad (message_facts l.state)) (got_message m.entry.what)) _ (by (got_message m.entry.what) (right (takes_messages s u (entries before)) _ k)) taken.0) taken.1))
    where
      by : (o : Option Message) → passes (is_bad (facts_by_list s F u (entries before))) o ≡ true → passes (is_bad (message_facts l.state)) o ≡ true
      by None k = k
      by (Some x) k = same x ∙ k

  -- an entry that is no message
  none_told : (before : List Marked) (m : Marked) (ms : List Marked) → is_no_message m.entry.what ≡ true → is_bad_told s F u (entries before) m.entry (entries ms) ≡ true
  none_told before m ms h = by (got_message m.entry.what) h
    where
      unless : (a b : Bool) → implies (a && false) b ≡ true
      unless true b = refl
      unless false b = refl

      by : (o : Option Message) → is_none o ≡ true → implies (takes_messages s u (entries before) && passes (is_bad (facts_by_list s F u (entries before))) o) (first_passes (is_down_by Bad) (entries ms)) ≡ true
      by None k = unless (takes_messages s u (entries before)) (first_passes (is_down_by Bad) (entries ms))
      by (Some x) k = absurd (let bad : false ≡ true = k in cc)

  abbrev by_state : ConnectionState → List Marked → Marked → List Marked → Bool
  by_state p b m behind = is_told_by_state p m behind

  abbrev by_list : List Entry → Entry → List Entry → Bool
  by_list place e behind = is_bad_told s F u place e behind

  regular_told : is_of_kind s Regular u ≡ true → (ms before : List Marked) (l : ConnectionLedger) → AtEach s (Known s F u) before l ms → behind (step_connection_ledger s) (empty_connection_ledger s u) before ≡ l → each_place (step_connection s) by_state l.state before ms ≡ true → each_split_from by_list (entries before) (entries ms) ≡ true
  regular_told kind [] before l h ledger k = refl
  regular_told kind (m ∷ ms) before l h ledger k = both (by_list (entries before) m.entry (entries ms)) _ (one_told before l m ms h.0.stands.says ledger (ap (is_kind Regular) h.0.kind ∙ sym kind) (same_bad s F u before l h.0) (left (is_told_by_state l.state m ms) _ k)) (subst (λ place. each_split_from by_list place (entries ms) ≡ true) (push_entry before m) (regular_told kind ms (before ++ m ∷ []) (step_connection_ledger s l m) h.1 (ledger_push s (empty_connection_ledger s u) before m ∙ ap (λ q. step_connection_ledger s q m) ledger) (right (is_told_by_state l.state m ms) _ k)))

  bind_told : FitIsWhole → BindMeets → is_of_kind s BindKind u ≡ true → is_of_kind s Regular u ≡ false → (ms before : List Marked) (l : ConnectionLedger) → AtHeads s F u before l ms → each_place (step_connection s) by_state l.state before ms ≡ true → each_split_from by_list (entries before) (entries ms) ≡ true
  bind_told whole meets kind other [] before l h k = refl
  bind_told whole meets kind other (m ∷ ms) before l h k = both (by_list (entries before) m.entry (entries ms)) _ (here h.0) (subst (λ place. each_split_from by_list place (entries ms) ≡ true) (push_entry before m) (bind_told whole meets kind other ms (before ++ m ∷ []) (step_connection_ledger s l m) h.1 (right (is_told_by_state l.state m ms) _ k)))
    where
      here : Head s F u before l ⊎ Tail m → by_list (entries before) m.entry (entries ms) ≡ true
      here (inl a) = one_told before l m ms a.knows.keeps.keeps.stands.says a.ledger (ap (is_kind Regular) a.knows.keeps.stands.kind ∙ sym other) (λ x. ap (λ f. is_bad f x) (head_meets s F u kind whole meets before l a)) (left (is_told_by_state l.state m ms) _ k)
      here (inr a) = none_told before m ms a.quiet

pub bad_told : ForwardsAreRight → FitIsWhole → BindConnectionsSay → BindMeets → BadMessagesAreTold
bad_told rightly whole says meets s F marked h =
    each_connection s F marked h (λ u list. each_split_from (λ place e behind. is_bad_told s F u place e behind) [] list) (λ u kind. regular_told s F u kind (marked (Connection u)) [] (empty_connection_ledger s u) (known_at_each rightly whole s F marked h u kind) refl (share u).bad_messages) (λ u kind. bind_told s F u whole meets kind (bind_alone s u kind) (marked (Connection u)) [] (empty_connection_ledger s u) (bind_heads says s F marked h u kind) (share u).bad_messages) (λ u. refl)
  where
    share : (u : ℕ) → ConnectionShare s u (marked (Connection u))
    share u = h.joined.shared.shares (Connection u)
