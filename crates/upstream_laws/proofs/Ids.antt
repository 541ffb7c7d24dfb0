-- The identifiers of each connection are given in order.
use Rattle.std.proofs.Common.{◌≡◌, ◌⊎◌, inl, inr, ℕ, suc, Bool, true, false, ◌==◌, List, [], ◌∷◌, ◌++◌, refl, ap, ◌∙◌, sym}
use Rattle.std.specs.Prelude.{Option, None, flat_map, is_none, max}
use Rattle.lload_names.specs.declared.names.Entry.{Entry}
use Rattle.lload_names.specs.declared.names.PartName.TheVariants.{Up as Connection}
use Rattle.lload_names.specs.declared.names.What.{What}
use Rattle.lload_names.specs.declared.names.What.TheVariants as what
use Rattle.lload_spec.specs.Entries.{sent_message}
use Rattle.lload_spec.specs.Identifiers.{Ids, freed_by, has_right_id, has_right_ids_from, ids_at, ids_behind, ids_with, no_ids}
use Rattle.lload_spec.specs.Journal.{Family}
use Rattle.lload_spec.specs.Settings.{Settings}
use Rattle.lload_spec.proofs.Growth.{left, right, both}
use Rattle.part_spec.specs.ConnectionState.{ConnectionState, connection_behind, freed_id, is_under_own, step_connection}
use Rattle.part_spec.specs.Fit.{ConnectionLedger, empty_connection_ledger, step_connection_ledger}
use Rattle.part_spec.specs.Laws.{FitIsWhole}
use Rattle.part_spec.specs.Marked.{Marked, Taken, entries}
use Rattle.part_spec.specs.Marks.{each_from, has_connection_mark}
use Rattle.part_spec.specs.Share.{ConnectionShare, each_place}
use Rattle.connection_laws.proofs.Closings.{ids_push}
use Rattle.connection_laws.proofs.ConnectionSays.{got_next}
use Rattle.connection_laws.proofs.Permits.{push_entry}
use Rattle.carried_laws.specs.Laws.{ForwardsAreRight}
use Rattle.caused_laws.specs.Laws.{BindConnectionsSay}
use Rattle.rows_laws.proofs.Known.{AtEach, Known}
use Rattle.rows_laws.proofs.Regular.{known_at_each}
use Rattle.upstream_laws.specs.Laws.{IdentifiersAreRight}
use Rattle.upstream_laws.proofs.Heads.{AtHeads, Head, Tail, bind_heads}
use Rattle.upstream_laws.proofs.Places.{each_connection}

-- the test of the identifiers, by the state
abbrev gives_right : ConnectionState → List Marked → Marked → List Marked → Bool
gives_right p b m behind = has_right_id p.ids m.entry.what

module _ (s : Settings) (F : Family) (u : ℕ) where
  -- the rest of the list, behind an entry
  rest_right : (before : List Marked) (m : Marked) (es : List Entry) → has_right_ids_from s F u (ids_at s F u (entries (before ++ m ∷ []))) (entries (before ++ m ∷ [])) es ≡ true → has_right_ids_from s F u (ids_behind s F u (entries before) m.entry (ids_at s F u (entries before))) (entries before ++ m.entry ∷ []) es ≡ true
  rest_right before m es h = ap (λ i. has_right_ids_from s F u i (entries before ++ m.entry ∷ []) es) (sym (ids_push s F u (entries before) m.entry)) ∙ ap (λ place. has_right_ids_from s F u (ids_at s F u place) place es) (sym (push_entry before m)) ∙ h

  regular_ids : (ms before : List Marked) (l : ConnectionLedger) → AtEach s (Known s F u) before l ms → each_place (step_connection s) gives_right l.state before ms ≡ true → has_right_ids_from s F u (ids_at s F u (entries before)) (entries before) (entries ms) ≡ true
  regular_ids [] before l h k = refl
  regular_ids (m ∷ ms) before l h k = both (has_right_id (ids_at s F u (entries before)) m.entry.what) _ (ap (λ i. has_right_id i m.entry.what) (sym h.0.ids) ∙ left (has_right_id l.state.ids m.entry.what) _ k) (rest_right before m (entries ms) (regular_ids ms (before ++ m ∷ []) (step_connection_ledger s l m) h.1 (right (has_right_id l.state.ids m.entry.what) _ k)))

  -- by the next identifier alone, where the entry is no Sent
  right_by_next : (i j : Ids) (w : What) → i.next ≡ j.next → is_none (sent_message w) ≡ true → has_right_id i w ≡ has_right_id j w
  right_by_next i j (what.Sent id op rest) e n = absurd (let bad : false ≡ true = n in cc)
  right_by_next i j (what.Own id rest) e n = ap (λ k. id == k) e
  right_by_next i j what.Linked e n = refl
  right_by_next i j _ e n = refl

  next_step : (e : Entry) (mark : Option Taken) (p : ConnectionState) (w : What) (freed : List ℕ) (i : Ids) → p.ids.next ≡ i.next → (connection_behind s e mark p w).ids.next ≡ (ids_with w freed i).next
  next_step e mark p (what.Sent id op rest) freed i h = ap (λ n. max n (suc id)) h
  next_step e mark p (what.Own id rest) freed i h = ap (λ n. max n (suc id)) h
  next_step e mark p (what.Got id rest) freed i h = got_next p (is_under_own p id) (flat_map (freed_id e.at (record { id = id; rest = rest })) p.rows) ∙ h
  next_step e mark p what.Linked freed i h = h
  next_step e mark p _ freed i h = h

  unsent : (p : ConnectionState) (w : What) → has_connection_mark p (record { entry = record { part = Connection u; at = 0; what = w }; mark = None }) ≡ true → is_none (sent_message w) ≡ true
  unsent p (what.Sent id op rest) h = absurd (let bad : false ≡ true = h in cc)
  unsent p _ h = refl

  bind_ids : (ms before : List Marked) (l : ConnectionLedger) → AtHeads s F u before l ms → each_from (step_connection s) has_connection_mark l.state ms ≡ true → each_place (step_connection s) gives_right l.state before ms ≡ true → l.state.ids.next ≡ (ids_at s F u (entries before)).next → has_right_ids_from s F u (ids_at s F u (entries before)) (entries before) (entries ms) ≡ true
  bind_ids [] before l h marks k next = refl
  bind_ids (m ∷ ms) before l h marks k next = both (has_right_id (ids_at s F u (entries before)) m.entry.what) _ (here h.0) (rest_right before m (entries ms) (bind_ids ms (before ++ m ∷ []) (step_connection_ledger s l m) h.1 (right (has_connection_mark l.state m) _ marks) (right (has_right_id l.state.ids m.entry.what) _ k) (next_step m.entry m.mark l.state m.entry.what (freed_by s F u (entries before) m.entry) (ids_at s F u (entries before)) next ∙ ap (λ i. i.next) (sym (ids_push s F u (entries before) m.entry) ∙ ap (ids_at s F u) (sym (push_entry before m))))))
    where
      given : has_right_id l.state.ids m.entry.what ≡ true
      given = left (has_right_id l.state.ids m.entry.what) _ k

      here : Head s F u before l ⊎ Tail m → has_right_id (ids_at s F u (entries before)) m.entry.what ≡ true
      here (inl a) = ap (λ i. has_right_id i m.entry.what) (sym (a.knows.tells a.told).ids) ∙ given
      here (inr a) = sym (right_by_next l.state.ids (ids_at s F u (entries before)) m.entry.what next (unsent l.state m.entry.what (ap (λ o. has_connection_mark l.state (record { entry = record { part = Connection u; at = 0; what = m.entry.what }; mark = o })) (sym a.unmarked) ∙ left (has_connection_mark l.state m) _ marks))) ∙ given

pub ids_right : ForwardsAreRight → FitIsWhole → BindConnectionsSay → IdentifiersAreRight
ids_right rightly whole says s F marked h =
    each_connection s F marked h (λ u list. has_right_ids_from s F u no_ids [] list) (λ u kind. regular_ids s F u (marked (Connection u)) [] (empty_connection_ledger s u) (known_at_each rightly whole s F marked h u kind) (share u).ids_right) (λ u kind. bind_ids s F u (marked (Connection u)) [] (empty_connection_ledger s u) (bind_heads says s F marked h u kind) (share u).marks (share u).ids_right refl) (λ u. refl)
  where
    share : (u : ℕ) → ConnectionShare s u (marked (Connection u))
    share u = h.joined.shared.shares (Connection u)
