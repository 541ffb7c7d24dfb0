-- What is known at each entry of a bind connection's list: who holds it, and what the entry needs.
use Rattle.std.proofs.Common.{◌≡◌, ℕ, Bool, true, ◌&&◌, not, List, [], ◌∷◌, ◌++◌, refl, ap, ◌∙◌, sym, subst}
use Rattle.std.specs.Prelude.{if◌then◌else◌}
use Rattle.std.specs.List.{list_any}
use Rattle.lload_names.specs.declared.names.ConnKind.TheVariants.{Bind as BindKind, Regular}
use Rattle.lload_names.specs.declared.names.Entry.{Entry}
use Rattle.lload_names.specs.declared.names.PartName.{PartName}
use Rattle.lload_names.specs.declared.names.PartName.TheVariants.{Up as Connection}
use Rattle.lload_spec.specs.Entries.{is_down, is_linked, is_of_connection}
use Rattle.lload_spec.specs.Journal.{Family}
use Rattle.lload_spec.specs.Lists.{agrees, each_split_from, implies, where_there}
use Rattle.lload_spec.specs.Settings.{Settings, is_of_kind}
use Rattle.lload_spec.specs.Strict.{is_empty, lives_as_connection, may_follow_down}
use Rattle.lload_spec.proofs.Growth.{left, right}
use Rattle.part_spec.specs.ConnectionState.{ConnectionState, step_connection}
use Rattle.part_spec.specs.Fit.{ConnectionLedger, are_fit_from, empty_connection_ledger, fits_connection, is_unfit, step_connection_ledger}
use Rattle.part_spec.specs.Marked.{Marked, entries}
use Rattle.part_spec.specs.Marks.{each_from, has_connection_mark}
use Rattle.part_spec.specs.Share.{ConnectionShare, each_place, is_sent_once}
use Rattle.connection_laws.proofs.Permits.{push_entry}
use Rattle.bind_laws.specs.Turns.{are_told_rightly, is_told_rightly}
use Rattle.carried_laws.specs.Laws.{Played}
use Rattle.caused_laws.specs.Laws.{BindConnectionsSay}
use Rattle.joined_laws.proofs.Taken.{is_fit_there}
use Rattle.upstream_laws.proofs.BindEnds.{Comes}
use Rattle.upstream_laws.proofs.Heads.{AtHeads, bind_heads}
use Rattle.leave_laws.proofs.Unfinished.{Place, place_next}

module _ (s : Settings) (F : Family) (u : ℕ) (kind : is_of_kind s BindKind u ≡ true) where
  abbrev once_so : ConnectionState → List Marked → Marked → List Marked → Bool
  once_so p b m behind = is_sent_once p (entries b) m

  abbrev lives_so : List Entry → Entry → List Entry → Bool
  lives_so place e behind = is_of_connection e.what && lives_as_connection place e

  abbrev pub AtPlaces : List Marked → ConnectionLedger → List Marked → Type 0
  AtPlaces before l [] = Unit {0}
  AtPlaces before l (m ∷ ms) = (Place s F u kind before l × Comes s F u kind before l m) × AtPlaces (before ++ m ∷ []) (step_connection_ledger s l m) ms

  at_places : (ms before : List Marked) (l : ConnectionLedger) → AtHeads s F u before l ms → Place s F u kind before l → are_fit_from (fits_connection s) (step_connection_ledger s) l ms ≡ true → each_from (step_connection s) has_connection_mark l.state ms ≡ true → each_place (step_connection s) once_so l.state before ms ≡ true → each_split_from lives_so (entries before) (entries ms) ≡ true → are_told_rightly s F ms ≡ true → AtPlaces before l ms
  at_places [] before l a h fit marks once life told = tt
  at_places (m ∷ ms) before l a h fit marks once life told = (
    (h, comes),
    at_places ms (before ++ m ∷ []) (step_connection_ledger s l m) a.1 (place_next s F u kind before l h m.entry.part m.entry.at m.mark m.entry.what comes) (right (not (is_unfit (fits_connection s) l m.mark)) _ fit) (right (has_connection_mark l.state m) _ marks) (right (is_sent_once l.state (entries before) m) _ once)
        (subst (λ place. each_split_from lives_so place (entries ms) ≡ true) (sym (push_entry before m)) (right (lives_so (entries before) m.entry (entries ms)) _ life))
        (right (where_there (λ t. is_told_rightly s F t.letter) m.mark) _ told),
  )
    where
      comes : Comes s F u kind before l m
      comes =
          record {
            begun = a.0;
            marked = left (has_connection_mark l.state m) _ marks;
            once = left (is_sent_once l.state (entries before) m) _ once;
            alive = right (agrees (is_linked m.entry.what) (is_empty (entries before))) _ (left (agrees (is_linked m.entry.what) (is_empty (entries before)) && implies (list_any is_down (entries before)) (may_follow_down m.entry.what)) _ (right (is_of_connection m.entry.what) _ (left (lives_so (entries before) m.entry (entries ms)) _ life)));
            told = left (where_there (λ t. is_told_rightly s F t.letter) m.mark) _ told;
            fit = λ t e. is_fit_there (fits_connection s) l t (are_fit_from (fits_connection s) (step_connection_ledger s) (step_connection_ledger s l m) ms) (ap (λ q. not (is_unfit (fits_connection s) l q) && are_fit_from (fits_connection s) (step_connection_ledger s) (step_connection_ledger s l m) ms) (sym e) ∙ fit);
          }

-- in lists that turns made
pub bind_places : BindConnectionsSay → (s : Settings) (F : Family) (marked : PartName → List Marked) → Played s F marked → (u : ℕ) (kind : is_of_kind s BindKind u ≡ true) → AtPlaces s F u kind [] (empty_connection_ledger s u) (marked (Connection u))
bind_places says s F marked h u kind =
    at_places s F u kind (marked (Connection u)) [] (empty_connection_ledger s u) (bind_heads says s F marked h u kind)
    (record { holding = tt; is_bind_one = ap (λ b. if b then BindKind else Regular) kind; own = refl })
    (h.joined.fit (Connection u)) share.marks share.sent_once share.life (says s F marked h u kind).told
  where
    share : ConnectionShare s u (marked (Connection u))
    share = h.joined.shared.shares (Connection u)
