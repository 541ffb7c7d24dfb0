-- An operation whose Leave its connection took holds it no more.
use Rattle.std.proofs.Common.{◌≡◌, ℕ, Bool, true, false, ◌&&◌, not, List, [], ◌∷◌, ◌++◌, refl, ap, ◌∙◌, sym, subst, append_assoc}
use Rattle.std.specs.Prelude.{Option, Some, None}
use Rattle.std.specs.List.{list_any}
use Rattle.std.proofs.lemmas.List.{append-nil}
use Rattle.lload_names.specs.declared.names.ConnKind.TheVariants.{Bind as BindKind, Regular}
use Rattle.lload_names.specs.declared.names.Letter.{Letter}
use Rattle.lload_names.specs.declared.names.Letter.TheVariants.{Leave}
use Rattle.lload_names.specs.declared.names.OpName.{OpName}
use Rattle.lload_names.specs.declared.names.PartName.{PartName}
use Rattle.lload_names.specs.declared.names.PartName.TheVariants.{Client, Up as Connection}
use Rattle.lload_spec.specs.Journal.{Family, same_part}
use Rattle.lload_spec.specs.Lists.{passes}
use Rattle.lload_spec.specs.Owed.{is_held_by}
use Rattle.lload_spec.specs.Settings.{Settings, is_kind, is_of_kind}
use Rattle.lload_spec.proofs.Growth.{left, right}
use Rattle.part_laws.proofs.ListLaws.{any_split, or_elim, or_left, or_right}
use Rattle.part_spec.specs.ConnectionState.{is_bind}
use Rattle.part_spec.specs.Fit.{ConnectionLedger, are_fit_from, empty_connection_ledger, fits_connection, is_leave_of, is_unfit, step_connection_ledger}
use Rattle.part_spec.specs.Marked.{Marked, Taken, entries, letter_from, taken_from}
use Rattle.connection_laws.proofs.ConnectionSays.{kind_step}
use Rattle.connection_laws.proofs.Permits.{push_entry}
use Rattle.connection_laws.proofs.RegularShare.{regular_kind}
use Rattle.joined_laws.proofs.Taken.{is_fit_there}
use Rattle.carried_laws.specs.Laws.{Played}
use Rattle.caused_laws.specs.Laws.{BindConnectionsSay}
use Rattle.upstream_laws.proofs.Places.{by_kind, placeless}
use Rattle.ended_laws.proofs.BindOver.{Over, bind_more}
use Rattle.left_laws.specs.Laws.{LeftHoldNothing}
use Rattle.left_laws.proofs.HeldByList.{left_over, over_holds_nothing}
use Rattle.left_laws.proofs.Statuses.{AtStatus, bind_statuses}

-- whether an entry took the Leave of an operation
abbrev takes_leave : OpName → Marked → Bool
takes_leave op m = passes (λ t. is_leave_of op t.letter) m.mark

-- what was taken was the letter of a mark
taken_mark : (p : PartName) (test : Letter → Bool) (ms : List Marked) → list_any test (taken_from p ms) ≡ true → list_any (λ m. passes (λ t. test t.letter) m.mark) ms ≡ true
taken_mark p test [] h = h
taken_mark p test (m ∷ ms) h = any_split test (letter_from p m.mark) (taken_from p ms) (λ k. or_left (passes (λ t. test t.letter) m.mark) _ (here m.mark k)) (λ k. or_right (passes (λ t. test t.letter) m.mark) _ (taken_mark p test ms k)) h
  where
    here : (o : Option Taken) → list_any test (letter_from p o) ≡ true → passes (λ t. test t.letter) o ≡ true
    here None k = k
    here (Some t) k = by (same_part p t.sender) k
      where
        by : (b : Bool) → list_any test (elim b [ true ↦ t.letter ∷ [] | false ↦ [] ]) ≡ true → test t.letter ≡ true
        by true j = or_elim (test t.letter) false (λ i. i) (λ i. absurd (let bad : false ≡ true = i in cc)) j
        by false j = absurd (let bad : false ≡ true = j in cc)

-- a regular connection takes no Leave
none_regular : (s : Settings) (op : OpName) (ms : List Marked) (l : ConnectionLedger) → l.state.kind ≡ Regular → are_fit_from (fits_connection s) (step_connection_ledger s) l ms ≡ true → list_any (takes_leave op) ms ≡ true → false ≡ true
none_regular s op [] l kind fit h = h
none_regular s op (m ∷ ms) l kind fit h = or_elim (takes_leave op m) (list_any (takes_leave op) ms) (here m.mark fit) (none_regular s op ms (step_connection_ledger s l m) (kind_step s m.entry m.mark l.state m.entry.what ∙ kind) (right (not (is_unfit (fits_connection s) l m.mark)) _ fit)) h
  where
    letter : (sender : PartName) (x : Letter) → fits_connection s l sender x ≡ true → is_leave_of op x ≡ true → false ≡ true
    letter sender (Leave o) f k = sym (ap (is_kind BindKind) kind) ∙ left (is_bind l.state) _ f
    letter sender _ f k = k

    here : (o : Option Taken) → (not (is_unfit (fits_connection s) l o) && are_fit_from (fits_connection s) (step_connection_ledger s) (step_connection_ledger s l m) ms) ≡ true → passes (λ t. is_leave_of op t.letter) o ≡ true → false ≡ true
    here None f k = k
    here (Some t) f k = letter t.sender t.letter (is_fit_there (fits_connection s) l t (are_fit_from (fits_connection s) (step_connection_ledger s) (step_connection_ledger s l m) ms) f) k

-- the place behind an entry
behind : (s : Settings) (F : Family) (u : ℕ) (op : OpName) (m : Marked) (ms before : List Marked) → Over s F u (entries (before ++ m ∷ []) ++ entries ms) op → Over s F u (entries before ++ (m.entry ∷ entries ms)) op
behind s F u op m ms before = subst (λ b. Over s F u b op) (ap (λ b. b ++ entries ms) (push_entry before m) ∙ append_assoc (entries before) (m.entry ∷ []) (entries ms))

module _ (s : Settings) (F : Family) (u : ℕ) (kind : is_of_kind s BindKind u ≡ true) (op : OpName) where
  -- what is over at a place is over at the end
  over_end : (ms before : List Marked) (l : ConnectionLedger) → AtStatus s F u kind op before l ms → Over s F u (entries before) op → Over s F u (entries before ++ entries ms) op
  over_end [] before l a o = subst (λ b. Over s F u b op) (sym (append-nil (entries before))) o
  over_end (m ∷ ms) before l a o = behind s F u op m ms before (over_end ms (before ++ m ∷ []) (step_connection_ledger s l m) a.1 (subst (λ b. Over s F u b op) (sym (push_entry before m)) (bind_more s F u op None (entries before) m.entry a.0.caused (record { none = refl; over = o })).over))

  taken_over : (ms before : List Marked) (l : ConnectionLedger) → AtStatus s F u kind op before l ms → list_any (takes_leave op) ms ≡ true → Over s F u (entries before ++ entries ms) op
  taken_over [] before l a k = absurd (let bad : false ≡ true = k in cc)
  taken_over (m ∷ ms) before l a k =
      behind s F u op m ms before
      (or_elim (takes_leave op m) (list_any (takes_leave op) ms)
      (λ j. over_end ms (before ++ m ∷ []) (step_connection_ledger s l m) a.1 (subst (λ b. Over s F u b op) (sym (push_entry before m)) (left_over s F u kind op before l a.0.here a.0.place a.0.held m.entry.part m.entry.at m.mark m.entry.what a.0.comes a.0.caused a.0.next a.0.status j)))
      (taken_over ms (before ++ m ∷ []) (step_connection_ledger s l m) a.1) k)

  bind_left : BindConnectionsSay → (marked : PartName → List Marked) → Played s F marked → list_any (takes_leave op) (marked (Connection u)) ≡ true → is_held_by s F u (F.connection u) op ≡ false
  bind_left says marked h k = over_holds_nothing s F u (F.connection u) op (subst (λ es. Over s F u es op) (h.joined.shared.same_entries (Connection u)) (taken_over (marked (Connection u)) [] (empty_connection_ledger s u) (bind_statuses s F u kind op says marked h) k))

pub left_hold_nothing : BindConnectionsSay → LeftHoldNothing
left_hold_nothing says s F marked h u op k = by_kind s u
    (λ kind. absurd (let bad : false ≡ true = none_regular s op (marked (Connection u)) (empty_connection_ledger s u) (regular_kind s u kind) (h.joined.fit (Connection u)) took in cc))
    (λ kind. bind_left s F u kind op says marked h took)
    (λ none. absurd (let bad : false ≡ true = sym (ap (list_any (takes_leave op)) (sym (h.connections u).same ∙ placeless s u none (h.connections u).events)) ∙ took in cc))
  where
    took : list_any (takes_leave op) (marked (Connection u)) ≡ true
    took = taken_mark (Client op.client) (is_leave_of op) (marked (Connection u)) k
