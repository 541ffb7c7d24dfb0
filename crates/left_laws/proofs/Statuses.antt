-- At each place of a bind connection's list: an operation for which a Forward came holds the connection, or is over there.
use Rattle.std.proofs.Common.{◌≡◌, ◌⊎◌, inl, inr, ℕ, Bool, true, ◌&&◌, not, List, [], ◌∷◌, ◌++◌, refl, ap, ◌∙◌, sym, subst}
use Rattle.std.specs.Prelude.{Some, None, if◌then◌else◌}
use Rattle.std.specs.List.{list_any}
use Rattle.lload_names.specs.declared.names.ConnKind.TheVariants.{Bind as BindKind, Regular}
use Rattle.lload_names.specs.declared.names.Entry.{Entry}
use Rattle.lload_names.specs.declared.names.OpName.{OpName}
use Rattle.lload_names.specs.declared.names.PartName.{PartName}
use Rattle.lload_names.specs.declared.names.PartName.TheVariants.{Up as Connection}
use Rattle.lload_spec.specs.Answers.{Sending}
use Rattle.lload_spec.specs.CausedUp.{is_missed_caused}
use Rattle.lload_spec.specs.Entries.{is_down, is_linked, is_of_connection}
use Rattle.lload_spec.specs.Journal.{Family, same_op}
use Rattle.lload_spec.specs.Lists.{agrees, each_split_from, implies, where_there}
use Rattle.lload_spec.specs.Settings.{Settings, is_of_kind}
use Rattle.lload_spec.specs.Strict.{is_empty, lives_as_connection, may_follow_down}
use Rattle.lload_spec.proofs.Growth.{left, right}
use Rattle.part_spec.specs.ConnectionState.{ConnectionState, empty_connection, step_connection}
use Rattle.part_spec.specs.Fit.{ConnectionLedger, are_fit_from, empty_connection_ledger, fits_connection, is_unfit, step_connection_ledger}
use Rattle.part_spec.specs.Marked.{Marked, Taken, entries}
use Rattle.part_spec.specs.Marks.{each_from, has_connection_mark}
use Rattle.part_spec.specs.Share.{each_place, is_expired_due, is_sent_once}
use Rattle.connection_laws.proofs.Permits.{push_entry}
use Rattle.bind_laws.specs.Turns.{are_told_rightly, is_told_rightly}
use Rattle.joined_laws.proofs.Taken.{is_fit_there}
use Rattle.carried_laws.specs.Laws.{Played}
use Rattle.caused_laws.specs.Laws.{BindConnectionsSay}
use Rattle.upstream_laws.proofs.BindEnds.{Comes, Here, here_step}
use Rattle.upstream_laws.proofs.Ends.{nothing_here}
use Rattle.upstream_laws.proofs.Heads.{AtHeads, bind_heads}
use Rattle.leave_laws.proofs.Unfinished.{Place, place_next}
use Rattle.ended_laws.proofs.BindTold.{Held, held_next}
use Rattle.ended_laws.proofs.Latencies.{share}
use Rattle.left_laws.proofs.HeldByList.{HeldOrOver, status_step}

module _ (s : Settings) (F : Family) (u : ℕ) (kind : is_of_kind s BindKind u ≡ true) (op : OpName) where
  -- what is known at an entry
  pub record Standing (before : List Marked) (l : ConnectionLedger) (m : Marked) : Type 0 where
    pub place : Place s F u kind before l
    pub comes : Comes s F u kind before l m
    pub here : Here s F u before l
    pub held : Held u (entries before) l.state
    pub status : HeldOrOver s F u kind op (entries before) l
    pub caused : is_missed_caused (entries before) m.entry ≡ true
    pub next : Here s F u (before ++ m ∷ []) (step_connection_ledger s l m)

  abbrev pub AtStatus : List Marked → ConnectionLedger → List Marked → Type 0
  AtStatus before l [] = HeldOrOver s F u kind op (entries before) l
  AtStatus before l (m ∷ ms) = Standing before l m × AtStatus (before ++ m ∷ []) (step_connection_ledger s l m) ms

  abbrev once_so : ConnectionState → List Marked → Marked → List Marked → Bool
  once_so p b m behind = is_sent_once p (entries b) m

  abbrev due_so : ConnectionState → List Marked → Marked → List Marked → Bool
  due_so p b m behind = is_expired_due s p m behind

  abbrev lives_so : List Entry → Entry → List Entry → Bool
  lives_so b e behind = is_of_connection e.what && lives_as_connection b e

  abbrev caused_so : List Entry → Entry → List Entry → Bool
  caused_so b e behind = is_missed_caused b e

  statuses : (ms before : List Marked) (l : ConnectionLedger) → AtHeads s F u before l ms → Here s F u before l → Place s F u kind before l → Held u (entries before) l.state → HeldOrOver s F u kind op (entries before) l → are_fit_from (fits_connection s) (step_connection_ledger s) l ms ≡ true → each_from (step_connection s) has_connection_mark l.state ms ≡ true → each_place (step_connection s) once_so l.state before ms ≡ true → each_split_from lives_so (entries before) (entries ms) ≡ true → are_told_rightly s F ms ≡ true → each_place (step_connection s) due_so l.state before ms ≡ true → each_split_from caused_so (entries before) (entries ms) ≡ true → AtStatus before l ms
  statuses [] before l a h pl held status fit marks once life rightly due caused = status
  statuses (m ∷ ms) before l a h pl held status fit marks once life rightly due caused =
      let alive : implies (list_any is_down (entries before)) (may_follow_down m.entry.what) ≡ true = right (agrees (is_linked m.entry.what) (is_empty (entries before))) _ (left (agrees (is_linked m.entry.what) (is_empty (entries before)) && implies (list_any is_down (entries before)) (may_follow_down m.entry.what)) _ (right (is_of_connection m.entry.what) _ (left (lives_so (entries before) m.entry (entries ms)) _ life))) in
      let mark_here : has_connection_mark l.state m ≡ true = left (has_connection_mark l.state m) _ marks in
      let comes : Comes s F u kind before l m = record { begun = a.0; marked = mark_here; once = left (is_sent_once l.state (entries before) m) _ once; alive = alive; told = left (where_there (λ t. is_told_rightly s F t.letter) m.mark) _ rightly; fit = fit_here } in
      let caused_here : is_missed_caused (entries before) m.entry ≡ true = left (is_missed_caused (entries before) m.entry) _ caused in
      let here : Here s F u (before ++ m ∷ []) (step_connection_ledger s l m) = here_step s F u kind before l h m.entry.part m.entry.at m.mark m.entry.what ms comes (left (is_expired_due s l.state m ms) _ due) in
      let next_place : Place s F u kind (before ++ m ∷ []) (step_connection_ledger s l m) = place_next s F u kind before l pl m.entry.part m.entry.at m.mark m.entry.what comes in
      let next_held : Held u (entries (before ++ m ∷ [])) (step_connection s l.state m) = subst (λ b. Held u b (step_connection s l.state m)) (sym (push_entry before m)) (held_next s F u kind before l h held m.entry.part m.entry.at m.mark m.entry.what mark_here fit_here) in
      let next_status : HeldOrOver s F u kind op (entries (before ++ m ∷ [])) (step_connection_ledger s l m) = subst (λ b. HeldOrOver s F u kind op b (step_connection_ledger s l m)) (sym (push_entry before m)) (status_step s F u kind op before l h pl held m.entry.part m.entry.at m.mark m.entry.what comes caused_here here status) in (
        record { place = pl; comes = comes; here = h; held = held; status = status; caused = caused_here; next = here },
        statuses ms (before ++ m ∷ []) (step_connection_ledger s l m) a.1 here next_place next_held next_status (right (not (is_unfit (fits_connection s) l m.mark)) _ fit) (right (has_connection_mark l.state m) _ marks) (right (is_sent_once l.state (entries before) m) _ once)
            (subst (λ b. each_split_from lives_so b (entries ms) ≡ true) (sym (push_entry before m)) (right (lives_so (entries before) m.entry (entries ms)) _ life))
            (right (where_there (λ t. is_told_rightly s F t.letter) m.mark) _ rightly) (right (is_expired_due s l.state m ms) _ due)
            (subst (λ b. each_split_from caused_so b (entries ms) ≡ true) (sym (push_entry before m)) (right (is_missed_caused (entries before) m.entry) _ caused)),
      )
    where
      fit_here : (t : Taken) → m.mark ≡ Some t → fits_connection s l t.sender t.letter ≡ true
      fit_here t e = is_fit_there (fits_connection s) l t (are_fit_from (fits_connection s) (step_connection_ledger s) (step_connection_ledger s l m) ms) (ap (λ q. not (is_unfit (fits_connection s) l q) && are_fit_from (fits_connection s) (step_connection_ledger s) (step_connection_ledger s l m) ms) (sym e) ∙ fit)

  none_held : (n : OpName) → ((empty_connection s u).holder ≡ Some n) ⊎ ((empty_connection s u).lost ≡ Some n) → list_any (λ (x : Sending). same_op n x.op) [] ≡ true
  none_held n (inl e) = absurd (let bad : None ≡ Some n = e in cc)
  none_held n (inr e) = absurd (let bad : None ≡ Some n = e in cc)

  -- in lists that turns made
  pub bind_statuses : BindConnectionsSay → (marked : PartName → List Marked) → Played s F marked → AtStatus [] (empty_connection_ledger s u) (marked (Connection u))
  bind_statuses says marked h =
      let nothing : Place s F u kind [] (empty_connection_ledger s u) = record { holding = tt; is_bind_one = ap (λ b. if b then BindKind else Regular) kind; own = refl } in
      statuses (marked (Connection u)) [] (empty_connection_ledger s u) (bind_heads says s F marked h u kind) (nothing_here s F u kind) nothing none_held (inl (record { new = refl; free = refl })) (h.joined.fit (Connection u)) (share s F marked h u).marks (share s F marked h u).sent_once (share s F marked h u).life (says s F marked h u kind).told (share s F marked h u).expired (share s F marked h u).missed
