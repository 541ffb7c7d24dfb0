-- Where nothing waits, the desk heard the end of each operation that held a bind connection, and is over there.
use Rattle.std.proofs.Common.{◌≡◌, ◌⊎◌, inl, inr, ℕ, Bool, true, false, ◌&&◌, ◌||◌, not, List, [], ◌∷◌, ◌++◌, refl, ap, ◌∙◌, sym, subst, append_assoc}
use Rattle.std.specs.Prelude.{Option, Some, None, if◌then◌else◌}
use Rattle.std.specs.List.{list_any}
use Rattle.std.proofs.lemmas.List.{append-nil}
use Rattle.lload_names.specs.declared.names.ConnKind.TheVariants.{Bind as BindKind, Regular}
use Rattle.lload_names.specs.declared.names.Entry.{Entry}
use Rattle.lload_names.specs.declared.names.OpName.{OpName}
use Rattle.lload_names.specs.declared.names.PartName.TheVariants.{Desk, Up as Connection}
use Rattle.lload_spec.specs.Answers.{Sending, is_open, of_operation, sendings}
use Rattle.lload_spec.specs.CausedUp.{is_holding}
use Rattle.lload_spec.specs.Entries.{is_down, is_linked, is_of_connection}
use Rattle.lload_spec.specs.Journal.{Family, same_op}
use Rattle.lload_spec.specs.Lists.{agrees, each_split_from, implies, last, passes, where_there}
use Rattle.lload_spec.specs.News.{is_heard, tells_ended}
use Rattle.lload_spec.specs.Over.{from_sent, is_held_since, is_over_at}
use Rattle.lload_spec.specs.Settings.{Settings, is_of_kind}
use Rattle.lload_spec.specs.Strict.{is_empty, lives_as_connection, may_follow_down}
use Rattle.lload_spec.proofs.Growth.{left, right}
use Rattle.part_laws.proofs.ListLaws.{any_before, any_behind, none_of_both, or_left}
use Rattle.part_spec.specs.ConnectionState.{ConnectionState, connection_behind, empty_connection, step_connection}
use Rattle.part_spec.specs.Fit.{ConnectionLedger, are_fit_from, empty_connection_ledger, fits_connection, is_forward_of, is_unfit, step_connection_ledger, with_mark}
use Rattle.part_spec.specs.Gives.{connection_gives, connection_letters, gives}
use Rattle.part_spec.specs.Marked.{Marked, Taken, entries, letters_to}
use Rattle.part_spec.specs.Marks.{each_from, has_connection_mark}
use Rattle.part_spec.specs.Share.{each_place, is_expired_due, is_sent_once}
use Rattle.connection_laws.proofs.Permits.{push_entry}
use Rattle.bind_laws.specs.Turns.{are_told_rightly, is_told_rightly}
use Rattle.joined_laws.proofs.Taken.{is_fit_there, letters_to_both}
use Rattle.caused_laws.specs.Laws.{BindConnectionsSay}
use Rattle.settled_laws.proofs.Heard.{taken_heard}
use Rattle.upstream_laws.proofs.BindEnds.{Comes, Here, here_step}
use Rattle.upstream_laws.proofs.Ends.{nothing_here}
use Rattle.upstream_laws.proofs.Heads.{AtHeads, bind_heads}
use Rattle.leave_laws.proofs.Holders.{LastHolding}
use Rattle.leave_laws.proofs.Unfinished.{Place, place_next}
use Rattle.ended_laws.proofs.BindOver.{from_some, last_from}
use Rattle.ended_laws.proofs.BindTold.{Held, held_next}
use Rattle.ended_laws.proofs.Latencies.{share}
use Rattle.heard_laws.specs.Laws.{HolderEndsAreHeard}
use Rattle.heard_laws.proofs.BindPending.{Holds, Lostless, Status, first_step, holds_step, lostless_step, never_again, took_it}
use Rattle.heard_laws.proofs.Chained.{chained_holds}
use Rattle.heard_laws.proofs.Heard.{ended_news}

-- where the mark isn't its Forward, none was taken
none_taken : (op : OpName) (mark : Option Taken) (taken : List Taken) → list_any (λ t. is_forward_of op t.letter) taken ≡ false → passes (λ t. is_forward_of op t.letter) mark ≡ false → list_any (λ t. is_forward_of op t.letter) (with_mark mark taken) ≡ false
none_taken op None taken h k = h
none_taken op (Some t) taken h k = none_of_both (λ x. is_forward_of op x.letter) taken (t ∷ []) h (ap (λ b. b || false) k)

now_taken : (op : OpName) (mark : Option Taken) (taken : List Taken) → passes (λ t. is_forward_of op t.letter) mark ≡ true → list_any (λ t. is_forward_of op t.letter) (with_mark mark taken) ≡ true
now_taken op None taken k = absurd (let bad : false ≡ true = k in cc)
now_taken op (Some t) taken k = any_behind (λ x. is_forward_of op x.letter) taken (t ∷ []) (or_left (is_forward_of op t.letter) false k)

module _ (s : Settings) (F : Family) (u : ℕ) (kind : is_of_kind s BindKind u ≡ true) (op : OpName) where
  abbrev IsOver : List Entry → Type 0
  IsOver place = is_over_at s F op u (from_sent op (sendings u place)) ≡ true

  -- what holds the connection isn't over
  not_over : (before : List Marked) (l : ConnectionLedger) → Place s F u kind before l → Holds F u op (entries before) l.state → IsOver (entries before) → false ≡ true
  not_over before l pl h over = by (last (sendings u (entries before))) refl (subst (λ v. LastHolding s F v (last (sendings u (entries before)))) h.holder pl.holding)
    where
      by : (z : Option Sending) → last (sendings u (entries before)) ≡ z → LastHolding s F (Some op) z → false ≡ true
      by None e k = absurd k
      by (Some z) e k =
          let it = from_some op (sendings u (entries before)) h.sent in
          let still : is_held_since s F (from_sent op (sendings u (entries before))) ≡ true = chained_holds F s (from_sent op (sendings u (entries before))) z (last_from op (sendings u (entries before)) h.sent ∙ e) (ap (passes (λ o. is_holding s o z)) k.found ∙ k.holds) h.chain in
          sym (ap (is_over_at s F op u) it.2 ∙ ap (λ b. not (if b then is_held_since s F (it.0 ∷ it.1) else of_operation F (is_open s) it.0)) kind ∙ ap not (sym (ap (is_held_since s F) it.2) ∙ still)) ∙ over

  abbrev once_so : ConnectionState → List Marked → Marked → List Marked → Bool
  once_so p b m behind = is_sent_once p (entries b) m

  abbrev due_so : ConnectionState → List Marked → Marked → List Marked → Bool
  due_so p b m behind = is_expired_due s p m behind

  abbrev lives_so : List Entry → Entry → List Entry → Bool
  lives_so b e behind = is_of_connection e.what && lives_as_connection b e

  abbrev Gives : ConnectionState → Marked → Type 0
  Gives p m = list_any (tells_ended op) (letters_to Desk (connection_letters s p m.entry.at m.mark m.entry.what)) ≡ true

  -- through an entry
  status_step : (before : List Marked) (l : ConnectionLedger) (m : Marked) (ms : List Marked) → Comes s F u kind before l m → l.state.down ≡ list_any is_down (entries before) → Place s F u kind before l → Held u (entries before) l.state → Lostless l.state → are_fit_from (fits_connection s) (step_connection_ledger s) (step_connection_ledger s l m) ms ≡ true → Status F u op before l (m ∷ ms) → Gives l.state m ⊎ Status F u op (before ++ m ∷ []) (step_connection_ledger s l m) ms
  status_step before l m ms c d pl held lostless fit (inl w) = by (took_it op m) refl
    where
      pushed : Gives l.state m ⊎ Holds F u op (entries before ++ m.entry ∷ []) (step_connection s l.state m) → Gives l.state m ⊎ Status F u op (before ++ m ∷ []) (step_connection_ledger s l m) ms
      pushed (inl g) = inl g
      pushed (inr k) = inr (inr (subst (λ p. Holds F u op p (step_connection s l.state m)) (sym (push_entry before m)) k))

      later : list_any (took_it op) ms ≡ true → (b : Bool) → passes (λ t. is_forward_of op t.letter) m.mark ≡ b → Gives l.state m ⊎ Status F u op (before ++ m ∷ []) (step_connection_ledger s l m) ms
      later k true e = absurd (let bad : false ≡ true = never_again s op ms (step_connection_ledger s l m) (now_taken op m.mark l.taken e) fit k in cc)
      later k false e = inr (inl (record { new = none_taken op m.mark l.taken w.new e; comes = k }))

      by : (b : Bool) → took_it op m ≡ b → Gives l.state m ⊎ Status F u op (before ++ m ∷ []) (step_connection_ledger s l m) ms
      by true e = pushed (holds_of (first_step s F u kind op before l pl held lostless m.entry.part m.entry.at m.mark w.new m.entry.what c.begun c.marked e))
        where
          holds_of : Gives l.state m ⊎ Holds F u op (entries before ++ m.entry ∷ []) (connection_behind s m.entry m.mark l.state m.entry.what) → Gives l.state m ⊎ Holds F u op (entries before ++ m.entry ∷ []) (step_connection s l.state m)
          holds_of (inl g) = inl g
          holds_of (inr k) = inr (record { holder = k.holder; sent = k.sent; chain = k.chain })
      by false e = later (sym (ap (λ b. b || list_any (took_it op) ms) e) ∙ w.comes) (passes (λ t. is_forward_of op t.letter) m.mark) refl
  status_step before l m ms c d pl held lostless fit (inr h) = by (holds_step s F u kind op before l pl held lostless m.entry.part m.entry.at m.mark h m.entry.what c.begun c.alive d c.marked c.fit)
    where
      by : Gives l.state m ⊎ Holds F u op (entries before ++ m.entry ∷ []) (connection_behind s m.entry m.mark l.state m.entry.what) → Gives l.state m ⊎ Status F u op (before ++ m ∷ []) (step_connection_ledger s l m) ms
      by (inl g) = inl g
      by (inr k) = inr (inr (subst (λ p. Holds F u op p (step_connection s l.state m)) (sym (push_entry before m)) (record { holder = k.holder; sent = k.sent; chain = k.chain })))

  over_gives : (ms before : List Marked) (l : ConnectionLedger) → AtHeads s F u before l ms → Here s F u before l → Place s F u kind before l → Held u (entries before) l.state → Lostless l.state → are_fit_from (fits_connection s) (step_connection_ledger s) l ms ≡ true → each_from (step_connection s) has_connection_mark l.state ms ≡ true → each_place (step_connection s) once_so l.state before ms ≡ true → each_split_from lives_so (entries before) (entries ms) ≡ true → are_told_rightly s F ms ≡ true → each_place (step_connection s) due_so l.state before ms ≡ true → Status F u op before l ms → IsOver (entries before ++ entries ms) → list_any (tells_ended op) (letters_to Desk (connection_gives s l.state ms)) ≡ true
  over_gives [] before l a h pl held lostless fit marks once life rightly due (inl w) over = absurd (let bad : false ≡ true = w.comes in cc)
  over_gives [] before l a h pl held lostless fit marks once life rightly due (inr k) over = absurd (let bad : false ≡ true = not_over before l pl k (subst IsOver (append-nil (entries before)) over) in cc)
  over_gives (m ∷ ms) before l a h pl held lostless fit marks once life rightly due status over =
      let alive : implies (list_any is_down (entries before)) (may_follow_down m.entry.what) ≡ true = right (agrees (is_linked m.entry.what) (is_empty (entries before))) _ (left (agrees (is_linked m.entry.what) (is_empty (entries before)) && implies (list_any is_down (entries before)) (may_follow_down m.entry.what)) _ (right (is_of_connection m.entry.what) _ (left (lives_so (entries before) m.entry (entries ms)) _ life))) in
      let mark_here : has_connection_mark l.state m ≡ true = left (has_connection_mark l.state m) _ marks in
      let comes : Comes s F u kind before l m = record { begun = a.0; marked = mark_here; once = left (is_sent_once l.state (entries before) m) _ once; alive = alive; told = left (where_there (λ t. is_told_rightly s F t.letter) m.mark) _ rightly; fit = fit_here } in
      let rest_fit : are_fit_from (fits_connection s) (step_connection_ledger s) (step_connection_ledger s l m) ms ≡ true = right (not (is_unfit (fits_connection s) l m.mark)) _ fit in
      let here : Here s F u (before ++ m ∷ []) (step_connection_ledger s l m) = here_step s F u kind before l h m.entry.part m.entry.at m.mark m.entry.what ms comes (left (is_expired_due s l.state m ms) _ due) in
      let next_place : Place s F u kind (before ++ m ∷ []) (step_connection_ledger s l m) = place_next s F u kind before l pl m.entry.part m.entry.at m.mark m.entry.what comes in
      let next_held : Held u (entries (before ++ m ∷ [])) (step_connection s l.state m) = subst (λ b. Held u b (step_connection s l.state m)) (sym (push_entry before m)) (held_next s F u kind before l h held m.entry.part m.entry.at m.mark m.entry.what mark_here fit_here) in
      ap (list_any (tells_ended op)) (letters_to_both Desk (connection_letters s l.state m.entry.at m.mark m.entry.what) (connection_gives s (step_connection s l.state m) ms))
      ∙ by (status_step before l m ms comes h.says.down pl held lostless rest_fit status) (λ k. over_gives ms (before ++ m ∷ []) (step_connection_ledger s l m) a.1 here next_place next_held (lostless_step s m.entry m.mark l.state m.entry.what lostless) rest_fit (right (has_connection_mark l.state m) _ marks) (right (is_sent_once l.state (entries before) m) _ once) (subst (λ b. each_split_from lives_so b (entries ms) ≡ true) (sym (push_entry before m)) (right (lives_so (entries before) m.entry (entries ms)) _ life)) (right (where_there (λ t. is_told_rightly s F t.letter) m.mark) _ rightly) (right (is_expired_due s l.state m ms) _ due) k (subst IsOver (sym (ap (λ b. b ++ entries ms) (push_entry before m) ∙ append_assoc (entries before) (m.entry ∷ []) (entries ms))) over))
    where
      fit_here : (t : Taken) → m.mark ≡ Some t → fits_connection s l t.sender t.letter ≡ true
      fit_here t e = is_fit_there (fits_connection s) l t (are_fit_from (fits_connection s) (step_connection_ledger s) (step_connection_ledger s l m) ms) (ap (λ q. not (is_unfit (fits_connection s) l q) && are_fit_from (fits_connection s) (step_connection_ledger s) (step_connection_ledger s l m) ms) (sym e) ∙ fit)

      by : Gives l.state m ⊎ Status F u op (before ++ m ∷ []) (step_connection_ledger s l m) ms → (Status F u op (before ++ m ∷ []) (step_connection_ledger s l m) ms → list_any (tells_ended op) (letters_to Desk (connection_gives s (step_connection s l.state m) ms)) ≡ true) → list_any (tells_ended op) (letters_to Desk (connection_letters s l.state m.entry.at m.mark m.entry.what) ++ letters_to Desk (connection_gives s (step_connection s l.state m) ms)) ≡ true
      by (inl g) more = any_before (tells_ended op) (letters_to Desk (connection_letters s l.state m.entry.at m.mark m.entry.what)) (letters_to Desk (connection_gives s (step_connection s l.state m) ms)) g
      by (inr k) more = any_behind (tells_ended op) (letters_to Desk (connection_letters s l.state m.entry.at m.mark m.entry.what)) (letters_to Desk (connection_gives s (step_connection s l.state m) ms)) (more k)

  none_held : (n : OpName) → ((empty_connection s u).holder ≡ Some n) ⊎ ((empty_connection s u).lost ≡ Some n) → list_any (λ (x : Sending). same_op n x.op) [] ≡ true
  none_held n (inl e) = absurd (let bad : None ≡ Some n = e in cc)
  none_held n (inr e) = absurd (let bad : None ≡ Some n = e in cc)

pub holder_ends_heard : BindConnectionsSay → HolderEndsAreHeard
holder_ends_heard says s F marked h rest u kind op first over =
    let same : entries (marked (Connection u)) ≡ F.connection u = h.joined.shared.same_entries (Connection u) in
    let nothing : Place s F u kind [] (empty_connection_ledger s u) = record { holding = tt; is_bind_one = ap (λ b. if b then BindKind else Regular) kind; own = refl } in
    let given : list_any (tells_ended op) (letters_to Desk (gives s (Connection u) (marked (Connection u)))) ≡ true = over_gives s F u kind op (marked (Connection u)) [] (empty_connection_ledger s u) (bind_heads says s F marked h u kind) (nothing_here s F u kind) nothing (none_held s F u kind op) (λ d. refl) (h.joined.fit (Connection u)) (share s F marked h u).marks (share s F marked h u).sent_once (share s F marked h u).life (says s F marked h u kind).told (share s F marked h u).expired (inl (record { new = refl; comes = first })) (subst (λ es. is_over_at s F op u (from_sent op (sendings u es)) ≡ true) (sym same) over) in
    subst (λ es. is_heard (tells_ended op) es ≡ true) (rest.joined.linked.same_entries Desk) (taken_heard (Connection u) (tells_ended op) (ended_news op) (marked Desk) (rest.joined.linked.marks Desk) (subst (λ l. list_any (tells_ended op) l ≡ true) (sym (rest.all_taken (Connection u) Desk)) given))
