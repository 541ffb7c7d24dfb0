-- A bind connection that retired and isn't down has a Bind open, or somebody holds it.
use Rattle.std.proofs.Common.{◌≡◌, ℕ, Bool, true, false, ◌==◌, ◌&&◌, ◌||◌, not, List, [], ◌∷◌, ◌++◌, length, refl, ap, ◌∙◌, sym, subst, append_assoc}
use Rattle.std.specs.Prelude.{Option, Some, None, is_none, is_some, if◌then◌else◌}
use Rattle.std.specs.List.{list_any}
use Rattle.std.proofs.lemmas.List.{append-nil}
use Rattle.ldap_spec.specs.Messages.{Message}
use Rattle.lload_names.specs.declared.inputs.Input.TheVariants.{Message as MessageIn}
use Rattle.lload_names.specs.declared.names.ConnKind.{ConnKind}
use Rattle.lload_names.specs.declared.names.ConnKind.TheVariants.{Bind as BindKind, Regular}
use Rattle.lload_names.specs.declared.names.EndWhy.TheVariants.{Drained}
use Rattle.lload_names.specs.declared.names.Entry.{Entry}
use Rattle.lload_names.specs.declared.names.OpName.{OpName}
use Rattle.lload_names.specs.declared.names.PartName.TheVariants.{Desk, Up as Connection}
use Rattle.lload_names.specs.declared.names.What.TheVariants as what
use Rattle.lload_names.specs.declared.names.Letter.TheVariants.{IsDown}
use Rattle.lload_names.specs.declared.plans.Place.{Place as PlanPlace}
use Rattle.lload_spec.specs.Answers.{Sending, is_open, of_operation, sendings}
use Rattle.lload_spec.specs.CausedUp.{holder, is_holding}
use Rattle.lload_spec.specs.Entries.{is_down, is_linked, is_of_connection, is_retired}
use Rattle.lload_spec.specs.Journal.{Family}
use Rattle.lload_spec.specs.Lists.{agrees, each_split_from, implies, last, passes, where_there}
use Rattle.lload_spec.specs.Settings.{Settings, is_kind, is_of_kind, place_at}
use Rattle.lload_spec.specs.Strict.{is_empty, lives_as_connection, may_follow_down}
use Rattle.lload_spec.proofs.Growth.{left, right}
use Rattle.lload_laws.proofs.ListLaws.{implies_by}
use Rattle.part_laws.proofs.ListLaws.{not_true, or_left, or_right}
use Rattle.part_laws.specs.Turns.{Comes, Event, list_from, made}
use Rattle.part_spec.specs.BindTurn.{message}
use Rattle.part_spec.specs.ConnectionState.{ConnectionState, UpRow, empty_connection, is_there, step_connection}
use Rattle.part_spec.specs.ConnectionTurn.{behind_act, is_drained, with_drained}
use Rattle.part_spec.specs.Fit.{ConnectionLedger, are_fit_from, empty_connection_ledger, fits_connection, is_unfit, ledger_behind as behind, step_connection_ledger}
use Rattle.part_spec.specs.Inputs.{Act, act, also, entries_of, marked_by, moment_for, nothing, to, where_so}
use Rattle.part_spec.specs.Marked.{Marked, Taken, entries}
use Rattle.part_spec.specs.Marks.{each_from, has_connection_mark}
use Rattle.part_spec.specs.RegularTurn.{regular_act}
use Rattle.part_spec.specs.Share.{each_place, is_expired_due, is_sent_once}
use Rattle.connection_laws.specs.Turns.{connection_event, connection_list}
use Rattle.connection_laws.proofs.Permits.{push_entry}
use Rattle.bind_laws.specs.Turns.{are_told_rightly, is_told_rightly}
use Rattle.drained_laws.specs.Laws.{NoneComesDrained, is_undrained}
use Rattle.joined_laws.proofs.Taken.{is_fit_there}
use Rattle.caused_laws.specs.Laws.{BindConnectionsSay}
use Rattle.upstream_laws.proofs.BindEnds.{Comes as ComesHere, Here, here_step}
use Rattle.upstream_laws.proofs.Ends.{nothing_here}
use Rattle.upstream_laws.proofs.Answered.{Said}
use Rattle.upstream_laws.proofs.Heads.{AtHeads, Head, bind_heads}
use Rattle.leave_laws.proofs.Holders.{LastHolding}
use Rattle.leave_laws.proofs.Unfinished.{Place, place_next}
use Rattle.open_laws.proofs.BindOpen.{OpenOf, Opened, opened_step}
use Rattle.ended_laws.proofs.Latencies.{share}
use Rattle.heard_laws.specs.Laws.{BindsRetireInUse}

-- what comes last comes behind all before it
each_later : (s : Settings) (p : ConnectionState) (L M : List Marked) → each_from (step_connection s) is_undrained p (L ++ M) ≡ true → each_from (step_connection s) is_undrained (behind (step_connection s) p L) M ≡ true
each_later s p [] M h = h
each_later s p (m ∷ L) M h = each_later s (step_connection s p m) L M (right (is_undrained p m) _ h)

folds : (s : Settings) (p : ConnectionState) (L M : List Marked) → behind (step_connection s) p (L ++ M) ≡ behind (step_connection s) (behind (step_connection s) p L) M
folds s p [] M = refl
folds s p (m ∷ L) M = folds s (step_connection s p m) L M

abbrev Undrained : Settings → ConnectionState → List Marked → Type 0
Undrained s p ms = each_from (step_connection s) is_undrained p ms ≡ true

last_comes : (s : Settings) (x : Event) (p : ConnectionState) (xs : List Event) → Undrained s p (list_from (step_connection s) (connection_event s) p (xs ++ x ∷ [])) → Undrained s (behind (step_connection s) p (list_from (step_connection s) (connection_event s) p xs)) (made (connection_event s) (behind (step_connection s) p (list_from (step_connection s) (connection_event s) p xs)) x ++ [])
last_comes s x p [] h = h
last_comes s x p (y ∷ ys) h =
    let turn : List Marked = made (connection_event s) p y in
    let next : ConnectionState = behind (step_connection s) p turn in
    subst (λ q. Undrained s q (made (connection_event s) q x ++ [])) (sym (folds s p turn (list_from (step_connection s) (connection_event s) next ys))) (last_comes s x next ys (each_later s p turn (list_from (step_connection s) (connection_event s) next (ys ++ x ∷ [])) h))

-- the state of a ledger
state_behind : (s : Settings) (l : ConnectionLedger) (ms : List Marked) → (behind (step_connection_ledger s) l ms).state ≡ behind (step_connection s) l.state ms
state_behind s l [] = refl
state_behind s l (m ∷ ms) = state_behind s (step_connection_ledger s l m) ms

-- a message that came now would find something to do
module _ (s : Settings) (p : ConnectionState) where
  abbrev at : ℕ
  at = moment_for p.moment (MessageIn 0 0 [])

  abbrev empty_message : Message
  empty_message = record { id = 0; rest = [] }

  abbrev turn_of : Act → List Marked
  turn_of a = marked_by None (entries_of (Connection p.number) at a.whats) ++ []

  abbrev acts : Option PlanPlace → ConnKind → Bool → Act
  acts o k t = elim o [ None ↦ nothing | Some place ↦ elim k [ Regular ↦ regular_act s p at (MessageIn 0 0 []) | BindKind ↦ with_drained s at None p (where_so t (message s p empty_message)) ] ]

  abbrev ends : Bool → Act
  ends b = elim b [ true ↦ also (message s p empty_message) (act (what.Down Drained ∷ []) (to Desk (IsDown p.number))) | false ↦ message s p empty_message ]

  finds_by : (b : Bool) → Undrained s p (turn_of (ends b)) → not (is_drained p) ≡ true
  finds_by true h = left (not (is_drained p)) _ h
  finds_by false h = left (not (is_drained p)) _ h

  finds : (o : Option PlanPlace) (k : ConnKind) (t : Bool) → is_some o ≡ true → k ≡ BindKind → t ≡ true → Undrained s p (turn_of (acts o k t)) → not (is_drained p) ≡ true
  finds None k t e f g h = absurd (let bad : false ≡ true = e in cc)
  finds (Some place) Regular t e f g h = absurd (let bad : Regular ≡ BindKind = f in cc)
  finds (Some place) BindKind false e f g h = absurd (let bad : false ≡ true = g in cc)
  finds (Some place) BindKind true e f g h = finds_by (is_drained (behind_act s at None p (message s p empty_message))) h

  finds_something : is_some (place_at s p.number) ≡ true → p.kind ≡ BindKind → is_there p ≡ true → Undrained s p (made (connection_event s) p (Comes (MessageIn 0 0 [])) ++ []) → is_drained p ≡ false
  finds_something e f g h = not_true (is_drained p) (finds (place_at s p.number) p.kind (is_there p) e f g h)

last_passes_any : (t : Sending → Bool) (xs : List Sending) (z : Sending) → last xs ≡ Some z → t z ≡ true → list_any t xs ≡ true
last_passes_any t [] z e k = absurd (let bad : None ≡ Some z = e in cc)
last_passes_any t (x ∷ []) z e k = or_left (t x) false (ap t (let same : x ≡ z = cc in same) ∙ k)
last_passes_any t (x ∷ y ∷ xs) z e k = or_right (t x) (list_any t (y ∷ xs)) (last_passes_any t (y ∷ xs) z e k)

module _ (none_comes : NoneComesDrained) (s : Settings) (F : Family) (u : ℕ) (kind : is_of_kind s BindKind u ≡ true) where
  abbrev once_so : ConnectionState → List Marked → Marked → List Marked → Bool
  once_so p b m behind_it = is_sent_once p (entries b) m

  abbrev due_so : ConnectionState → List Marked → Marked → List Marked → Bool
  due_so p b m behind_it = is_expired_due s p m behind_it

  abbrev lives_so : List Entry → Entry → List Entry → Bool
  lives_so b e behind_it = is_of_connection e.what && lives_as_connection b e

  abbrev retired : List Entry → Bool
  retired place = list_any (λ e. is_retired e.what) place

  abbrev Uses : List Entry → Type 0
  Uses place = (list_any (of_operation F (is_open s)) (sendings u place) || is_some (holder s F u place)) ≡ true

  placed : is_some (place_at s u) ≡ true
  placed = by (place_at s u) kind
    where
      by : (o : Option PlanPlace) → (elim o [ None ↦ false | Some q ↦ is_kind BindKind q.kind ]) ≡ true → is_some o ≡ true
      by None k = k
      by (Some q) k = refl

  -- at the end of a list
  module _ (before : List Marked) (l : ConnectionLedger) (a : Head s F u before l) (h : Here s F u before l) (pl : Place s F u kind before l) (opened : Opened s F l.state.rows (last (sendings u (entries before)))) (linked : retired (entries before) ≡ true → list_any (λ e. is_linked e.what) (entries before) ≡ true) (k : (retired (entries before) && not (list_any is_down (entries before))) ≡ true) where
    state_is : l.state ≡ behind (step_connection s) (empty_connection s u) (connection_list s u a.events)
    state_is = ap (λ (q : ConnectionLedger). q.state) (sym a.ledger) ∙ state_behind s (empty_connection_ledger s u) before ∙ ap (behind (step_connection s) (empty_connection s u)) (sym a.made_by)

    there : is_there l.state ≡ true
    there = ap (λ b. b && not l.state.down) (h.says.linked ∙ linked (left (retired (entries before)) _ k)) ∙ ap not h.says.down ∙ right (retired (entries before)) _ k

    undrained : is_drained l.state ≡ false
    undrained = finds_something s l.state (ap (λ n. is_some (place_at s n)) h.number ∙ placed) h.kind there (subst (λ q. Undrained s q (made (connection_event s) q (Comes (MessageIn 0 0 [])) ++ [])) (sym state_is) (last_comes s (Comes (MessageIn 0 0 [])) (empty_connection s u) a.events (none_comes s u (a.events ++ Comes (MessageIn 0 0 []) ∷ []))))

    open_used : (z : Option Sending) → last (sendings u (entries before)) ≡ z → OpenOf s F z → Uses (entries before)
    open_used None e j = absurd j
    open_used (Some z) e j = or_left (list_any (of_operation F (is_open s)) (sendings u (entries before))) (is_some (holder s F u (entries before))) (last_passes_any (of_operation F (is_open s)) (sendings u (entries before)) z e j)

    abbrev held_by : Option Sending → Option ℕ
    held_by o = elim o [ None ↦ None | Some x ↦ if is_of_kind s BindKind u && of_operation F (is_holding s) x then Some x.op.client else None ]

    held_used : (n : OpName) (z : Option Sending) → last (sendings u (entries before)) ≡ z → LastHolding s F (Some n) z → Uses (entries before)
    held_used n None e j = absurd j
    held_used n (Some z) e j = or_right (list_any (of_operation F (is_open s)) (sendings u (entries before))) (is_some (holder s F u (entries before))) (ap (λ o. is_some (held_by o)) e ∙ ap (λ b. is_some (if b && of_operation F (is_holding s) z then Some z.op.client else None)) kind ∙ ap (λ b. is_some (if b then Some z.op.client else None)) (ap (passes (λ o. is_holding s o z)) j.found ∙ j.holds))

    end_used : Uses (entries before)
    end_used = by l.state.rows l.state.holder opened pl.holding (sym (ap (λ b. b && not l.state.down && length l.state.rows == 0 && is_none l.state.holder) h.says.retired ∙ ap (λ b. retired (entries before) && not b && length l.state.rows == 0 && is_none l.state.holder) h.says.down ∙ ap (λ b. b && length l.state.rows == 0 && is_none l.state.holder) k) ∙ undrained)
      where
        by : (rows : List UpRow) (o : Option OpName) → Opened s F rows (last (sendings u (entries before))) → LastHolding s F o (last (sendings u (entries before))) → (true && length rows == 0 && is_none o) ≡ false → Uses (entries before)
        by (r ∷ rows) o i j d = open_used (last (sendings u (entries before))) refl i.0
        by [] (Some n) i j d = held_used n (last (sendings u (entries before))) refl j
        by [] None i j d = absurd (let bad : true ≡ false = d in cc)

  -- a list that isn't empty begins with Linked
  linked_first : (es : List Entry) → each_split_from lives_so [] es ≡ true → retired es ≡ true → list_any (λ e. is_linked e.what) es ≡ true
  linked_first [] life k = absurd (let bad : false ≡ true = k in cc)
  linked_first (e ∷ es) life k = or_left (is_linked e.what) (list_any (λ x. is_linked x.what) es) (by (is_linked e.what) (left (agrees (is_linked e.what) true) _ (left (agrees (is_linked e.what) true && implies false (may_follow_down e.what)) _ (right (is_of_connection e.what) _ (left (lives_so [] e es) _ life)))))
    where
      by : (b : Bool) → agrees b true ≡ true → b ≡ true
      by true i = refl
      by false i = absurd (let bad : false ≡ true = i in cc)

  used_from : (ms before : List Marked) (l : ConnectionLedger) → AtHeads s F u before l ms → Here s F u before l → Place s F u kind before l → Opened s F l.state.rows (last (sendings u (entries before))) → (retired (entries before ++ entries ms) ≡ true → list_any (λ e. is_linked e.what) (entries before ++ entries ms) ≡ true) → are_fit_from (fits_connection s) (step_connection_ledger s) l ms ≡ true → each_from (step_connection s) has_connection_mark l.state ms ≡ true → each_place (step_connection s) once_so l.state before ms ≡ true → each_split_from lives_so (entries before) (entries ms) ≡ true → are_told_rightly s F ms ≡ true → each_place (step_connection s) due_so l.state before ms ≡ true → (retired (entries before ++ entries ms) && not (list_any is_down (entries before ++ entries ms))) ≡ true → Uses (entries before ++ entries ms)
  used_from [] before l a h pl opened linked fit marks once life rightly due k =
      let end : entries before ++ [] ≡ entries before = append-nil (entries before) in
      subst Uses (sym end) (end_used before l a h pl opened (subst (λ es. retired es ≡ true → list_any (λ e. is_linked e.what) es ≡ true) end linked) (subst (λ es. (retired es && not (list_any is_down es)) ≡ true) end k))
  used_from (m ∷ ms) before l a h pl opened linked fit marks once life rightly due k =
      let alive : implies (list_any is_down (entries before)) (may_follow_down m.entry.what) ≡ true = right (agrees (is_linked m.entry.what) (is_empty (entries before))) _ (left (agrees (is_linked m.entry.what) (is_empty (entries before)) && implies (list_any is_down (entries before)) (may_follow_down m.entry.what)) _ (right (is_of_connection m.entry.what) _ (left (lives_so (entries before) m.entry (entries ms)) _ life))) in
      let mark_here : has_connection_mark l.state m ≡ true = left (has_connection_mark l.state m) _ marks in
      let comes : ComesHere s F u kind before l m = record { begun = a.0; marked = mark_here; once = left (is_sent_once l.state (entries before) m) _ once; alive = alive; told = left (where_there (λ t. is_told_rightly s F t.letter) m.mark) _ rightly; fit = fit_here } in
      let here : Here s F u (before ++ m ∷ []) (step_connection_ledger s l m) = here_step s F u kind before l h m.entry.part m.entry.at m.mark m.entry.what ms comes (left (is_expired_due s l.state m ms) _ due) in
      let next_place : Place s F u kind (before ++ m ∷ []) (step_connection_ledger s l m) = place_next s F u kind before l pl m.entry.part m.entry.at m.mark m.entry.what comes in
      let next_opened : Opened s F (step_connection s l.state m).rows (last (sendings u (entries before ++ m.entry ∷ []))) = opened_step s F u kind before l h m.entry.part m.entry.at m.mark opened m.entry.what a.0 alive (subst (λ p. Said F (step_connection s l.state m).rows (last (sendings u p))) (push_entry before m) here.said) in
      subst Uses pushed (used_from ms (before ++ m ∷ []) (step_connection_ledger s l m) a.1 here next_place (subst (λ p. Opened s F (step_connection s l.state m).rows (last (sendings u p))) (sym (push_entry before m)) next_opened) (subst (λ es. retired es ≡ true → list_any (λ e. is_linked e.what) es ≡ true) (sym pushed) linked) (right (not (is_unfit (fits_connection s) l m.mark)) _ fit) (right (has_connection_mark l.state m) _ marks) (right (is_sent_once l.state (entries before) m) _ once) (subst (λ b. each_split_from lives_so b (entries ms) ≡ true) (sym (push_entry before m)) (right (lives_so (entries before) m.entry (entries ms)) _ life)) (right (where_there (λ t. is_told_rightly s F t.letter) m.mark) _ rightly) (right (is_expired_due s l.state m ms) _ due) (subst (λ es. (retired es && not (list_any is_down es)) ≡ true) (sym pushed) k))
    where
      pushed : entries (before ++ m ∷ []) ++ entries ms ≡ entries before ++ m.entry ∷ entries ms
      pushed = ap (λ place. place ++ entries ms) (push_entry before m) ∙ append_assoc (entries before) (m.entry ∷ []) (entries ms)

      fit_here : (t : Taken) → m.mark ≡ Some t → fits_connection s l t.sender t.letter ≡ true
      fit_here t e = is_fit_there (fits_connection s) l t (are_fit_from (fits_connection s) (step_connection_ledger s) (step_connection_ledger s l m) ms) (ap (λ q. not (is_unfit (fits_connection s) l q) && are_fit_from (fits_connection s) (step_connection_ledger s) (step_connection_ledger s l m) ms) (sym e) ∙ fit)

pub binds_retire_in_use : BindConnectionsSay → NoneComesDrained → BindsRetireInUse
binds_retire_in_use says none_comes s F marked h u kind =
    let same : entries (marked (Connection u)) ≡ F.connection u = h.joined.shared.same_entries (Connection u) in
    let nothing_held : Place s F u kind [] (empty_connection_ledger s u) = record { holding = tt; is_bind_one = ap (λ b. if b then BindKind else Regular) kind; own = refl } in
    implies_by (list_any (λ e. is_retired e.what) (F.connection u) && not (list_any is_down (F.connection u))) (list_any (of_operation F (is_open s)) (sendings u (F.connection u)) || is_some (holder s F u (F.connection u)))
    (λ k. subst (λ es. (list_any (of_operation F (is_open s)) (sendings u es) || is_some (holder s F u es)) ≡ true) same (used_from none_comes s F u kind (marked (Connection u)) [] (empty_connection_ledger s u) (bind_heads says s F marked h u kind) (nothing_here s F u kind) nothing_held tt (linked_first none_comes s F u kind (entries (marked (Connection u))) (share s F marked h u).life) (h.joined.fit (Connection u)) (share s F marked h u).marks (share s F marked h u).sent_once (share s F marked h u).life (says s F marked h u kind).told (share s F marked h u).expired (subst (λ es. (list_any (λ e. is_retired e.what) es && not (list_any is_down es)) ≡ true) (sym same) k)))
