-- On a bind connection each Idle is of a Bind that was forwarded there, and whose client left the connection.
use Rattle.std.proofs.Common.{◌≡◌, ℕ, Bool, true, false, ◌&&◌, ◌||◌, not, List, [], ◌∷◌, ◌++◌, refl, ap, ◌∙◌, sym, subst}
use Rattle.std.specs.Prelude.{Option, Some, None, if◌then◌else◌}
use Rattle.std.specs.List.{list_any}
use Rattle.lload_names.specs.declared.names.ConnKind.TheVariants.{Bind as BindKind}
use Rattle.lload_names.specs.declared.names.Letter.{Letter}
use Rattle.lload_names.specs.declared.names.Letter.TheVariants.{Drop, Forward, Leave}
use Rattle.lload_names.specs.declared.names.OpKind.{OpKind}
use Rattle.lload_names.specs.declared.names.OpKind.TheVariants.{Bind}
use Rattle.lload_names.specs.declared.names.OpName.{OpName}
use Rattle.lload_names.specs.declared.names.PartName.TheVariants.{Client, Up as Connection}
use Rattle.lload_names.specs.declared.names.What.{What}
use Rattle.lload_names.specs.declared.names.What.TheVariants as what
use Rattle.lload_spec.specs.Answers.{asks_who}
use Rattle.lload_spec.specs.CausedUp.{is_left_by}
use Rattle.lload_spec.specs.Entries.{idle_op}
use Rattle.lload_spec.specs.Journal.{Family, same_op, same_part}
use Rattle.lload_spec.specs.Lists.{agrees, each_split_from, passes, some_entry, where_there}
use Rattle.lload_spec.specs.Operations.{Operation, is_of, operation}
use Rattle.lload_spec.specs.Owed.{was_forwarded}
use Rattle.lload_spec.specs.Settings.{Settings, is_kind, is_of_kind}
use Rattle.lload_spec.proofs.Growth.{left, right, both}
use Rattle.part_laws.proofs.ListLaws.{any_behind, any_split, or_elim, or_left, or_right, same_op_eq, same_op_refl}
use Rattle.part_spec.specs.ConnectionState.{ConnectionState, connection_behind, frees_holder, holder_sent, is_bind}
use Rattle.part_spec.specs.Fit.{ConnectionLedger, empty_connection_ledger, fits_connection, is_forward_for, is_forward_of, is_free_for, is_held_for, is_leave_of, is_of_its_kind, step_connection_ledger, with_mark}
use Rattle.part_spec.specs.Marked.{Marked, Taken, entries}
use Rattle.part_spec.specs.Marks.{marks_connection, must_mark_connection}
use Rattle.connection_laws.proofs.Permits.{push_entry}
use Rattle.bind_laws.specs.Turns.{is_told_rightly}
use Rattle.caused_laws.specs.Laws.{BindConnectionsSay}
use Rattle.joined_laws.proofs.Taken.{is_mark_from}
use Rattle.forward_laws.proofs.Causes.{is_live_choice}
use Rattle.rows_laws.proofs.Steps.{op_named}
use Rattle.upstream_laws.proofs.BindEnds.{Comes}
use Rattle.leave_laws.specs.Laws.{BindIdlesAreOfLeft, is_idle_of_left, is_left_bind}
use Rattle.leave_laws.proofs.Ends.{is_left_for, took_leave, took_left_for}
use Rattle.leave_laws.proofs.Forwarded.{are_placed, mark_more, placed_next, was_given, was_placed, was_taken}
use Rattle.leave_laws.proofs.Places.{AtPlaces, bind_places}
use Rattle.leave_laws.proofs.Unfinished.{Place, sent_leave}

-- whether a Forward for this holder was taken
abbrev pub was_held : OpName → List Taken → Bool
was_held h taken = list_any (λ t. is_forward_for h t.letter) taken

-- whether this operation holds a connection, or held it when it went down
abbrev pub is_holder : OpName → ConnectionState → Bool
is_holder h p = passes (same_op h) p.holder || passes (same_op h) p.lost

module _ (s : Settings) (F : Family) (u : ℕ) (kind : is_of_kind s BindKind u ≡ true) where
  -- who holds the connection was forwarded there himself
  pub record Forwarded (before : List Marked) (l : ConnectionLedger) : Type 0 where
    pub placed : are_placed F (is_of Bind) (entries before) l.taken ≡ true
    pub held : (h : OpName) → is_holder h l.state ≡ true → was_given h l.taken ≡ true
    pub served : (h : OpName) → was_held h l.taken ≡ true → was_given h l.taken ≡ true

  module _ (before : List Marked) (l : ConnectionLedger) (h : Forwarded before l) (place : Place s F u kind before l) (m : Marked) (c : Comes s F u kind before l m) where
    bind : is_bind l.state ≡ true
    bind = ap (is_kind BindKind) place.is_bind_one

    -- a Forward that is taken is of a Bind
    bind_one : (t : Taken) (op holder : OpName) (sort : OpKind) (rest : List ℕ) (ask : Bool) → m.mark ≡ Some t → t.letter ≡ Forward op sort rest ask holder → passes (is_of Bind) (operation F op) ≡ true
    bind_one t op holder sort rest ask z i = by (operation F op) (subst (λ x. is_told_rightly s F x ≡ true) i (subst (λ o. where_there (λ y. is_told_rightly s F y.letter) o ≡ true) z c.told))
      where
        by : (o : Option Operation) → passes (λ y. is_of Bind y && agrees ask (asks_who s y)) o ≡ true → passes (is_of Bind) o ≡ true
        by None k = k
        by (Some o) k = left (is_of Bind o) _ k

    more : (t : Taken → Bool) → list_any t l.taken ≡ true → list_any t (with_mark m.mark l.taken) ≡ true
    more = mark_more m.mark l.taken

    -- one for a holder is its own, or its own was taken before
    served_next : (n : OpName) → was_held n (with_mark m.mark l.taken) ≡ true → was_given n (with_mark m.mark l.taken) ≡ true
    served_next n k = by m.mark refl k
      where
        new : (t : Taken) (x : Letter) → t.letter ≡ x → fits_connection s l t.sender x ≡ true → is_forward_for n x ≡ true → was_given n (l.taken ++ t ∷ []) ≡ true
        new t (Forward op sort rest ask holder) i f j =
            or_elim (same_op op holder || passes (same_op holder) l.state.holder) (passes (same_op holder) l.state.lost)
            (λ q. or_elim (same_op op holder) (passes (same_op holder) l.state.holder) own (λ v. old (or_left (passes (same_op holder) l.state.holder) _ v)) q)
            (λ q. old (or_right (passes (same_op holder) l.state.holder) _ q)) free
          where
            same : n ≡ holder
            same = same_op_eq n holder j

            free : is_held_for l.state op holder ≡ true
            free = right (is_free_for l.state holder) _ (sym (ap (λ b. not b || is_free_for l.state holder && is_held_for l.state op holder) bind) ∙ right (same_part t.sender (Client op.client) && same_part t.sender (Client holder.client) && not (list_any (λ y. is_forward_of op y.letter) l.taken) && l.state.up && is_of_its_kind s l.state sort rest ask) _ f)

            own : same_op op holder ≡ true → was_given n (l.taken ++ t ∷ []) ≡ true
            own q = any_behind (λ y. is_forward_of n y.letter) l.taken (t ∷ []) (or_left (is_forward_of n t.letter) false (ap (is_forward_of n) i ∙ ap (λ o. same_op o op) same ∙ ap (same_op holder) (same_op_eq op holder q) ∙ same_op_refl holder))

            old : is_holder holder l.state ≡ true → was_given n (l.taken ++ t ∷ []) ≡ true
            old q = mark_more (Some t) l.taken (λ y. is_forward_of n y.letter) (subst (λ o. was_given o l.taken ≡ true) (sym same) (h.held holder q))
        new t _ i f j = absurd (let bad : false ≡ true = j in cc)

        by : (o : Option Taken) → m.mark ≡ o → was_held n (with_mark o l.taken) ≡ true → was_given n (with_mark o l.taken) ≡ true
        by None e j = h.served n j
        by (Some t) e j = any_split (λ y. is_forward_for n y.letter) l.taken (t ∷ []) (λ q. mark_more (Some t) l.taken (λ y. is_forward_of n y.letter) (h.served n q)) (λ q. new t t.letter refl (c.fit t e) (or_elim (is_forward_for n t.letter) false (λ v. v) (λ v. absurd (let bad : false ≡ true = v in cc)) q)) j

    -- who holds it behind an entry
    held_next : (w : What) → m.entry.what ≡ w → (n : OpName) → is_holder n (connection_behind s m.entry m.mark l.state w) ≡ true → was_given n (with_mark m.mark l.taken) ≡ true
    held_next (what.Got id rest) e n k = by (frees_holder l.state (record { id = id; rest = rest })) k
      where
        by : (b : Bool) → (passes (same_op n) (if b then None else l.state.holder) || passes (same_op n) l.state.lost) ≡ true → was_given n (with_mark m.mark l.taken) ≡ true
        by true j = more (λ y. is_forward_of n y.letter) (h.held n (or_right (passes (same_op n) l.state.holder) _ j))
        by false j = more (λ y. is_forward_of n y.letter) (h.held n j)
    held_next (what.Sent id op rest) e n k = by m.mark refl k
      where
        kept : was_given n l.taken ≡ true → was_given n (with_mark m.mark l.taken) ≡ true
        kept = more (λ y. is_forward_of n y.letter)

        sent : (t : Taken) → m.mark ≡ Some t → (x : Letter) → t.letter ≡ x → (passes (same_op n) (holder_sent l.state x) || passes (same_op n) l.state.lost) ≡ true → was_given n (with_mark m.mark l.taken) ≡ true
        sent t z (Forward q sort body ask holder) i j =
            or_elim (same_op n holder) (passes (same_op n) l.state.lost)
            (λ v. served_next n (subst (λ o. was_held n (with_mark o l.taken) ≡ true) (sym z) (any_behind (λ y. is_forward_for n y.letter) l.taken (t ∷ []) (or_left (is_forward_for n t.letter) false (ap (is_forward_for n) i ∙ v)))))
            (λ v. kept (h.held n (or_right (passes (same_op n) l.state.holder) _ v)))
            (sym (ap (λ b. passes (same_op n) (if b then Some holder else None) || passes (same_op n) l.state.lost) bind) ∙ j)
        sent t z _ i j = kept (h.held n j)

        by : (o : Option Taken) → m.mark ≡ o → (passes (same_op n) (elim o [ None ↦ l.state.holder | Some t ↦ holder_sent l.state t.letter ]) || passes (same_op n) l.state.lost) ≡ true → was_given n (with_mark m.mark l.taken) ≡ true
        by None z j = kept (h.held n j)
        by (Some t) z j = sent t z t.letter refl j
    held_next (what.Missed op) e n k = more (λ y. is_forward_of n y.letter) (h.held n (or_right (passes (same_op n) l.state.holder) _ k))
    held_next (what.Down why) e n k = more (λ y. is_forward_of n y.letter) (h.held n (or_left (passes (same_op n) l.state.holder) _ k))
    held_next what.Linked e n k = more (λ y. is_forward_of n y.letter) (h.held n k)
    held_next w e n k = more (λ y. is_forward_of n y.letter) (h.held n k)

    pub forwarded_next : Forwarded (before ++ m ∷ []) (step_connection_ledger s l m)
    forwarded_next =
        record {
          placed = subst (λ p. are_placed F (is_of Bind) p (with_mark m.mark l.taken) ≡ true) (sym (push_entry before m)) (placed_next F (is_of Bind) (entries before) l.state l.taken m c.marked h.placed bind_one);
          held = held_next m.entry.what refl;
          served = served_next;
        }

    -- An Idle: its Leave came.
    of_idle : {C : Type 0} (op : OpName) → m.entry.what ≡ what.Idle op → ((t : Taken) → m.mark ≡ Some t → t.letter ≡ Leave op → C) → C
    of_idle {C} op e f = by m.mark refl (sym (ap (λ w. elim m.mark [ None ↦ not (must_mark_connection l.state w) | Some t ↦ marks_connection l.state w t.letter ]) e) ∙ c.marked)
      where
        letter : (t : Taken) → m.mark ≡ Some t → (x : Letter) → t.letter ≡ x → marks_connection l.state (what.Idle op) x ≡ true → C
        letter t z (Drop o) i j = absurd (let bad : false ≡ true = sym (ap not bind) ∙ left (not (is_bind l.state)) _ (subst (λ x. fits_connection s l t.sender x ≡ true) i (c.fit t z)) in cc)
        letter t z (Leave o) i j = f t z (i ∙ ap Leave (sym (same_op_eq op o (left (same_op op o) _ (left (same_op op o && is_bind l.state) _ j)))))
        letter t z _ i j = absurd (let bad : false ≡ true = j in cc)

        by : (o : Option Taken) → m.mark ≡ o → (elim o [ None ↦ not (must_mark_connection l.state (what.Idle op)) | Some t ↦ marks_connection l.state (what.Idle op) t.letter ]) ≡ true → C
        by None z j = absurd (let bad : false ≡ true = j in cc)
        by (Some t) z j = letter t z t.letter refl j

    left_there : ((n : OpName) → is_mark_from (Client n.client) (is_leave_of n) m.mark ≡ true → is_left_for F u n ≡ true) → (op : OpName) → m.entry.what ≡ what.Idle op → passes (is_left_bind F u (entries before)) (operation F op) ≡ true
    left_there f op e = of_idle op e one
      where
        one : (t : Taken) → m.mark ≡ Some t → t.letter ≡ Leave op → passes (is_left_bind F u (entries before)) (operation F op) ≡ true
        one t z i = found (operation F op) refl (was_placed F (is_of Bind) (entries before) op l.taken h.placed (h.served op (was_taken (is_forward_for op) (is_leave_of op) t.sender l.taken (right (is_bind l.state) _ fits))))
          where
            fits : fits_connection s l t.sender (Leave op) ≡ true
            fits = subst (λ x. fits_connection s l t.sender x ≡ true) i (c.fit t z)

            by_client : is_left_for F u op ≡ true
            by_client = f op (subst (λ o. is_mark_from (Client op.client) (is_leave_of op) o ≡ true) (sym z) (both (same_part (Client op.client) t.sender) _ (sent_leave s F u kind before l place m.entry.part m.entry.at m.mark t op fits) (ap (is_leave_of op) i ∙ same_op_refl op)))

            found : (o : Option Operation) → operation F op ≡ o → (was_forwarded op (entries before) && passes (is_of Bind) o) ≡ true → passes (is_left_bind F u (entries before)) o ≡ true
            found None q k = right (was_forwarded op (entries before)) _ k
            found (Some o) q k = subst (λ (n : OpName). (was_forwarded n (entries before) && is_of Bind o && some_entry (is_live_choice n.client n u) (F.client n.client) && is_left_by F u n.client) ≡ true) (op_named F op o q) (both (was_forwarded op (entries before) && is_of Bind o && some_entry (is_live_choice op.client op u) (F.client op.client)) _ (both (was_forwarded op (entries before) && is_of Bind o) _ k (left (some_entry (is_live_choice op.client op u) (F.client op.client)) _ by_client)) (right (some_entry (is_live_choice op.client op u) (F.client op.client)) _ by_client))

    here : ((n : OpName) → is_mark_from (Client n.client) (is_leave_of n) m.mark ≡ true → is_left_for F u n ≡ true) → is_idle_of_left F u (entries before) m.entry ≡ true
    here f = by m.entry.what refl
      where
        by : (w : What) → m.entry.what ≡ w → is_idle_of_left F u (entries before) m.entry ≡ true
        by (what.Idle op) e = ap (λ w. where_there (λ n. passes (is_left_bind F u (entries before)) (operation F n)) (idle_op w)) e ∙ left_there f op e
        by w e = ap (λ v. where_there (λ n. passes (is_left_bind F u (entries before)) (operation F n)) (idle_op v)) e

  left_so : (ms before : List Marked) (l : ConnectionLedger) → AtPlaces s F u kind before l ms → Forwarded before l → ((n : OpName) → took_leave s F u kind n ms ≡ true → is_left_for F u n ≡ true) → each_split_from (λ place e behind. is_idle_of_left F u place e) (entries before) (entries ms) ≡ true
  left_so [] before l a h f = refl
  left_so (m ∷ ms) before l a h f =
      both (is_idle_of_left F u (entries before) m.entry) _ (here before l h a.0.0 m a.0.1 (λ n k. f n (or_left (is_mark_from (Client n.client) (is_leave_of n) m.mark) _ k)))
      (subst (λ place. each_split_from (λ p e behind. is_idle_of_left F u p e) place (entries ms) ≡ true) (push_entry before m)
      (left_so ms (before ++ m ∷ []) (step_connection_ledger s l m) a.1 (forwarded_next before l h a.0.0 m a.0.1) (λ n k. f n (or_right (is_mark_from (Client n.client) (is_leave_of n) m.mark) _ k))))

pub idles_left : BindConnectionsSay → BindIdlesAreOfLeft
idles_left says s F marked h u kind = subst (λ list. each_split_from (λ place e behind. is_idle_of_left F u place e) [] list ≡ true) (h.joined.shared.same_entries (Connection u)) (left_so s F u kind (marked (Connection u)) [] (empty_connection_ledger s u) (bind_places says s F marked h u kind) nothing (took_left_for s F marked h u))
  where
    nothing : Forwarded s F u kind [] (empty_connection_ledger s u)
    nothing = record { placed = refl; held = λ n k. k; served = λ n k. k }
