-- Each Leave that comes to nothing is the first of its holder, which doesn't hold the connection, nor did when this went down
-- for an unfinished exchange.
use Rattle.std.proofs.Common.{◌≡◌, ◌⊎◌, inl, inr, ℕ, Bool, true, false, ◌&&◌, ◌||◌, not, if◌then◌else◌, List, [], ◌∷◌, ◌++◌, refl, ap, ◌∙◌, sym, subst, append_assoc, Option, Some, None, append-nil}
use Rattle.std.specs.List.{list_any}
use Rattle.lload_names.specs.declared.names.ConnKind.TheVariants.{Bind as BindKind}
use Rattle.lload_names.specs.declared.names.EndWhy.TheVariants.{Unfinished}
use Rattle.lload_names.specs.declared.names.EndWhy.{EndWhy}
use Rattle.lload_names.specs.declared.names.Entry.{Entry}
use Rattle.lload_names.specs.declared.names.Letter.TheVariants.{Drop, Forward, Leave}
use Rattle.lload_names.specs.declared.names.Letter.{Letter}
use Rattle.lload_names.specs.declared.names.OpName.{OpName}
use Rattle.lload_names.specs.declared.names.PartName.TheVariants.{Client, Up as Connection}
use Rattle.lload_names.specs.declared.names.PartName.{PartName}
use Rattle.lload_names.specs.declared.names.What.TheVariants as what
use Rattle.lload_names.specs.declared.names.What.{What}
use Rattle.lload_spec.specs.Entries.{down_why, idle_op, is_down_by, is_sent, same_why}
use Rattle.lload_spec.specs.Journal.{Family, same_op, same_part}
use Rattle.lload_spec.specs.Lists.{each_split_from, passes, some_entry, some_split_from, where_there}
use Rattle.lload_spec.specs.Over.{is_held_since}
use Rattle.lload_spec.specs.Owed.{is_held_by}
use Rattle.lload_spec.specs.Settings.{Settings, is_kind, is_of_kind}
use Rattle.lload_spec.proofs.Growth.{both, left, right}
use Rattle.part_spec.specs.BindTurn.{holds}
use Rattle.part_spec.specs.ConnectionState.{connection_behind, frees_holder, holder_sent, is_bind}
use Rattle.part_spec.specs.Fit.{ConnectionLedger, empty_connection_ledger, fits_connection, is_forward_for, is_forward_of, is_free_for, is_held_for, is_leave_of, is_of_its_kind, step_connection_ledger, with_mark}
use Rattle.part_spec.specs.Laws.{FitIsWhole}
use Rattle.part_spec.specs.Marked.{Marked, Taken, entries, taken_from}
use Rattle.part_spec.specs.Marks.{marks_connection, must_mark_connection}
use Rattle.part_laws.proofs.ListLaws.{any_before, any_behind, any_split, false_by, or_elim, or_left, or_right, same_op_eq, same_op_refl}
use Rattle.connection_laws.proofs.Permits.{push_entry}
use Rattle.joined_laws.proofs.Taken.{is_mark_from}
use Rattle.carried_laws.specs.Laws.{Played}
use Rattle.caused_laws.specs.Laws.{BindConnectionsSay}
use Rattle.upstream_laws.proofs.BindEnds.{Comes}
use Rattle.upstream_laws.proofs.Heads.{Head, Tail}
use Rattle.ended_laws.proofs.RegularEnds.{forward_new}
use Rattle.ended_laws.proofs.RegularTold.{unsent_from}
use Rattle.leave_laws.proofs.Ends.{took_leave}
use Rattle.leave_laws.proofs.Forwarded.{mark_more, was_given, was_taken}
use Rattle.leave_laws.proofs.IdleBind.{is_holder, was_held}
use Rattle.leave_laws.proofs.Places.{AtPlaces, bind_places}
use Rattle.leave_laws.proofs.Unfinished.{Place, sent_leave}
use Rattle.left_laws.proofs.HeldByList.{HeldOrOver, held_is_holder, idle_over, over_holds_nothing}
use Rattle.left_laws.proofs.Statuses.{AtStatus, Standing, bind_statuses}
use Rattle.idle_laws.specs.Laws.{LeavesAreGivenOnce, is_once}
use Rattle.idle_laws.proofs.LeaveOpen.{leaves_open, took_open}
use Rattle.idle_laws.proofs.Once.{once_apart, once_first, once_marked}

-- some entry of a list with one more
some_split : {C : Type 0} (t : List Entry → Entry → Bool) (before L : List Entry) (e : Entry) → (some_split_from (λ b x d. t b x) before L ≡ true → C) → (t (before ++ L) e ≡ true → C) → some_split_from (λ b x d. t b x) before (L ++ e ∷ []) ≡ true → C
some_split t before [] e f g h = g (subst (λ l. t l e ≡ true) (sym (append-nil before)) (or_elim (t before e) false (λ k. k) (λ k. absurd (let bad : false ≡ true = k in cc)) h))
some_split t before (x ∷ L) e f g h = or_elim (t before x) (some_split_from (λ b y d. t b y) (before ++ x ∷ []) (L ++ e ∷ [])) (λ k. f (or_left (t before x) _ k)) (some_split t (before ++ x ∷ []) L e (λ k. f (or_right (t before x) _ k)) (λ k. g (subst (λ l. t l e ≡ true) (append_assoc before (x ∷ []) L) k))) h

-- whether an entry is Idle of this operation
abbrev is_idle_of : OpName → Entry → Bool
is_idle_of n e = passes (same_op n) (idle_op e.what)

module _ (s : Settings) (F : Family) (u : ℕ) (kind : is_of_kind s BindKind u ≡ true) where
  -- whether the connection went down for an unfinished exchange while the operation held it
  abbrev ended_held : OpName → List Entry → Bool
  ended_held n place = some_entry (λ b e. is_down_by Unfinished e && is_held_by s F u b n) place

  -- whether a Leave of the operation may come to nothing here
  abbrev pub is_free : List Entry → OpName → Bool
  is_free place n = not (list_any (is_idle_of n) place) && not (is_held_by s F u place n) && not (ended_held n place) && some_entry (leaves_open n) (F.client n.client)

  abbrev pub is_idle_free : List Entry → Entry → Bool
  is_idle_free place e = where_there (is_free place) (idle_op e.what)

  -- what is known at each place
  record Known (before : List Marked) (l : ConnectionLedger) : Type 0 where
    asked : (n : OpName) → is_holder n l.state ≡ true → was_held n l.taken ≡ true
    idled : (n : OpName) → list_any (is_idle_of n) (entries before) ≡ true → took_leave s F u kind n before ≡ true
    ended : (n : OpName) → ended_held n (entries before) ≡ true → (was_given n l.taken ≡ true) × (was_held n l.taken ≡ true → took_leave s F u kind n before ≡ true)

  module _ (before : List Marked) (l : ConnectionLedger) (k : Known before l) (pl : Place s F u kind before l) (m : Marked) (c : Comes s F u kind before l m) (status : (n : OpName) → HeldOrOver s F u kind n (entries before) l) where
    bind : is_bind l.state ≡ true
    bind = ap (is_kind BindKind) pl.is_bind_one

    -- The Leave that came.
    leave_taken : (n : OpName) (t : Taken) → m.mark ≡ Some t → t.letter ≡ Leave n → is_mark_from (Client n.client) (is_leave_of n) m.mark ≡ true
    leave_taken n t z i = subst (λ o. is_mark_from (Client n.client) (is_leave_of n) o ≡ true) (sym z) (both (same_part (Client n.client) t.sender) _ (sent_leave s F u kind before l pl m.entry.part m.entry.at m.mark t n (subst (λ x. fits_connection s l t.sender x ≡ true) i (c.fit t z))) (ap (is_leave_of n) i ∙ same_op_refl n))

    of_idle : {C : Type 0} (op : OpName) → m.entry.what ≡ what.Idle op → ((t : Taken) → m.mark ≡ Some t → t.letter ≡ Leave op → C) → C
    of_idle {C} op e f = by m.mark refl (sym (ap (λ w. elim m.mark [ None ↦ not (must_mark_connection l.state w) | Some t ↦ marks_connection l.state w t.letter ]) e) ∙ c.marked)
      where
        letter : (t : Taken) → m.mark ≡ Some t → (x : Letter) → t.letter ≡ x → marks_connection l.state (what.Idle op) x ≡ true → C
        letter t z (Drop o) i j = absurd (let bad : false ≡ true = sym (ap not bind) ∙ left (not (is_bind l.state)) _ (subst (λ x. fits_connection s l t.sender x ≡ true) i (c.fit t z)) in cc)
        letter t z (Leave o) i j = f t z (i ∙ ap Leave (sym (same_op_eq op o (left (same_op op o) _ (left (same_op op o && is_bind l.state) _ j)))))
        letter t z _ i j = absurd (let bad : false ≡ true = j in cc)

        by : (o : Option Taken) → m.mark ≡ o → (elim o [ None ↦ not (must_mark_connection l.state (what.Idle op)) | Some t ↦ marks_connection l.state (what.Idle op) t.letter ]) ≡ true → C
        by None z j = absurd (let bad : false ≡ true = j in cc)
        by (Some t) z j = letter t z t.letter refl j

    took_now : (n : OpName) → is_mark_from (Client n.client) (is_leave_of n) m.mark ≡ true → took_leave s F u kind n (before ++ m ∷ []) ≡ true
    took_now n j = any_behind (λ x. is_mark_from (Client n.client) (is_leave_of n) x.mark) before (m ∷ []) (or_left (is_mark_from (Client n.client) (is_leave_of n) m.mark) false j)

    took_old : (n : OpName) → took_leave s F u kind n before ≡ true → took_leave s F u kind n (before ++ m ∷ []) ≡ true
    took_old n j = any_before (λ x. is_mark_from (Client n.client) (is_leave_of n) x.mark) before (m ∷ []) j

    -- The Forward for a holder: it was taken, or comes now.
    held_split : (n : OpName) → was_held n (with_mark m.mark l.taken) ≡ true → (was_held n l.taken ≡ true) ⊎ (passes (λ t. is_forward_for n t.letter) m.mark ≡ true)
    held_split n j = by m.mark j
      where
        by : (o : Option Taken) → was_held n (with_mark o l.taken) ≡ true → (was_held n l.taken ≡ true) ⊎ (passes (λ t. is_forward_for n t.letter) o ≡ true)
        by None q = inl q
        by (Some t) q = any_split (λ x. is_forward_for n x.letter) l.taken (t ∷ []) (λ i. inl i) (λ i. inr (or_elim (is_forward_for n t.letter) false (λ v. v) (λ v. absurd (let bad : false ≡ true = v in cc)) i)) q

    -- where it is the first for this holder, it is its own, and the first
    first_new : (n : OpName) → passes (λ t. is_forward_for n t.letter) m.mark ≡ true → was_held n l.taken ≡ false → was_given n l.taken ≡ false
    first_new n j none = by m.mark refl j
      where
        letter : (t : Taken) (x : Letter) → fits_connection s l t.sender x ≡ true → is_forward_for n x ≡ true → was_given n l.taken ≡ false
        letter t (Forward op sort rest ask holder) f i =
            or_elim (same_op op holder || passes (same_op holder) l.state.holder) (passes (same_op holder) l.state.lost)
            (λ q. or_elim (same_op op holder) (passes (same_op holder) l.state.holder) own (λ v. held (or_left (passes (same_op holder) l.state.holder) _ v)) q)
            (λ q. held (or_right (passes (same_op holder) l.state.holder) _ q)) free
          where
            same : n ≡ holder
            same = same_op_eq n holder i

            free : is_held_for l.state op holder ≡ true
            free = right (is_free_for l.state holder) _ (sym (ap (λ b. not b || is_free_for l.state holder && is_held_for l.state op holder) bind) ∙ right (same_part t.sender (Client op.client) && same_part t.sender (Client holder.client) && not (list_any (λ y. is_forward_of op y.letter) l.taken) && l.state.up && is_of_its_kind s l.state sort rest ask) _ f)

            own : same_op op holder ≡ true → was_given n l.taken ≡ false
            own q = ap (λ v. list_any (λ y. is_forward_of v y.letter) l.taken) (same ∙ sym (same_op_eq op holder q)) ∙ forward_new s l t.sender op sort rest ask holder f

            held : is_holder holder l.state ≡ true → was_given n l.taken ≡ false
            held q = absurd (let bad : false ≡ true = sym none ∙ subst (λ v. was_held v l.taken ≡ true) (sym same) (k.asked holder q) in cc)
        letter t _ f i = absurd (let bad : false ≡ true = i in cc)

        by : (o : Option Taken) → m.mark ≡ o → passes (λ t. is_forward_for n t.letter) o ≡ true → was_given n l.taken ≡ false
        by None z i = absurd (let bad : false ≡ true = i in cc)
        by (Some t) z i = letter t t.letter (c.fit t z) i

    -- who holds it behind the entry
    asked_old : (n : OpName) → is_holder n l.state ≡ true → was_held n (with_mark m.mark l.taken) ≡ true
    asked_old n j = mark_more m.mark l.taken (λ y. is_forward_for n y.letter) (k.asked n j)

    asked_next : (w : What) (n : OpName) → is_holder n (connection_behind s m.entry m.mark l.state w) ≡ true → was_held n (with_mark m.mark l.taken) ≡ true
    asked_next (what.Got id rest) n j = by (frees_holder l.state (record { id = id; rest = rest })) j
      where
        by : (b : Bool) → (passes (same_op n) (if b then None else l.state.holder) || passes (same_op n) l.state.lost) ≡ true → was_held n (with_mark m.mark l.taken) ≡ true
        by true q = asked_old n (or_right (passes (same_op n) l.state.holder) _ q)
        by false q = asked_old n q
    asked_next (what.Sent id op rest) n j = by m.mark refl j
      where
        sent : (t : Taken) → m.mark ≡ Some t → (x : Letter) → t.letter ≡ x → (passes (same_op n) (holder_sent l.state x) || passes (same_op n) l.state.lost) ≡ true → was_held n (with_mark m.mark l.taken) ≡ true
        sent t z (Forward q sort body ask holder) i v =
            or_elim (same_op n holder) (passes (same_op n) l.state.lost)
            (λ y. subst (λ o. was_held n (with_mark o l.taken) ≡ true) (sym z) (any_behind (λ x. is_forward_for n x.letter) l.taken (t ∷ []) (or_left (is_forward_for n t.letter) false (ap (is_forward_for n) i ∙ y))))
            (λ y. asked_old n (or_right (passes (same_op n) l.state.holder) _ y))
            (sym (ap (λ b. passes (same_op n) (if b then Some holder else None) || passes (same_op n) l.state.lost) bind) ∙ v)
        sent t z _ i v = asked_old n v

        by : (o : Option Taken) → m.mark ≡ o → (passes (same_op n) (elim o [ None ↦ l.state.holder | Some t ↦ holder_sent l.state t.letter ]) || passes (same_op n) l.state.lost) ≡ true → was_held n (with_mark m.mark l.taken) ≡ true
        by None z v = asked_old n v
        by (Some t) z v = sent t z t.letter refl v
    asked_next (what.Missed op) n j = asked_old n (or_right (passes (same_op n) l.state.holder) _ j)
    asked_next (what.Down why) n j = asked_old n (or_left (passes (same_op n) l.state.holder) _ j)
    asked_next what.Linked n j = asked_old n j
    asked_next w n j = asked_old n j

    idled_next : (n : OpName) → list_any (is_idle_of n) (entries before ++ m.entry ∷ []) ≡ true → took_leave s F u kind n (before ++ m ∷ []) ≡ true
    idled_next n j = any_split (is_idle_of n) (entries before) (m.entry ∷ []) (λ i. took_old n (k.idled n i)) (λ i. new (or_elim (is_idle_of n m.entry) false (λ v. v) (λ v. absurd (let bad : false ≡ true = v in cc)) i)) j
      where
        new : is_idle_of n m.entry ≡ true → took_leave s F u kind n (before ++ m ∷ []) ≡ true
        new i = by m.entry.what refl i
          where
            by : (w : What) → m.entry.what ≡ w → passes (same_op n) (idle_op w) ≡ true → took_leave s F u kind n (before ++ m ∷ []) ≡ true
            by (what.Idle op) e q = of_idle op e (λ t z v. took_now n (leave_taken n t z (v ∙ ap Leave (sym (same_op_eq n op q)))))
            by _ e q = absurd (let bad : false ≡ true = q in cc)

    -- What held the connection where it goes down for an unfinished exchange is what the Leave names.
    module _ (n : OpName) (is_held : is_held_by s F u (entries before) n ≡ true) where
      abbrev Took : Type 0
      Took = (was_given n (with_mark m.mark l.taken) ≡ true) × (was_held n (with_mark m.mark l.taken) ≡ true → took_leave s F u kind n (before ++ m ∷ []) ≡ true)

      sent : list_any (is_sent n) (entries before) ≡ true
      sent = by (list_any (is_sent n) (entries before)) refl
        where
          by : (b : Bool) → list_any (is_sent n) (entries before) ≡ b → b ≡ true
          by true e = refl
          by false e = absurd (let bad : false ≡ true = sym (ap (is_held_since s F) (unsent_from u (entries before) n e)) ∙ is_held in cc)

      head_of : (t : Taken) → m.mark ≡ Some t → Head s F u before l ⊎ Tail m → Head s F u before l
      head_of t z (inl a) = a
      head_of t z (inr a) = absurd (let bad : Some t ≡ None = sym z ∙ a.unmarked in cc)

      took : (t : Taken) → m.mark ≡ Some t → (o : OpName) → t.letter ≡ Leave o → holds l.state o ≡ true → Took
      took t z o i named = (
        mark_more m.mark l.taken (λ y. is_forward_of n y.letter) ((head_of t z c.begun).knows.keeps.keeps.stands.sent n sent),
        λ j. by (held_split n j),
      )
        where
          by : (was_held n l.taken ≡ true) ⊎ (passes (λ x. is_forward_for n x.letter) m.mark ≡ true) → took_leave s F u kind n (before ++ m ∷ []) ≡ true
          by (inl q) =
              let holder : l.state.holder ≡ Some n = held_is_holder s F u kind n (entries before) l (status n) q is_held in
              took_now n (leave_taken n t z (i ∙ ap Leave (same_op_eq o n (sym (ap (passes (same_op o)) holder) ∙ named))))
          by (inr q) = absurd (let bad : false ≡ true = ap (is_forward_for n) (sym i) ∙ sym (ap (passes (λ x. is_forward_for n x.letter)) z) ∙ q in cc)

      went_down : is_down_by Unfinished m.entry ≡ true → Took
      went_down d = by m.entry.what refl d
        where
          letter : (why : EndWhy) (t : Taken) → m.mark ≡ Some t → (x : Letter) → t.letter ≡ x → marks_connection l.state (what.Down why) x ≡ true → Took
          letter why t z (Leave o) i q = took t z o i (right (same_why why Unfinished && is_bind l.state) _ (left (same_why why Unfinished && is_bind l.state && holds l.state o) _ q))
          letter why t z _ i q = absurd (let bad : false ≡ true = q in cc)

          marked : (why : EndWhy) (o : Option Taken) → m.mark ≡ o → same_why why Unfinished ≡ true → (elim o [ None ↦ not (must_mark_connection l.state (what.Down why)) | Some t ↦ marks_connection l.state (what.Down why) t.letter ]) ≡ true → Took
          marked why None z y q = absurd (let bad : false ≡ true = sym (ap not y) ∙ q in cc)
          marked why (Some t) z y q = letter why t z t.letter refl q

          unfinished : (why : EndWhy) → same_why Unfinished why ≡ true → same_why why Unfinished ≡ true
          unfinished Unfinished y = refl
          unfinished _ y = absurd (let bad : false ≡ true = y in cc)

          by : (w : What) → m.entry.what ≡ w → passes (same_why Unfinished) (down_why w) ≡ true → Took
          by (what.Down why) e y = marked why m.mark refl (unfinished why y) (sym (ap (λ w. elim m.mark [ None ↦ not (must_mark_connection l.state w) | Some t ↦ marks_connection l.state w t.letter ]) e) ∙ c.marked)
          by _ e y = absurd (let bad : false ≡ true = y in cc)

    ended_next : (n : OpName) → ended_held n (entries before ++ m.entry ∷ []) ≡ true → (was_given n (with_mark m.mark l.taken) ≡ true) × (was_held n (with_mark m.mark l.taken) ≡ true → took_leave s F u kind n (before ++ m ∷ []) ≡ true)
    ended_next n j = some_split (λ b e. is_down_by Unfinished e && is_held_by s F u b n) [] (entries before) m.entry old (λ i. went_down n (right (is_down_by Unfinished m.entry) _ i) (left (is_down_by Unfinished m.entry) _ i)) j
      where
        old : ended_held n (entries before) ≡ true → (was_given n (with_mark m.mark l.taken) ≡ true) × (was_held n (with_mark m.mark l.taken) ≡ true → took_leave s F u kind n (before ++ m ∷ []) ≡ true)
        old i = (mark_more m.mark l.taken (λ y. is_forward_of n y.letter) (k.ended n i).0, λ q. by (was_held n l.taken) refl (held_split n q))
          where
            by : (b : Bool) → was_held n l.taken ≡ b → (was_held n l.taken ≡ true) ⊎ (passes (λ t. is_forward_for n t.letter) m.mark ≡ true) → took_leave s F u kind n (before ++ m ∷ []) ≡ true
            by b e (inl q) = took_old n ((k.ended n i).1 q)
            by true e (inr q) = took_old n ((k.ended n i).1 e)
            by false e (inr q) = absurd (let bad : false ≡ true = sym (first_new n q e) ∙ (k.ended n i).0 in cc)

    known_next : Known (before ++ m ∷ []) (step_connection_ledger s l m)
    known_next =
        record {
          asked = asked_next m.entry.what;
          idled = λ n j. idled_next n (subst (λ b. list_any (is_idle_of n) b ≡ true) (push_entry before m) j);
          ended = λ n j. ended_next n (subst (λ b. ended_held n b ≡ true) (push_entry before m) j);
        }

    -- So a Leave that comes to nothing is the first.
    free_here : ((n : OpName) → Standing s F u kind n before l m) → ((n : OpName) → is_mark_from (Client n.client) (is_leave_of n) m.mark ≡ true → took_leave s F u kind n before ≡ false) → ((n : OpName) → is_mark_from (Client n.client) (is_leave_of n) m.mark ≡ true → some_entry (leaves_open n) (F.client n.client) ≡ true) → is_idle_free (entries before) m.entry ≡ true
    free_here stands once left_open = by m.entry.what refl
      where
        free : (op : OpName) → m.entry.what ≡ what.Idle op → (t : Taken) → m.mark ≡ Some t → t.letter ≡ Leave op → is_free (entries before) op ≡ true
        free op e t z i =
            both (not (list_any (is_idle_of op) (entries before)) && not (is_held_by s F u (entries before) op) && not (ended_held op (entries before))) _
            (both (not (list_any (is_idle_of op) (entries before)) && not (is_held_by s F u (entries before) op)) _
            (both (not (list_any (is_idle_of op) (entries before))) _
            (ap not (false_by (list_any (is_idle_of op) (entries before)) (λ j. sym none ∙ k.idled op j)))
            (ap not unheld))
            (ap not (false_by (ended_held op (entries before)) (λ j. sym none ∙ (k.ended op j).1 was_asked))))
            (left_open op (leave_taken op t z i))
          where
            none : took_leave s F u kind op before ≡ false
            none = once op (leave_taken op t z i)

            was_asked : was_held op l.taken ≡ true
            was_asked = was_taken (is_forward_for op) (is_leave_of op) t.sender l.taken (right (is_bind l.state) _ (subst (λ x. fits_connection s l t.sender x ≡ true) i (c.fit t z)))

            unheld : is_held_by s F u (entries before) op ≡ false
            unheld =
                over_holds_nothing s F u (entries before) op
                (idle_over s F u kind op before l (stands op).here pl (stands op).held m.entry.part m.entry.at m.mark op
                (subst (λ w. Comes s F u kind before l (record { entry = record { part = m.entry.part; at = m.entry.at; what = w }; mark = m.mark })) e c) (status op)
                (ap (passes (λ x. is_leave_of op x.letter)) z ∙ ap (is_leave_of op) i ∙ same_op_refl op))

        by : (w : What) → m.entry.what ≡ w → is_idle_free (entries before) m.entry ≡ true
        by (what.Idle op) e = ap (λ w. where_there (is_free (entries before)) (idle_op w)) e ∙ of_idle op e (free op e)
        by w e = ap (λ v. where_there (is_free (entries before)) (idle_op v)) e

  free_from : (ms before : List Marked) (l : ConnectionLedger) → AtPlaces s F u kind before l ms → ((n : OpName) → AtStatus s F u kind n before l ms) → Known before l → ((n : OpName) → is_once (λ m. is_mark_from (Client n.client) (is_leave_of n) m.mark) (before ++ ms) ≡ true) → ((n : OpName) → took_leave s F u kind n ms ≡ true → some_entry (leaves_open n) (F.client n.client) ≡ true) → each_split_from (λ b e behind. is_idle_free b e) (entries before) (entries ms) ≡ true
  free_from [] before l a b k once f = refl
  free_from (m ∷ ms) before l a b k once f =
      both (is_idle_free (entries before) m.entry) _
      (free_here before l k a.0.0 m a.0.1 (λ n. (b n).0.status) (λ n. (b n).0) (λ n j. false_by (took_leave s F u kind n before) (λ q. sym (once_apart (λ x. is_mark_from (Client n.client) (is_leave_of n) x.mark) before (m ∷ ms) (once n) q) ∙ or_left (is_mark_from (Client n.client) (is_leave_of n) m.mark) _ j)) (λ n j. f n (or_left (is_mark_from (Client n.client) (is_leave_of n) m.mark) _ j)))
      (subst (λ place. each_split_from (λ b e behind. is_idle_free b e) place (entries ms) ≡ true) (push_entry before m)
      (free_from ms (before ++ m ∷ []) (step_connection_ledger s l m) a.1 (λ n. (b n).1) (known_next before l k a.0.0 m a.0.1 (λ n. (b n).0.status))
      (λ n. subst (λ xs. is_once (λ x. is_mark_from (Client n.client) (is_leave_of n) x.mark) xs ≡ true) (sym (append_assoc before (m ∷ []) ms)) (once n))
      (λ n j. f n (or_right (is_mark_from (Client n.client) (is_leave_of n) m.mark) _ j))))

pub idles_free : FitIsWhole → BindConnectionsSay → LeavesAreGivenOnce → (s : Settings) (F : Family) (marked : PartName → List Marked) → Played s F marked → (u : ℕ) (kind : is_of_kind s BindKind u ≡ true) → each_split_from (λ b e behind. is_idle_free s F u kind b e) [] (F.connection u) ≡ true
idles_free fit_whole says given s F marked h u kind = subst (λ list. each_split_from (λ b e behind. is_idle_free s F u kind b e) [] list ≡ true) (h.joined.shared.same_entries (Connection u)) (free_from s F u kind (marked (Connection u)) [] (empty_connection_ledger s u) (bind_places says s F marked h u kind) (λ n. bind_statuses s F u kind n says marked h) nothing once (took_open fit_whole s F marked h u))
  where
    nothing : Known s F u kind [] (empty_connection_ledger s u)
    nothing = record { asked = λ n j. j; idled = λ n j. j; ended = λ n j. absurd (let bad : false ≡ true = j in cc) }

    once : (n : OpName) → is_once (λ m. is_mark_from (Client n.client) (is_leave_of n) m.mark) (marked (Connection u)) ≡ true
    once n =
        let begins = h.joined.linked.in_order (Client n.client) (Connection u) in
        once_marked (Client n.client) (is_leave_of n) (marked (Connection u)) (once_first (is_leave_of n) (taken_from (Client n.client) (marked (Connection u))) begins.0 (subst (λ xs. is_once (is_leave_of n) xs ≡ true) begins.1 (given s F marked h u n)))
