-- On a regular connection each Idle is of a Drop that was given, and finds nothing to end.
use Rattle.std.proofs.Common.{◌≡◌, ℕ, Bool, true, false, ◌==◌, ◌&&◌, ◌||◌, not, List, [], ◌∷◌, ◌++◌, refl, ap, ◌∙◌, sym, subst}
use Rattle.std.specs.Prelude.{Option, Some, None, cond, filter, find, if◌then◌else◌, is_none}
use Rattle.std.specs.List.{list_any}
use Rattle.std.proofs.lemmas.List.{append-nil}
use Rattle.std.proofs.lemmas.List.Elements.{filter-append}
use Rattle.ldap_spec.specs.Kinds.{kind_of, same_kind}
use Rattle.lload_names.specs.declared.names.ConnKind.TheVariants.{Bind as BindKind}
use Rattle.lload_names.specs.declared.names.Entry.{Entry}
use Rattle.lload_names.specs.declared.names.Letter.{Letter}
use Rattle.lload_names.specs.declared.names.Letter.TheVariants.{Drop, Forward, Leave}
use Rattle.lload_names.specs.declared.names.OpKind.{OpKind}
use Rattle.lload_names.specs.declared.names.OpKind.TheVariants.{Bind}
use Rattle.lload_names.specs.declared.names.OpName.{OpName}
use Rattle.lload_names.specs.declared.names.PartName.{PartName}
use Rattle.lload_names.specs.declared.names.PartName.TheVariants.{Client}
use Rattle.lload_names.specs.declared.names.What.{What}
use Rattle.lload_names.specs.declared.names.What.TheVariants as what
use Rattle.lload_spec.specs.Answers.{Sending, is_open, of_operation, sendings}
use Rattle.lload_spec.specs.Entries.{idle_op}
use Rattle.lload_spec.specs.Journal.{Family, same_op, same_part}
use Rattle.lload_spec.specs.Lists.{agrees, each_split_from, last, passes, where_there}
use Rattle.lload_spec.specs.Operations.{Operation, is_ended_by_client, is_of, operation}
use Rattle.lload_spec.specs.Owed.{is_open_at, was_forwarded}
use Rattle.lload_spec.specs.Settings.{Settings, is_kind}
use Rattle.lload_spec.proofs.Growth.{left, right, both}
use Rattle.part_laws.proofs.ListLaws.{any_behind, any_split, eqb_same, false_by, last_push, not_both, not_true, or_elim, or_left, or_right, same_number, same_op_eq, same_op_refl}
use Rattle.part_spec.specs.ConnectionState.{is_bind, row_named, step_connection}
use Rattle.part_spec.specs.Fit.{ConnectionLedger, are_fit_from, fits_connection, is_drop_of, is_forward_of, is_of_its_kind, is_taken_last, is_unfit, step_connection_ledger, with_mark}
use Rattle.part_spec.specs.Marked.{Marked, Taken, entries}
use Rattle.part_spec.specs.Marks.{each_from, has_connection_mark, marks_connection, must_mark_connection}
use Rattle.part_spec.specs.Share.{drops, has_letter}
use Rattle.carried_laws.specs.Laws.{are_forwards_right, is_forward_right, says_rightly}
use Rattle.carried_laws.proofs.RegularReplies.{kind_serves}
use Rattle.forward_laws.proofs.Causes.{kind_eq}
use Rattle.connection_laws.proofs.Permits.{push_entry}
use Rattle.joined_laws.proofs.Taken.{is_fit_there}
use Rattle.client_answer_laws.proofs.Each.{Each}
use Rattle.rows_laws.proofs.Known.{AtEach, Known}
use Rattle.rows_laws.proofs.Live.{Live}
use Rattle.rows_laws.proofs.Lives.{is_open_in}
use Rattle.rows_laws.proofs.Somewhere.{OneIn, one_passes}
use Rattle.rows_laws.proofs.Steps.{op_named}
use Rattle.leave_laws.specs.Laws.{has_nothing_to_end, is_idle_for_nothing}
use Rattle.leave_laws.proofs.DropsTaken.{are_own, drop_sender, own_next}
use Rattle.leave_laws.proofs.Forwarded.{are_placed, mark_more, placed_next, was_given, was_placed, was_taken}

-- whether a Drop of this operation was taken
abbrev pub is_dropped : OpName → List Taken → Bool
is_dropped op taken = list_any (λ t. is_drop_of op t.letter) taken

-- whether an operation is no Bind
abbrev pub is_unbound : Operation → Bool
is_unbound o = not (is_of Bind o)

none_found : {A : Type 0} (t : A → Bool) (xs : List A) → is_none (find t xs) ≡ true → list_any t xs ≡ true → false ≡ true
none_found t [] h k = k
none_found t (x ∷ xs) h k = by (t x) h k (none_found t xs)
  where
    by : (b : Bool) → is_none (cond b (Some x) (find t xs)) ≡ true → (b || list_any t xs) ≡ true → (is_none (find t xs) ≡ true → list_any t xs ≡ true → false ≡ true) → false ≡ true
    by true i j f = i
    by false i j f = f i j

same_of : (q r : PartName) (c : ℕ) → same_part (Client c) q ≡ true → same_part (Client c) r ≡ true → same_part q r ≡ true
same_of (Client a) (Client b) c h k = subst (λ n. (a == n) ≡ true) (sym (same_number c a h) ∙ same_number c b k) (eqb_same a)
same_of _ (Client b) c h k = absurd (let bad : false ≡ true = h in cc)
same_of _ _ c h k = absurd (let bad : false ≡ true = k in cc)

module _ (s : Settings) (F : Family) (u : ℕ) where
  pub record Idles (before : List Marked) (l : ConnectionLedger) : Type 0 where
    pub own : are_own l.taken ≡ true
    pub placed : are_placed F is_unbound (entries before) l.taken ≡ true
    pub idle : (op : OpName) → list_any (λ e. passes (same_op op) (idle_op e.what)) (entries before) ≡ true → is_dropped op l.taken ≡ true
    pub given : (op : OpName) → is_dropped op l.taken ≡ true → was_given op l.taken ≡ true
    pub ends : (op : OpName) → is_dropped op l.taken ≡ true → (q : PartName) → same_part (Client op.client) q ≡ true → is_taken_last (is_forward_of op) (is_drop_of op) q l.taken ≡ false

  -- the last of those that pass, with one more
  last_more : (t : Taken → Bool) (xs : List Taken) (x : Taken) → last (filter t (xs ++ x ∷ [])) ≡ (if t x then Some x else last (filter t xs))
  last_more t xs x = ap last (filter-append t xs (x ∷ [])) ∙ by (t x)
    where
      by : (b : Bool) → last (filter t xs ++ cond b (x ∷ []) []) ≡ (if b then Some x else last (filter t xs))
      by true = last_push (filter t xs) x
      by false = ap last (append-nil (filter t xs))

  module _ (before : List Marked) (l : ConnectionLedger) (known : Known s F u before l) (h : Idles before l) (m : Marked) (marks : has_connection_mark l.state m ≡ true) (fit : (t : Taken) → m.mark ≡ Some t → fits_connection s l t.sender t.letter ≡ true) (told : where_there (λ t. is_forward_right s F t.letter) m.mark ≡ true) where
    regular : is_bind l.state ≡ false
    regular = ap (is_kind BindKind) known.kind

    abbrev later : List Entry
    later = entries before ++ m.entry ∷ []

    -- a Forward that is taken is of no Bind
    unbound_one : (t : Taken) (op holder : OpName) (sort : OpKind) (rest : List ℕ) (ask : Bool) → m.mark ≡ Some t → t.letter ≡ Forward op sort rest ask holder → passes is_unbound (operation F op) ≡ true
    unbound_one t op holder sort rest ask z i =
        unbound (operation F op) (subst (λ x. is_forward_right s F x ≡ true) i (subst (λ o. where_there (λ y. is_forward_right s F y.letter) o ≡ true) z told))
      where
        fits : fits_connection s l t.sender (Forward op sort rest ask holder) ≡ true
        fits = subst (λ x. fits_connection s l t.sender x ≡ true) i (fit t z)

        no_bind : same_kind Bind sort ≡ false
        no_bind = of (same_kind Bind sort) (ap (agrees (same_kind Bind sort)) (sym regular) ∙ kind_serves s F l t.sender op holder sort rest ask fits)
          where
            of : (b : Bool) → agrees b false ≡ true → b ≡ false
            of true j = absurd (let bad : false ≡ true = j in cc)
            of false j = refl

        unbound : (o : Option Operation) → passes (says_rightly s ask sort) o ≡ true → passes (λ y. not (is_of Bind y)) o ≡ true
        unbound None j = j
        unbound (Some o) j = ap not (one (kind_of o.request.rest) (left (passes (same_kind sort) (kind_of o.request.rest)) _ j))
          where
            one : (q : Option OpKind) → passes (same_kind sort) q ≡ true → passes (same_kind Bind) q ≡ false
            one None i = refl
            one (Some v) i = ap (same_kind Bind) (sym (kind_eq sort v i)) ∙ no_bind

    -- what was taken stays so
    more : (t : Taken → Bool) → list_any t l.taken ≡ true → list_any t (with_mark m.mark l.taken) ≡ true
    more = mark_more m.mark l.taken

    -- the Drop of an Idle
    of_idle : {C : Type 0} (op : OpName) → m.entry.what ≡ what.Idle op → ((t : Taken) → m.mark ≡ Some t → t.letter ≡ Drop op → is_none (row_named l.state op) ≡ true → C) → C
    of_idle {C} op e f = by m.mark refl (sym (ap (λ w. elim m.mark [ None ↦ not (must_mark_connection l.state w) | Some t ↦ marks_connection l.state w t.letter ]) e) ∙ marks)
      where
        letter : (t : Taken) → m.mark ≡ Some t → (x : Letter) → t.letter ≡ x → marks_connection l.state (what.Idle op) x ≡ true → C
        letter t z (Drop o) i j = let same : op ≡ o = same_op_eq op o (left (same_op op o) _ j) in f t z (i ∙ ap Drop (sym same)) (ap (λ n. is_none (row_named l.state n)) same ∙ right (same_op op o) _ j)
        letter t z (Leave o) i j = absurd (let bad : false ≡ true = sym regular ∙ right (same_op op o) _ (left (same_op op o && is_bind l.state) _ j) in cc)
        letter t z _ i j = absurd (let bad : false ≡ true = j in cc)

        by : (o : Option Taken) → m.mark ≡ o → (elim o [ None ↦ not (must_mark_connection l.state (what.Idle op)) | Some t ↦ marks_connection l.state (what.Idle op) t.letter ]) ≡ true → C
        by None z j = absurd (let bad : false ≡ true = j in cc)
        by (Some t) z j = letter t z t.letter refl j

    idle_next : (op : OpName) → list_any (λ e. passes (same_op op) (idle_op e.what)) (entries before ++ m.entry ∷ []) ≡ true → is_dropped op (with_mark m.mark l.taken) ≡ true
    idle_next op k = any_split (λ e. passes (same_op op) (idle_op e.what)) (entries before) (m.entry ∷ []) (λ j. more (λ t. is_drop_of op t.letter) (h.idle op j)) (λ j. new m.entry.what refl (or_elim (passes (same_op op) (idle_op m.entry.what)) false (λ i. i) (λ i. absurd (let bad : false ≡ true = i in cc)) j)) k
      where
        new : (w : What) → m.entry.what ≡ w → passes (same_op op) (idle_op w) ≡ true → is_dropped op (with_mark m.mark l.taken) ≡ true
        new (what.Idle o) e j = of_idle o e (λ t z i n. subst (λ q. is_dropped op (with_mark q l.taken) ≡ true) (sym z) (any_behind (λ x. is_drop_of op x.letter) l.taken (t ∷ []) (or_left (is_drop_of op t.letter) false (ap (is_drop_of op) i ∙ j))))
        new _ e j = absurd (let bad : false ≡ true = j in cc)

    given_next : (op : OpName) → is_dropped op (with_mark m.mark l.taken) ≡ true → was_given op (with_mark m.mark l.taken) ≡ true
    given_next op k = more (λ t. is_forward_of op t.letter) (by m.mark refl k)
      where
        new : (t : Taken) (x : Letter) → fits_connection s l t.sender x ≡ true → is_drop_of op x ≡ true → was_given op l.taken ≡ true
        new t (Drop o) f j = subst (λ n. was_given n l.taken ≡ true) (sym (same_op_eq op o j)) (was_taken (is_forward_of o) (is_drop_of o) t.sender l.taken (right (not (is_bind l.state)) _ f))
        new t _ f j = absurd (let bad : false ≡ true = j in cc)

        by : (o : Option Taken) → m.mark ≡ o → is_dropped op (with_mark o l.taken) ≡ true → was_given op l.taken ≡ true
        by None e j = h.given op j
        by (Some t) e j = any_split (λ x. is_drop_of op x.letter) l.taken (t ∷ []) (h.given op) (λ i. new t t.letter (fit t e) (or_elim (is_drop_of op t.letter) false (λ q. q) (λ q. absurd (let bad : false ≡ true = q in cc)) i)) j

    ends_next : (op : OpName) → is_dropped op (with_mark m.mark l.taken) ≡ true → (q : PartName) → same_part (Client op.client) q ≡ true → is_taken_last (is_forward_of op) (is_drop_of op) q (with_mark m.mark l.taken) ≡ false
    ends_next op k q own = by m.mark refl k
      where
        before_it : (t : Taken) → is_drop_of op t.letter ≡ false → is_dropped op (l.taken ++ t ∷ []) ≡ true → is_dropped op l.taken ≡ true
        before_it t n j = any_split (λ x. is_drop_of op x.letter) l.taken (t ∷ []) (λ i. i) (λ i. absurd (let bad : false ≡ true = sym (ap (λ b. b || false) n) ∙ i in cc)) j

        put : (t : Taken) (b : Bool) (o : Option Taken) → passes (λ x. is_forward_of op x.letter) (if b then Some t else o) ≡ (if b then is_forward_of op t.letter else passes (λ x. is_forward_of op x.letter) o)
        put t true o = refl
        put t false o = refl

        one : (t : Taken) → m.mark ≡ Some t → (x : Letter) → t.letter ≡ x → is_dropped op (l.taken ++ t ∷ []) ≡ true → (if same_part q t.sender && (is_forward_of op x || is_drop_of op x) then is_forward_of op x else is_taken_last (is_forward_of op) (is_drop_of op) q l.taken) ≡ false
        one t e (Forward o sort rest ask holder) z j = of (same_op op o) refl
          where
            was : is_dropped op l.taken ≡ true
            was = before_it t (ap (is_drop_of op) z) j

            fresh : same_op op o ≡ true → was_given op l.taken ≡ false
            fresh i =
                let f : fits_connection s l t.sender (Forward o sort rest ask holder) ≡ true = subst (λ y. fits_connection s l t.sender y ≡ true) z (fit t e) in
                let first : (same_part t.sender (Client o.client) && same_part t.sender (Client holder.client) && not (was_given o l.taken)) ≡ true = left (same_part t.sender (Client o.client) && same_part t.sender (Client holder.client) && not (was_given o l.taken)) _ (left (same_part t.sender (Client o.client) && same_part t.sender (Client holder.client) && not (was_given o l.taken) && l.state.up) _ (left (same_part t.sender (Client o.client) && same_part t.sender (Client holder.client) && not (was_given o l.taken) && l.state.up && is_of_its_kind s l.state sort rest ask) _ f)) in
                subst (λ n. was_given n l.taken ≡ false) (sym (same_op_eq op o i)) (not_true (was_given o l.taken) (right (same_part t.sender (Client o.client) && same_part t.sender (Client holder.client)) _ first))

            none : (b : Bool) → (b && (false || false)) ≡ false
            none true = refl
            none false = refl

            of : (b : Bool) → same_op op o ≡ b → (if same_part q t.sender && (same_op op o || false) then same_op op o else is_taken_last (is_forward_of op) (is_drop_of op) q l.taken) ≡ false
            of true i = not_both (was_given op l.taken) (h.given op was) (fresh i)
            of false i = ap (λ b. if same_part q t.sender && (b || false) then b else is_taken_last (is_forward_of op) (is_drop_of op) q l.taken) i ∙ ap (λ b. if b then false else is_taken_last (is_forward_of op) (is_drop_of op) q l.taken) (none (same_part q t.sender)) ∙ h.ends op was q own
        one t e (Drop o) z j = of (same_op op o) refl
          where
            none : (b : Bool) → (b && (false || false)) ≡ false
            none true = refl
            none false = refl

            same : (b : Bool) → (if b then false else false) ≡ false
            same true = refl
            same false = refl

            sender : same_op op o ≡ true → same_part q t.sender ≡ true
            sender i = same_of q t.sender op.client own (subst (λ n. same_part (Client n.client) t.sender ≡ true) (sym (same_op_eq op o i)) (drop_sender s l t o h.own (subst (λ y. fits_connection s l t.sender y ≡ true) z (fit t e))))

            of : (b : Bool) → same_op op o ≡ b → (if same_part q t.sender && (false || same_op op o) then false else is_taken_last (is_forward_of op) (is_drop_of op) q l.taken) ≡ false
            of true i = ap (λ b. if b then false else is_taken_last (is_forward_of op) (is_drop_of op) q l.taken) (both (same_part q t.sender) _ (sender i) i)
            of false i = ap (λ b. if same_part q t.sender && (false || b) then false else is_taken_last (is_forward_of op) (is_drop_of op) q l.taken) i ∙ ap (λ b. if b then false else is_taken_last (is_forward_of op) (is_drop_of op) q l.taken) (none (same_part q t.sender)) ∙ h.ends op (before_it t (ap (is_drop_of op) z ∙ i) j) q own
        one t e _ z j = ap (λ b. if b then false else is_taken_last (is_forward_of op) (is_drop_of op) q l.taken) (none (same_part q t.sender)) ∙ h.ends op (before_it t (ap (is_drop_of op) z) j) q own
          where
            none : (b : Bool) → (b && (false || false)) ≡ false
            none true = refl
            none false = refl

        by : (o : Option Taken) → m.mark ≡ o → is_dropped op (with_mark o l.taken) ≡ true → is_taken_last (is_forward_of op) (is_drop_of op) q (with_mark o l.taken) ≡ false
        by None e j = h.ends op j q own
        by (Some t) e j = ap (passes (λ x. is_forward_of op x.letter)) (last_more (λ y. same_part q y.sender && (is_forward_of op y.letter || is_drop_of op y.letter)) l.taken t) ∙ put t (same_part q t.sender && (is_forward_of op t.letter || is_drop_of op t.letter)) (last (filter (λ y. same_part q y.sender && (is_forward_of op y.letter || is_drop_of op y.letter)) l.taken)) ∙ one t e t.letter refl j

    pub idles_next : Idles (before ++ m ∷ []) (step_connection_ledger s l m)
    idles_next =
        record {
          own = own_next s l m.mark fit h.own;
          placed = subst (λ p. are_placed F is_unbound p (with_mark m.mark l.taken) ≡ true) (sym (push_entry before m)) (placed_next F is_unbound (entries before) l.state l.taken m marks h.placed unbound_one);
          idle = λ op. subst (λ p. list_any (λ e. passes (same_op op) (idle_op e.what)) p ≡ true → is_dropped op (with_mark m.mark l.taken) ≡ true) (sym (push_entry before m)) (idle_next op);
          given = given_next;
          ends = ends_next;
        }

    -- An Idle.
    not_open : (op : OpName) → is_none (row_named l.state op) ≡ true → is_open_at s F u (entries before) op ≡ false
    not_open op none = all_shut (sendings u (entries before)) known.lives.of_sents
      where
        all_shut : (xs : List Sending) → Each (λ x. is_open_in s F x ≡ true → OneIn (λ r. Live s F r x) l.state.rows) xs → list_any (λ x. same_op op x.op && of_operation F (is_open s) x) xs ≡ false
        all_shut [] e = refl
        all_shut (x ∷ xs) e = ap (λ b. b || list_any (λ y. same_op op y.op && of_operation F (is_open s) y) xs) (false_by (same_op op x.op && of_operation F (is_open s) x) (λ k. none_found (λ r. same_op op r.op) l.state.rows none (one_passes (λ r. Live s F r x) (λ r. same_op op r.op) l.state.rows (λ r live. ap (same_op op) (sym live.op) ∙ left (same_op op x.op) _ k) (e.0 (right (same_op op x.op) _ k))))) ∙ all_shut xs e.1

    -- no Drop of it was taken before
    pub undropped : (op : OpName) → m.entry.what ≡ what.Idle op → is_dropped op l.taken ≡ false
    undropped op e = of_idle op e (λ t z i none. false_by (is_dropped op l.taken) (not_before t z i))
      where
        not_before : (t : Taken) → m.mark ≡ Some t → t.letter ≡ Drop op → is_dropped op l.taken ≡ true → false ≡ true
        not_before t z i k =
            let fits : fits_connection s l t.sender (Drop op) ≡ true = subst (λ y. fits_connection s l t.sender y ≡ true) i (fit t z) in
            sym (h.ends op k t.sender (drop_sender s l t op h.own fits)) ∙ right (not (is_bind l.state)) _ fits

    nothing_to_end : ((op : OpName) → has_letter (drops op) m ≡ true → passes is_ended_by_client (operation F op) ≡ true) → (op : OpName) → m.entry.what ≡ what.Idle op → passes (has_nothing_to_end s F u (entries before)) (operation F op) ≡ true
    nothing_to_end ended op e = of_idle op e (λ t z i none. found t z i none (operation F op) refl (was_placed F is_unbound (entries before) op l.taken h.placed (was_taken (is_forward_of op) (is_drop_of op) t.sender l.taken (last_forward t z i))) (ended op (ap (passes (λ y. drops op y.letter)) z ∙ ap (drops op) i ∙ same_op_refl op)))
      where
        fits : (t : Taken) → m.mark ≡ Some t → t.letter ≡ Drop op → fits_connection s l t.sender (Drop op) ≡ true
        fits t z i = subst (λ y. fits_connection s l t.sender y ≡ true) i (fit t z)

        last_forward : (t : Taken) → m.mark ≡ Some t → t.letter ≡ Drop op → is_taken_last (is_forward_of op) (is_drop_of op) t.sender l.taken ≡ true
        last_forward t z i = right (not (is_bind l.state)) _ (fits t z i)

        -- it is the first
        once : list_any (λ y. passes (same_op op) (idle_op y.what)) (entries before) ≡ false
        once = false_by (list_any (λ y. passes (same_op op) (idle_op y.what)) (entries before)) (λ k. sym (undropped op e) ∙ h.idle op k)

        found : (t : Taken) → m.mark ≡ Some t → t.letter ≡ Drop op → is_none (row_named l.state op) ≡ true → (o : Option Operation) → operation F op ≡ o → (was_forwarded op (entries before) && passes (λ y. not (is_of Bind y)) o) ≡ true → passes is_ended_by_client o ≡ true → passes (has_nothing_to_end s F u (entries before)) o ≡ true
        found t z i none None q a b = absurd (let bad : false ≡ true = b in cc)
        found t z i none (Some o) q a b =
            subst (λ n. (was_forwarded n (entries before) && not (list_any (λ y. passes (same_op n) (idle_op y.what)) (entries before)) && not (is_of Bind o) && is_ended_by_client o && not (is_open_at s F u (entries before) n)) ≡ true) (op_named F op o q)
            (both (was_forwarded op (entries before) && not (list_any (λ y. passes (same_op op) (idle_op y.what)) (entries before)) && not (is_of Bind o) && is_ended_by_client o) _
            (both (was_forwarded op (entries before) && not (list_any (λ y. passes (same_op op) (idle_op y.what)) (entries before)) && not (is_of Bind o)) _
            (both (was_forwarded op (entries before) && not (list_any (λ y. passes (same_op op) (idle_op y.what)) (entries before))) _ (both (was_forwarded op (entries before)) _ (left (was_forwarded op (entries before)) _ a) (ap not once)) (right (was_forwarded op (entries before)) _ a)) b)
            (ap not (not_open op none)))

    here : ((op : OpName) → has_letter (drops op) m ≡ true → passes is_ended_by_client (operation F op) ≡ true) → is_idle_for_nothing s F u (entries before) m.entry ≡ true
    here ended = by m.entry.what refl
      where
        by : (w : What) → m.entry.what ≡ w → is_idle_for_nothing s F u (entries before) m.entry ≡ true
        by (what.Idle op) e = ap (λ w. where_there (λ n. passes (has_nothing_to_end s F u (entries before)) (operation F n)) (idle_op w)) e ∙ nothing_to_end ended op e
        by w e = ap (λ v. where_there (λ n. passes (has_nothing_to_end s F u (entries before)) (operation F n)) (idle_op v)) e

  pub regular_idles : (ms before : List Marked) (l : ConnectionLedger) → AtEach s (Known s F u) before l ms → Idles before l → are_fit_from (fits_connection s) (step_connection_ledger s) l ms ≡ true → each_from (step_connection s) has_connection_mark l.state ms ≡ true → are_forwards_right s F ms ≡ true → ((op : OpName) → list_any (has_letter (drops op)) ms ≡ true → passes is_ended_by_client (operation F op) ≡ true) → each_split_from (λ place e behind. is_idle_for_nothing s F u place e) (entries before) (entries ms) ≡ true
  regular_idles [] before l a h fit marks told ended = refl
  regular_idles (m ∷ ms) before l a h fit marks told ended =
      both (is_idle_for_nothing s F u (entries before) m.entry) _ (here before l a.0 h m (left (has_connection_mark l.state m) _ marks) fits (left (where_there (λ t. is_forward_right s F t.letter) m.mark) _ told) (λ op j. ended op (or_left (has_letter (drops op) m) _ j)))
      (subst (λ place. each_split_from (λ p e behind. is_idle_for_nothing s F u p e) place (entries ms) ≡ true) (push_entry before m) (regular_idles ms (before ++ m ∷ []) (step_connection_ledger s l m) a.1 (idles_next before l a.0 h m (left (has_connection_mark l.state m) _ marks) fits (left (where_there (λ t. is_forward_right s F t.letter) m.mark) _ told)) (right (not (is_unfit (fits_connection s) l m.mark)) _ fit) (right (has_connection_mark l.state m) _ marks) (right (where_there (λ t. is_forward_right s F t.letter) m.mark) _ told) (λ op j. ended op (or_right (has_letter (drops op) m) _ j))))
    where
      fits : (t : Taken) → m.mark ≡ Some t → fits_connection s l t.sender t.letter ≡ true
      fits t e = is_fit_there (fits_connection s) l t (are_fit_from (fits_connection s) (step_connection_ledger s) (step_connection_ledger s l m) ms) (ap (λ q. not (is_unfit (fits_connection s) l q) && are_fit_from (fits_connection s) (step_connection_ledger s) (step_connection_ledger s l m) ms) (sym e) ∙ fit)

  pub none_idle : (l : ConnectionLedger) → l.taken ≡ [] → Idles [] l
  none_idle l none =
      record {
        own = ap are_own none;
        placed = ap (are_placed F is_unbound []) none;
        idle = λ op k. absurd (let bad : false ≡ true = k in cc);
        given = λ op k. absurd (let bad : false ≡ true = sym (ap (is_dropped op) none) ∙ k in cc);
        ends = λ op k. absurd (let bad : false ≡ true = sym (ap (is_dropped op) none) ∙ k in cc);
      }
