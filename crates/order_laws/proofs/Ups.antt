-- A connection is up directly behind Linked, or behind the first success of its own Bind. There nothing was sent yet, so that a
-- connection which retired before has nothing left to do, and no message comes to it.
use Rattle.std.proofs.Common.{◌≡◌, ◌⊎◌, inl, inr, ℕ, Bool, true, false, ◌==◌, ◌&&◌, ◌||◌, not, if◌then◌else◌, List, [], ◌∷◌, ◌++◌, length, refl, ap, ◌∙◌, sym, subst}
use Rattle.std.specs.Prelude.{Option, Some, None, is_none, is_some}
use Rattle.std.specs.List.{list_any, list_all}
use Rattle.std.specs.Str.{bytes_eq}
use Rattle.ldap_spec.specs.Bodies.{simple_bind}
use Rattle.ldap_spec.specs.Kinds.{tag_of}
use Rattle.ldap_spec.specs.Messages.{Message}
use Rattle.ldap_spec.specs.Responses.{has_code}
use Rattle.ldap_spec.specs.Tags.{bind_response, success}
use Rattle.lload_names.specs.declared.names.ConnKind.{ConnKind}
use Rattle.lload_names.specs.declared.names.ConnKind.TheVariants.{Regular, Bind as BindKind}
use Rattle.lload_names.specs.declared.names.Entry.{Entry}
use Rattle.lload_names.specs.declared.names.Letter.{Letter}
use Rattle.lload_names.specs.declared.names.Letter.TheVariants.{Forward}
use Rattle.lload_names.specs.declared.names.OpName.{OpName}
use Rattle.lload_names.specs.declared.names.What.{What}
use Rattle.lload_names.specs.declared.plans.Place.{Place}
use Rattle.lload_names.specs.declared.names.What.TheVariants as what
use Rattle.lload_spec.specs.CausedUp.{has_got, is_own_bind_answer, is_under_own_bind, is_up_due, own_bind_id, own_bind_waits}
use Rattle.lload_spec.specs.Entries.{Named, given_id, got_message, is_down, is_linked, is_own, is_retired, is_sent, is_up, own_message, sent_message}
use Rattle.lload_spec.specs.Journal.{same_op}
use Rattle.lload_spec.specs.Lists.{agrees, each_split_from, first_passes, implies, passes}
use Rattle.lload_spec.specs.OneEach.{begins_with_bind, is_own_bind}
use Rattle.lload_spec.specs.Settings.{OwnBind, Settings, is_kind, is_of_kind, place_at}
use Rattle.lload_spec.specs.Strict.{is_empty, may_follow_down}
use Rattle.lload_spec.proofs.Growth.{left, right, both}
use Rattle.lload_laws.proofs.ListLaws.{implied, implies_by}
use Rattle.part_laws.proofs.ListLaws.{any_before, any_behind, any_split, false_by, none_of_both, not_both, not_true, or_elim, or_left}
use Rattle.part_spec.specs.ConnectionState.{ConnectionState, UpRow, connection_behind, empty_connection, frees_holder, holder_sent, is_bind, step_connection}
use Rattle.part_spec.specs.ConnectionTurn.{is_drained}
use Rattle.part_spec.specs.Marked.{Marked, Taken, entries}
use Rattle.part_spec.specs.Marks.{each_from}
use Rattle.connection_laws.proofs.ConnectionSays.{kind_step}
use Rattle.connection_laws.proofs.Permits.{push_entry}
use Rattle.answer_laws.proofs.Places.{At, Right, Rights, at_more, nothing_at, rights_of}
use Rattle.drained_laws.specs.Laws.{is_undrained}
use Rattle.order_laws.specs.Laws.{is_up_in_time, UpsInTime}

-- a regular connection has no holder
holder_step : (s : Settings) (m : Marked) (p : ConnectionState) (w : What) → is_bind p ≡ false → p.holder ≡ None → (connection_behind s m.entry m.mark p w).holder ≡ None
holder_step s m p (what.Sent id op rest) r h = by m.mark
  where
    of_letter : (x : Letter) → holder_sent p x ≡ None
    of_letter (Forward o sort body ask holder) = ap (λ b. if b then Some holder else None) r
    of_letter _ = h

    by : (mark : Option Taken) → ◌≡◌ {A = Option OpName} (elim mark [ None ↦ p.holder | Some t ↦ holder_sent p t.letter ]) None
    by None = h
    by (Some t) = of_letter t.letter
holder_step s m p (what.Got id rest) r h = by (frees_holder p (record { id = id; rest = rest }))
  where
    by : (b : Bool) → (if b then None else p.holder) ≡ None
    by true = refl
    by false = h
holder_step s m p (what.Missed op) r h = refl
holder_step s m p (what.Down why) r h = refl
holder_step s m p what.Linked r h = h
holder_step s m p _ r h = h

module _ (s : Settings) (u : ℕ) where
  -- where the own Bind doesn't wait any more, it doesn't later
  waits_more : (x y : Entry) (es : List Entry) (e : Entry) → own_bind_waits s u (x ∷ y ∷ es) ≡ false → own_bind_waits s u ((x ∷ y ∷ es) ++ e ∷ []) ≡ false
  waits_more x y es e h = by (own_bind_id s u (x ∷ y ∷ es)) h
    where
      by : (o : Option ℕ) → passes (λ i. not (has_got i (x ∷ y ∷ es))) o ≡ false → passes (λ i. not (has_got i ((x ∷ y ∷ es) ++ e ∷ []))) o ≡ false
      by None k = refl
      by (Some i) k = ap not (any_before (λ z. passes (λ m. m.id == i) (got_message z.what)) (x ∷ y ∷ es) (e ∷ []) (flip (has_got i (x ∷ y ∷ es)) k))
        where
          flip : (b : Bool) → not b ≡ false → b ≡ true
          flip true j = refl
          flip false j = absurd (let bad : true ≡ false = j in cc)

  no_wait : (o : Option ℕ) (place : List Entry) → o ≡ None → passes (λ i. not (has_got i place)) o ≡ false
  no_wait None place e = refl
  no_wait (Some i) place e = absurd (let bad : Some i ≡ None = e in cc)

  linked_up : (w : What) → is_up w ≡ true → is_linked w ≡ false
  linked_up what.Up h = refl
  linked_up _ h = absurd (let bad : false ≡ true = h in cc)

  up_own : (o : Option OwnBind) (e : Entry) (w : What) → e.what ≡ w → is_up w ≡ true → passes (λ own. is_own (simple_bind own.dn own.credentials) e) o ≡ false
  up_own None e w k h = refl
  up_own (Some own) e what.Up k h = ap (λ v. passes (λ m. bytes_eq m.rest (simple_bind own.dn own.credentials)) (own_message v)) k
  up_own (Some own) e _ k h = absurd (let bad : false ≡ true = h in cc)

  fine_more : (place : List Entry) (e : Entry) → list_any (λ x. is_up x.what) (place ++ e ∷ []) ≡ true → own_bind_waits s u place ≡ false → own_bind_waits s u (place ++ e ∷ []) ≡ false
  fine_more [] e h k = refl
  fine_more (x ∷ []) e h k = no_wait (own_bind_id s u (x ∷ e ∷ [])) (x ∷ e ∷ []) (or_elim (is_up x.what) (is_up e.what || false) (λ j. first (linked_up x.what j)) (λ j. second (or_elim (is_up e.what) false (λ i. up_own s.own_bind e e.what refl i) (λ i. absurd (let bad : false ≡ true = i in cc)) j)) h)
    where
      first : is_linked x.what ≡ false → own_bind_id s u (x ∷ e ∷ []) ≡ None
      first j = ap (λ b. if b && is_own_bind s e then given_id e.what else None) (and_false (begins_with_bind s u) (is_linked x.what) j)
        where
          and_false : (a b : Bool) → b ≡ false → (a && b) ≡ false
          and_false true b i = i
          and_false false b i = refl

      second : is_own_bind s e ≡ false → own_bind_id s u (x ∷ e ∷ []) ≡ None
      second j = ap (λ b. if b then given_id e.what else None) (and_false (begins_with_bind s u && is_linked x.what) (is_own_bind s e) j)
        where
          and_false : (a b : Bool) → b ≡ false → (a && b) ≡ false
          and_false true b i = i
          and_false false b i = refl
  fine_more (x ∷ y ∷ es) e h k = waits_more x y es e k

  -- the connection has no own Bind, or it doesn't wait
  abbrev UpFine : List Entry → Type 0
  UpFine place = (begins_with_bind s u ≡ false) ⊎ (own_bind_waits s u place ≡ false)

  record Stands (b : List Marked) (p : ConnectionState) : Type 0 where
    at : At s u (entries b) p
    holder : is_bind p ≡ false → p.holder ≡ None
    upped : (op : OpName) → list_any (is_sent op) (entries b) ≡ true → list_any (λ x. is_up x.what) (entries b) ≡ true
    ups : list_any (λ x. is_up x.what) (entries b) ≡ true → UpFine (entries b)

  -- where Up may be the next entry
  abbrev MayBeUp : List Entry → Type 0
  MayBeUp place = (list_any (λ x. is_retired x.what) place ≡ false) × UpFine place

  fine_behind : (place : List Entry) (e : Entry) → list_any (λ x. is_up x.what) (place ++ e ∷ []) ≡ true → UpFine place → UpFine (place ++ e ∷ [])
  fine_behind place e h (inl k) = inl k
  fine_behind place e h (inr k) = inr (fine_more place e h k)

  module _ (b : List Marked) (p : ConnectionState) (m : Marked) (ms : List Marked) (h : Stands b p) (r : Right s u b p m ms) (may : is_up m.entry.what ≡ true → MayBeUp (entries b)) where
    life_linked : agrees (is_linked m.entry.what) (is_empty (entries b)) ≡ true
    life_linked = left (agrees (is_linked m.entry.what) (is_empty (entries b))) _ (left (agrees (is_linked m.entry.what) (is_empty (entries b)) && implies (list_any is_down (entries b)) (may_follow_down m.entry.what)) _ r.life)

    stands_more : Stands (b ++ m ∷ []) (step_connection s p m)
    stands_more =
        record {
          at = subst (λ l. At s u l (step_connection s p m)) (sym (push_entry b m)) (at_more s u b p m ms h.at r);
          holder = λ k. holder_step s m p m.entry.what (sym (ap (is_kind BindKind) (kind_step s m.entry m.mark p m.entry.what)) ∙ k) (h.holder (sym (ap (is_kind BindKind) (kind_step s m.entry m.mark p m.entry.what)) ∙ k));
          upped = λ op. subst (λ l. list_any (is_sent op) l ≡ true → list_any (λ x. is_up x.what) l ≡ true) (sym (push_entry b m)) (λ k. any_split (is_sent op) (entries b) (m.entry ∷ []) (λ j. any_before (λ x. is_up x.what) (entries b) (m.entry ∷ []) (h.upped op j)) (λ j. any_before (λ x. is_up x.what) (entries b) (m.entry ∷ []) (sent_up op (or_elim (is_sent op m.entry) false (λ i. i) (λ i. absurd (let bad : false ≡ true = i in cc)) j))) k);
          ups = subst (λ l. list_any (λ x. is_up x.what) l ≡ true → UpFine l) (sym (push_entry b m)) (λ k. fine_behind (entries b) m.entry k (any_split (λ x. is_up x.what) (entries b) (m.entry ∷ []) h.ups (λ j. (may (or_elim (is_up m.entry.what) false (λ i. i) (λ i. absurd (let bad : false ≡ true = i in cc)) j)).1) k));
        }
      where
        sent_up : (op : OpName) → is_sent op m.entry ≡ true → list_any (λ x. is_up x.what) (entries b) ≡ true
        sent_up op k = implied (is_some (sent_message m.entry.what)) _ (right (agrees (is_linked m.entry.what) (is_empty (entries b)) && implies (list_any is_down (entries b)) (may_follow_down m.entry.what)) _ r.life) (some (sent_message m.entry.what) k)
          where
            some : (o : Option (Named Message)) → passes (λ x. same_op op x.op) o ≡ true → is_some o ≡ true
            some None j = j
            some (Some x) j = refl

    -- behind Linked
    behind_linked : is_linked m.entry.what ≡ true → begins_with_bind s u ≡ false → MayBeUp (entries b ++ m.entry ∷ [])
    behind_linked k j = (by (entries b) (right_is (is_linked m.entry.what) (is_empty (entries b)) life_linked k), inl j)
      where
        right_is : (x y : Bool) → agrees x y ≡ true → x ≡ true → y ≡ true
        right_is true y i z = i
        right_is false y i z = absurd (let bad : false ≡ true = z in cc)

        none : (w : What) → is_linked w ≡ true → (is_retired w || false) ≡ false
        none what.Linked i = refl
        none _ i = absurd (let bad : false ≡ true = i in cc)

        by : (l : List Entry) → is_empty l ≡ true → list_any (λ x. is_retired x.what) (l ++ m.entry ∷ []) ≡ false
        by [] i = none m.entry.what k
        by (x ∷ l) i = absurd (let bad : false ≡ true = i in cc)

    -- behind the own Bind's success
    module _ (waits : own_bind_waits s u (entries b) ≡ true) (msg : Message) (got : got_message m.entry.what ≡ Some msg) (under : is_under_own_bind s u (entries b) msg ≡ true) (undrained : is_undrained p m ≡ true) where
      begins : begins_with_bind s u ≡ true
      begins = by (entries b) waits
        where
          first : (a c d : Bool) (o : Option ℕ) (l : List Entry) → passes (λ i. not (has_got i l)) (if a && c && d then o else None) ≡ true → a ≡ true
          first true c d o l k = refl
          first false c d o l k = absurd (let bad : false ≡ true = k in cc)

          by : (l : List Entry) → own_bind_waits s u l ≡ true → begins_with_bind s u ≡ true
          by [] k = absurd (let bad : false ≡ true = k in cc)
          by (x ∷ []) k = absurd (let bad : false ≡ true = k in cc)
          by (x ∷ y ∷ l) k = first (begins_with_bind s u) (is_linked x.what) (is_own_bind s y) (given_id y.what) (x ∷ y ∷ l) k

      never_up : list_any (λ x. is_up x.what) (entries b) ≡ false
      never_up = false_by (list_any (λ x. is_up x.what) (entries b)) (λ k. no (h.ups k))
        where
          no : UpFine (entries b) → false ≡ true
          no (inl k) = sym k ∙ begins
          no (inr k) = sym k ∙ waits

      no_rows : (rows : List UpRow) → list_all (λ r'. list_any (is_sent r'.op) (entries b)) rows ≡ true → (length rows == 0) ≡ true
      no_rows [] k = refl
      no_rows (x ∷ rows) k = absurd (let bad : false ≡ true = sym never_up ∙ h.upped x.op (left (list_any (is_sent x.op) (entries b)) _ k) in cc)

      regular : is_bind p ≡ false
      regular = ap (is_kind BindKind) h.at.kind ∙ by (place_at s u) (left (is_of_kind s Regular u) _ begins)
        where
          kind_by : Option Place → ConnKind
          kind_by o = if elim o [ None ↦ false | Some x ↦ is_kind BindKind x.kind ] then BindKind else Regular

          sort : (k : ConnKind) → is_kind Regular k ≡ true → is_kind BindKind (if is_kind BindKind k then BindKind else Regular) ≡ false
          sort Regular j = refl
          sort BindKind j = absurd (let bad : false ≡ true = j in cc)

          by : (o : Option Place) → (elim o [ None ↦ false | Some x ↦ is_kind Regular x.kind ]) ≡ true → is_kind BindKind (kind_by o) ≡ false
          by None j = absurd (let bad : false ≡ true = j in cc)
          by (Some x) j = sort x.kind j

      up : p.down ≡ false
      up = h.at.says.down ∙ by (list_any is_down (entries b)) (may_follow_down m.entry.what) (right (agrees (is_linked m.entry.what) (is_empty (entries b))) _ (left (agrees (is_linked m.entry.what) (is_empty (entries b)) && implies (list_any is_down (entries b)) (may_follow_down m.entry.what)) _ r.life)) (no_follow m.entry.what got)
        where
          no_follow : (w : What) → got_message w ≡ Some msg → may_follow_down w ≡ false
          no_follow (what.Got i rest) k = refl
          no_follow _ k = absurd (let bad : None ≡ Some msg = k in cc)

          by : (x y : Bool) → implies x y ≡ true → y ≡ false → x ≡ false
          by true true i j = absurd (let bad : true ≡ false = j in cc)
          by true false i j = absurd (let bad : false ≡ true = i in cc)
          by false y i j = refl

      not_retired : list_any (λ x. is_retired x.what) (entries b) ≡ false
      not_retired = false_by (list_any (λ x. is_retired x.what) (entries b)) (λ k. sym (not_true (is_drained p) (implied (is_some (got_message m.entry.what)) _ undrained (ap is_some got))) ∙ drained (h.at.says.retired ∙ k))
        where
          drained : p.retired ≡ true → is_drained p ≡ true
          drained k = both (p.retired && not p.down && (length p.rows == 0)) _ (both (p.retired && not p.down) _ (both p.retired (not p.down) k (ap not up)) (no_rows p.rows h.at.ids.sent)) (ap is_none (h.holder regular))

      behind_answer : MayBeUp (entries b ++ m.entry ∷ [])
      behind_answer = (none_of_both (λ x. is_retired x.what) (entries b) (m.entry ∷ []) not_retired (no_retire m.entry.what got), inr (over (entries b) waits under))
        where
          no_retire : (w : What) → got_message w ≡ Some msg → (is_retired w || false) ≡ false
          no_retire (what.Got i rest) k = refl
          no_retire _ k = absurd (let bad : None ≡ Some msg = k in cc)

          has_it : (l : List Entry) (i : ℕ) → (msg.id == i) ≡ true → has_got i (l ++ m.entry ∷ []) ≡ true
          has_it l i k = any_behind (λ e. passes (λ x. x.id == i) (got_message e.what)) l (m.entry ∷ []) (or_left (passes (λ x. x.id == i) (got_message m.entry.what)) false (ap (passes (λ x. x.id == i)) got ∙ k))

          settled : (l : List Entry) (o : Option ℕ) → passes (λ i. msg.id == i) o ≡ true → passes (λ i. not (has_got i (l ++ m.entry ∷ []))) o ≡ false
          settled l None k = refl
          settled l (Some i) k = ap not (has_it l i k)

          over : (l : List Entry) → own_bind_waits s u l ≡ true → is_under_own_bind s u l msg ≡ true → own_bind_waits s u (l ++ m.entry ∷ []) ≡ false
          over [] k j = refl
          over (x ∷ []) k j = absurd (let bad : false ≡ true = k in cc)
          over (x ∷ y ∷ l) k j = settled (x ∷ y ∷ l) (own_bind_id s u (x ∷ y ∷ l)) j

    -- Up is the next entry only where it is due
    next_may : agrees (is_up_due s u (entries b) m.entry) (first_passes (λ e. is_up e.what) (entries ms)) ≡ true → is_undrained p m ≡ true → first_passes (λ e. is_up e.what) (entries ms) ≡ true → MayBeUp (entries b ++ m.entry ∷ [])
    next_may a d k = or_elim (is_linked m.entry.what && is_some (place_at s u) && not (begins_with_bind s u)) (is_own_bind_answer (has_code success) s u (entries b) m.entry) linked (λ j. answer (got_message m.entry.what) refl (left (own_bind_waits s u (entries b)) _ j) (right (own_bind_waits s u (entries b)) _ j)) (left_is (is_up_due s u (entries b) m.entry) (first_passes (λ e. is_up e.what) (entries ms)) a k)
      where
        left_is : (x y : Bool) → agrees x y ≡ true → y ≡ true → x ≡ true
        left_is true y i j = refl
        left_is false true i j = i
        left_is false false i j = j

        linked : (is_linked m.entry.what && is_some (place_at s u) && not (begins_with_bind s u)) ≡ true → MayBeUp (entries b ++ m.entry ∷ [])
        linked j = behind_linked (left (is_linked m.entry.what) _ (left (is_linked m.entry.what && is_some (place_at s u)) _ j)) (not_true (begins_with_bind s u) (right (is_linked m.entry.what && is_some (place_at s u)) _ j))

        answer : (o : Option Message) → got_message m.entry.what ≡ o → own_bind_waits s u (entries b) ≡ true → passes (λ x. is_under_own_bind s u (entries b) x && (tag_of x.rest == bind_response) && has_code success x.rest) o ≡ true → MayBeUp (entries b ++ m.entry ∷ [])
        answer None z w j = absurd (let bad : false ≡ true = j in cc)
        answer (Some x) z w j = behind_answer w x z (left (is_under_own_bind s u (entries b) x) _ (left (is_under_own_bind s u (entries b) x && (tag_of x.rest == bind_response)) _ j)) d

  walk : (b : List Marked) (p : ConnectionState) (ms : List Marked) → Stands b p → Rights s u b p ms → (first_passes (λ e. is_up e.what) (entries ms) ≡ true → MayBeUp (entries b)) → each_split_from (λ place e behind. agrees (is_up_due s u place e) (first_passes (λ x. is_up x.what) behind)) (entries b) (entries ms) ≡ true → each_from (step_connection s) is_undrained p ms ≡ true → each_split_from (λ place e behind. is_up_in_time place e) (entries b) (entries ms) ≡ true
  walk b p [] h r may ups d = refl
  walk b p (m ∷ ms) h r may ups d =
      both (is_up_in_time (entries b) m.entry) _ (implies_by (is_up m.entry.what) _ (λ k. ap not (may k).0))
      (subst (λ l. each_split_from (λ place e behind. is_up_in_time place e) l (entries ms) ≡ true) (push_entry b m)
      (walk (b ++ m ∷ []) (step_connection s p m) ms (stands_more b p m ms h r.0 may) r.1
      (λ k. subst MayBeUp (sym (push_entry b m)) (next_may b p m ms h r.0 may (left (agrees (is_up_due s u (entries b) m.entry) (first_passes (λ x. is_up x.what) (entries ms))) _ ups) (left (is_undrained p m) _ d) k))
      (subst (λ l. each_split_from (λ place e behind. agrees (is_up_due s u place e) (first_passes (λ x. is_up x.what) behind)) l (entries ms) ≡ true) (sym (push_entry b m)) (right (agrees (is_up_due s u (entries b) m.entry) (first_passes (λ x. is_up x.what) (entries ms))) _ ups))
      (right (is_undrained p m) _ d)))

pub ups_in_time : UpsInTime
ups_in_time s u list h f d =
    walk s u [] (empty_connection s u) list
    (record { at = nothing_at s u; holder = λ k. refl; upped = λ op k. absurd (let bad : false ≡ true = k in cc); ups = λ k. absurd (let bad : false ≡ true = k in cc) })
    (rights_of s u list h f)
    (λ k. not_both (first_passes (λ e. is_up e.what) (entries list)) k (not_true (first_passes (λ e. is_up e.what) (entries list)) (left (not (first_passes (λ e. is_up e.what) (entries list))) _ h.ups)))
    (right (not (first_passes (λ e. is_up e.what) (entries list))) _ h.ups) d
