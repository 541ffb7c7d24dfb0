-- What a connection gives of answers to an operation that it was sent is a beginning of the answers that it got to it.
use Rattle.std.proofs.Common.{◌≡◌, ◌⊎◌, inl, inr, ℕ, Bool, true, false, ◌==◌, ◌&&◌, not, List, [], ◌∷◌, ◌++◌, refl, ap, ◌∙◌, sym, subst}
use Rattle.std.specs.Prelude.{Option, Some, None, is_none}
use Rattle.std.specs.List.{list_any, list_all}
use Rattle.lload_names.specs.declared.names.ConnKind.TheVariants.{Regular, Bind as BindKind}
use Rattle.lload_names.specs.declared.names.EndWhy.TheVariants.{Bad as BadEnd}
use Rattle.lload_names.specs.declared.names.OpName.{OpName}
use Rattle.lload_names.specs.declared.names.What.{What}
use Rattle.lload_names.specs.declared.names.What.TheVariants as what
use Rattle.lload_spec.specs.BadMessages.{is_bad}
use Rattle.lload_spec.specs.Entries.{down_why, got_message, is_down, is_down_by, is_linked, is_sent, same_why}
use Rattle.lload_spec.specs.Journal.{same_op}
use Rattle.lload_spec.specs.Lists.{agrees, first_passes, implies, passes}
use Rattle.lload_spec.specs.Pauses.{is_waiting}
use Rattle.lload_spec.specs.Settings.{Settings, is_kind}
use Rattle.lload_spec.specs.Strict.{is_empty, may_follow_down, may_pass}
use Rattle.lload_spec.proofs.Growth.{left, right, both}
use Rattle.lload_laws.proofs.ListLaws.{implied}
use Rattle.part_spec.specs.ConnectionState.{ConnectionState, connection_behind, is_bind, is_holding, is_there, message_facts, step_connection, with_got}
use Rattle.part_spec.specs.BindTurn.{answered as bind_answered}
use Rattle.part_spec.specs.ConnectionTurn.{goes_down}
use Rattle.part_spec.specs.RegularTurn.{answered}
use Rattle.part_spec.specs.Inputs.{letters_alone}
use Rattle.part_spec.specs.Gives.{connection_gives, connection_letters, got_letters}
use Rattle.part_spec.specs.Marked.{Marked, Taken, entries}
use Rattle.part_spec.specs.Marks.{has_connection_mark, marks_connection, must_mark_connection}
use Rattle.connection_laws.proofs.ConnectionSays.{kind_step}
use Rattle.connection_laws.proofs.Permits.{push_entry}
use Rattle.fifo_laws.proofs.Quiet.{gives_quiet, others_quiet}
use Rattle.answer_laws.proofs.Gots.{is_kept_as}
use Rattle.answer_laws.proofs.Keeps.{got_kept, kept_stays, others_stay}
use Rattle.answer_laws.proofs.Places.{At, Right, Rights, at_more, marks_of}
use Rattle.answer_laws.proofs.Rests.{told, told_both, quiet_told, of_mine, gone_mine}

-- whether what is told is a beginning of the answers
abbrev pub Begins : List (List ℕ) → List (List ℕ) → Type 0
Begins answers told' = (more : List (List ℕ)) × (answers ≡ told' ++ more)

module _ (s : Settings) (u : ℕ) (op : OpName) where
  abbrev pub NoSent : List Marked → Type 0
  NoSent ms = list_all (λ m. not (is_sent op m.entry)) ms ≡ true

  abbrev pub gave : ConnectionState → List Marked → List (List ℕ)
  gave p ms = told op (connection_gives s p ms)

  -- where no row is the operation's, nothing is told
  pub nothing_told : (b : List Marked) (p : ConnectionState) (ms : List Marked) → Rights s u b p ms → NoSent ms → list_all (λ r. not (same_op op r.op)) p.rows ≡ true → gave p ms ≡ []
  nothing_told b p ms r n h = quiet_told op (connection_gives s p ms) (gives_quiet op s p ms n (marks_of s u b p ms r) h)

  -- behind a bad message stands the end
  pub bad_ends : (b : List Marked) (p : ConnectionState) (m : Marked) (ms : List Marked) (id : ℕ) (rest : List ℕ) → At s u (entries b) p → Right s u b p m ms → m.entry.what ≡ what.Got id rest → is_bad (message_facts p) (record { id = id; rest = rest }) ≡ true → first_passes (is_down_by BadEnd) (entries ms) ≡ true
  bad_ends b p m ms id rest at r e bad = implied (passes (is_bad (message_facts p)) (got_message m.entry.what) && is_there p && not (is_holding p)) _ r.bad (both (passes (is_bad (message_facts p)) (got_message m.entry.what) && is_there p) _ (both (passes (is_bad (message_facts p)) (got_message m.entry.what)) (is_there p) (ap (λ w. passes (is_bad (message_facts p)) (got_message w)) e ∙ bad) (both p.linked (not p.down) linked (ap not up))) (ap not flows))
    where
      linked : p.linked ≡ true
      linked = by p.linked (is_linked m.entry.what) (is_empty (entries b)) (left (agrees (is_linked m.entry.what) (is_empty (entries b))) _ (left (agrees (is_linked m.entry.what) (is_empty (entries b)) && implies (list_any is_down (entries b)) (may_follow_down m.entry.what)) _ r.life)) (ap is_linked e) at.begins
        where
          by : (x y z : Bool) → agrees y z ≡ true → y ≡ false → z ≡ not x → x ≡ true
          by true y z i j k = refl
          by false true z i j k = absurd (let bad' : true ≡ false = j in cc)
          by false false true i j k = absurd (let bad' : false ≡ true = i in cc)
          by false false false i j k = absurd (let bad' : false ≡ true = k in cc)

      up : p.down ≡ false
      up = at.says.down ∙ by (list_any is_down (entries b)) (may_follow_down m.entry.what) (right (agrees (is_linked m.entry.what) (is_empty (entries b))) _ (left (agrees (is_linked m.entry.what) (is_empty (entries b)) && implies (list_any is_down (entries b)) (may_follow_down m.entry.what)) _ r.life)) (ap may_follow_down e)
        where
          by : (x y : Bool) → implies x y ≡ true → y ≡ false → x ≡ false
          by true true i j = absurd (let bad' : true ≡ false = j in cc)
          by true false i j = absurd (let bad' : false ≡ true = i in cc)
          by false y i j = refl

      flows : is_holding p ≡ false
      flows = by (is_kind Regular p.kind && not p.down) (is_waiting p.waiting) (ap (may_pass (is_kind Regular p.kind) p.waiting) (sym e) ∙ r.passed)
        where
          by : (x y : Bool) → not y ≡ true → (x && y) ≡ false
          by true true i = absurd (let bad' : false ≡ true = i in cc)
          by true false i = refl
          by false y i = refl

  -- so that nothing is told any more
  pub bad_silent : (b : List Marked) (p : ConnectionState) (m : Marked) (ms : List Marked) (id : ℕ) (rest : List ℕ) → At s u (entries b) p → Right s u b p m ms → Rights s u (b ++ m ∷ []) (step_connection s p m) ms → NoSent ms → m.entry.what ≡ what.Got id rest → is_bad (message_facts p) (record { id = id; rest = rest }) ≡ true → gave p (m ∷ ms) ≡ []
  bad_silent b p m ms id rest at r rs n e bad =
      told_both op (connection_letters s p m.entry.at m.mark m.entry.what) (connection_gives s (step_connection s p m) ms)
      ∙ ap (λ l. l ++ gave (step_connection s p m) ms) letters ∙ behind ms (bad_ends b p m ms id rest at r e bad) rs n
    where
      letters : told op (connection_letters s p m.entry.at m.mark m.entry.what) ≡ []
      letters = ap (λ w. told op (connection_letters s p m.entry.at m.mark w)) e ∙ ap (λ d. told op (letters_alone (elim d [ true ↦ goes_down p BadEnd | false ↦ elim p.kind [ Regular ↦ answered p m.entry.at (record { id = id; rest = rest }) | BindKind ↦ bind_answered s p (record { id = id; rest = rest }) ] ]))) bad

      behind : (ds : List Marked) → first_passes (is_down_by BadEnd) (entries ds) ≡ true → Rights s u (b ++ m ∷ []) (step_connection s p m) ds → NoSent ds → gave (step_connection s p m) ds ≡ []
      behind [] i j k = absurd (let bad' : false ≡ true = i in cc)
      behind (d ∷ ds) i j k =
          told_both op (connection_letters s (step_connection s p m) d.entry.at d.mark d.entry.what) (connection_gives s (step_connection s (step_connection s p m) d) ds)
          ∙ ap (λ l. l ++ gave (step_connection s (step_connection s p m) d) ds) (quiet_told op (connection_letters s (step_connection s p m) d.entry.at d.mark d.entry.what) (others_quiet op s (step_connection s p m) d.entry.at d.mark d.entry.what (no_got d.entry.what i)))
          ∙ nothing_told ((b ++ m ∷ []) ++ d ∷ []) (step_connection s (step_connection s p m) d) ds j.1 (right (not (is_sent op d.entry)) _ k) (none d.entry.what i)
        where
          no_got : (w : What) → passes (same_why BadEnd) (down_why w) ≡ true → is_none (got_message w) ≡ true
          no_got (what.Got i r') z = absurd (let bad' : false ≡ true = z in cc)
          no_got _ z = refl

          none : (w : What) → passes (same_why BadEnd) (down_why w) ≡ true → list_all (λ r'. not (same_op op r'.op)) (connection_behind s d.entry d.mark (step_connection s p m) w).rows ≡ true
          none (what.Down why) z = refl
          none _ z = absurd (let bad' : false ≡ true = z in cc)

  pub marked_so : (p : ConnectionState) (m : Marked) → has_connection_mark p m ≡ true → (elim m.mark [ None ↦ true | Some x ↦ marks_connection p m.entry.what x.letter ]) ≡ true
  marked_so p m h = by m.mark h
    where
      by : (o : Option Taken) → (elim o [ None ↦ not (must_mark_connection p m.entry.what) | Some x ↦ marks_connection p m.entry.what x.letter ]) ≡ true → (elim o [ None ↦ true | Some x ↦ marks_connection p m.entry.what x.letter ]) ≡ true
      by None k = refl
      by (Some x) k = k

  -- what stands in an entry's place
  pub next_at : (b : List Marked) (p : ConnectionState) (m : Marked) (ms : List Marked) → At s u (entries b) p → Right s u b p m ms → At s u (entries (b ++ m ∷ [])) (step_connection s p m)
  next_at b p m ms at r = subst (λ l. At s u l (step_connection s p m)) (sym (push_entry b m)) (at_more s u b p m ms at r)

  pub bind_stays : (p : ConnectionState) (m : Marked) → is_bind p ≡ true → is_bind (step_connection s p m) ≡ true
  bind_stays p m h = ap (is_kind BindKind) (kind_step s m.entry m.mark p m.entry.what) ∙ h

  -- nothing is told at this entry
  pub told_later : (p : ConnectionState) (m : Marked) (ms : List Marked) → told op (connection_letters s p m.entry.at m.mark m.entry.what) ≡ [] → gave p (m ∷ ms) ≡ gave (step_connection s p m) ms
  told_later p m ms e = told_both op (connection_letters s p m.entry.at m.mark m.entry.what) (connection_gives s (step_connection s p m) ms) ∙ ap (λ l. l ++ gave (step_connection s p m) ms) e

  pub told_here : (p : ConnectionState) (m : Marked) (ms : List Marked) (x : List ℕ) → told op (connection_letters s p m.entry.at m.mark m.entry.what) ≡ x ∷ [] → gave p (m ∷ ms) ≡ x ∷ gave (step_connection s p m) ms
  told_here p m ms x e = told_both op (connection_letters s p m.entry.at m.mark m.entry.what) (connection_gives s (step_connection s p m) ms) ∙ ap (λ l. l ++ gave (step_connection s p m) ms) e

  -- The success is kept back.
  kept_step : (rest0 : List ℕ) (b : List Marked) (p : ConnectionState) (m : Marked) (ms : List Marked) → At s u (entries b) p → Rights s u b p (m ∷ ms) → NoSent (m ∷ ms) → is_bind p ≡ true → list_all (of_mine op (is_kept_as rest0)) p.rows ≡ true → (list_all (of_mine op (is_kept_as rest0)) (step_connection s p m).rows ≡ true → Begins (rest0 ∷ []) (gave (step_connection s p m) ms)) → Begins (rest0 ∷ []) (gave p (m ∷ ms))
  kept_step rest0 b p m ms at rs n bp h behind = by m.entry.what refl
    where
      later : told op (connection_letters s p m.entry.at m.mark m.entry.what) ≡ [] → list_all (of_mine op (is_kept_as rest0)) (step_connection s p m).rows ≡ true → Begins (rest0 ∷ []) (gave p (m ∷ ms))
      later e k = subst (Begins (rest0 ∷ [])) (sym (told_later p m ms e)) (behind k)

      gone : (xs : List (List ℕ)) → gave p (m ∷ ms) ≡ xs → xs ≡ [] → Begins (rest0 ∷ []) (gave p (m ∷ ms))
      gone xs e k = (rest0 ∷ [], ap (λ l. l ++ rest0 ∷ []) (sym (e ∙ k)))

      idle : (w : What) → m.entry.what ≡ w → is_none (got_message w) ≡ true → Begins (rest0 ∷ []) (gave p (m ∷ ms))
      idle w e g =
          later (quiet_told op (connection_letters s p m.entry.at m.mark m.entry.what) (others_quiet op s p m.entry.at m.mark m.entry.what (ap (λ v. is_none (got_message v)) e ∙ g)))
          (others_stay op (is_kept_as rest0) (kept_stays op rest0) s m.entry m.mark p m.entry.what (ap (λ v. is_none (got_message v)) e ∙ g) (left (not (is_sent op m.entry)) _ n) (marked_so p m rs.0.marked) h)

      rows_are : (id : ℕ) (rest : List ℕ) → m.entry.what ≡ what.Got id rest → (step_connection s p m).rows ≡ (with_got m.entry.at (record { id = id; rest = rest }) p).rows
      rows_are id rest e = ap (λ w. (connection_behind s m.entry m.mark p w).rows) e

      letters_are : (id : ℕ) (rest : List ℕ) → m.entry.what ≡ what.Got id rest → told op (connection_letters s p m.entry.at m.mark m.entry.what) ≡ told op (got_letters s p m.entry.at (record { id = id; rest = rest }))
      letters_are id rest e = ap (λ w. told op (connection_letters s p m.entry.at m.mark w)) e

      message : (id : ℕ) (rest : List ℕ) → m.entry.what ≡ what.Got id rest → (d : Bool) → is_bad (message_facts p) (record { id = id; rest = rest }) ≡ d → Begins (rest0 ∷ []) (gave p (m ∷ ms))
      message id rest e true k = gone (gave p (m ∷ ms)) refl (bad_silent b p m ms id rest at rs.0 rs.1 (right (not (is_sent op m.entry)) _ n) e k)
      message id rest e false k = on (got_kept s op rest0 p at.ids.apart m.entry.at (record { id = id; rest = rest }) h k (ap (passes (λ o. o.id == id)) (at.bare bp)) bp)
        where
          on : ((told op (got_letters s p m.entry.at (record { id = id; rest = rest })) ≡ []) × (list_all (of_mine op (is_kept_as rest0)) (with_got m.entry.at (record { id = id; rest = rest }) p).rows ≡ true)) ⊎ ((told op (got_letters s p m.entry.at (record { id = id; rest = rest })) ≡ rest0 ∷ []) × (list_all (of_mine op (λ r. false)) (with_got m.entry.at (record { id = id; rest = rest }) p).rows ≡ true)) → Begins (rest0 ∷ []) (gave p (m ∷ ms))
          on (inl x) = later (letters_are id rest e ∙ x.0) (ap (list_all (of_mine op (is_kept_as rest0))) (rows_are id rest e) ∙ x.1)
          on (inr x) = ([], ap (λ l. l ++ []) (sym (told_here p m ms rest0 (letters_are id rest e ∙ x.0) ∙ ap (λ l. rest0 ∷ l) (nothing_told (b ++ m ∷ []) (step_connection s p m) ms rs.1 (right (not (is_sent op m.entry)) _ n) (gone_mine op (step_connection s p m).rows (ap (list_all (of_mine op (λ r. false))) (rows_are id rest e) ∙ x.1))))))

      by : (w : What) → m.entry.what ≡ w → Begins (rest0 ∷ []) (gave p (m ∷ ms))
      by (what.Got id rest) e = message id rest e (is_bad (message_facts p) (record { id = id; rest = rest })) refl
      by w e = idle w e refl

  pub walk_kept : (rest0 : List ℕ) (b : List Marked) (p : ConnectionState) (ms : List Marked) → At s u (entries b) p → Rights s u b p ms → NoSent ms → is_bind p ≡ true → list_all (of_mine op (is_kept_as rest0)) p.rows ≡ true → Begins (rest0 ∷ []) (gave p ms)
  walk_kept rest0 b p [] at rs n bp h = (rest0 ∷ [], refl)
  walk_kept rest0 b p (m ∷ ms) at rs n bp h = kept_step rest0 b p m ms at rs n bp h (λ k. walk_kept rest0 (b ++ m ∷ []) (step_connection s p m) ms (next_at b p m ms at rs.0) rs.1 (right (not (is_sent op m.entry)) _ n) (bind_stays p m bp) k)
