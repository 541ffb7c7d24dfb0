-- A connection gives as many letters for an operation as are told behind its Sent, or one where it missed it.
use Rattle.std.proofs.Common.{◌≡◌, ◌⊎◌, inl, inr, ℕ, ◌+◌, ◌≤◌, Bool, true, false, ◌&&◌, ◌||◌, not, List, [], ◌∷◌, ◌++◌, arith, refl, ap, ◌∙◌, sym, subst}
use Rattle.std.specs.Prelude.{Option, Some, None, is_some, nat_le}
use Rattle.std.specs.List.{list_any, list_all}
use Rattle.std.specs.Str.{bytes_eq}
use Rattle.std.proofs.lemmas.Bool.{le-leb}
use Rattle.ldap_spec.specs.Kinds.{kind_of, same_kind}
use Rattle.ldap_spec.specs.Messages.{Message}
use Rattle.lload_names.specs.declared.names.ConnKind.{ConnKind}
use Rattle.lload_names.specs.declared.names.ConnKind.TheVariants.{Bind as BindKind, Regular}
use Rattle.lload_names.specs.declared.names.Entry.{Entry}
use Rattle.lload_names.specs.declared.names.Letter.{Letter}
use Rattle.lload_names.specs.declared.names.Letter.TheVariants.{Failed, Forward}
use Rattle.lload_names.specs.declared.names.OpKind.{OpKind}
use Rattle.lload_names.specs.declared.names.OpName.{OpName}
use Rattle.lload_names.specs.declared.names.PartName.{PartName}
use Rattle.lload_names.specs.declared.names.PartName.TheVariants.{Client}
use Rattle.lload_names.specs.declared.names.Posted.{Posted}
use Rattle.lload_names.specs.declared.names.Refusal.TheVariants.{C4}
use Rattle.lload_names.specs.declared.names.What.{What}
use Rattle.lload_names.specs.declared.names.What.TheVariants as what
use Rattle.lload_spec.specs.Answers.{Sending, asks_who, sending_made, sendings_from}
use Rattle.lload_spec.specs.CausedUp.{is_missed_caused, is_stopped}
use Rattle.lload_spec.specs.Entries.{Named, is_missed, is_sent, missed_op, sent_message}
use Rattle.lload_spec.specs.Journal.{Family, same_op}
use Rattle.lload_spec.specs.Lists.{agrees, each_split_from, implies, passes, where_there}
use Rattle.lload_spec.specs.Operations.{Operation, operation}
use Rattle.lload_spec.specs.Owed.{count_of, told_by, was_forwarded}
use Rattle.lload_spec.specs.Settings.{Settings}
use Rattle.lload_spec.specs.Strict.{is_missed_once}
use Rattle.lload_spec.proofs.Growth.{left, right, both}
use Rattle.lload_laws.proofs.ListLaws.{all_imply, implies_by}
use Rattle.part_laws.proofs.ListLaws.{any_before, any_behind, any_split, eqb_same, false_by, not_true, or_elim, or_left, or_right, same_op_eq}
use Rattle.part_spec.specs.BindTurn.{was_lost}
use Rattle.part_spec.specs.ConnectionState.{ConnectionState, UpRow, is_bind, put_row, rows_sent, step_connection}
use Rattle.part_spec.specs.ConnectionTurn.{ended}
use Rattle.part_spec.specs.Gives.{missed_by, missed_of}
use Rattle.part_spec.specs.Inputs.{failed}
use Rattle.part_spec.specs.Marked.{Marked, Taken, entries}
use Rattle.part_spec.specs.Marks.{marks_connection, must_mark_connection}
use Rattle.part_spec.specs.Share.{has_letter, is_expired_due, is_free_by}
use Rattle.connection_laws.proofs.Permits.{push_entry}
use Rattle.connection_laws.proofs.Rows.{all_put}
use Rattle.carried_laws.specs.Laws.{is_forward_right, says_rightly}
use Rattle.fifo_laws.proofs.Quiet.{is_other, rows_stay}
use Rattle.forward_laws.proofs.Causes.{kind_eq}
use Rattle.forward_laws.proofs.Chosen.{kind_same}
use Rattle.answer_laws.proofs.Gots.{is_open}
use Rattle.answer_laws.proofs.Places.{At, Rights}
use Rattle.answer_laws.proofs.Rests.{of_mine}
use Rattle.answer_laws.proofs.Told.{marked_so, next_at}
use Rattle.told_laws.proofs.Sources.{any_or, is_forwarded}
use Rattle.told_laws.proofs.Troubles.{neither}
use Rattle.given_laws.proofs.Asked.{counts_one}
use Rattle.given_laws.proofs.Behind.{Due, Fine, Owed, Unforwarded, gave, gave_both, given_at, marked_as, nothing_given, others_given}
use Rattle.given_laws.proofs.Counts.{count, count_both, count_few}
use Rattle.given_laws.proofs.Final.{asks_rightly}
use Rattle.given_laws.proofs.Open.{walk_open}

-- whether an entry isn't missed twice, and is missed or sent where it may be
abbrev pub once_so : List Entry → Entry → List Entry → Bool
once_so place e behind = is_missed_once place e && is_missed_caused place e

module _ (s : Settings) (u : ℕ) (F : Family) (o : Operation) (there : operation F o.name ≡ Some o) where
  abbrev op : OpName
  op = o.name

  -- What is known of entries behind a place where it may be forwarded.
  pub record Coming (b : List Marked) (p : ConnectionState) (ms : List Marked) : Type 0 where
    pub rights : Rights s u b p ms
    pub due : Due s u op b p ms
    pub owed : Owed s u op b p ms
    pub once : each_split_from once_so (entries b) (entries ms) ≡ true
    pub told : list_all (λ m. where_there (λ t. is_forward_right s F t.letter) m.mark) ms ≡ true

  coming_behind : (b : List Marked) (p : ConnectionState) (m : Marked) (ms : List Marked) → Coming b p (m ∷ ms) → Coming (b ++ m ∷ []) (step_connection s p m) ms
  coming_behind b p m ms h =
      record {
        rights = h.rights.1;
        due = right (is_expired_due s p m ms) _ h.due;
        owed = right _ _ h.owed;
        once = subst (λ place. each_split_from once_so place (entries ms) ≡ true) (sym (push_entry b m)) (right (once_so (entries b) m.entry (entries ms)) _ h.once);
        told = right (where_there (λ t. is_forward_right s F t.letter) m.mark) _ h.told;
      }

  -- Where it was forwarded, it isn't again.

  abbrev StoppedSo : List Entry → Type 0
  StoppedSo place = list_any (is_missed op) place ≡ true → is_stopped place ≡ true

  stopped_more : (b : List Marked) (m : Marked) → is_missed_caused (entries b) m.entry ≡ true → StoppedSo (entries b) → StoppedSo (entries (b ++ m ∷ []))
  stopped_more b m k h missed = subst (λ place. is_stopped place ≡ true) (sym (push_entry b m)) (any_before _ (entries b) (m.entry ∷ []) (any_split (is_missed op) (entries b) (m.entry ∷ []) h (or_elim (is_missed op m.entry) false here (λ j. absurd (let bad : false ≡ true = j in cc))) (subst (λ place. list_any (is_missed op) place ≡ true) (push_entry b m) missed)))
    where
      here : is_missed op m.entry ≡ true → is_stopped (entries b) ≡ true
      here j = by (missed_op m.entry.what) j k
        where
          by : (q : Option OpName) → passes (same_op op) q ≡ true → (implies (is_some q) (is_stopped (entries b)) && implies (is_some (sent_message m.entry.what)) (not (is_stopped (entries b)))) ≡ true → is_stopped (entries b) ≡ true
          by None x y = absurd (let bad : false ≡ true = x in cc)
          by (Some q) x y = left (is_stopped (entries b)) _ y

  no_more : (b : List Marked) (p : ConnectionState) (m : Marked) (ms : List Marked) → Coming b p (m ∷ ms) → list_any (is_forwarded op) (entries b) ≡ true → StoppedSo (entries b) → is_forwarded op m.entry ≡ false
  no_more b p m ms h was stopped = false_by (is_forwarded op m.entry) (or_elim (is_sent op m.entry) (is_missed op m.entry) sent missed)
    where
      once : once_so (entries b) m.entry (entries ms) ≡ true
      once = left (once_so (entries b) m.entry (entries ms)) _ h.once

      missed : is_missed op m.entry ≡ true → false ≡ true
      missed j = by (missed_op m.entry.what) j (left (is_missed_once (entries b) m.entry) _ once)
        where
          by : (q : Option OpName) → passes (same_op op) q ≡ true → where_there (λ n. not (was_forwarded n (entries b))) q ≡ true → false ≡ true
          by None x y = x
          by (Some q) x y = sym (ap not (subst (λ n. was_forwarded n (entries b) ≡ true) (same_op_eq op q x) was)) ∙ y

      sent : is_sent op m.entry ≡ true → false ≡ true
      sent j = or_elim (list_any (is_sent op) (entries b)) (list_any (is_missed op) (entries b)) (λ k. twice (sent_message m.entry.what) j h.rights.0.once k) (λ k. late (sent_message m.entry.what) j (stopped k) (right (implies (is_some (missed_op m.entry.what)) (is_stopped (entries b))) _ (right (is_missed_once (entries b) m.entry) _ once))) (any_or (is_sent op) (is_missed op) (entries b) was)
        where
          twice : (q : Option (Named Message)) → passes (λ y. same_op op y.op) q ≡ true → (elim q [ None ↦ true | Some y ↦ not (list_any (λ e. passes (λ z. same_op y.op z.op) (sent_message e.what)) (entries b)) && implies (is_bind p) (has_letter (is_free_by p) m) ]) ≡ true → list_any (is_sent op) (entries b) ≡ true → false ≡ true
          twice None x y k = x
          twice (Some n) x y k = sym (ap not (subst (λ z. list_any (is_sent z) (entries b) ≡ true) (same_op_eq op n.op x) k)) ∙ left (not (list_any (λ e. passes (λ z. same_op n.op z.op) (sent_message e.what)) (entries b))) _ y

          late : (q : Option (Named Message)) → passes (λ y. same_op op y.op) q ≡ true → is_stopped (entries b) ≡ true → implies (is_some q) (not (is_stopped (entries b))) ≡ true → false ≡ true
          late None x y k = x
          late (Some n) x y k = sym (ap not y) ∙ k

  unforwarded : (b : List Marked) (p : ConnectionState) (ms : List Marked) → Coming b p ms → list_any (is_forwarded op) (entries b) ≡ true → StoppedSo (entries b) → Unforwarded s u op ms
  unforwarded b p [] h was stopped = refl
  unforwarded b p (m ∷ ms) h was stopped = both (not (is_forwarded op m.entry)) _ (ap not (no_more b p m ms h was stopped)) (unforwarded (b ++ m ∷ []) (step_connection s p m) ms (coming_behind b p m ms h) (subst (λ place. list_any (is_forwarded op) place ≡ true) (sym (push_entry b m)) (any_before (is_forwarded op) (entries b) (m.entry ∷ []) was)) (stopped_more b m (right (is_missed_once (entries b) m.entry) _ (left (once_so (entries b) m.entry (entries ms)) _ h.once)) stopped))

  -- so what comes behind is known
  fine_from : (b : List Marked) (p : ConnectionState) (m : Marked) (ms : List Marked) → Coming b p (m ∷ ms) → is_forwarded op m.entry ≡ true → StoppedSo (entries b) → Fine s u op (b ++ m ∷ []) (step_connection s p m) ms
  fine_from b p m ms h here stopped =
      let next : Coming (b ++ m ∷ []) (step_connection s p m) ms = coming_behind b p m ms h in
      record {
        rights = next.rights;
        due = next.due;
        owed = next.owed;
        unforwarded = unforwarded (b ++ m ∷ []) (step_connection s p m) ms next (subst (λ place. list_any (is_forwarded op) place ≡ true) (sym (push_entry b m)) (any_behind (is_forwarded op) (entries b) (m.entry ∷ []) (or_left (is_forwarded op m.entry) false here))) (stopped_more b m (right (is_missed_once (entries b) m.entry) _ (left (once_so (entries b) m.entry (entries ms)) _ h.once)) stopped);
      }

  -- What is said of how many letters are given: as many as are told behind a Sent, or, where it isn't sent, as it is missed.
  abbrev pub is_bounded : ℕ → Sending → Bool
  is_bounded n x = same_op op x.op && nat_le n (told_by s o x x.behind)

  abbrev pub Bounded : List Entry → List Entry → ℕ → Type 0
  Bounded before es n = (list_any (is_bounded n) (sendings_from u before es) ≡ true) ⊎ ((list_any (is_sent op) es ≡ false) × (n ≤ count_of (list_any (is_missed op) es)))

  module _ (b : List Marked) (p : ConnectionState) (ms : List Marked) (part : PartName) (at : ℕ) (mark : Option Taken) (a : At s u (entries b) p) (stopped : StoppedSo (entries b)) (others : list_all (is_other op) p.rows ≡ true) where
    abbrev marked : What → Marked
    marked v = marked_as s u op part at mark v

    abbrev next : What → ConnectionState
    next v = step_connection s p (marked v)

    -- it is sent
    sent : (i : ℕ) (q : OpName) (rest : List ℕ) → Coming b p (marked (what.Sent i q rest) ∷ ms) → same_op op q ≡ true → Bounded (entries b) (entries (marked (what.Sent i q rest) ∷ ms)) (gave s u op p (marked (what.Sent i q rest) ∷ ms))
    sent i q rest h same = inl (or_left (is_bounded (gave s u op p (marked (what.Sent i q rest) ∷ ms)) x) _ (both (same_op op q) _ same (le-leb (gave s u op p (marked (what.Sent i q rest) ∷ ms)) (told_by s o x (entries ms)) (few mark refl h.rights.0.marked (left (where_there (λ t. is_forward_right s F t.letter) mark) _ h.told)))))
      where
        m : Marked
        m = marked (what.Sent i q rest)

        x : Sending
        x = record { connection = u; op = q; id = i; at = at; rest = rest; before = entries b; behind = entries ms }

        on : (t : Taken) → mark ≡ Some t → (y : Letter) → t.letter ≡ y → marks_connection p (what.Sent i q rest) y ≡ true → is_forward_right s F y ≡ true → gave s u op p (m ∷ ms) ≤ told_by s o x (entries ms)
        on t z (Forward n sort body ask holder) e k right_so =
            let name : op ≡ n = same_op_eq op n (ap (λ v. same_op v n) (same_op_eq op q same) ∙ left (same_op q n) _ (left (same_op q n && bytes_eq rest body) _ k)) in
            let says : (passes (same_kind sort) (kind_of o.request.rest) && agrees ask (asks_who s o)) ≡ true = sym (ap (passes (says_rightly s ask sort)) there) ∙ subst (λ v. passes (says_rightly s ask sort) (operation F v) ≡ true) (sym name) right_so in
            let row : UpRow = record { id = i; op = n; kind = sort; ask_who = ask; sent = at; answered = at; kept = None } in
            let rows : (next (what.Sent i q rest)).rows ≡ put_row row p.rows = ap (λ g. elim g [ None ↦ p.rows | Some v ↦ rows_sent at i p.rows v.letter ]) z ∙ ap (rows_sent at i p.rows) e in
            let all : gave s u op p (m ∷ ms) ≡ given_at s u op p m + gave s u op (next (what.Sent i q rest)) ms = gave_both s u op p m ms in
            let none : given_at s u op p m ≡ 0 = refl in
            let later : gave s u op (next (what.Sent i q rest)) ms ≤ told_by s o x (entries ms) = walk_open s u o x sort (kind_said sort (left (passes (same_kind sort) (kind_of o.request.rest)) _ says)) (b ++ m ∷ []) (next (what.Sent i q rest)) ms (next_at s u op b p m ms a h.rights.0) (fine_from b p m ms h (or_left (is_sent op m.entry) _ same) stopped) (with_row (is_open sort i) row rows (both (same_kind sort sort) _ (kind_same sort) (eqb_same i))) (with_row (asks_rightly s o) row rows (right (passes (same_kind sort) (kind_of o.request.rest)) _ says)) in
            omega (arith, all, none, later)
          where
            kind_said : (k : OpKind) → passes (same_kind k) (kind_of o.request.rest) ≡ true → kind_of o.request.rest ≡ Some k
            kind_said k j = by (kind_of o.request.rest) j
              where
                by : (v : Option OpKind) → passes (same_kind k) v ≡ true → v ≡ Some k
                by None y = absurd (let bad : false ≡ true = y in cc)
                by (Some l) y = ap Some (sym (kind_eq k l y))

            with_row : (t : UpRow → Bool) (row : UpRow) → (next (what.Sent i q rest)).rows ≡ put_row row p.rows → t row ≡ true → list_all (of_mine op t) (next (what.Sent i q rest)).rows ≡ true
            with_row t row e j = ap (list_all (of_mine op t)) e ∙ all_put (of_mine op t) row p.rows (implies_by (same_op op row.op) _ (λ z. j)) (all_imply (is_other op) (of_mine op t) p.rows (λ r z. ap (λ d. implies d (t r)) (not_true (same_op op r.op) z)) others)
        on t z _ e k right_so = absurd (let bad : false ≡ true = k in cc)

        few : (g : Option Taken) → mark ≡ g → (elim g [ None ↦ not (must_mark_connection p (what.Sent i q rest)) | Some t ↦ marks_connection p (what.Sent i q rest) t.letter ]) ≡ true → where_there (λ t. is_forward_right s F t.letter) g ≡ true → gave s u op p (m ∷ ms) ≤ told_by s o x (entries ms)
        few None z k f = absurd (let bad : false ≡ true = k in cc)
        few (Some t) z k f = on t z t.letter refl k f

    -- it is missed
    missed : (q : OpName) → Coming b p (marked (what.Missed q) ∷ ms) → same_op op q ≡ true → Bounded (entries b) (entries (marked (what.Missed q) ∷ ms)) (gave s u op p (marked (what.Missed q) ∷ ms))
    missed q h same =
        let m : Marked = marked (what.Missed q) in
        let fine : Fine s u op (b ++ m ∷ []) (next (what.Missed q)) ms = fine_from b p m ms h (or_right (is_sent op m.entry) _ same) stopped in
        let all : gave s u op p (m ∷ ms) ≡ given_at s u op p m + gave s u op (next (what.Missed q)) ms = gave_both s u op p m ms in
        let few : given_at s u op p m ≤ 1 = by mark in
        let none : gave s u op (next (what.Missed q)) ms ≡ 0 = nothing_given s u op (b ++ m ∷ []) (next (what.Missed q)) ms fine others in
        inr (none_sent ms fine.unforwarded, counts_one (gave s u op p (m ∷ ms)) (list_any (is_missed op) (entries (m ∷ ms))) (omega (arith, all, few, none)) (or_left (is_missed op m.entry) _ same))
      where
        none_sent : (xs : List Marked) → Unforwarded s u op xs → list_any (is_sent op) (entries xs) ≡ false
        none_sent [] k = refl
        none_sent (y ∷ xs) k = ap (λ c. c || list_any (is_sent op) (entries xs)) (neither (is_sent op y.entry) (is_missed op y.entry) (not_true (is_forwarded op y.entry) (left (not (is_forwarded op y.entry)) _ k))).0 ∙ none_sent xs (right (not (is_forwarded op y.entry)) _ k)

        refused : (more : List Posted) → count op more ≡ 0 → count op (failed q C4 ++ more) ≤ 1
        refused more k =
            let all : count op (failed q C4 ++ more) ≡ count op (failed q C4) + count op more = count_both op (failed q C4) more in
            let few : count op (failed q C4) ≤ 1 = count_few op (record { to = Client q.client; letter = Failed q C4 }) in
            omega (arith, all, few, k)

        of_letter : (y : Letter) → count op (missed_of p q y) ≤ 1
        of_letter (Forward n sort body ask holder) = on p.kind (was_lost p holder)
          where
            on : (k : ConnKind) (c : Bool) → count op (elim k [ Regular ↦ failed q C4 ++ ended p q None | BindKind ↦ failed q C4 ++ elim c [ true ↦ [] | false ↦ ended p holder None ] ]) ≤ 1
            on Regular c = refused (ended p q None) refl
            on BindKind true = refused [] refl
            on BindKind false = refused (ended p holder None) refl
        of_letter _ = omega arith

        by : (g : Option Taken) → count op (missed_by p q g) ≤ 1
        by None = omega arith
        by (Some t) = of_letter t.letter

    -- it isn't forwarded yet
    later : (v : What) → Coming b p (marked v ∷ ms) → is_forwarded op (marked v).entry ≡ false → (list_all (is_other op) (next v).rows ≡ true → Bounded (entries b ++ (marked v).entry ∷ []) (entries ms) (gave s u op (next v) ms)) → Bounded (entries b) (entries (marked v ∷ ms)) (gave s u op p (marked v ∷ ms))
    later v h n behind =
        let apart = neither (is_sent op (marked v).entry) (is_missed op (marked v).entry) n in
        let all : gave s u op p (marked v ∷ ms) ≡ given_at s u op p (marked v) + gave s u op (next v) ms = gave_both s u op p (marked v) ms in
        let none : given_at s u op p (marked v) ≡ 0 = others_given s u op p (marked v) ms others apart.1 (left (is_expired_due s p (marked v) ms) _ h.due) in
        let same : gave s u op p (marked v ∷ ms) ≡ gave s u op (next v) ms = omega (arith, all, none) in
        subst (λ k. Bounded (entries b) (entries (marked v ∷ ms)) k) (sym same) (by apart.0 apart.1 (behind (rows_stay op s (marked v).entry mark p v (ap not apart.0) (marked_so s u op p (marked v) h.rights.0.marked) others)))
      where
        by : is_sent op (marked v).entry ≡ false → is_missed op (marked v).entry ≡ false → Bounded (entries b ++ (marked v).entry ∷ []) (entries ms) (gave s u op (next v) ms) → Bounded (entries b) (entries (marked v ∷ ms)) (gave s u op (next v) ms)
        by i j (inl x) = inl (any_behind (is_bounded (gave s u op (next v) ms)) (sending_made u (entries b) (marked v).entry (entries ms) (sent_message v)) (sendings_from u (entries b ++ (marked v).entry ∷ []) (entries ms)) x)
        by i j (inr x) = inr (ap (λ c. c || list_any (is_sent op) (entries ms)) i ∙ x.0, subst (λ c. gave s u op (next v) ms ≤ count_of (c || list_any (is_missed op) (entries ms))) (sym j) x.1)

    entry_step : (v : What) → Coming b p (marked v ∷ ms) → (list_all (is_other op) (next v).rows ≡ true → Bounded (entries b ++ (marked v).entry ∷ []) (entries ms) (gave s u op (next v) ms)) → Bounded (entries b) (entries (marked v ∷ ms)) (gave s u op p (marked v ∷ ms))
    entry_step (what.Sent i q rest) h behind = by (same_op op q) refl
      where
        by : (c : Bool) → same_op op q ≡ c → Bounded (entries b) (entries (marked (what.Sent i q rest) ∷ ms)) (gave s u op p (marked (what.Sent i q rest) ∷ ms))
        by true e = sent i q rest h e
        by false e = later (what.Sent i q rest) h (ap (λ c. c || false) e) behind
    entry_step (what.Missed q) h behind = by (same_op op q) refl
      where
        by : (c : Bool) → same_op op q ≡ c → Bounded (entries b) (entries (marked (what.Missed q) ∷ ms)) (gave s u op p (marked (what.Missed q) ∷ ms))
        by true e = missed q h e
        by false e = later (what.Missed q) h e behind
    entry_step v h behind = later v h refl behind

  pub walk_given : (b : List Marked) (p : ConnectionState) (ms : List Marked) → At s u (entries b) p → Coming b p ms → StoppedSo (entries b) → list_all (is_other op) p.rows ≡ true → Bounded (entries b) (entries ms) (gave s u op p ms)
  walk_given b p [] a h stopped others = inr (refl, omega arith)
  walk_given b p (m ∷ ms) a h stopped others = entry_step b p ms m.entry.part m.entry.at m.mark a stopped others m.entry.what h (λ k. subst (λ place. Bounded place (entries ms) (gave s u op (step_connection s p m) ms)) (push_entry b m) (walk_given (b ++ m ∷ []) (step_connection s p m) ms (next_at s u op b p m ms a h.rights.0) (coming_behind b p m ms h) (stopped_more b m (right (is_missed_once (entries b) m.entry) _ (left (once_so (entries b) m.entry (entries ms)) _ h.once)) stopped) k))
