-- From the Sent of an operation whose row stands still at the end, its connection told all answers to that Sent, or keeps the
-- final one back.
use Rattle.std.proofs.Common.{◌≡◌, ℕ, Bool, true, false, ◌&&◌, ◌||◌, not, List, [], ◌∷◌, ◌++◌, refl, ap, ◌∙◌, sym, subst}
use Rattle.std.specs.Prelude.{Option, Some, None}
use Rattle.std.specs.List.{list_any, list_all}
use Rattle.std.specs.Str.{bytes_eq}
use Rattle.ldap_spec.specs.Kinds.{kind_of, same_kind}
use Rattle.ldap_spec.specs.Messages.{Message}
use Rattle.lload_names.specs.declared.names.Letter.{Letter}
use Rattle.lload_names.specs.declared.names.Letter.TheVariants.{Forward}
use Rattle.lload_names.specs.declared.names.OpKind.{OpKind}
use Rattle.lload_names.specs.declared.names.OpName.{OpName}
use Rattle.lload_names.specs.declared.names.PartName.TheVariants.{Client}
use Rattle.lload_names.specs.declared.names.What.{What}
use Rattle.lload_names.specs.declared.names.What.TheVariants as what
use Rattle.lload_spec.specs.Answers.{Sending, answers_under, reign_of, sending_made, sendings_from}
use Rattle.lload_spec.specs.Entries.{Named, is_sent, sent_message}
use Rattle.lload_spec.specs.Journal.{same_op, same_part}
use Rattle.lload_spec.specs.Lists.{implies, passes}
use Rattle.lload_spec.specs.Settings.{Settings}
use Rattle.lload_spec.proofs.Growth.{left, right, both}
use Rattle.lload_laws.proofs.ListLaws.{all_imply, implies_by}
use Rattle.part_laws.proofs.ListLaws.{any_before, any_behind, eqb_same, false_by, not_true, or_left, or_right, same_op_eq}
use Rattle.part_spec.specs.ConnectionState.{ConnectionState, UpRow, connection_behind, is_bind, put_row, rows_sent, step_connection}
use Rattle.part_spec.specs.Gives.{connection_letters}
use Rattle.part_spec.specs.Marked.{Marked, Taken, entries}
use Rattle.part_spec.specs.Marks.{marks_connection, must_mark_connection}
use Rattle.part_spec.specs.Share.{has_letter, is_free_by}
use Rattle.client_answer_laws.proofs.Each.{Each, each_append, each_imply}
use Rattle.connection_laws.proofs.Permits.{push_entry}
use Rattle.connection_laws.proofs.Rows.{all_put}
use Rattle.joined_laws.proofs.Taken.{is_mark_from}
use Rattle.fifo_laws.proofs.Quiet.{is_other, letters_quiet, rows_stay}
use Rattle.fifo_laws.proofs.SentOnce.{others_here}
use Rattle.forward_laws.proofs.Causes.{is_forward_as}
use Rattle.forward_laws.proofs.Chosen.{kind_same}
use Rattle.answer_laws.proofs.Gots.{is_open}
use Rattle.answer_laws.proofs.Places.{At, Rights, is_of_its_client}
use Rattle.answer_laws.proofs.Rests.{told, quiet_told, of_mine}
use Rattle.answer_laws.proofs.Told.{NoSent, gave, marked_so, next_at, told_later}
use Rattle.all_told_laws.proofs.Stays.{Whole, open_whole, stands}

module _ (s : Settings) (u : ℕ) (op : OpName) where
  -- what is known of a Sent of the operation: the kind of its Forward, and what its connection told where its row stands still
  pub record SentWhole (sent : Sending) (p : ConnectionState) (ms : List Marked) : Type 0 where
    pub kind : OpKind
    pub forward : list_any (λ m. is_mark_from (Client op.client) (is_forward_as op kind) m.mark) ms ≡ true
    pub whole : stands s u op p ms ≡ true → (req : Message) → kind_of req.rest ≡ Some kind → Whole s u req (answers_under req sent.id (reign_of sent.id sent.behind)) (gave s u op p ms)

  abbrev pub SentsWhole : List Sending → ConnectionState → List Marked → Type 0
  SentsWhole sents p ms = Each (λ sent. same_op op sent.op ≡ true → SentWhole sent p ms) sents

  -- no further one is sent
  none_after : (b : List Marked) (p : ConnectionState) (ms : List Marked) → Rights s u b p ms → list_any (is_sent op) (entries b) ≡ true → NoSent s u op ms
  none_after b p [] rs h = refl
  none_after b p (m ∷ ms) rs h = both (not (is_sent op m.entry)) _ (by (sent_message m.entry.what) rs.0.once) (none_after (b ++ m ∷ []) (step_connection s p m) ms rs.1 (subst (λ l. list_any (is_sent op) l ≡ true) (sym (push_entry b m)) (any_before (is_sent op) (entries b) (m.entry ∷ []) h)))
    where
      by : (o : Option (Named Message)) → (elim o [ None ↦ true | Some x ↦ not (list_any (λ e. passes (λ y. same_op x.op y.op) (sent_message e.what)) (entries b)) && implies (is_bind p) (has_letter (is_free_by p) m) ]) ≡ true → not (passes (λ x. same_op op x.op) o) ≡ true
      by None k = refl
      by (Some x) k = ap not (false_by (same_op op x.op) (λ j. let was : list_any (is_sent x.op) (entries b) ≡ true = subst (λ z. list_any (is_sent z) (entries b) ≡ true) (same_op_eq op x.op j) h in sym (ap not was) ∙ left (not (list_any (is_sent x.op) (entries b))) _ k))

  none_behind : (b : List Marked) (p : ConnectionState) (m : Marked) (ms : List Marked) → Rights s u b p (m ∷ ms) → is_sent op m.entry ≡ true → NoSent s u op ms
  none_behind b p m ms rs h = none_after (b ++ m ∷ []) (step_connection s p m) ms rs.1 (subst (λ l. list_any (is_sent op) l ≡ true) (sym (push_entry b m)) (any_behind (is_sent op) (entries b) (m.entry ∷ []) (or_left (is_sent op m.entry) false h)))

  entries_none : (ms : List Marked) → NoSent s u op ms → list_any (is_sent op) (entries ms) ≡ false
  entries_none [] h = refl
  entries_none (m ∷ ms) h = ap (λ x. x || list_any (is_sent op) (entries ms)) (not_true (is_sent op m.entry) (left (not (is_sent op m.entry)) _ h)) ∙ entries_none ms (right (not (is_sent op m.entry)) _ h)

  others_whole : (p : ConnectionState) (ms : List Marked) (sents : List Sending) → list_all (λ sent. not (same_op op sent.op)) sents ≡ true → SentsWhole sents p ms
  others_whole p ms [] h = tt
  others_whole p ms (x ∷ sents) h = (λ k. absurd (let bad : false ≡ true = sym (ap not k) ∙ left (not (same_op op x.op)) _ h in cc), others_whole p ms sents (right (not (same_op op x.op)) _ h))

  -- The Sent of the operation.
  module _ (b : List Marked) (p : ConnectionState) (m : Marked) (ms : List Marked) (at : At s u (entries b) p) (rs : Rights s u b p (m ∷ ms)) (others : list_all (is_other op) p.rows ≡ true) where
    abbrev made : ℕ → OpName → List ℕ → Sending
    made i o rest = record { connection = u; op = o; id = i; at = m.entry.at; rest = rest; before = entries b; behind = entries ms }

    sent_here : (i : ℕ) (o : OpName) (rest : List ℕ) → m.entry.what ≡ what.Sent i o rest → same_op op o ≡ true → SentWhole (made i o rest) p (m ∷ ms)
    sent_here i o rest e same = by m.mark refl (ap (λ w. elim m.mark [ None ↦ not (must_mark_connection p w) | Some t ↦ marks_connection p w t.letter ]) (sym e) ∙ rs.0.marked)
      where
        none : NoSent s u op ms
        none = none_behind b p m ms rs (ap (λ w. passes (λ x. same_op op x.op) (sent_message w)) e ∙ same)

        silent : told op (connection_letters s p m.entry.at m.mark m.entry.what) ≡ []
        silent = ap (λ w. told op (connection_letters s p m.entry.at m.mark w)) e

        on : (t : Taken) → m.mark ≡ Some t → (x : Letter) → t.letter ≡ x → marks_connection p (what.Sent i o rest) x ≡ true → is_of_its_client t.sender x ≡ true → SentWhole (made i o rest) p (m ∷ ms)
        on t z (Forward q sort body ask holder) y k c =
            let name : same_op op q ≡ true = ap (λ n. same_op n q) (same_op_eq op o same) ∙ left (same_op o q) _ (left (same_op o q && bytes_eq rest body) _ k) in
            let row : UpRow = record { id = i; op = q; kind = sort; ask_who = ask; sent = m.entry.at; answered = m.entry.at; kept = None } in
            let rows : (step_connection s p m).rows ≡ put_row row p.rows = ap (λ w. (connection_behind s m.entry m.mark p w).rows) e ∙ ap (λ g. elim g [ None ↦ p.rows | Some x ↦ rows_sent m.entry.at i p.rows x.letter ]) z ∙ ap (rows_sent m.entry.at i p.rows) y in
            let open_rows : list_all (of_mine op (is_open sort i)) (step_connection s p m).rows ≡ true = ap (list_all (of_mine op (is_open sort i))) rows ∙ all_put (of_mine op (is_open sort i)) row p.rows (implies_by (same_op op q) _ (λ j. both (same_kind sort sort) _ (kind_same sort) (eqb_same i))) (all_imply (λ r. not (same_op op r.op)) (of_mine op (is_open sort i)) p.rows (λ r j. ap (λ d. implies d (is_open sort i r)) (not_true (same_op op r.op) j)) others) in
            record {
              kind = sort;
              forward = or_left (is_mark_from (Client op.client) (is_forward_as op sort) m.mark) _ (ap (is_mark_from (Client op.client) (is_forward_as op sort)) z ∙ ap (λ v. same_part (Client op.client) t.sender && is_forward_as op sort v) y ∙ both (same_part (Client op.client) t.sender) _ (ap (λ n. same_part (Client n.client) t.sender) (same_op_eq op q name) ∙ c) (both (same_op op q) _ name (kind_same sort)));
              whole = λ h req g. subst (Whole s u req (answers_under req i (reign_of i (entries ms)))) (sym (told_later s u op p m ms silent)) (open_whole s u op sort i req g (b ++ m ∷ []) (step_connection s p m) ms (next_at s u op b p m ms at rs.0) rs.1 none open_rows h);
            }
        on t z _ y k c = absurd (let bad : false ≡ true = k in cc)

        by : (mark : Option Taken) → m.mark ≡ mark → (elim mark [ None ↦ not (must_mark_connection p (what.Sent i o rest)) | Some t ↦ marks_connection p (what.Sent i o rest) t.letter ]) ≡ true → SentWhole (made i o rest) p (m ∷ ms)
        by None z k = absurd (let bad : false ≡ true = k in cc)
        by (Some t) z k = on t z t.letter refl k (rs.0.sender t z)

    made_here : (w : What) → m.entry.what ≡ w → SentsWhole (sending_made u (entries b) m.entry (entries ms) (sent_message w)) p (m ∷ ms)
    made_here (what.Sent i o rest) e = (λ k. sent_here i o rest e k, tt)
    made_here _ e = tt

    -- what is told is told behind the entry
    told_more : (sents : List Sending) → SentsWhole sents (step_connection s p m) ms → SentsWhole sents p (m ∷ ms)
    told_more sents h = each_imply (λ sent. same_op op sent.op ≡ true → SentWhole sent (step_connection s p m) ms) (λ sent. same_op op sent.op ≡ true → SentWhole sent p (m ∷ ms)) sents (λ sent f k. more sent (f k)) h
      where
        more : (sent : Sending) → SentWhole sent (step_connection s p m) ms → SentWhole sent p (m ∷ ms)
        more sent f =
            record {
              kind = f.kind;
              forward = or_right (is_mark_from (Client op.client) (is_forward_as op f.kind) m.mark) _ f.forward;
              whole = λ h req g. subst (Whole s u req (answers_under req sent.id (reign_of sent.id sent.behind))) (sym (told_later s u op p m ms (quiet_told op (connection_letters s p m.entry.at m.mark m.entry.what) (letters_quiet op s p m.entry.at m.mark m.entry.what others)))) (f.whole h req g);
            }

    step : (list_all (is_other op) (step_connection s p m).rows ≡ true → SentsWhole (sendings_from u (entries b ++ m.entry ∷ []) (entries ms)) (step_connection s p m) ms) → SentsWhole (sendings_from u (entries b) (entries (m ∷ ms))) p (m ∷ ms)
    step next = each_append (λ sent. same_op op sent.op ≡ true → SentWhole sent p (m ∷ ms)) (sending_made u (entries b) m.entry (entries ms) (sent_message m.entry.what)) (sendings_from u (entries b ++ m.entry ∷ []) (entries ms)) (made_here m.entry.what refl) (by (is_sent op m.entry) refl)
      where
        by : (d : Bool) → is_sent op m.entry ≡ d → SentsWhole (sendings_from u (entries b ++ m.entry ∷ []) (entries ms)) p (m ∷ ms)
        by true e = others_whole p (m ∷ ms) (sendings_from u (entries b ++ m.entry ∷ []) (entries ms)) (others_here op u (entries b ++ m.entry ∷ []) (entries ms) (entries_none ms (none_behind b p m ms rs e)))
        by false e = told_more (sendings_from u (entries b ++ m.entry ∷ []) (entries ms)) (next (rows_stay op s m.entry m.mark p m.entry.what (ap not e) (marked_so s u op p m rs.0.marked) others))

  pub walk_whole : (b : List Marked) (p : ConnectionState) (ms : List Marked) → At s u (entries b) p → Rights s u b p ms → list_all (is_other op) p.rows ≡ true → SentsWhole (sendings_from u (entries b) (entries ms)) p ms
  walk_whole b p [] at rs h = tt
  walk_whole b p (m ∷ ms) at rs h = step b p m ms at rs h (λ k. subst (λ l. SentsWhole (sendings_from u l (entries ms)) (step_connection s p m) ms) (push_entry b m) (walk_whole (b ++ m ∷ []) (step_connection s p m) ms (next_at s u op b p m ms at rs.0) rs.1 k))
