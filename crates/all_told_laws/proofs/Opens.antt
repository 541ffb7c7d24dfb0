-- A row that stands at the end of a connection's list is of an operation that is open there.
use Rattle.std.proofs.Common.{◌≡◌, ℕ, Bool, true, false, ◌==◌, ◌&&◌, not, List, [], ◌∷◌, ◌++◌, append_assoc, refl, ap, ◌∙◌, sym, subst}
use Rattle.std.specs.Prelude.{Option, Some, None}
use Rattle.std.specs.List.{list_any, list_all}
use Rattle.std.proofs.lemmas.List.{append-nil}
use Rattle.lload_names.specs.declared.names.ConnKind.TheVariants.{Bind as BindKind}
use Rattle.lload_names.specs.declared.names.Entry.{Entry}
use Rattle.lload_names.specs.declared.names.OpKind.TheVariants.{Bind}
use Rattle.lload_names.specs.declared.names.OpName.{OpName}
use Rattle.lload_names.specs.declared.names.PartName.{PartName}
use Rattle.lload_names.specs.declared.names.PartName.TheVariants.{Up as Connection}
use Rattle.lload_spec.specs.Answers.{Sending, is_open, of_operation, sendings}
use Rattle.lload_spec.specs.Entries.{is_down, is_linked, is_of_connection}
use Rattle.lload_spec.specs.Journal.{Family, same_op}
use Rattle.lload_spec.specs.Lists.{agrees, each_split_from, implies, last, where_there}
use Rattle.lload_spec.specs.Operations.{is_of, operation}
use Rattle.lload_spec.specs.Settings.{Settings, is_of_kind}
use Rattle.lload_spec.specs.Strict.{is_empty, lives_as_connection, may_follow_down}
use Rattle.lload_spec.proofs.Growth.{both, left, right}
use Rattle.lload_laws.proofs.ListLaws.{any_imply, passes_imply}
use Rattle.part_laws.proofs.ListLaws.{or_elim, same_op_eq}
use Rattle.part_laws.proofs.Induction.{sees_behind}
use Rattle.part_spec.specs.ConnectionState.{ConnectionState, UpRow, connection_of, empty_connection, step_connection}
use Rattle.part_spec.specs.Fit.{ConnectionLedger, are_fit_from, empty_connection_ledger, fits_connection, is_unfit, ledger_behind as behind, step_connection_ledger}
use Rattle.part_spec.specs.Marked.{Marked, Taken, entries}
use Rattle.part_spec.specs.Marks.{each_from, has_connection_mark}
use Rattle.part_spec.specs.Share.{ConnectionShare, each_place, is_expired_due, is_sent_once}
use Rattle.connection_laws.proofs.Permits.{push_entry}
use Rattle.connection_laws.proofs.Through.{steps_are}
use Rattle.bind_laws.specs.Turns.{are_told_rightly, is_told_rightly}
use Rattle.joined_laws.proofs.Taken.{is_fit_there}
use Rattle.carried_laws.specs.Laws.{Played}
use Rattle.caused_laws.specs.Laws.{BindConnectionsSay}
use Rattle.rows_laws.specs.Laws.{RowsAreOpen, is_row_of, says_of}
use Rattle.upstream_laws.proofs.Answered.{LastOf, Said}
use Rattle.upstream_laws.proofs.BindEnds.{Comes, Here, here_step}
use Rattle.upstream_laws.proofs.Ends.{nothing_here}
use Rattle.upstream_laws.proofs.Expiries.{last_any}
use Rattle.upstream_laws.proofs.Heads.{AtHeads, bind_heads}
use Rattle.open_laws.proofs.BindOpen.{OpenOf, Opened, opened_step}
use Rattle.ended_laws.proofs.Latencies.{share}
use Rattle.all_told_laws.proofs.Stays.{stands}

-- whether a Sent is of the operation, which is open there; and whether it is a Bind
abbrev pub is_open_of : Settings → Family → OpName → Sending → Bool
is_open_of s F op x = same_op op x.op && of_operation F (is_open s) x

abbrev pub is_bind_of : Family → OpName → Sending → Bool
is_bind_of F op x = same_op op x.op && of_operation F (λ o y. is_of Bind o) x

module _ (s : Settings) (F : Family) (op : OpName) where
  -- On a regular connection.
  module _ (sents : List Sending) where
    row_open : (r : UpRow) → same_op op r.op ≡ true → list_any (is_row_of s F r) sents ≡ true → list_any (is_open_of s F op) sents ≡ true
    row_open r e h = any_imply (is_row_of s F r) (is_open_of s F op) sents opened h
      where
        opened : (x : Sending) → is_row_of s F r x ≡ true → is_open_of s F op x ≡ true
        opened x k =
            both (same_op op x.op) _
            (ap (λ n. same_op n x.op) (same_op_eq op r.op e) ∙ left (same_op r.op x.op) _ (left (same_op r.op x.op && x.id == r.id) _ (left (same_op r.op x.op && x.id == r.id && x.at == r.sent) _ k)))
            (passes_imply (λ o. says_of s r o x) (λ o. is_open s o x) (operation F x.op) (λ o j. right _ (is_open s o x) j) (right _ (of_operation F (says_of s r) x) k))

    rows_open : (rows : List UpRow) → list_any (λ r. same_op op r.op) rows ≡ true → list_all (λ r. list_any (is_row_of s F r) sents) rows ≡ true → list_any (is_open_of s F op) sents ≡ true
    rows_open [] h k = absurd (let bad : false ≡ true = h in cc)
    rows_open (r ∷ rows) h k = or_elim (same_op op r.op) (list_any (λ q. same_op op q.op) rows) (λ j. row_open r j (left (list_any (is_row_of s F r) sents) _ k)) (λ j. rows_open rows j (right (list_any (is_row_of s F r) sents) _ k)) h

  pub regular_open : (u : ℕ) (list : List Marked) → RowsAreOpen s F u list → stands s u op (empty_connection s u) list ≡ true → list_any (is_open_of s F op) (sendings u (entries list)) ≡ true
  regular_open u list h k = rows_open (sendings u (entries list)) (connection_of s u list).rows (ap (λ (p : ConnectionState). list_any (λ r. same_op op r.op) p.rows) (steps_are s (empty_connection s u) list) ∙ k) (left (list_all (λ r. list_any (is_row_of s F r) (sendings u (entries list))) (connection_of s u list).rows) _ h.behind_all)

  -- On a bind connection a row is of the last Sent.
  record LastOpen (sents : List Sending) : Type 0 where
    opened : list_any (is_open_of s F op) sents ≡ true
    bind : list_any (is_bind_of F op) sents ≡ true

  last_open : (sents : List Sending) (rows : List UpRow) → list_any (λ r. same_op op r.op) rows ≡ true → Said F rows (last sents) → Opened s F rows (last sents) → LastOpen sents
  last_open sents [] h said opened = absurd (let bad : false ≡ true = h in cc)
  last_open sents (r ∷ rows) h said opened = or_elim (same_op op r.op) (list_any (λ q. same_op op q.op) rows) (λ j. by j (last sents) refl said.0 opened.0) (λ j. last_open sents rows j said.1 opened.1) h
    where
      by : same_op op r.op ≡ true → (z : Option Sending) → last sents ≡ z → LastOf F z r → OpenOf s F z → LastOpen sents
      by j None e l o = absurd l
      by j (Some x) e l o =
          let mine : same_op op x.op ≡ true = ap (same_op op) l.op ∙ j in
          record {
            opened = last_any (is_open_of s F op) sents x e (both (same_op op x.op) _ mine o);
            bind = last_any (is_bind_of F op) sents x e (both (same_op op x.op) _ mine (ap (λ q. elim q [ None ↦ false | Some y ↦ is_of Bind y ]) l.found ∙ l.bind));
          }

  module _ (u : ℕ) (kind : is_of_kind s BindKind u ≡ true) where
    abbrev once_so : ConnectionState → List Marked → Marked → List Marked → Bool
    once_so p b m behind_it = is_sent_once p (entries b) m

    abbrev due_so : ConnectionState → List Marked → Marked → List Marked → Bool
    due_so p b m behind_it = is_expired_due s p m behind_it

    abbrev lives_so : List Entry → Entry → List Entry → Bool
    lives_so b e behind_it = is_of_connection e.what && lives_as_connection b e

    open_from : (ms before : List Marked) (l : ConnectionLedger) → AtHeads s F u before l ms → Here s F u before l → Opened s F l.state.rows (last (sendings u (entries before))) → are_fit_from (fits_connection s) (step_connection_ledger s) l ms ≡ true → each_from (step_connection s) has_connection_mark l.state ms ≡ true → each_place (step_connection s) once_so l.state before ms ≡ true → each_split_from lives_so (entries before) (entries ms) ≡ true → are_told_rightly s F ms ≡ true → each_place (step_connection s) due_so l.state before ms ≡ true → list_any (λ r. same_op op r.op) (behind (step_connection_ledger s) l ms).state.rows ≡ true → LastOpen (sendings u (entries before ++ entries ms))
    open_from [] before l a h opened fit marks once life told due k = subst (λ es. LastOpen (sendings u es)) (sym (append-nil (entries before))) (last_open (sendings u (entries before)) l.state.rows k h.said opened)
    open_from (m ∷ ms) before l a h opened fit marks once life told due k =
        let alive : implies (list_any is_down (entries before)) (may_follow_down m.entry.what) ≡ true = right (agrees (is_linked m.entry.what) (is_empty (entries before))) _ (left (agrees (is_linked m.entry.what) (is_empty (entries before)) && implies (list_any is_down (entries before)) (may_follow_down m.entry.what)) _ (right (is_of_connection m.entry.what) _ (left (lives_so (entries before) m.entry (entries ms)) _ life))) in
        let comes : Comes s F u kind before l m = record { begun = a.0; marked = left (has_connection_mark l.state m) _ marks; once = left (is_sent_once l.state (entries before) m) _ once; alive = alive; told = left (where_there (λ t. is_told_rightly s F t.letter) m.mark) _ told; fit = fit_here } in
        let here : Here s F u (before ++ m ∷ []) (step_connection_ledger s l m) = here_step s F u kind before l h m.entry.part m.entry.at m.mark m.entry.what ms comes (left (is_expired_due s l.state m ms) _ due) in
        let next : Opened s F (step_connection s l.state m).rows (last (sendings u (entries before ++ m.entry ∷ []))) = opened_step s F u kind before l h m.entry.part m.entry.at m.mark opened m.entry.what a.0 alive (subst (λ p. Said F (step_connection s l.state m).rows (last (sendings u p))) (push_entry before m) here.said) in
        subst (λ es. LastOpen (sendings u es)) pushed (open_from ms (before ++ m ∷ []) (step_connection_ledger s l m) a.1 here (subst (λ p. Opened s F (step_connection s l.state m).rows (last (sendings u p))) (sym (push_entry before m)) next) (right (not (is_unfit (fits_connection s) l m.mark)) _ fit) (right (has_connection_mark l.state m) _ marks) (right (is_sent_once l.state (entries before) m) _ once) (subst (λ b. each_split_from lives_so b (entries ms) ≡ true) (sym (push_entry before m)) (right (lives_so (entries before) m.entry (entries ms)) _ life)) (right (where_there (λ t. is_told_rightly s F t.letter) m.mark) _ told) (right (is_expired_due s l.state m ms) _ due) k)
      where
        pushed : entries (before ++ m ∷ []) ++ entries ms ≡ entries before ++ m.entry ∷ entries ms
        pushed = ap (λ place. place ++ entries ms) (push_entry before m) ∙ append_assoc (entries before) (m.entry ∷ []) (entries ms)

        fit_here : (t : Taken) → m.mark ≡ Some t → fits_connection s l t.sender t.letter ≡ true
        fit_here t e = is_fit_there (fits_connection s) l t (are_fit_from (fits_connection s) (step_connection_ledger s) (step_connection_ledger s l m) ms) (ap (λ q. not (is_unfit (fits_connection s) l q) && are_fit_from (fits_connection s) (step_connection_ledger s) (step_connection_ledger s l m) ms) (sym e) ∙ fit)

  module _ (says : BindConnectionsSay) (marked : PartName → List Marked) (h : Played s F marked) (u : ℕ) (kind : is_of_kind s BindKind u ≡ true) (k : stands s u op (empty_connection s u) (marked (Connection u)) ≡ true) where
    abbrev its : ConnectionShare s u (marked (Connection u))
    its = share s F marked h u

    last_row : LastOpen (sendings u (entries (marked (Connection u))))
    last_row =
        open_from u kind (marked (Connection u)) [] (empty_connection_ledger s u) (bind_heads says s F marked h u kind) (nothing_here s F u kind) tt (h.joined.fit (Connection u)) its.marks its.sent_once its.life (says s F marked h u kind).told its.expired
        (ap (λ (p : ConnectionState). list_any (λ r. same_op op r.op) p.rows) (sees_behind (fits_connection s) (step_connection_ledger s) (step_connection s) (λ l. l.state) (λ l m. refl) (empty_connection_ledger s u) (marked (Connection u))) ∙ k)

    pub bind_open : list_any (is_open_of s F op) (sendings u (entries (marked (Connection u)))) ≡ true
    bind_open = last_row.opened

    pub bind_kind : list_any (is_bind_of F op) (sendings u (entries (marked (Connection u)))) ≡ true
    bind_kind = last_row.bind
