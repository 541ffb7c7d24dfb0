-- What expires on a bind connection is open, and nothing is abandoned there: along its list.
use Rattle.std.proofs.Common.{◌≡◌, ℕ, Bool, true, false, ◌&&◌, ◌||◌, not, List, [], ◌∷◌, ◌++◌, refl, ap, ◌∙◌, sym, subst}
use Rattle.std.specs.Prelude.{Option, Some, None, is_some, if◌then◌else◌}
use Rattle.std.specs.List.{list_any, list_all}
use Rattle.std.specs.Str.{bytes_eq}
use Rattle.ldap_spec.specs.Bodies.{abandon}
use Rattle.lload_names.specs.declared.names.ConnKind.TheVariants.{Bind as BindKind}
use Rattle.lload_names.specs.declared.names.EndWhy.TheVariants.{TimedOut}
use Rattle.lload_names.specs.declared.names.Entry.{Entry}
use Rattle.lload_names.specs.declared.names.Letter.{Letter}
use Rattle.lload_names.specs.declared.names.Letter.TheVariants.{Drop}
use Rattle.lload_names.specs.declared.names.OpKind.TheVariants.{Bind}
use Rattle.lload_names.specs.declared.names.OpName.{OpName}
use Rattle.lload_names.specs.declared.names.What.{What}
use Rattle.lload_names.specs.declared.names.What.TheVariants as what
use Rattle.lload_spec.specs.Answers.{Sending, is_last_sent, is_open, of_operation, sendings}
use Rattle.lload_spec.specs.Entries.{down_why, expired_op, is_down, is_down_by, is_expired, is_linked, is_of_connection, is_own, own_message, same_why}
use Rattle.lload_spec.specs.Journal.{Family, same_op}
use Rattle.lload_spec.specs.Lists.{agrees, each_split_from, first_passes, implies, last, last_passes, passes, where_there}
use Rattle.lload_spec.specs.Operations.{Operation, is_of, operation}
use Rattle.lload_spec.specs.Owed.{is_open_at}
use Rattle.lload_spec.specs.Settings.{Settings, is_kind, is_of_kind}
use Rattle.lload_spec.specs.Strict.{is_abandon_open, is_empty, is_expired_open, is_expiry_told, lives_as_connection, may_follow_down}
use Rattle.lload_spec.proofs.Growth.{left, right, both}
use Rattle.lload_laws.proofs.ListLaws.{found, found_passes, implies_by, passes_imply}
use Rattle.part_laws.proofs.ListLaws.{or_elim, same_op_eq}
use Rattle.part_spec.specs.ConnectionState.{ConnectionState, UpRow, is_bind, is_bind_row, row_named, step_connection}
use Rattle.part_spec.specs.ConnectionTurn.{is_due}
use Rattle.part_spec.specs.Fit.{ConnectionLedger, are_fit_from, fits_connection, is_unfit, step_connection_ledger}
use Rattle.part_spec.specs.Marked.{Marked, Taken, entries}
use Rattle.part_spec.specs.Marks.{each_from, has_connection_mark}
use Rattle.part_spec.specs.Share.{drops, each_place, has_due_messages, has_letter, has_reason, is_expired_due, is_sent_once, is_expiry_told as is_told_by_row}
use Rattle.connection_laws.proofs.Permits.{push_entry}
use Rattle.bind_laws.specs.Turns.{are_told_rightly, is_told_rightly}
use Rattle.client_answer_laws.proofs.Each.{each_found}
use Rattle.joined_laws.proofs.Taken.{is_fit_there}
use Rattle.upstream_laws.proofs.Answered.{LastOf, Said}
use Rattle.upstream_laws.proofs.BindEnds.{Here, here_step}
use Rattle.upstream_laws.proofs.Expiries.{last_any}
use Rattle.upstream_laws.proofs.Heads.{AtHeads}
use Rattle.open_laws.proofs.Among.{Such, all_among, among_passing}
use Rattle.open_laws.proofs.BindOpen.{OpenOf, Opened, opened_step}
use Rattle.open_laws.proofs.RegularOpen.{abandon_reason, last_was}

-- an own message is no end
not_down_own : (rest : List ℕ) (w : What) → passes (λ m. bytes_eq m.rest rest) (own_message w) ≡ true → passes (λ x. true) (down_why w) ≡ true → false ≡ true
not_down_own rest (what.Down why) h k = h
not_down_own rest _ h k = k

-- where it expired, the connection goes down next
abbrev pub NextDown : List Entry → List Entry → Type 0
NextDown place es = (op : OpName) → last_passes (is_expired op) place ≡ true → first_passes is_down es ≡ true

module _ (s : Settings) (F : Family) (u : ℕ) where
  module _ (before : List Marked) (l : ConnectionLedger) (h : Here s F u before l) (m : Marked) where
    abbrev sents : List Sending
    sents = sendings u (entries before)

    -- What expires.
    module _ (k : Opened s F l.state.rows (last (sendings u (entries before)))) (ms : List Marked) where
      told_bind : (op : OpName) (o : Operation) → operation F op ≡ Some o → is_of Bind o ≡ true → (x : Sending) → same_op op x.op ≡ true → of_operation F (is_expiry_told (entries ms)) x ≡ true
      told_bind op o known bind x e = ap (passes (λ q. is_expiry_told (entries ms) q x)) (ap (operation F) (sym (same_op_eq op x.op e)) ∙ known) ∙ ap (λ b. implies (not b) (first_passes (is_own (abandon x.id)) (entries ms))) bind

      one : (op : OpName) (r : UpRow) → same_op op r.op ≡ true → (q : Option Sending) → last sents ≡ q → LastOf F q r → OpenOf s F q → (is_open_at s F u (entries before) op && list_all (λ x. implies (same_op op x.op) (of_operation F (is_expiry_told (entries ms)) x)) sents) ≡ true
      one op r same None e f g = absurd f
      one op r same (Some x) e f g =
          let name : same_op op x.op ≡ true = ap (same_op op) f.op ∙ same in
          let known : operation F op ≡ Some f.o = ap (operation F) (same_op_eq op x.op name) ∙ f.found in
          both (is_open_at s F u (entries before) op) _ (last_any (λ y. same_op op y.op && of_operation F (is_open s) y) sents x e (both (same_op op x.op) _ name g))
          (all_among (λ y. implies (same_op op y.op) (of_operation F (is_expiry_told (entries ms)) y)) sents (λ y a. implies_by (same_op op y.op) (of_operation F (is_expiry_told (entries ms)) y) (λ i. told_bind op f.o known f.bind y i)))

      pub expired_open : is_expired_due s l.state m ms ≡ true → is_expired_open s F u (entries before) m.entry (entries ms) ≡ true
      expired_open due = by (expired_op m.entry.what) due
        where
          row : (op : OpName) (o : Option UpRow) → row_named l.state op ≡ o → passes (λ r. is_due s m.entry.at r && is_told_by_row (entries ms) r) o ≡ true → (is_open_at s F u (entries before) op && list_all (λ x. implies (same_op op x.op) (of_operation F (is_expiry_told (entries ms)) x)) sents) ≡ true
          row op None e j = absurd (let bad : false ≡ true = j in cc)
          row op (Some r) e j = one op r (found_passes (λ q. same_op op q.op) l.state.rows r e) (last sents) refl (each_found (LastOf F (last sents)) (λ q. same_op op q.op) l.state.rows r e h.said) (each_found (λ q. OpenOf s F (last sents)) (λ q. same_op op q.op) l.state.rows r e k)

          by : (o : Option OpName) → (elim o [ None ↦ true | Some op ↦ passes (λ r. is_due s m.entry.at r && is_told_by_row (entries ms) r) (row_named l.state op) ]) ≡ true → where_there (λ op. is_open_at s F u (entries before) op && list_all (λ x. implies (same_op op x.op) (of_operation F (is_expiry_told (entries ms)) x)) sents) o ≡ true
          by None j = refl
          by (Some op) j = row op (row_named l.state op) refl j

    pub down_next : (ms : List Marked) → is_expired_due s l.state m ms ≡ true → NextDown (entries before ++ m.entry ∷ []) (entries ms)
    down_next ms due op j = by (expired_op m.entry.what) (last_was (is_expired op) (entries before) m.entry j) due
      where
        ended : (es : List Entry) → first_passes (is_down_by TimedOut) es ≡ true → first_passes is_down es ≡ true
        ended [] i = i
        ended (e ∷ es) i = passes_imply (same_why TimedOut) (λ x. true) (down_why e.what) (λ x n. refl) i

        row : (q : OpName) (o : Option UpRow) → row_named l.state q ≡ o → passes (λ r. is_due s m.entry.at r && is_told_by_row (entries ms) r) o ≡ true → first_passes is_down (entries ms) ≡ true
        row q None e i = absurd (let bad : false ≡ true = i in cc)
        row q (Some r) e i = ended (entries ms) (sym (ap (λ b. if b then first_passes (is_down_by TimedOut) (entries ms) else first_passes (is_own (abandon r.id)) (entries ms)) (found is_bind_row (λ x. same_op q x.op) l.state.rows r e h.binds)) ∙ right (is_due s m.entry.at r) _ i)

        by : (o : Option OpName) → passes (same_op op) o ≡ true → (elim o [ None ↦ true | Some q ↦ passes (λ r. is_due s m.entry.at r && is_told_by_row (entries ms) r) (row_named l.state q) ]) ≡ true → first_passes is_down (entries ms) ≡ true
        by None i n = absurd (let bad : false ≡ true = i in cc)
        by (Some q) i n = row q (row_named l.state q) refl n

    -- Nothing is abandoned.
    bind : is_bind l.state ≡ true
    bind = ap (is_kind BindKind) h.kind

    no_drop : (op : OpName) → ((t : Taken) → m.mark ≡ Some t → fits_connection s l t.sender t.letter ≡ true) → has_letter (drops op) m ≡ true → false ≡ true
    no_drop op fit k = by m.mark refl k
      where
        letter : (t : Taken) (x : Letter) → drops op x ≡ true → fits_connection s l t.sender x ≡ true → false ≡ true
        letter t (Drop o) i j = sym (ap not bind) ∙ left (not (is_bind l.state)) _ j
        letter t _ i j = i

        by : (o : Option Taken) → m.mark ≡ o → passes (λ t. drops op t.letter) o ≡ true → false ≡ true
        by None e i = i
        by (Some t) e i = letter t t.letter i (fit t e)

    abbrev due : Sending → Bool
    due y = is_own (abandon y.id) m.entry && (is_some (row_named l.state y.op) && has_letter (drops y.op) m || last_passes (is_expired y.op) (entries before))

    pub abandon_open : (ms : List Marked) → NextDown (entries before) (entries (m ∷ ms)) → ((t : Taken) → m.mark ≡ Some t → fits_connection s l t.sender t.letter ≡ true) → has_reason s l.state (entries before) m ≡ true → is_abandon_open s F u (entries before) m.entry ≡ true
    abandon_open ms next fit reason = all_among (λ x. implies (is_last_sent x && is_own (abandon x.id) m.entry) (of_operation F (is_open s) x || last_passes (is_expired x.op) (entries before))) sents (λ x a. implies_by (is_last_sent x && is_own (abandon x.id) m.entry) (of_operation F (is_open s) x || last_passes (is_expired x.op) (entries before)) (λ j. absurd (let bad : false ≡ true = by x (right (is_last_sent x) _ j) in cc)))
      where
        by : (x : Sending) → is_own (abandon x.id) m.entry ≡ true → false ≡ true
        by x j =
            let y : Such (λ v. due v ≡ true) (sendings l.state.number (entries before)) = among_passing due (sendings l.state.number (entries before)) (abandon_reason s l.state (entries before) m x.id j reason) in
            or_elim (is_some (row_named l.state y.it.op) && has_letter (drops y.it.op) m) (last_passes (is_expired y.it.op) (entries before))
            (λ n. no_drop y.it.op fit (right (is_some (row_named l.state y.it.op)) _ n))
            (λ n. not_down_own (abandon x.id) m.entry.what j (next y.it.op n))
            (right (is_own (abandon y.it.id) m.entry) _ y.so)

  abbrev expired_so : ConnectionState → List Marked → Marked → List Marked → Bool
  expired_so p b m behind = is_expired_due s p m behind

  abbrev once_so : ConnectionState → List Marked → Marked → List Marked → Bool
  once_so p b m behind = is_sent_once p (entries b) m

  abbrev reason_so : ConnectionState → List Marked → Marked → List Marked → Bool
  reason_so p b m behind = has_due_messages s p m behind && has_reason s p (entries b) m

  abbrev lives_so : List Entry → Entry → List Entry → Bool
  lives_so place e behind = is_of_connection e.what && lives_as_connection place e

  abbrev IsOpen : List Entry → List Entry → Type 0
  IsOpen place es = (each_split_from (is_expired_open s F u) place es ≡ true) × (each_split_from (λ b e behind. is_abandon_open s F u b e) place es ≡ true)

  pub bind_open : is_of_kind s BindKind u ≡ true → (ms before : List Marked) (l : ConnectionLedger) → AtHeads s F u before l ms → Here s F u before l → Opened s F l.state.rows (last (sendings u (entries before))) → NextDown (entries before) (entries ms) → are_fit_from (fits_connection s) (step_connection_ledger s) l ms ≡ true → each_from (step_connection s) has_connection_mark l.state ms ≡ true → each_split_from lives_so (entries before) (entries ms) ≡ true → are_told_rightly s F ms ≡ true → each_place (step_connection s) expired_so l.state before ms ≡ true → each_place (step_connection s) once_so l.state before ms ≡ true → each_place (step_connection s) reason_so l.state before ms ≡ true → IsOpen (entries before) (entries ms)
  bind_open kind [] before l a h k next fit marks life told due once reason = (refl, refl)
  bind_open kind (m ∷ ms) before l a h k next fit marks life told due once reason =
      let alive : implies (list_any is_down (entries before)) (may_follow_down m.entry.what) ≡ true = right (agrees (is_linked m.entry.what) (is_empty (entries before))) _ (left (agrees (is_linked m.entry.what) (is_empty (entries before)) && implies (list_any is_down (entries before)) (may_follow_down m.entry.what)) _ (right (is_of_connection m.entry.what) _ (left (lives_so (entries before) m.entry (entries ms)) _ life))) in
      let due_here : is_expired_due s l.state m ms ≡ true = left (is_expired_due s l.state m ms) _ due in
      let here : Here s F u (before ++ m ∷ []) (step_connection_ledger s l m) = here_step s F u kind before l h m.entry.part m.entry.at m.mark m.entry.what ms (record { begun = a.0; marked = left (has_connection_mark l.state m) _ marks; once = left (is_sent_once l.state (entries before) m) _ once; alive = alive; told = left (where_there (λ t. is_told_rightly s F t.letter) m.mark) _ told; fit = fit_here }) due_here in
      let opened : Opened s F (step_connection s l.state m).rows (last (sendings u (entries before ++ m.entry ∷ []))) = opened_step s F u kind before l h m.entry.part m.entry.at m.mark k m.entry.what a.0 alive (subst (λ p. Said F (step_connection s l.state m).rows (last (sendings u p))) (push_entry before m) here.said) in
      let rest : IsOpen (entries (before ++ m ∷ [])) (entries ms) = bind_open kind ms (before ++ m ∷ []) (step_connection_ledger s l m) a.1 here (subst (λ p. Opened s F (step_connection s l.state m).rows (last (sendings u p))) (sym (push_entry before m)) opened) (subst (λ p. NextDown p (entries ms)) (sym (push_entry before m)) (down_next before l h m ms due_here)) (right (not (is_unfit (fits_connection s) l m.mark)) _ fit) (right (has_connection_mark l.state m) _ marks) (subst (λ p. each_split_from lives_so p (entries ms) ≡ true) (sym (push_entry before m)) (right (lives_so (entries before) m.entry (entries ms)) _ life)) (right (where_there (λ t. is_told_rightly s F t.letter) m.mark) _ told) (right (is_expired_due s l.state m ms) _ due) (right (is_sent_once l.state (entries before) m) _ once) (right (reason_so l.state before m ms) _ reason) in
      let there : IsOpen (entries before ++ m.entry ∷ []) (entries ms) = subst (λ p. IsOpen p (entries ms)) (push_entry before m) rest in
      (both (is_expired_open s F u (entries before) m.entry (entries ms)) _ (expired_open before l h m k ms due_here) there.0, both (is_abandon_open s F u (entries before) m.entry) _ (abandon_open before l h m ms next fit_here (right (has_due_messages s l.state m ms) _ (left (reason_so l.state before m ms) _ reason))) there.1)
    where
      fit_here : (t : Taken) → m.mark ≡ Some t → fits_connection s l t.sender t.letter ≡ true
      fit_here t e = is_fit_there (fits_connection s) l t (are_fit_from (fits_connection s) (step_connection_ledger s) (step_connection_ledger s l m) ms) (ap (λ q. not (is_unfit (fits_connection s) l q) && are_fit_from (fits_connection s) (step_connection_ledger s) (step_connection_ledger s l m) ms) (sym e) ∙ fit)
