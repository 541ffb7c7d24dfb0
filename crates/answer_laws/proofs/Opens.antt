-- What a connection tells of an operation whose row is open is a beginning of the answers from here on.
use Rattle.std.proofs.Common.{◌≡◌, ◌⊎◌, inl, inr, ℕ, Bool, true, false, ◌==◌, ◌&&◌, not, if◌then◌else◌, List, [], ◌∷◌, ◌++◌, refl, ap, arith, ◌∙◌, sym}
use Rattle.std.specs.Prelude.{Option, Some, None, is_none, nat_lt}
use Rattle.std.specs.List.{list_any, list_all}
use Rattle.std.proofs.lemmas.Bool.Decides.{nat_tests}
use Rattle.ldap_spec.specs.Kinds.{fits, kind_of, same_kind}
use Rattle.ldap_spec.specs.Messages.{Message}
use Rattle.lload_names.specs.declared.names.Entry.{Entry}
use Rattle.lload_names.specs.declared.names.OpKind.{OpKind}
use Rattle.lload_names.specs.declared.names.OpName.{OpName}
use Rattle.lload_names.specs.declared.names.What.{What}
use Rattle.lload_names.specs.declared.names.What.TheVariants as what
use Rattle.lload_spec.specs.Answers.{answer_of, answers_under, gives_id, reign_of, with_later}
use Rattle.lload_spec.specs.BadMessages.{is_bad}
use Rattle.lload_spec.specs.Entries.{given_id, got_message, is_sent}
use Rattle.lload_spec.specs.Identifiers.{has_right_id, id_for}
use Rattle.lload_spec.specs.Journal.{same_op}
use Rattle.lload_spec.specs.Lists.{passes}
use Rattle.lload_spec.specs.Operations.{is_final_for}
use Rattle.lload_spec.specs.Settings.{Settings}
use Rattle.lload_spec.proofs.Growth.{left, right, both}
use Rattle.lload_laws.proofs.ListLaws.{all_both, all_imply, implied, implies_by}
use Rattle.part_laws.proofs.ListLaws.{false_by, or_elim, or_left, or_right, same_number}
use Rattle.part_spec.specs.ConnectionState.{ConnectionState, UpRow, connection_behind, is_bind, message_facts, step_connection, with_got}
use Rattle.part_spec.specs.Gives.{connection_letters, got_letters}
use Rattle.part_spec.specs.Marked.{Marked, entries}
use Rattle.connection_laws.proofs.Apart.{is_taken}
use Rattle.fifo_laws.proofs.Quiet.{others_quiet}
use Rattle.answer_laws.proofs.Gots.{answer_by, got_open, is_kept_as, is_open}
use Rattle.answer_laws.proofs.Ids.{Ids, is_given, untaken}
use Rattle.answer_laws.proofs.Keeps.{open_stays, others_stay}
use Rattle.answer_laws.proofs.Places.{At, Rights}
use Rattle.answer_laws.proofs.Rests.{told, quiet_told, of_mine, none_mine, gone_mine, one_mine}
use Rattle.answer_laws.proofs.Told.{Begins, NoSent, gave, nothing_told, bad_silent, walk_kept, marked_so, next_at, bind_stays, told_later, told_here}

module _ (s : Settings) (op : OpName) (kind : OpKind) (id : ℕ) (place : List Entry) (p : ConnectionState) (ids : Ids place p) (opened : list_all (of_mine op (is_open kind id)) p.rows ≡ true) (there : list_any (λ r. same_op op r.op) p.rows ≡ true) where
  -- the identifier of the operation's row is in use
  row : (r : UpRow) × ((is_given p.ids.next r.id && (r.id == id)) ≡ true)
  row = one_mine op (λ r. is_given p.ids.next r.id && (r.id == id)) p.rows there (all_imply (λ r. is_given p.ids.next r.id && of_mine op (is_open kind id) r) (of_mine op (λ r. is_given p.ids.next r.id && (r.id == id))) p.rows (λ r k. implies_by (same_op op r.op) _ (λ j. both (is_given p.ids.next r.id) (r.id == id) (left (is_given p.ids.next r.id) _ k) (right (is_none r.kept && same_kind kind r.kind) _ (implied (same_op op r.op) _ (right (is_given p.ids.next r.id) _ k) j)))) (all_both (λ r. is_given p.ids.next r.id) (of_mine op (is_open kind id)) p.rows ids.rows opened))

  taken_id : is_taken p.rows id ≡ true
  taken_id = any_mine p.rows there opened
    where
      any_mine : (rows : List UpRow) → list_any (λ r. same_op op r.op) rows ≡ true → list_all (of_mine op (is_open kind id)) rows ≡ true → is_taken rows id ≡ true
      any_mine [] i j = absurd (let bad : false ≡ true = i in cc)
      any_mine (x ∷ rows) i j = or_elim (same_op op x.op) (list_any (λ r. same_op op r.op) rows) (λ y. or_left (x.id == id) _ (right (is_none x.kept && same_kind kind x.kind) _ (implied (same_op op x.op) _ (left (of_mine op (is_open kind id) x) _ j) y))) (λ y. or_right (x.id == id) _ (any_mine rows y (right (of_mine op (is_open kind id) x) _ j))) i

  below : nat_lt id p.ids.next ≡ true
  below = ap (λ i. nat_lt i p.ids.next) (sym (same_number row.0.id id (right (is_given p.ids.next row.0.id) _ row.1))) ∙ right (nat_lt 0 row.0.id) _ (left (is_given p.ids.next row.0.id) _ row.1)

  -- so no entry gives it
  pub other_id : (v : What) → has_right_id p.ids v ≡ true → passes (λ g. g == id) (given_id v) ≡ false
  other_id (what.Sent i o rest) k = false_by (i == id) (λ j. sym (untaken s place p ids) ∙ ap (is_taken p.rows) (sym (same_number i (id_for p.ids) k) ∙ same_number i id j) ∙ taken_id)
  other_id (what.Own i rest) k = false_by (i == id) (λ j. let next : i ≡ p.ids.next = same_number i p.ids.next k in let same : i ≡ id = same_number i id j in let low : nat_lt id p.ids.next ≡ true = below in absurd (grind (arith, nat_tests, low, next, same)))
  other_id _ k = refl

module _ (s : Settings) (u : ℕ) (op : OpName) where
  module _ (kind : OpKind) (id : ℕ) (req : Message) (kind_req : kind_of req.rest ≡ Some kind) where
    abbrev pub answered_by : List Marked → List (List ℕ)
    answered_by ms = answers_under req id (reign_of id (entries ms))

    -- an entry that gives the identifier to no other
    reigns : (m : Marked) (ms : List Marked) → gives_id id m.entry ≡ false → answered_by (m ∷ ms) ≡ with_later req (answer_of req id m.entry) (answered_by ms)
    reigns m ms e = ap (λ x. answers_under req id (elim x [ true ↦ [] | false ↦ m.entry ∷ reign_of id (entries ms) ])) e

    open_step : (b : List Marked) (p : ConnectionState) (m : Marked) (ms : List Marked) → At s u (entries b) p → Rights s u b p (m ∷ ms) → NoSent s u op (m ∷ ms) → list_all (of_mine op (is_open kind id)) p.rows ≡ true → (list_all (of_mine op (is_open kind id)) (step_connection s p m).rows ≡ true → Begins (answered_by ms) (gave s u op (step_connection s p m) ms)) → Begins (answered_by (m ∷ ms)) (gave s u op p (m ∷ ms))
    open_step b p m ms at rs n h behind = there (list_any (λ r. same_op op r.op) p.rows) refl
      where
        -- no answer, and nothing told
        later : gives_id id m.entry ≡ false → answer_of req id m.entry ≡ None → told op (connection_letters s p m.entry.at m.mark m.entry.what) ≡ [] → list_all (of_mine op (is_open kind id)) (step_connection s p m).rows ≡ true → Begins (answered_by (m ∷ ms)) (gave s u op p (m ∷ ms))
        later g a e k =
            let next : Begins (answered_by ms) (gave s u op (step_connection s p m) ms) = behind k in
            (next.0, reigns m ms g ∙ ap (λ o. with_later req o (answered_by ms)) a ∙ next.1 ∙ ap (λ l. l ++ next.0) (sym (told_later s u op p m ms e)))

        -- an entry that is no message
        idle : (w : What) → m.entry.what ≡ w → is_none (got_message w) ≡ true → list_any (λ r. same_op op r.op) p.rows ≡ true → Begins (answered_by (m ∷ ms)) (gave s u op p (m ∷ ms))
        idle w e g t =
            later (ap (λ v. passes (λ g. g == id) (given_id v)) e ∙ other_id s op kind id (entries b) p at.ids h t w (ap (has_right_id p.ids) (sym e) ∙ rs.0.id_right)) (ap (λ v. answer_by_entry (got_message v)) e ∙ no_answer (got_message w) g)
            (quiet_told op (connection_letters s p m.entry.at m.mark m.entry.what) (others_quiet op s p m.entry.at m.mark m.entry.what (ap (λ v. is_none (got_message v)) e ∙ g)))
            (others_stay op (is_open kind id) (open_stays op kind id) s m.entry m.mark p m.entry.what (ap (λ v. is_none (got_message v)) e ∙ g) (left (not (is_sent op m.entry)) _ n) (marked_so s u op p m rs.0.marked) h)
          where
            answer_by_entry : Option Message → Option (List ℕ)
            answer_by_entry o = elim o [ None ↦ None | Some x ↦ if x.id == id && passes (λ k. fits k x.rest) (kind_of req.rest) then Some x.rest else None ]

            no_answer : (o : Option Message) → is_none o ≡ true → ◌≡◌ {A = Option (List ℕ)} (elim o [ None ↦ None | Some x ↦ if x.id == id && passes (λ k. fits k x.rest) (kind_of req.rest) then Some x.rest else None ]) None
            no_answer None k = refl
            no_answer (Some x) k = absurd (let bad : false ≡ true = k in cc)

        message : (i : ℕ) (rest : List ℕ) → m.entry.what ≡ what.Got i rest → list_any (λ r. same_op op r.op) p.rows ≡ true → (d : Bool) → is_bad (message_facts p) (record { id = i; rest = rest }) ≡ d → Begins (answered_by (m ∷ ms)) (gave s u op p (m ∷ ms))
        message i rest e t true k = (answered_by (m ∷ ms), ap (λ l. l ++ answered_by (m ∷ ms)) (sym (bad_silent s u op b p m ms i rest at rs.0 rs.1 (right (not (is_sent op m.entry)) _ n) e k)))
        message i rest e t false k = on (got_open s op kind id req kind_req (entries b) p at.ids m.entry.at (record { id = i; rest = rest }) h t k (λ bp. ap (passes (λ o. o.id == i)) (at.bare bp)))
          where
            msg : Message
            msg = record { id = i; rest = rest }

            rows_are : (step_connection s p m).rows ≡ (with_got m.entry.at (record { id = i; rest = rest }) p).rows
            rows_are = ap (λ w. (connection_behind s m.entry m.mark p w).rows) e

            letters_are : told op (connection_letters s p m.entry.at m.mark m.entry.what) ≡ told op (got_letters s p m.entry.at (record { id = i; rest = rest }))
            letters_are = ap (λ w. told op (connection_letters s p m.entry.at m.mark w)) e

            unnamed : gives_id id m.entry ≡ false
            unnamed = ap (λ w. passes (λ g. g == id) (given_id w)) e

            answer_is : answer_of req id m.entry ≡ answer_by req id (record { id = i; rest = rest })
            answer_is = ap (λ w. elim (got_message w) [ None ↦ None | Some x ↦ if x.id == id && passes (λ o. fits o x.rest) (kind_of req.rest) then Some x.rest else None ]) e

            -- an answer, told or kept back
            answered : answer_by req id (record { id = i; rest = rest }) ≡ Some rest → answered_by (m ∷ ms) ≡ rest ∷ (if is_final_for req rest then [] else answered_by ms)
            answered a = reigns m ms unnamed ∙ ap (λ o. with_later req o (answered_by ms)) (answer_is ∙ a)

            gone : list_all (of_mine op (λ r. false)) (with_got m.entry.at (record { id = i; rest = rest }) p).rows ≡ true → gave s u op (step_connection s p m) ms ≡ []
            gone g = nothing_told s u op (b ++ m ∷ []) (step_connection s p m) ms rs.1 (right (not (is_sent op m.entry)) _ n) (gone_mine op (step_connection s p m).rows (ap (list_all (of_mine op (λ r. false))) rows_are ∙ g))

            behind_is : list_all (of_mine op (is_open kind id)) (with_got m.entry.at (record { id = i; rest = rest }) p).rows ≡ true → Begins (answered_by ms) (gave s u op (step_connection s p m) ms)
            behind_is g = behind (ap (list_all (of_mine op (is_open kind id))) rows_are ∙ g)

            more : told op (got_letters s p m.entry.at (record { id = i; rest = rest })) ≡ rest ∷ [] → answer_by req id (record { id = i; rest = rest }) ≡ Some rest → is_final_for req rest ≡ false → Begins (answered_by ms) (gave s u op (step_connection s p m) ms) → Begins (answered_by (m ∷ ms)) (gave s u op p (m ∷ ms))
            more x a f next = (next.0, answered a ∙ ap (λ z. rest ∷ (if z then [] else answered_by ms)) f ∙ ap (λ l. rest ∷ l) next.1 ∙ ap (λ l. l ++ next.0) (sym (told_here s u op p m ms rest (letters_are ∙ x))))

            last : told op (got_letters s p m.entry.at (record { id = i; rest = rest })) ≡ rest ∷ [] → answer_by req id (record { id = i; rest = rest }) ≡ Some rest → is_final_for req rest ≡ true → gave s u op (step_connection s p m) ms ≡ [] → Begins (answered_by (m ∷ ms)) (gave s u op p (m ∷ ms))
            last x a f g = ([], answered a ∙ ap (λ z. rest ∷ (if z then [] else answered_by ms)) f ∙ ap (λ l. l ++ []) (sym (told_here s u op p m ms rest (letters_are ∙ x) ∙ ap (λ l. rest ∷ l) g)))

            kept : told op (got_letters s p m.entry.at (record { id = i; rest = rest })) ≡ [] → answer_by req id (record { id = i; rest = rest }) ≡ Some rest → is_final_for req rest ≡ true → Begins (rest ∷ []) (gave s u op (step_connection s p m) ms) → Begins (answered_by (m ∷ ms)) (gave s u op p (m ∷ ms))
            kept x a f next = (next.0, answered a ∙ ap (λ z. rest ∷ (if z then [] else answered_by ms)) f ∙ next.1 ∙ ap (λ l. l ++ next.0) (sym (told_later s u op p m ms (letters_are ∙ x))))

            on : ((told op (got_letters s p m.entry.at msg) ≡ []) × (answer_by req id msg ≡ None) × (list_all (of_mine op (is_open kind id)) (with_got m.entry.at msg p).rows ≡ true)) ⊎ (((told op (got_letters s p m.entry.at msg) ≡ rest ∷ []) × (answer_by req id msg ≡ Some rest) × (is_final_for req rest ≡ false) × (list_all (of_mine op (is_open kind id)) (with_got m.entry.at msg p).rows ≡ true)) ⊎ (((told op (got_letters s p m.entry.at msg) ≡ rest ∷ []) × (answer_by req id msg ≡ Some rest) × (is_final_for req rest ≡ true) × (list_all (of_mine op (λ r. false)) (with_got m.entry.at msg p).rows ≡ true)) ⊎ ((told op (got_letters s p m.entry.at msg) ≡ []) × (answer_by req id msg ≡ Some rest) × (is_final_for req rest ≡ true) × (list_all (of_mine op (is_kept_as rest)) (with_got m.entry.at msg p).rows ≡ true) × (is_bind p ≡ true)))) → Begins (answered_by (m ∷ ms)) (gave s u op p (m ∷ ms))
            on (inl x) = later unnamed (answer_is ∙ x.1) (letters_are ∙ x.0) (ap (list_all (of_mine op (is_open kind id))) rows_are ∙ x.2)
            on (inr (inl x)) = more x.0 x.1 x.2 (behind_is x.3)
            on (inr (inr (inl x))) = last x.0 x.1 x.2 (gone x.3)
            on (inr (inr (inr x))) = kept x.0 x.1 x.2 (walk_kept s u op rest (b ++ m ∷ []) (step_connection s p m) ms (next_at s u op b p m ms at rs.0) rs.1 (right (not (is_sent op m.entry)) _ n) (bind_stays s u op p m x.4) (ap (list_all (of_mine op (is_kept_as rest))) rows_are ∙ x.3))

        there : (d : Bool) → list_any (λ r. same_op op r.op) p.rows ≡ d → Begins (answered_by (m ∷ ms)) (gave s u op p (m ∷ ms))
        there false e = (answered_by (m ∷ ms), ap (λ l. l ++ answered_by (m ∷ ms)) (sym (nothing_told s u op b p (m ∷ ms) rs n (none_mine op p.rows e))))
        there true e = by m.entry.what refl
          where
            by : (w : What) → m.entry.what ≡ w → Begins (answered_by (m ∷ ms)) (gave s u op p (m ∷ ms))
            by (what.Got i rest) z = message i rest z e (is_bad (message_facts p) (record { id = i; rest = rest })) refl
            by w z = idle w z refl e

    pub walk_open : (b : List Marked) (p : ConnectionState) (ms : List Marked) → At s u (entries b) p → Rights s u b p ms → NoSent s u op ms → list_all (of_mine op (is_open kind id)) p.rows ≡ true → Begins (answered_by ms) (gave s u op p ms)
    walk_open b p [] at rs n h = ([], refl)
    walk_open b p (m ∷ ms) at rs n h = open_step b p m ms at rs n h (λ k. walk_open (b ++ m ∷ []) (step_connection s p m) ms (next_at s u op b p m ms at rs.0) rs.1 (right (not (is_sent op m.entry)) _ n) k)
