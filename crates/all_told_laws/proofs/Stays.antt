-- What a connection tells of an operation whose row stands still at the end of its list: all answers; or all but the final one,
-- a success that is kept back.
use Rattle.std.proofs.Common.{◌≡◌, ◌⊎◌, inl, inr, ℕ, Bool, true, false, ◌==◌, ◌&&◌, ◌||◌, not, if◌then◌else◌, List, [], ◌∷◌, ◌++◌, refl, ap, ◌∙◌, sym}
use Rattle.std.specs.Prelude.{Option, Some, None, is_none}
use Rattle.std.specs.List.{list_any, list_all}
use Rattle.ldap_spec.specs.Kinds.{fits, kind_of}
use Rattle.ldap_spec.specs.Messages.{Message}
use Rattle.lload_names.specs.declared.names.ConnKind.TheVariants.{Bind as BindKind}
use Rattle.lload_names.specs.declared.names.EndWhy.TheVariants.{Bad as BadEnd}
use Rattle.lload_names.specs.declared.names.OpKind.{OpKind}
use Rattle.lload_names.specs.declared.names.OpName.{OpName}
use Rattle.lload_names.specs.declared.names.What.{What}
use Rattle.lload_names.specs.declared.names.What.TheVariants as what
use Rattle.lload_spec.specs.Answers.{answer_of, gives_id, reign_of, answers_under, with_later}
use Rattle.lload_spec.specs.BadMessages.{is_bad}
use Rattle.lload_spec.specs.Entries.{down_why, given_id, got_message, is_down_by, is_sent, same_why}
use Rattle.lload_spec.specs.Identifiers.{has_right_id}
use Rattle.lload_spec.specs.Journal.{same_op}
use Rattle.lload_spec.specs.Lists.{first_passes, passes}
use Rattle.lload_spec.specs.Operations.{is_final_for}
use Rattle.lload_spec.specs.Settings.{Settings, is_kind}
use Rattle.lload_spec.proofs.Growth.{left, right}
use Rattle.part_spec.specs.ConnectionState.{ConnectionState, UpRow, connection_behind, is_bind, kind_at, message_facts, step_connection, with_got}
use Rattle.part_spec.specs.Fit.{ledger_behind as behind}
use Rattle.part_spec.specs.Gives.{connection_letters, got_letters}
use Rattle.part_spec.specs.Marked.{Marked, entries}
use Rattle.fifo_laws.proofs.Quiet.{is_other, others_quiet, rows_stay}
use Rattle.answer_laws.proofs.Gots.{answer_by, got_open, is_kept_as, is_open}
use Rattle.answer_laws.proofs.Keeps.{got_kept, kept_stays, open_stays, others_stay}
use Rattle.answer_laws.proofs.Opens.{answered_by, other_id}
use Rattle.answer_laws.proofs.Places.{At, Rights}
use Rattle.answer_laws.proofs.Rests.{told, quiet_told, of_mine, none_mine, gone_mine}
use Rattle.answer_laws.proofs.Told.{NoSent, gave, bad_ends, bad_silent, bind_stays, marked_so, next_at, told_here, told_later}

-- what a connection told, where all answers were told; or all but the final one, which is kept back on a bind connection
pub record KeptBack (s : Settings) (u : ℕ) (req : Message) (answers told' : List (List ℕ)) : Type 0 where
  pub rest : List ℕ
  pub all : answers ≡ told' ++ rest ∷ []
  pub final : is_final_for req rest ≡ true
  pub bind : is_kind BindKind (kind_at s u) ≡ true

abbrev pub Whole : Settings → ℕ → Message → List (List ℕ) → List (List ℕ) → Type 0
Whole s u req answers told' = (answers ≡ told') ⊎ KeptBack s u req answers told'

module _ (s : Settings) (u : ℕ) (op : OpName) where
  -- whether a row of the operation stands behind these entries
  abbrev pub stands : ConnectionState → List Marked → Bool
  stands p ms = list_any (λ r. same_op op r.op) (behind (step_connection s) p ms).rows

  -- where none stands none comes
  pub none_comes : (b : List Marked) (p : ConnectionState) (ms : List Marked) → Rights s u b p ms → NoSent s u op ms → list_all (is_other op) p.rows ≡ true → stands p ms ≡ true → false ≡ true
  none_comes b p [] rs n h k = sym (none p.rows h) ∙ k
    where
      none : (rows : List UpRow) → list_all (is_other op) rows ≡ true → list_any (λ r. same_op op r.op) rows ≡ false
      none [] j = refl
      none (r ∷ rows) j = by (same_op op r.op) (left (is_other op r) _ j) (none rows (right (is_other op r) _ j))
        where
          by : (a : Bool) → not a ≡ true → list_any (λ x. same_op op x.op) rows ≡ false → (a || list_any (λ x. same_op op x.op) rows) ≡ false
          by true i m = absurd (let bad : false ≡ true = i in cc)
          by false i m = m
  none_comes b p (m ∷ ms) rs n h k = none_comes (b ++ m ∷ []) (step_connection s p m) ms rs.1 (right (not (is_sent op m.entry)) _ n) (rows_stay op s m.entry m.mark p m.entry.what (left (not (is_sent op m.entry)) _ n) (marked_so s u op p m rs.0.marked) h) k

  -- nor behind the end of the connection
  none_down : (b : List Marked) (p : ConnectionState) (ms : List Marked) → first_passes (is_down_by BadEnd) (entries ms) ≡ true → Rights s u b p ms → NoSent s u op ms → stands p ms ≡ true → false ≡ true
  none_down b p [] i rs n k = i
  none_down b p (d ∷ ds) i rs n k = none_comes (b ++ d ∷ []) (step_connection s p d) ds rs.1 (right (not (is_sent op d.entry)) _ n) (none d.entry.what i) k
    where
      none : (w : What) → passes (same_why BadEnd) (down_why w) ≡ true → list_all (is_other op) (connection_behind s d.entry d.mark p w).rows ≡ true
      none (what.Down why) z = refl
      none _ z = absurd (let bad : false ≡ true = z in cc)

  -- A success that is kept back to the end is told to nobody.
  kept_step : (rest0 : List ℕ) (b : List Marked) (p : ConnectionState) (m : Marked) (ms : List Marked) → At s u (entries b) p → Rights s u b p (m ∷ ms) → NoSent s u op (m ∷ ms) → is_bind p ≡ true → list_all (of_mine op (is_kept_as rest0)) p.rows ≡ true → stands (step_connection s p m) ms ≡ true → (list_all (of_mine op (is_kept_as rest0)) (step_connection s p m).rows ≡ true → gave s u op (step_connection s p m) ms ≡ []) → gave s u op p (m ∷ ms) ≡ []
  kept_step rest0 b p m ms at rs n bp h k more = by m.entry.what refl
    where
      idle : (w : What) → m.entry.what ≡ w → is_none (got_message w) ≡ true → gave s u op p (m ∷ ms) ≡ []
      idle w e g =
          told_later s u op p m ms (quiet_told op (connection_letters s p m.entry.at m.mark m.entry.what) (others_quiet op s p m.entry.at m.mark m.entry.what (ap (λ v. is_none (got_message v)) e ∙ g)))
          ∙ more (others_stay op (is_kept_as rest0) (kept_stays op rest0) s m.entry m.mark p m.entry.what (ap (λ v. is_none (got_message v)) e ∙ g) (left (not (is_sent op m.entry)) _ n) (marked_so s u op p m rs.0.marked) h)

      rows_are : (id : ℕ) (rest : List ℕ) → m.entry.what ≡ what.Got id rest → (step_connection s p m).rows ≡ (with_got m.entry.at (record { id = id; rest = rest }) p).rows
      rows_are id rest e = ap (λ w. (connection_behind s m.entry m.mark p w).rows) e

      letters_are : (id : ℕ) (rest : List ℕ) → m.entry.what ≡ what.Got id rest → told op (connection_letters s p m.entry.at m.mark m.entry.what) ≡ told op (got_letters s p m.entry.at (record { id = id; rest = rest }))
      letters_are id rest e = ap (λ w. told op (connection_letters s p m.entry.at m.mark w)) e

      message : (id : ℕ) (rest : List ℕ) → m.entry.what ≡ what.Got id rest → (d : Bool) → is_bad (message_facts p) (record { id = id; rest = rest }) ≡ d → gave s u op p (m ∷ ms) ≡ []
      message id rest e true j = bad_silent s u op b p m ms id rest at rs.0 rs.1 (right (not (is_sent op m.entry)) _ n) e j
      message id rest e false j = on (got_kept s op rest0 p at.ids.apart m.entry.at (record { id = id; rest = rest }) h j (ap (passes (λ o. o.id == id)) (at.bare bp)) bp)
        where
          on : ((told op (got_letters s p m.entry.at (record { id = id; rest = rest })) ≡ []) × (list_all (of_mine op (is_kept_as rest0)) (with_got m.entry.at (record { id = id; rest = rest }) p).rows ≡ true)) ⊎ ((told op (got_letters s p m.entry.at (record { id = id; rest = rest })) ≡ rest0 ∷ []) × (list_all (of_mine op (λ r. false)) (with_got m.entry.at (record { id = id; rest = rest }) p).rows ≡ true)) → gave s u op p (m ∷ ms) ≡ []
          on (inl x) = told_later s u op p m ms (letters_are id rest e ∙ x.0) ∙ more (ap (list_all (of_mine op (is_kept_as rest0))) (rows_are id rest e) ∙ x.1)
          on (inr x) = absurd (let bad : false ≡ true = none_comes (b ++ m ∷ []) (step_connection s p m) ms rs.1 (right (not (is_sent op m.entry)) _ n) (gone_mine op (step_connection s p m).rows (ap (list_all (of_mine op (λ r. false))) (rows_are id rest e) ∙ x.1)) k in cc)

      by : (w : What) → m.entry.what ≡ w → gave s u op p (m ∷ ms) ≡ []
      by (what.Got id rest) e = message id rest e (is_bad (message_facts p) (record { id = id; rest = rest })) refl
      by w e = idle w e refl

  kept_whole : (rest0 : List ℕ) (b : List Marked) (p : ConnectionState) (ms : List Marked) → At s u (entries b) p → Rights s u b p ms → NoSent s u op ms → is_bind p ≡ true → list_all (of_mine op (is_kept_as rest0)) p.rows ≡ true → stands p ms ≡ true → gave s u op p ms ≡ []
  kept_whole rest0 b p [] at rs n bp h k = refl
  kept_whole rest0 b p (m ∷ ms) at rs n bp h k = kept_step rest0 b p m ms at rs n bp h k (λ j. kept_whole rest0 (b ++ m ∷ []) (step_connection s p m) ms (next_at s u op b p m ms at rs.0) rs.1 (right (not (is_sent op m.entry)) _ n) (bind_stays s u op p m bp) j k)

  -- The row is open.
  module _ (kind : OpKind) (id : ℕ) (req : Message) (kind_req : kind_of req.rest ≡ Some kind) where
    abbrev IsWhole : ConnectionState → List Marked → Type 0
    IsWhole p ms = Whole s u req (answered_by s u op kind id req kind_req ms) (gave s u op p ms)

    -- an entry that gives the identifier to no other
    reigns : (m : Marked) (ms : List Marked) → gives_id id m.entry ≡ false → answered_by s u op kind id req kind_req (m ∷ ms) ≡ with_later req (answer_of req id m.entry) (answered_by s u op kind id req kind_req ms)
    reigns m ms e = ap (λ x. answers_under req id (elim x [ true ↦ [] | false ↦ m.entry ∷ reign_of id (entries ms) ])) e

    -- one answer more
    with_first : (q : ConnectionState) (ms : List Marked) (x y : List (List ℕ)) (r : List ℕ) → x ≡ r ∷ answered_by s u op kind id req kind_req ms → y ≡ r ∷ gave s u op q ms → IsWhole q ms → Whole s u req x y
    with_first q ms x y r e f (inl h) = inl (e ∙ ap (λ l. r ∷ l) h ∙ sym f)
    with_first q ms x y r e f (inr h) = inr (record { rest = h.rest; all = e ∙ ap (λ l. r ∷ l) h.all ∙ ap (λ l. l ++ h.rest ∷ []) (sym f); final = h.final; bind = h.bind })

    same_whole : (q : ConnectionState) (ms : List Marked) (x y : List (List ℕ)) → x ≡ answered_by s u op kind id req kind_req ms → y ≡ gave s u op q ms → IsWhole q ms → Whole s u req x y
    same_whole q ms x y e f (inl h) = inl (e ∙ h ∙ sym f)
    same_whole q ms x y e f (inr h) = inr (record { rest = h.rest; all = e ∙ h.all ∙ ap (λ l. l ++ h.rest ∷ []) (sym f); final = h.final; bind = h.bind })

    open_step : (b : List Marked) (p : ConnectionState) (m : Marked) (ms : List Marked) → At s u (entries b) p → Rights s u b p (m ∷ ms) → NoSent s u op (m ∷ ms) → list_all (of_mine op (is_open kind id)) p.rows ≡ true → stands (step_connection s p m) ms ≡ true → (list_all (of_mine op (is_open kind id)) (step_connection s p m).rows ≡ true → IsWhole (step_connection s p m) ms) → IsWhole p (m ∷ ms)
    open_step b p m ms at rs n h k more = there (list_any (λ r. same_op op r.op) p.rows) refl
      where
        later : gives_id id m.entry ≡ false → answer_of req id m.entry ≡ None → told op (connection_letters s p m.entry.at m.mark m.entry.what) ≡ [] → list_all (of_mine op (is_open kind id)) (step_connection s p m).rows ≡ true → IsWhole p (m ∷ ms)
        later g a e j = same_whole (step_connection s p m) ms _ _ (reigns m ms g ∙ ap (λ o. with_later req o (answered_by s u op kind id req kind_req ms)) a) (told_later s u op p m ms e) (more j)

        -- an entry that is no message
        own_id : (w : What) → m.entry.what ≡ w → list_any (λ r. same_op op r.op) p.rows ≡ true → gives_id id m.entry ≡ false
        own_id w e t = ap (λ v. passes (λ g. g == id) (given_id v)) e ∙ other_id s op kind id (entries b) p at.ids h t w (ap (has_right_id p.ids) (sym e) ∙ rs.0.id_right)

        answer_in : Option Message → Option (List ℕ)
        answer_in o = elim o [ None ↦ None | Some x ↦ if x.id == id && passes (λ c. fits c x.rest) (kind_of req.rest) then Some x.rest else None ]

        idle : (w : What) → m.entry.what ≡ w → is_none (got_message w) ≡ true → list_any (λ r. same_op op r.op) p.rows ≡ true → IsWhole p (m ∷ ms)
        idle w e g t =
            later (own_id w e t) (ap (λ v. answer_in (got_message v)) e ∙ no_answer (got_message w) g)
            (quiet_told op (connection_letters s p m.entry.at m.mark m.entry.what) (others_quiet op s p m.entry.at m.mark m.entry.what (ap (λ v. is_none (got_message v)) e ∙ g)))
            (others_stay op (is_open kind id) (open_stays op kind id) s m.entry m.mark p m.entry.what (ap (λ v. is_none (got_message v)) e ∙ g) (left (not (is_sent op m.entry)) _ n) (marked_so s u op p m rs.0.marked) h)
          where
            no_answer : (o : Option Message) → is_none o ≡ true → answer_in o ≡ None
            no_answer None j = refl
            no_answer (Some x) j = absurd (let bad : false ≡ true = j in cc)

        message : (i : ℕ) (rest : List ℕ) → m.entry.what ≡ what.Got i rest → list_any (λ r. same_op op r.op) p.rows ≡ true → (d : Bool) → is_bad (message_facts p) (record { id = i; rest = rest }) ≡ d → IsWhole p (m ∷ ms)
        message i rest e t true j = absurd (let bad : false ≡ true = none_down (b ++ m ∷ []) (step_connection s p m) ms (bad_ends s u op b p m ms i rest at rs.0 e j) rs.1 (right (not (is_sent op m.entry)) _ n) k in cc)
        message i rest e t false j = on (got_open s op kind id req kind_req (entries b) p at.ids m.entry.at (record { id = i; rest = rest }) h t j (λ bp. ap (passes (λ o. o.id == i)) (at.bare bp)))
          where
            msg : Message
            msg = record { id = i; rest = rest }

            rows_are : (step_connection s p m).rows ≡ (with_got m.entry.at (record { id = i; rest = rest }) p).rows
            rows_are = ap (λ w. (connection_behind s m.entry m.mark p w).rows) e

            letters_are : told op (connection_letters s p m.entry.at m.mark m.entry.what) ≡ told op (got_letters s p m.entry.at (record { id = i; rest = rest }))
            letters_are = ap (λ w. told op (connection_letters s p m.entry.at m.mark w)) e

            unnamed : gives_id id m.entry ≡ false
            unnamed = ap (λ w. passes (λ g. g == id) (given_id w)) e

            answer_is : answer_of req id m.entry ≡ answer_by req id (record { id = i; rest = rest })
            answer_is = ap (λ w. answer_in (got_message w)) e

            -- an answer, told or kept back
            answered : answer_by req id (record { id = i; rest = rest }) ≡ Some rest → answered_by s u op kind id req kind_req (m ∷ ms) ≡ rest ∷ (if is_final_for req rest then [] else answered_by s u op kind id req kind_req ms)
            answered a = reigns m ms unnamed ∙ ap (λ o. with_later req o (answered_by s u op kind id req kind_req ms)) (answer_is ∙ a)

            kept : told op (got_letters s p m.entry.at (record { id = i; rest = rest })) ≡ [] → answer_by req id (record { id = i; rest = rest }) ≡ Some rest → is_final_for req rest ≡ true → list_all (of_mine op (is_kept_as rest)) (step_connection s p m).rows ≡ true → is_bind p ≡ true → IsWhole p (m ∷ ms)
            kept x a f rows bp =
                inr (record {
                  rest = rest;
                  all = answered a ∙ ap (λ z. rest ∷ (if z then [] else answered_by s u op kind id req kind_req ms)) f ∙ ap (λ l. l ++ rest ∷ []) (sym (told_later s u op p m ms (letters_are ∙ x) ∙ kept_whole rest (b ++ m ∷ []) (step_connection s p m) ms (next_at s u op b p m ms at rs.0) rs.1 (right (not (is_sent op m.entry)) _ n) (bind_stays s u op p m bp) rows k));
                  final = f;
                  bind = ap (is_kind BindKind) (sym at.kind) ∙ bp;
                })

            on : ((told op (got_letters s p m.entry.at msg) ≡ []) × (answer_by req id msg ≡ None) × (list_all (of_mine op (is_open kind id)) (with_got m.entry.at msg p).rows ≡ true)) ⊎ (((told op (got_letters s p m.entry.at msg) ≡ rest ∷ []) × (answer_by req id msg ≡ Some rest) × (is_final_for req rest ≡ false) × (list_all (of_mine op (is_open kind id)) (with_got m.entry.at msg p).rows ≡ true)) ⊎ (((told op (got_letters s p m.entry.at msg) ≡ rest ∷ []) × (answer_by req id msg ≡ Some rest) × (is_final_for req rest ≡ true) × (list_all (of_mine op (λ r. false)) (with_got m.entry.at msg p).rows ≡ true)) ⊎ ((told op (got_letters s p m.entry.at msg) ≡ []) × (answer_by req id msg ≡ Some rest) × (is_final_for req rest ≡ true) × (list_all (of_mine op (is_kept_as rest)) (with_got m.entry.at msg p).rows ≡ true) × (is_bind p ≡ true)))) → IsWhole p (m ∷ ms)
            on (inl x) = later unnamed (answer_is ∙ x.1) (letters_are ∙ x.0) (ap (list_all (of_mine op (is_open kind id))) rows_are ∙ x.2)
            on (inr (inl x)) = with_first (step_connection s p m) ms _ _ rest (answered x.1 ∙ ap (λ z. rest ∷ (if z then [] else answered_by s u op kind id req kind_req ms)) x.2) (told_here s u op p m ms rest (letters_are ∙ x.0)) (more (ap (list_all (of_mine op (is_open kind id))) rows_are ∙ x.3))
            on (inr (inr (inl x))) = absurd (let bad : false ≡ true = none_comes (b ++ m ∷ []) (step_connection s p m) ms rs.1 (right (not (is_sent op m.entry)) _ n) (gone_mine op (step_connection s p m).rows (ap (list_all (of_mine op (λ r. false))) rows_are ∙ x.3)) k in cc)
            on (inr (inr (inr x))) = kept x.0 x.1 x.2 (ap (list_all (of_mine op (is_kept_as rest))) rows_are ∙ x.3) x.4

        there : (d : Bool) → list_any (λ r. same_op op r.op) p.rows ≡ d → IsWhole p (m ∷ ms)
        there false e = absurd (let bad : false ≡ true = none_comes b p (m ∷ ms) rs n (none_mine op p.rows e) k in cc)
        there true e = by m.entry.what refl
          where
            by : (w : What) → m.entry.what ≡ w → IsWhole p (m ∷ ms)
            by (what.Got i rest) z = message i rest z e (is_bad (message_facts p) (record { id = i; rest = rest })) refl
            by w z = idle w z refl e

    pub open_whole : (b : List Marked) (p : ConnectionState) (ms : List Marked) → At s u (entries b) p → Rights s u b p ms → NoSent s u op ms → list_all (of_mine op (is_open kind id)) p.rows ≡ true → stands p ms ≡ true → IsWhole p ms
    open_whole b p [] at rs n h k = inl refl
    open_whole b p (m ∷ ms) at rs n h k = open_step b p m ms at rs n h k (λ j. open_whole (b ++ m ∷ []) (step_connection s p m) ms (next_at s u op b p m ms at rs.0) rs.1 (right (not (is_sent op m.entry)) _ n) j k)
