-- What a message gives where the success of an operation is kept back: nothing, or that success; and what other entries leave
-- of the rows of an operation.
use Rattle.std.proofs.Common.{◌≡◌, ◌⊎◌, inl, inr, ℕ, Bool, true, false, ◌==◌, ◌&&◌, ◌||◌, not, if◌then◌else◌, List, [], ◌∷◌, ◌++◌, refl, ap, ◌∙◌, sym, subst}
use Rattle.std.specs.Prelude.{Option, Some, None, cond, find, flat_map, is_none, is_some, map, option_map}
use Rattle.std.specs.List.{list_any, list_all}
use Rattle.std.specs.Str.{bytes_eq}
use Rattle.std.proofs.lemmas.Slice.Eq.{bytes_eq-Decides}
use Rattle.ldap_spec.specs.Bodies.{who_am_i}
use Rattle.ldap_spec.specs.Kinds.{is_intermediate, same_kind, tag_of}
use Rattle.ldap_spec.specs.Messages.{Message}
use Rattle.ldap_spec.specs.Responses.{tells_who, who_value}
use Rattle.lload_names.specs.declared.names.ConnKind.{ConnKind}
use Rattle.lload_names.specs.declared.names.ConnKind.TheVariants.{Regular, Bind as BindKind}
use Rattle.lload_names.specs.declared.names.EndWhy.TheVariants.{Bad as BadEnd}
use Rattle.lload_names.specs.declared.names.Entry.{Entry}
use Rattle.lload_names.specs.declared.names.Letter.{Letter}
use Rattle.lload_names.specs.declared.names.Letter.TheVariants.{Forward}
use Rattle.lload_names.specs.declared.names.OpKind.{OpKind}
use Rattle.lload_names.specs.declared.names.OpName.{OpName}
use Rattle.lload_names.specs.declared.names.Refusal.TheVariants.{C9}
use Rattle.lload_names.specs.declared.names.What.{What}
use Rattle.lload_names.specs.declared.names.What.TheVariants as what
use Rattle.lload_spec.specs.BadMessages.{MessageFacts, OpenRequest, is_bad, is_bad_beside, is_bad_for, is_bad_own, is_bad_other, is_bad_stray, is_bad_who, is_for_own, is_ignored}
use Rattle.lload_spec.specs.BadMessages as bad
use Rattle.lload_spec.specs.Entries.{got_message, sent_message}
use Rattle.lload_spec.specs.Journal.{same_op}
use Rattle.lload_spec.specs.Lists.{implies, passes}
use Rattle.lload_spec.specs.Settings.{Settings, is_kind}
use Rattle.lload_spec.proofs.Growth.{left, right, both}
use Rattle.lload_laws.proofs.ListLaws.{any-map, find-map, found, found_passes, implied, implies_by}
use Rattle.part_laws.proofs.ListLaws.{false_by, not_true, or_left, or_right, same_op_eq}
use Rattle.part_spec.specs.BindTurn.{answered as bind_answered, kept_rest, row_answer as bind_row_answer, who_answer}
use Rattle.part_spec.specs.ConnectionState.{ConnectionState, UpRow, Kept, behind_answer, behind_message, behind_own, behind_who, connection_behind, is_abandoned_by, is_bind, is_under, is_under_own, is_under_who, message_facts, open_request, rows_sent, with_got}
use Rattle.part_spec.specs.ConnectionTurn.{holder_ended, goes_down}
use Rattle.part_spec.specs.Gives.{got_letters}
use Rattle.part_spec.specs.Inputs.{act, failed, letters_alone, nothing, reply}
use Rattle.part_spec.specs.Marked.{Taken}
use Rattle.part_spec.specs.Marks.{marks_connection}
use Rattle.part_spec.specs.RegularTurn.{answered}
use Rattle.connection_laws.proofs.Apart.{are_apart, shrinks_message, shrinks_own}
use Rattle.connection_laws.proofs.Rows.{all_filter, all_put}
use Rattle.fifo_laws.proofs.Quiet.{bind_row_quiet, holder_quiet, quiet_both, who_quiet}
use Rattle.answer_laws.proofs.Gots.{is_kept_as, is_open, own_is}
use Rattle.answer_laws.proofs.Rests.{told, quiet_told, reply_told, of_mine, mine_flat, lone_found}

-- a message that isn't bad, and answers a Who Am I but no row, is an intermediate or an extended response
pub answers_who : (p : ConnectionState) (m : Message) (q : UpRow) → is_bad (message_facts p) m ≡ false → is_under_own p m.id ≡ false → find (is_under m.id) p.rows ≡ None → find (is_under_who m.id) p.rows ≡ Some q → is_intermediate m.rest ≡ false → (tag_of m.rest == 0x78) ≡ true
answers_who p m q h own e k i = by (is_ignored m) (is_for_own (message_facts p) m) refl (own_is p m ∙ own) h
  where
    none_here : find (bad.is_under m.id) (map open_request p.rows) ≡ None
    none_here = find-map (bad.is_under m.id) open_request p.rows ∙ ap (option_map open_request) e

    there : list_any (bad.is_under_who m.id) (map open_request p.rows) ≡ true
    there = any-map (bad.is_under_who m.id) open_request p.rows ∙ any_found p.rows k
      where
        any_found : (rows : List UpRow) → find (is_under_who m.id) rows ≡ Some q → list_any (is_under_who m.id) rows ≡ true
        any_found [] z = absurd (let bad : None ≡ Some q = z in cc)
        any_found (x ∷ rows) z = on (is_under_who m.id x) refl z (any_found rows)
          where
            on : (b : Bool) → is_under_who m.id x ≡ b → cond b (Some x) (find (is_under_who m.id) rows) ≡ Some q → (find (is_under_who m.id) rows ≡ Some q → list_any (is_under_who m.id) rows ≡ true) → (is_under_who m.id x || list_any (is_under_who m.id) rows) ≡ true
            on true y z' ih = or_left (is_under_who m.id x) _ y
            on false y z' ih = or_right (is_under_who m.id x) _ (ih z')

    other_is : is_bad_other (message_facts p) m ≡ is_bad_who m
    other_is = ap (is_bad_for (message_facts p) m) none_here ∙ ap (λ b. if b then is_bad_who m else is_bad_stray (message_facts p) m) there

    only : (a b : Bool) → not (a || b) ≡ false → a ≡ false → b ≡ true
    only true b x y = absurd (let bad : true ≡ false = y in cc)
    only false true x y = refl
    only false false x y = absurd (let bad : true ≡ false = x in cc)

    by : (a b : Bool) → is_ignored m ≡ a → b ≡ false → (if a then false else if b then is_bad_own m else is_bad_other (message_facts p) m) ≡ false → (tag_of m.rest == 0x78) ≡ true
    by true b x y z = right (m.id == 0) _ x
    by false true x y z = absurd (let bad : true ≡ false = y in cc)
    by false false x y z = only (is_intermediate m.rest) (tag_of m.rest == 0x78) (sym other_is ∙ z) i

module _ (s : Settings) (op : OpName) (rest0 : List ℕ) (p : ConnectionState) (apart : are_apart p.rows ≡ true) (at : ℕ) (m : Message) (kept_rows : list_all (of_mine op (is_kept_as rest0)) p.rows ≡ true) (fine : is_bad (message_facts p) m ≡ false) (own : is_under_own p m.id ≡ false) where
  abbrev Rows : List UpRow → Type 0
  Rows rows = list_all (of_mine op (is_kept_as rest0)) rows ≡ true

  abbrev Steps : List UpRow → List (List ℕ) → Type 0
  Steps rows xs = ((xs ≡ []) × Rows rows) ⊎ ((xs ≡ rest0 ∷ []) × (list_all (of_mine op (λ r. false)) rows ≡ true))

  abbrev rows_behind : List UpRow
  rows_behind = flat_map (behind_message at m) p.rows

  is_some_kept : (r : UpRow) → is_kept_as rest0 r ≡ true → is_some r.kept ≡ true
  is_some_kept r h = by r.kept h
    where
      by : (o : Option Kept) → passes (λ k. bytes_eq k.rest rest0) o ≡ true → is_some o ≡ true
      by None k = k
      by (Some x) k = refl

  not_under : (r : UpRow) → is_kept_as rest0 r ≡ true → is_under m.id r ≡ false
  not_under r h = by (r.id == m.id) (is_some r.kept) (is_some_kept r h)
    where
      by : (a b : Bool) → b ≡ true → (a && not b) ≡ false
      by true true k = refl
      by false true k = refl
      by a false k = absurd (let bad : false ≡ true = k in cc)

  behind_is : (r : UpRow) → is_kept_as rest0 r ≡ true → behind_message at m r ≡ elim (is_under_who m.id r) [ true ↦ behind_who at m.rest r | false ↦ r ∷ [] ]
  behind_is r h = ap (λ b. elim b [ true ↦ behind_answer at m.rest r | false ↦ elim (is_under_who m.id r) [ true ↦ behind_who at m.rest r | false ↦ r ∷ [] ] ]) (not_under r h)

  rows_stay : Rows rows_behind
  rows_stay = mine_flat op (is_kept_as rest0) (is_kept_as rest0) (behind_message at m) p.rows (shrinks_message at m) (λ r k. ap (list_all (of_mine op (is_kept_as rest0))) (behind_is r k) ∙ by r k (is_under_who m.id r) (tag_of m.rest == 0x78)) kept_rows
    where
      by : (r : UpRow) → is_kept_as rest0 r ≡ true → (w t : Bool) → list_all (of_mine op (is_kept_as rest0)) (elim w [ true ↦ elim t [ true ↦ [] | false ↦ record r { answered = at } ∷ [] ] | false ↦ r ∷ [] ]) ≡ true
      by r k true true = refl
      by r k true false = both (of_mine op (is_kept_as rest0) r) true (implies_by (same_op op r.op) _ (λ j. k)) refl
      by r k false t = both (of_mine op (is_kept_as rest0) r) true (implies_by (same_op op r.op) _ (λ j. k)) refl

  silent : (xs : List (List ℕ)) → xs ≡ [] → Steps rows_behind xs
  silent xs e = inl (e, rows_stay)

  -- the answer to Who Am I
  told_now : (q : UpRow) → find (is_under m.id) p.rows ≡ None → find (is_under_who m.id) p.rows ≡ Some q → same_op op q.op ≡ true → Steps rows_behind (told op (letters_alone (who_answer p m.rest q)))
  told_now q e k mine = by (is_intermediate m.rest) (tells_who m.rest) refl
    where
      kept_q : is_kept_as rest0 q ≡ true
      kept_q = implied (same_op op q.op) _ (found (of_mine op (is_kept_as rest0)) (is_under_who m.id) p.rows q k kept_rows) mine

      rest_is : kept_rest q ≡ rest0
      rest_is = on q.kept kept_q
        where
          on : (o : Option Kept) → passes (λ x. bytes_eq x.rest rest0) o ≡ true → (elim o [ None ↦ [] | Some x ↦ x.rest ]) ≡ rest0
          on None j = absurd (let bad : false ≡ true = j in cc)
          on (Some x) j = (bytes_eq-Decides x.rest rest0).0 j

      gone : is_intermediate m.rest ≡ false → list_all (of_mine op (λ r. false)) rows_behind ≡ true
      gone i = mine_flat op (λ r. false) (λ x. list_all (of_mine op (λ r. false)) (behind_message at m x)) (behind_message at m) p.rows (shrinks_message at m) (λ r j. j) (lone_found op (λ x. list_all (of_mine op (λ r. false)) (behind_message at m x)) (is_under_who m.id) p.rows q apart k mine (ap (list_all (of_mine op (λ r. false))) (behind_is q kept_q ∙ ap (λ b. elim b [ true ↦ behind_who at m.rest q | false ↦ q ∷ [] ]) (found_passes (is_under_who m.id) p.rows q k) ∙ ap (λ b. elim b [ true ↦ [] | false ↦ record q { answered = at } ∷ [] ]) (answers_who p m q fine own e k i))))

      by : (a b : Bool) → is_intermediate m.rest ≡ a → Steps rows_behind (told op (letters_alone (elim a [ true ↦ nothing | false ↦ act [] ((elim b [ true ↦ reply q.op (kept_rest q) true (who_value m.rest) | false ↦ failed q.op C9 ]) ++ holder_ended p) ])))
      by true b i = silent [] refl
      by false true i = inr (reply_told op q.op (kept_rest q) true (who_value m.rest) (holder_ended p) mine (holder_quiet op p) ∙ ap (λ l. l ∷ []) rest_is, gone i)
      by false false i = silent (told op (failed q.op C9 ++ holder_ended p)) (quiet_told op (failed q.op C9 ++ holder_ended p) (quiet_both op (failed q.op C9) (holder_ended p) refl (holder_quiet op p)))

  pub got_kept : is_bind p ≡ true → Steps (with_got at m p).rows (told op (got_letters s p at m))
  got_kept bp = subst (λ b. Steps (if b then p.rows else rows_behind) (told op (got_letters s p at m))) (sym own) (subst (λ b. Steps rows_behind (told op (letters_alone (elim b [ true ↦ goes_down p BadEnd | false ↦ elim p.kind [ Regular ↦ answered p at m | BindKind ↦ bind_answered s p m ] ])))) (sym fine) (on_kind p.kind bp))
    where
      other : (q : UpRow) → find (is_under m.id) p.rows ≡ Some q → not (same_op op q.op) ≡ true
      other q e = ap not (false_by (same_op op q.op) (λ j. sym (not_under q (implied (same_op op q.op) _ (found (of_mine op (is_kept_as rest0)) (is_under m.id) p.rows q e kept_rows) j)) ∙ found_passes (is_under m.id) p.rows q e))

      on_who : (q : UpRow) → find (is_under m.id) p.rows ≡ None → find (is_under_who m.id) p.rows ≡ Some q → (b : Bool) → same_op op q.op ≡ b → Steps rows_behind (told op (letters_alone (who_answer p m.rest q)))
      on_who q e k true j = told_now q e k j
      on_who q e k false j = silent (told op (letters_alone (who_answer p m.rest q))) (quiet_told op (letters_alone (who_answer p m.rest q)) (who_quiet op p m.rest q (ap not j)))

      by : (a b : Option UpRow) → find (is_under m.id) p.rows ≡ a → find (is_under_who m.id) p.rows ≡ b → Steps rows_behind (told op (letters_alone (elim a [ Some r ↦ bind_row_answer s p m.rest r | None ↦ elim b [ Some r ↦ who_answer p m.rest r | None ↦ nothing ] ])))
      by (Some q) b e k = silent (told op (letters_alone (bind_row_answer s p m.rest q))) (quiet_told op (letters_alone (bind_row_answer s p m.rest q)) (bind_row_quiet op s p m.rest q (other q e)))
      by None (Some q) e k = on_who q e k (same_op op q.op) refl
      by None None e k = silent [] refl

      on_kind : (k : ConnKind) → is_kind BindKind k ≡ true → Steps rows_behind (told op (letters_alone (elim k [ Regular ↦ answered p at m | BindKind ↦ bind_answered s p m ])))
      on_kind Regular j = absurd (let bad : false ≡ true = j in cc)
      on_kind BindKind j = by (find (is_under m.id) p.rows) (find (is_under_who m.id) p.rows) refl refl

-- Other entries.

module _ (op : OpName) (t : UpRow → Bool) (own_stays : (m : Message) (r : UpRow) → t r ≡ true → list_all (of_mine op t) (behind_own m r) ≡ true) where
  -- an entry that is no message, and no Sent of the operation, leaves its rows, or takes them away
  pub others_stay : (s : Settings) (e : Entry) (mark : Option Taken) (p : ConnectionState) (w : What) → is_none (got_message w) ≡ true → not (passes (λ x. same_op op x.op) (sent_message w)) ≡ true → (elim mark [ None ↦ true | Some x ↦ marks_connection p w x.letter ]) ≡ true → list_all (of_mine op t) p.rows ≡ true → list_all (of_mine op t) (connection_behind s e mark p w).rows ≡ true
  others_stay s e mark p (what.Got id rest) g n f h = absurd (let bad : false ≡ true = g in cc)
  others_stay s e None p (what.Sent id o rest) g n f h = h
  others_stay s e (Some x) p (what.Sent id o rest) g n f h = by x.letter f
    where
      by : (y : Letter) → marks_connection p (what.Sent id o rest) y ≡ true → list_all (of_mine op t) (rows_sent e.at id p.rows y) ≡ true
      by (Forward q sort body ask holder) k =
          let row : UpRow = record { id = id; op = q; kind = sort; ask_who = ask; sent = e.at; answered = e.at; kept = None } in
          all_put (of_mine op t) row p.rows (ap (λ b. implies b (t row)) (ap (same_op op) (sym (same_op_eq o q (left (same_op o q) _ (left (same_op o q && bytes_eq rest body) _ k)))) ∙ not_true (same_op op o) n)) h
      by _ k = h
  others_stay s e mark p (what.Own id rest) g n f h = mine_flat op t t (behind_own (record { id = id; rest = rest })) p.rows (shrinks_own (record { id = id; rest = rest })) (λ r k. own_stays (record { id = id; rest = rest }) r k) h
  others_stay s e mark p (what.Expired o) g n f h = all_filter (of_mine op t) (λ r. not (same_op o r.op)) p.rows h
  others_stay s e mark p (what.Down why) g n f h = refl
  others_stay s e mark p _ g n f h = h

pub open_stays : (op : OpName) (kind : OpKind) (id : ℕ) (m : Message) (r : UpRow) → is_open kind id r ≡ true → list_all (of_mine op (is_open kind id)) (behind_own m r) ≡ true
open_stays op kind id m r h = by r.kept (left (is_none r.kept) _ (left (is_none r.kept && same_kind kind r.kind) _ h)) (bytes_eq m.rest who_am_i) (is_abandoned_by m.rest r)
  where
    by : (o : Option Kept) → is_none o ≡ true → (a b : Bool) → list_all (of_mine op (is_open kind id)) (elim (a && passes (λ k. is_none k.who) o) [ true ↦ record r { kept = elim r.kept [ None ↦ None | Some k ↦ Some (record k { who = Some m.id }) ] } ∷ [] | false ↦ elim b [ true ↦ [] | false ↦ r ∷ [] ] ]) ≡ true
    by (Some k) j a b = absurd (let bad : false ≡ true = j in cc)
    by None j true true = refl
    by None j false true = refl
    by None j true false = both (of_mine op (is_open kind id) r) true (implies_by (same_op op r.op) _ (λ i. h)) refl
    by None j false false = both (of_mine op (is_open kind id) r) true (implies_by (same_op op r.op) _ (λ i. h)) refl

pub kept_stays : (op : OpName) (rest0 : List ℕ) (m : Message) (r : UpRow) → is_kept_as rest0 r ≡ true → list_all (of_mine op (is_kept_as rest0)) (behind_own m r) ≡ true
kept_stays op rest0 m r h = by (bytes_eq m.rest who_am_i && passes (λ k. is_none k.who) r.kept) (is_abandoned_by m.rest r)
  where
    later : (o : Option Kept) → passes (λ k. bytes_eq k.rest rest0) o ≡ true → passes (λ k. bytes_eq k.rest rest0) (elim o [ None ↦ None | Some k ↦ Some (record k { who = Some m.id }) ]) ≡ true
    later None j = j
    later (Some k) j = j

    by : (a b : Bool) → list_all (of_mine op (is_kept_as rest0)) (elim a [ true ↦ record r { kept = elim r.kept [ None ↦ None | Some k ↦ Some (record k { who = Some m.id }) ] } ∷ [] | false ↦ elim b [ true ↦ [] | false ↦ r ∷ [] ] ]) ≡ true
    by true b = both (of_mine op (is_kept_as rest0) (record r { kept = elim r.kept [ None ↦ None | Some k ↦ Some (record k { who = Some m.id }) ] })) true (implies_by (same_op op r.op) _ (λ i. later r.kept h)) refl
    by false true = refl
    by false false = both (of_mine op (is_kept_as rest0) r) true (implies_by (same_op op r.op) _ (λ i. h)) refl
