-- The final answer to an operation whose row is open: it is the last letter that its connection gives for it; or a success that
-- is kept back, behind which its identity is asked for.
use Rattle.std.proofs.Common.{◌≡◌, ℕ, ◌+◌, ◌≤◌, Bool, true, false, ◌==◌, ◌&&◌, ◌||◌, not, if◌then◌else◌, List, [], ◌∷◌, ◌++◌, arith, refl, ap, ◌∙◌, sym, subst}
use Rattle.std.specs.Prelude.{Option, Some, None, cond, find, flat_map, is_none, is_some, nat_lt}
use Rattle.std.specs.List.{list_any, list_all}
use Rattle.std.specs.Str.{bytes_eq}
use Rattle.ldap_spec.specs.Bodies.{who_am_i}
use Rattle.ldap_spec.specs.Kinds.{fits, is_final, is_intermediate, kind_of, same_kind, tag_of}
use Rattle.ldap_spec.specs.Messages.{Message}
use Rattle.ldap_spec.specs.Responses.{has_code, result_code}
use Rattle.ldap_spec.specs.Tags.{bind_in_progress, success}
use Rattle.lload_names.specs.declared.names.ConnKind.{ConnKind}
use Rattle.lload_names.specs.declared.names.ConnKind.TheVariants.{Bind as BindKind, Regular}
use Rattle.lload_names.specs.declared.names.EndWhy.TheVariants.{Bad as BadEnd}
use Rattle.lload_names.specs.declared.names.OpKind.{OpKind}
use Rattle.lload_names.specs.declared.names.OpKind.TheVariants.{Bind}
use Rattle.lload_names.specs.declared.names.Entry.{Entry}
use Rattle.lload_names.specs.declared.names.Letter.TheVariants.{Reply}
use Rattle.lload_names.specs.declared.names.OpName.{OpName}
use Rattle.lload_names.specs.declared.names.PartName.{PartName}
use Rattle.lload_names.specs.declared.names.PartName.TheVariants.{Client}
use Rattle.lload_names.specs.declared.names.Posted.{Posted}
use Rattle.lload_names.specs.declared.names.What.{What}
use Rattle.lload_names.specs.declared.names.What.TheVariants as what
use Rattle.lload_spec.specs.Answers.{asks_who, is_kept_back, who_answer}
use Rattle.lload_spec.specs.BadMessages.{is_bad, is_bad_answer}
use Rattle.lload_spec.specs.Entries.{is_own, own_message}
use Rattle.lload_spec.specs.Journal.{same_op}
use Rattle.lload_spec.specs.OneEach.{is_bind_due, is_own_bind}
use Rattle.lload_spec.specs.Lists.{agrees, first_passes, implies, passes, where_there}
use Rattle.lload_spec.specs.Operations.{Operation, is_of}
use Rattle.lload_spec.specs.Owed.{count_of, loses, told_at_final}
use Rattle.lload_spec.specs.Settings.{Settings, is_kind}
use Rattle.lload_spec.proofs.Growth.{left, right, both}
use Rattle.lload_laws.proofs.ListLaws.{all_both, all_imply, any_imply, found, found_passes, implied, implies_by}
use Rattle.part_laws.proofs.ListLaws.{eq_eqb, eqb_same, false_by, or_left, same_number}
use Rattle.part_spec.specs.BindTurn.{answered as bind_answered, keep_back, row_answer as bind_row_answer, who_answer as who_act}
use Rattle.part_spec.specs.ConnectionState.{ConnectionState, Kept, OwnWait, UpRow, behind_answer, behind_final, behind_message, behind_own, behind_who, is_abandoned_by, is_bind, is_bind_row, is_under, is_under_own, is_under_who, keeps_back, message_facts, open_request, step_connection}
use Rattle.part_spec.specs.ConnectionTurn.{ended, goes_down, holder_ended, latency, retires}
use Rattle.part_spec.specs.Gives.{got_letters}
use Rattle.part_spec.specs.Inputs.{Act, act, letters_alone, nothing, reply}
use Rattle.part_spec.specs.Marked.{Marked, Taken, entries}
use Rattle.part_spec.specs.RegularTurn.{answered, own_answer, row_answer}
use Rattle.part_spec.specs.Share.{has_due_messages, has_reason, is_who_due}
use Rattle.connection_laws.proofs.Apart.{are_apart, is_taken, shrinks_message, shrinks_own}
use Rattle.forward_laws.proofs.Causes.{kind_eq}
use Rattle.answer_laws.proofs.Gots.{answers_well, is_open, or_second}
use Rattle.answer_laws.proofs.Ids.{is_given, is_own_apart}
use Rattle.answer_laws.proofs.Places.{At}
use Rattle.answer_laws.proofs.Rests.{gone_mine, lone_found, mine_flat, none_found_mine, of_mine, one_mine, other_found}
use Rattle.answer_laws.proofs.Told.{bind_stays, next_at}
use Rattle.told_laws.proofs.Waiting.{who_text}
use Rattle.given_laws.proofs.Asked.{owes, walk_asked}
use Rattle.given_laws.proofs.Behind.{Fine, calm_silent, fine_behind, gave, gave_both, given_at, marked_as, nothing_given}
use Rattle.given_laws.proofs.Counts.{are_silent, count, count_both, count_few, holder_silent, silent_none}
use Rattle.given_laws.proofs.Told.{final_kept, final_told}

-- whether a row says rightly whether the identity of its operation is asked for
abbrev pub asks_rightly : Settings → Operation → UpRow → Bool
asks_rightly s o r = agrees r.ask_who (asks_who s o)

-- whether its answer is kept back, and its identity isn't asked for yet
abbrev is_fresh : UpRow → Bool
is_fresh r = passes (λ k. is_none k.who) r.kept

agree : (a b : Bool) → agrees a b ≡ true → a ≡ b
agree true b h = sym h
agree false true h = h
agree false false h = refl

found_with : (t g : UpRow → Bool) (rows : List UpRow) (q : UpRow) → find t rows ≡ Some q → g q ≡ true → list_any (λ r. t r && g r) rows ≡ true
found_with t g [] q e h = absurd (let bad : None ≡ Some q = e in cc)
found_with t g (y ∷ rows) q e h = by (t y) e (found_with t g rows q)
  where
    by : (b : Bool) → cond b (Some y) (find t rows) ≡ Some q → (find t rows ≡ Some q → g q ≡ true → list_any (λ r. t r && g r) rows ≡ true) → (b && g y || list_any (λ r. t r && g r) rows) ≡ true
    by true i more = let same : y ≡ q = cc in or_left (g y) _ (ap g same ∙ h)
    by false i more = more i h

module _ (s : Settings) (u : ℕ) (o : Operation) (id : ℕ) (kind : OpKind) (kind_req : kind_of o.request.rest ≡ Some kind) where
  abbrev op : OpName
  op = o.name

  -- the row that a message answers
  module _ (p : ConnectionState) (m : Message) (there : list_any (λ r. same_op op r.op) p.rows ≡ true) (opened : list_all (of_mine op (is_open kind id)) p.rows ≡ true) (apart : are_apart p.rows ≡ true) (same : (m.id == id) ≡ true) where
    one_open : (t : UpRow → Bool) → list_all (of_mine op t) p.rows ≡ true → (r : UpRow) × ((is_open kind id r && t r) ≡ true)
    one_open t h = one_mine op (λ r. is_open kind id r && t r) p.rows there (all_imply (λ r. of_mine op (is_open kind id) r && of_mine op t r) (of_mine op (λ r. is_open kind id r && t r)) p.rows (λ r k. join (same_op op r.op) (is_open kind id r) (t r) k) (all_both (of_mine op (is_open kind id)) (of_mine op t) p.rows opened h))
      where
        join : (a b d : Bool) → (implies a b && implies a d) ≡ true → implies a (b && d) ≡ true
        join true b d k = k
        join false b d k = refl

    pub record Mine : Type 0 where
      pub row : UpRow
      pub at : find (is_under m.id) p.rows ≡ Some row
      pub name : same_op op row.op ≡ true

    under : (r : UpRow) → is_open kind id r ≡ true → is_under m.id r ≡ true
    under r h = both (r.id == m.id) _ (eq_eqb r.id m.id (same_number r.id id (right (is_none r.kept && same_kind kind r.kind) _ h) ∙ sym (same_number m.id id same))) (none r.kept (left (is_none r.kept) _ (left (is_none r.kept && same_kind kind r.kind) _ h)))
      where
        none : (k : Option Kept) → is_none k ≡ true → not (is_some k) ≡ true
        none None j = refl
        none (Some y) j = j

    pub found_mine : Mine
    found_mine = by (find (is_under m.id) p.rows) refl
      where
        one : (q : UpRow) → find (is_under m.id) p.rows ≡ Some q → (b : Bool) → same_op op q.op ≡ b → Mine
        one q e true k = record { row = q; at = e; name = k }
        one q e false k =
            let other = one_open (λ y. not (y.id == q.id)) (other_found op (is_under m.id) p.rows q apart e k) in
            let mine : is_open kind id other.0 ≡ true = left (is_open kind id other.0) _ other.1 in
            let ids : (other.0.id == q.id) ≡ true = eq_eqb other.0.id q.id (same_number other.0.id m.id (left (other.0.id == m.id) _ (under other.0 mine)) ∙ sym (same_number q.id m.id (left (q.id == m.id) _ (found_passes (is_under m.id) p.rows q e)))) in
            absurd (let bad : false ≡ true = sym (ap not ids) ∙ right (is_open kind id other.0) _ other.1 in cc)

        by : (f : Option UpRow) → find (is_under m.id) p.rows ≡ f → Mine
        by (Some q) e = one q e (same_op op q.op) refl
        by None e =
            let other = one_open (λ y. not (is_under m.id y)) (none_found_mine op (is_under m.id) p.rows e) in
            absurd (let bad : false ≡ true = sym (ap not (under other.0 (left (is_open kind id other.0) _ other.1))) ∙ right (is_open kind id other.0) _ other.1 in cc)

  -- The final answer.
  module _ (b : List Marked) (p : ConnectionState) (ms : List Marked) (part : PartName) (at : ℕ) (mark : Option Taken) (i : ℕ) (rest : List ℕ) (a : At s u (entries b) p) (h : Fine s u op b p (marked_as s u op part at mark (what.Got i rest) ∷ ms)) (there : list_any (λ r. same_op op r.op) p.rows ≡ true) (opened : list_all (of_mine op (is_open kind id)) p.rows ≡ true) (asks : list_all (of_mine op (asks_rightly s o)) p.rows ≡ true) (fine : is_bad (message_facts p) (record { id = i; rest = rest }) ≡ false) (same : (i == id) ≡ true) (final : is_final kind rest ≡ true) where
    abbrev m : Message
    m = record { id = i; rest = rest }

    abbrev got : Marked
    got = marked_as s u op part at mark (what.Got i rest)

    abbrev next : ConnectionState
    next = step_connection s p got

    mine : Mine p m there opened a.ids.apart same
    mine = found_mine p m there opened a.ids.apart same

    abbrev q : UpRow
    q = mine.row

    under_q : is_under i q ≡ true
    under_q = found_passes (is_under i) p.rows q mine.at

    id_of : (q.id == i) ≡ true
    id_of = left (q.id == i) _ under_q

    open_q : is_open kind id q ≡ true
    open_q = implied (same_op op q.op) _ (found (of_mine op (is_open kind id)) (is_under i) p.rows q mine.at opened) mine.name

    kind_is : kind ≡ q.kind
    kind_is = kind_eq kind q.kind (right (is_none q.kept) _ (left (is_none q.kept && same_kind kind q.kind) _ open_q))

    final_q : is_final q.kind rest ≡ true
    final_q = ap (λ k. is_final k rest) (sym kind_is) ∙ final

    keeps_is : keeps_back q rest ≡ is_kept_back (asks_who s o) rest
    keeps_is = ap (λ c. is_kept_back c rest) (agree q.ask_who (asks_who s o) (implied (same_op op q.op) _ (found (of_mine op (asks_rightly s o)) (is_under i) p.rows q mine.at asks) mine.name))

    own : is_under_own p i ≡ false
    own = false_by (is_under_own p i) (λ j. by p.own_bind a.ids.own j)
      where
        taken : (n : ℕ) → (n == i) ≡ true → is_taken p.rows n ≡ true
        taken n e = any_imply (λ r. is_under i r && true) (λ r. r.id == n) p.rows (λ r k. eq_eqb r.id n (same_number r.id i (left (r.id == i) _ (left (is_under i r) true k)) ∙ sym (same_number n i e))) (found_with (is_under i) (λ r. true) p.rows q mine.at refl)

        by : (v : Option OwnWait) → where_there (is_own_apart p) v ≡ true → passes (λ own. own.id == i) v ≡ true → false ≡ true
        by None k j = j
        by (Some own) k j = sym (ap not (taken own.id j)) ∙ right (nat_lt own.id p.ids.next) _ (left (nat_lt own.id p.ids.next && not (is_taken p.rows own.id)) _ k)

    well : is_bad_answer m (open_request q) ≡ false
    well = answers_well p m q fine own mine.at (left (nat_lt 0 q.id) _ (found (λ r. is_given p.ids.next r.id) (is_under i) p.rows q mine.at a.ids.rows)) id_of

    with_code : is_bind_row q ≡ true → is_none (result_code rest) ≡ false
    with_code j = by (is_bind_row q) (is_final Bind rest) (is_none (result_code rest)) (or_second (not (fits q.kind rest)) _ well) j (ap (λ k. is_final k rest) (kind_eq Bind q.kind j) ∙ final_q)
      where
        by : (x y z : Bool) → (x && y && z) ≡ false → x ≡ true → y ≡ true → z ≡ false
        by true true z k l n = k
        by true false z k l n = absurd (let bad : false ≡ true = n in cc)
        by false y z k l n = absurd (let bad : false ≡ true = l in cc)

    bind_is : is_of Bind o ≡ is_bind_row q
    bind_is = ap (passes (same_kind Bind)) kind_req ∙ ap (same_kind Bind) kind_is

    unread : (is_of Bind o && is_none (result_code rest)) ≡ false
    unread = ap (λ c. c && is_none (result_code rest)) bind_is ∙ by (is_bind_row q) refl
      where
        by : (c : Bool) → is_bind_row q ≡ c → (c && is_none (result_code rest)) ≡ false
        by true e = with_code e
        by false e = refl

    behind_q : behind_message at m q ≡ behind_final at rest q
    behind_q = ap (λ c. elim c [ true ↦ behind_answer at rest q | false ↦ elim (is_under_who i q) [ true ↦ behind_who at rest q | false ↦ q ∷ [] ] ]) under_q ∙ ap (λ c. elim c [ false ↦ q ∷ [] | true ↦ elim (is_final q.kind rest) [ true ↦ behind_final at rest q | false ↦ record q { answered = at } ∷ [] ] ]) (or_left (is_final q.kind rest || is_intermediate rest) _ (or_left (is_final q.kind rest) _ final_q)) ∙ ap (λ c. elim c [ true ↦ behind_final at rest q | false ↦ record q { answered = at } ∷ [] ]) final_q

    rows_by : (t : UpRow → Bool) (rs : List UpRow) → behind_final at rest q ≡ rs → list_all (of_mine op t) rs ≡ true → list_all (of_mine op t) next.rows ≡ true
    rows_by t rs z k = ap (λ c. list_all (of_mine op t) (if c then p.rows else flat_map (behind_message at m) p.rows)) own ∙ mine_flat op t (λ y. list_all (of_mine op t) (behind_message at m y)) (behind_message at m) p.rows (shrinks_message at m) (λ r j. j) (lone_found op (λ y. list_all (of_mine op t) (behind_message at m y)) (is_under i) p.rows q a.ids.apart mine.at mine.name (ap (list_all (of_mine op t)) (behind_q ∙ z) ∙ k))

    abbrev final_rows : Bool → Bool → Bool → List UpRow
    final_rows x y z =
        elim x [
          | false ↦ []
          | true ↦ elim y [
            | true ↦ record q { answered = at; kept = Some (record { rest = rest; who = None }) } ∷ []
            | false ↦ elim z [ true ↦ record q { answered = at } ∷ [] | false ↦ [] ]
          ]
        ]

    -- The letters of the answer.

    abbrev bind_text : Bool → Bool → Bool → Act
    bind_text x y z =
        elim x [
          | true ↦ act [] (reply q.op rest false None)
          | false ↦ elim y [
            | true ↦ act [] (reply q.op rest true None)
            | false ↦ elim z [ true ↦ keep_back s p | false ↦ act [] (reply q.op rest true None ++ holder_ended p) ]
          ]
        ]

    bind_letters : p.kind ≡ BindKind → got_letters s p at m ≡ letters_alone (bind_text (is_intermediate rest) (has_code bind_in_progress rest) (keeps_back q rest))
    bind_letters k = ap (λ d. letters_alone (elim d [ true ↦ goes_down p BadEnd | false ↦ elim p.kind [ Regular ↦ answered p at m | BindKind ↦ bind_answered s p m ] ])) fine ∙ ap (λ d. letters_alone (elim d [ Regular ↦ answered p at m | BindKind ↦ bind_answered s p m ])) k ∙ ap (λ f. letters_alone (elim f [ Some r ↦ bind_row_answer s p rest r | None ↦ elim (find (is_under_who i) p.rows) [ Some r ↦ who_act p rest r | None ↦ nothing ] ])) mine.at

    regular_letters : p.kind ≡ Regular → got_letters s p at m ≡ reply q.op rest true None ++ ended p q.op (latency at q)
    regular_letters k = ap (λ d. letters_alone (elim d [ true ↦ goes_down p BadEnd | false ↦ elim p.kind [ Regular ↦ answered p at m | BindKind ↦ bind_answered s p m ] ])) fine ∙ ap (λ d. letters_alone (elim d [ Regular ↦ answered p at m | BindKind ↦ bind_answered s p m ])) k ∙ ap (λ d. letters_alone (elim d [ true ↦ own_answer p m | false ↦ elim (find (is_under i) p.rows) [ None ↦ nothing | Some r ↦ row_answer p at m r ] ])) own ∙ ap (λ f. letters_alone (elim f [ None ↦ nothing | Some r ↦ row_answer p at m r ])) mine.at ∙ ap (λ d. letters_alone (elim d [ false ↦ act [] (reply q.op rest false None) | true ↦ act [] (reply q.op rest true None ++ ended p q.op (latency at q)) ])) final_q

    kept_letters : count op (letters_alone (keep_back s p)) ≡ 0
    kept_letters = by (p.ids.next == s.id_limit)
      where
        by : (c : Bool) → count op (letters_alone (act (elim c [ true ↦ what.Own p.ids.next who_am_i ∷ what.Retired ∷ [] | false ↦ what.Own p.ids.next who_am_i ∷ [] ]) (retires s p p.ids.next))) ≡ 0
        by true = refl
        by false = refl

    one_reply : (is_last : Bool) (more : List Posted) → are_silent op more ≡ true → count op (reply q.op rest is_last None ++ more) ≤ 1
    one_reply is_last more k =
        let all : count op (reply q.op rest is_last None ++ more) ≡ count op (reply q.op rest is_last None) + count op more = count_both op (reply q.op rest is_last None) more in
        let none : count op more ≡ 0 = silent_none op more k in
        let few : count op (reply q.op rest is_last None) ≤ 1 = count_few op (record { to = Client q.op.client; letter = Reply q.op rest is_last None }) in
        omega (arith, all, none, few)

    few_letters : count op (got_letters s p at m) ≤ 1
    few_letters = by p.kind refl
      where
        none_few : count op (letters_alone (keep_back s p)) ≤ 1
        none_few = let none : count op (letters_alone (keep_back s p)) ≡ 0 = kept_letters in omega (arith, none)

        bind_few : (x y z : Bool) → count op (letters_alone (bind_text x y z)) ≤ 1
        bind_few true y z = one_reply false [] refl
        bind_few false true z = one_reply true [] refl
        bind_few false false true = none_few
        bind_few false false false = one_reply true (holder_ended p) (holder_silent op p)

        by : (k : ConnKind) → p.kind ≡ k → count op (got_letters s p at m) ≤ 1
        by Regular e = subst (λ xs. count op xs ≤ 1) (sym (regular_letters e)) (one_reply true (ended p q.op (latency at q)) refl)
        by BindKind e = subst (λ xs. count op xs ≤ 1) (sym (bind_letters e)) (bind_few (is_intermediate rest) (has_code bind_in_progress rest) (keeps_back q rest))

    -- It goes out at once: nothing comes behind.
    plain_given : is_kept_back (asks_who s o) rest ≡ false → gave s u op p (got ∷ ms) ≤ 1
    plain_given k =
        let all : gave s u op p (got ∷ ms) ≡ given_at s u op p got + gave s u op next ms = gave_both s u op p got ms in
        let few : given_at s u op p got ≤ 1 = few_letters in
        let none : gave s u op next ms ≡ 0 = nothing_given s u op (b ++ got ∷ []) next ms (fine_behind s u op b p got ms h) (gone_mine op next.rows (rows_by (λ r. false) [] gone refl)) in
        omega (arith, all, few, none)
      where
        gone : behind_final at rest q ≡ []
        gone = ap (λ c. final_rows (is_bind_row q) c (is_none (result_code rest))) (keeps_is ∙ k) ∙ by (is_bind_row q) refl
          where
            by : (c : Bool) → is_bind_row q ≡ c → final_rows c false (is_none (result_code rest)) ≡ []
            by true e = ap (final_rows true false) (with_code e)
            by false e = refl

    -- It is kept back.
    module _ (kept : is_kept_back (asks_who s o) rest ≡ true) where
      keeps_q : keeps_back q rest ≡ true
      keeps_q = keeps_is ∙ kept

      a_bind : is_bind_row q ≡ true
      a_bind = sym bind_is ∙ right s.proxies_authorization _ (left (s.proxies_authorization && is_of Bind o) _ (left (asks_who s o) _ kept))

      on_bind : is_bind p ≡ true
      on_bind = by (is_bind_row q) (is_bind p) (found (λ r. agrees (is_bind_row r) (is_bind p)) (is_under i) p.rows q mine.at a.ids.kinds) a_bind
        where
          by : (x y : Bool) → agrees x y ≡ true → x ≡ true → y ≡ true
          by true y j k = j
          by false y j k = absurd (let bad : false ≡ true = k in cc)

      kind_bind : p.kind ≡ BindKind
      kind_bind = by p.kind on_bind
        where
          by : (k : ConnKind) → is_kind BindKind k ≡ true → k ≡ BindKind
          by BindKind j = refl
          by Regular j = absurd (let bad : false ≡ true = j in cc)

      -- a final answer to a Bind is no intermediate response, and a success isn't in progress
      not_part : is_intermediate rest ≡ false
      not_part = false_by (is_intermediate rest) (λ j. let tag : 0x61 ≡ 0x79 = sym (same_number (tag_of rest) 0x61 (ap (λ k. is_final k rest) (kind_eq Bind q.kind a_bind) ∙ final_q)) ∙ same_number (tag_of rest) 0x79 j in absurd (grind (arith, tag)))

      not_progress : has_code bind_in_progress rest ≡ false
      not_progress = by (result_code rest) (right (asks_who s o) (has_code success rest) kept)
        where
          by : (c : Option ℕ) → (elim c [ None ↦ false | Some x ↦ x == success ]) ≡ true → (elim c [ None ↦ false | Some x ↦ x == bind_in_progress ]) ≡ false
          by None j = refl
          by (Some x) j = ap (λ n. n == bind_in_progress) (same_number x success j)

      none_now : given_at s u op p got ≡ 0
      none_now = ap (count op) (bind_letters kind_bind) ∙ ap (λ c. count op (letters_alone (bind_text c (has_code bind_in_progress rest) (keeps_back q rest)))) not_part ∙ ap (λ c. count op (letters_alone (bind_text false c (keeps_back q rest)))) not_progress ∙ ap (λ c. count op (letters_alone (bind_text false false c))) keeps_q ∙ kept_letters

      fresh_rows : list_all (of_mine op is_fresh) next.rows ≡ true
      fresh_rows = rows_by is_fresh (record q { answered = at; kept = Some (record { rest = rest; who = None }) } ∷ []) (ap (λ c. final_rows c (keeps_back q rest) (is_none (result_code rest))) a_bind ∙ ap (λ c. final_rows true c (is_none (result_code rest))) keeps_q) (both (of_mine op is_fresh (record q { answered = at; kept = Some (record { rest = rest; who = None }) })) true (implies_by (same_op op q.op) _ (λ j. refl)) refl)

      -- the Who Am I is due
      asks_next : first_passes (is_own who_am_i) (entries ms) ≡ true
      asks_next = implied (is_who_due p got.entry) _ (right (implies (is_bind_due s p.number got.entry) (first_passes (is_own_bind s) (entries ms))) _ (left (has_due_messages s p got ms) _ (left (has_due_messages s p got ms && has_reason s p (entries b) got) _ h.owed))) (found_with (is_under i) (λ r. is_final r.kind rest && (is_bind_row r && keeps_back r rest)) p.rows q mine.at (both (is_final q.kind rest) _ final_q (both (is_bind_row q) _ a_bind keeps_q)))

      asked_behind : (part' : PartName) (at' : ℕ) (mark' : Option Taken) (w : ℕ) (body : List ℕ) (ds : List Marked) → bytes_eq body who_am_i ≡ true → Fine s u op (b ++ got ∷ []) next (marked_as s u op part' at' mark' (what.Own w body) ∷ ds) → gave s u op next (marked_as s u op part' at' mark' (what.Own w body) ∷ ds) ≤ count_of (is_some (who_answer (entries (marked_as s u op part' at' mark' (what.Own w body) ∷ ds))) || list_any (loses o) (entries (marked_as s u op part' at' mark' (what.Own w body) ∷ ds)))
      asked_behind part' at' mark' w body ds k f =
          let d : Marked = marked_as s u op part' at' mark' (what.Own w body) in
          let b' : List Marked = b ++ got ∷ [] in
          let all : gave s u op next (d ∷ ds) ≡ given_at s u op next d + gave s u op (step_connection s next d) ds = gave_both s u op next d ds in
          let none : given_at s u op next d ≡ 0 = calm_silent s u op next at' mark' (what.Own w body) refl refl refl refl in
          let later : gave s u op (step_connection s next d) ds ≤ owes s u o w (entries ds) = walk_asked s u o w (b' ++ d ∷ []) (step_connection s next d) ds (next_at s u op b' next d ds (next_at s u op b p got ms a h.rights.0) f.rights.0) (fine_behind s u op b' next d ds f) (bind_stays s u op next d (bind_stays s u op p got on_bind)) rows in
          let same_count : count_of (is_some (who_answer (entries (d ∷ ds))) || list_any (loses o) (entries (d ∷ ds))) ≡ owes s u o w (entries ds) = ap (count_by (entries (d ∷ ds))) k in
          omega (arith, all, none, later, same_count)
        where
          count_by : List Entry → Bool → ℕ
          count_by es c = count_of (is_some (who_text es (if c then Some w else None)) || list_any (loses o) es)

          asked_now : (r : UpRow) → is_fresh r ≡ true → list_all (of_mine op (is_under_who w)) (behind_own (record { id = w; rest = body }) r) ≡ true
          asked_now r j = ap (λ c. list_all (of_mine op (is_under_who w)) (elim c [ true ↦ asked_row r ∷ [] | false ↦ elim (is_abandoned_by body r) [ true ↦ [] | false ↦ r ∷ [] ] ])) (both (bytes_eq body who_am_i) _ k j) ∙ both (of_mine op (is_under_who w) (asked_row r)) true (implies_by (same_op op r.op) _ (λ n. under r.kept j)) refl
            where
              asked_row : UpRow → UpRow
              asked_row r = record r { kept = elim r.kept [ None ↦ None | Some x ↦ Some (record x { who = Some w }) ] }

              asked_kept : Option Kept → Option Kept
              asked_kept x = elim x [ None ↦ None | Some y ↦ Some (record y { who = Some w }) ]

              under : (x : Option Kept) → passes (λ y. is_none y.who) x ≡ true → passes (λ who. who == w) (elim (asked_kept x) [ None ↦ None | Some y ↦ y.who ]) ≡ true
              under None n = absurd (let bad : false ≡ true = n in cc)
              under (Some y) n = eqb_same w

          rows : list_all (of_mine op (is_under_who w)) (flat_map (behind_own (record { id = w; rest = body })) next.rows) ≡ true
          rows = mine_flat op (is_under_who w) is_fresh (behind_own (record { id = w; rest = body })) next.rows (shrinks_own (record { id = w; rest = body })) asked_now fresh_rows

      behind : (ds : List Marked) → first_passes (is_own who_am_i) (entries ds) ≡ true → Fine s u op (b ++ got ∷ []) next ds → gave s u op next ds ≤ count_of (is_some (who_answer (entries ds)) || list_any (loses o) (entries ds))
      behind [] j f = absurd (let bad : false ≡ true = j in cc)
      behind (d ∷ ds) j f = by d.entry.what refl j f
        where
          by : (v : What) → d.entry.what ≡ v → passes (λ x. bytes_eq x.rest who_am_i) (own_message v) ≡ true → Fine s u op (b ++ got ∷ []) next (marked_as s u op d.entry.part d.entry.at d.mark v ∷ ds) → gave s u op next (marked_as s u op d.entry.part d.entry.at d.mark v ∷ ds) ≤ count_of (is_some (who_answer (entries (marked_as s u op d.entry.part d.entry.at d.mark v ∷ ds))) || list_any (loses o) (entries (marked_as s u op d.entry.part d.entry.at d.mark v ∷ ds)))
          by (what.Own w body) e k g = asked_behind d.entry.part d.entry.at d.mark w body ds k g
          by _ e k g = absurd (let bad : false ≡ true = k in cc)

    pub final_given : gave s u op p (got ∷ ms) ≤ told_at_final s o rest (entries ms)
    final_given = by (is_kept_back (asks_who s o) rest) refl
      where
        by : (c : Bool) → is_kept_back (asks_who s o) rest ≡ c → gave s u op p (got ∷ ms) ≤ told_at_final s o rest (entries ms)
        by false k =
            let few : gave s u op p (got ∷ ms) ≤ 1 = plain_given k in
            let one : told_at_final s o rest (entries ms) ≡ 1 = final_told s o rest (entries ms) unread k in
            omega (arith, few, one)
        by true k =
            let all : gave s u op p (got ∷ ms) ≡ given_at s u op p got + gave s u op next ms = gave_both s u op p got ms in
            let none : given_at s u op p got ≡ 0 = none_now k in
            let later : gave s u op next ms ≤ count_of (is_some (who_answer (entries ms)) || list_any (loses o) (entries ms)) = behind k ms (asks_next k) (fine_behind s u op b p got ms h) in
            let told : told_at_final s o rest (entries ms) ≡ count_of (is_some (who_answer (entries ms)) || list_any (loses o) (entries ms)) = final_kept s o rest (entries ms) unread k in
            omega (arith, all, none, later, told)
