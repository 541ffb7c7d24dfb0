-- What a message meets on a bind connection: its one row at most, whose Bind it answers, or whose Who Am I.
use Rattle.std.proofs.Common.{◌≡◌, ℕ, Bool, true, false, ◌==◌, ◌&&◌, ◌||◌, not, List, [], ◌∷◌, ◌++◌, flat_map, refl, ap, ◌∙◌, sym, subst}
use Rattle.std.specs.Prelude.{Option, Some, None, find, map, cond, is_none, if◌then◌else◌}
use Rattle.std.specs.List.{list_any}
use Rattle.std.proofs.Math.Bool.{or-false}
use Rattle.ldap_spec.specs.Messages.{Message}
use Rattle.ldap_spec.specs.Kinds.{same_kind, tag_of, fits, is_final, is_intermediate, is_search_result}
use Rattle.ldap_spec.specs.Responses.{result_code, has_code}
use Rattle.lload_names.specs.declared.names.OpKind.{OpKind}
use Rattle.lload_names.specs.declared.names.OpKind.TheVariants.{Bind, Search, Modify, Add, Delete, ModifyDn, Compare, Extended}
use Rattle.lload_spec.specs.Lists.{passes}
use Rattle.lload_spec.specs.Settings.{Settings}
use Rattle.lload_spec.specs.BadMessages.{is_bad, is_bad_other, is_bad_for, is_bad_answer, is_ignored}
use Rattle.lload_spec.specs.BadMessages as bad
use Rattle.part_spec.specs.Inputs.{Act, act, nothing, reply}
use Rattle.part_spec.specs.ConnectionState.{ConnectionState, UpRow, OwnWait, is_bind_row, is_under, is_under_who, is_under_own, keeps_back, behind_message, behind_who, open_request, message_facts}
use Rattle.part_spec.specs.ConnectionTurn.{holder_ended}
use Rattle.part_spec.specs.BindTurn.{answered, row_answer, who_answer, keep_back, identity_letters}
use Rattle.part_spec.specs.Share.{succeeds, is_who_awaited}
use Rattle.lload_spec.proofs.Growth.{left, right, both}
use Rattle.part_laws.proofs.ListLaws.{false_by, not_true, same_number, or_right}
use Rattle.bind_laws.proofs.Lone.{is_lone}

-- the kind of a row that is a Bind's
pub bind_kind : (k : OpKind) → same_kind Bind k ≡ true → k ≡ Bind
bind_kind Bind h = refl
bind_kind Search h = absurd (let bad : false ≡ true = h in cc)
bind_kind Modify h = absurd (let bad : false ≡ true = h in cc)
bind_kind Add h = absurd (let bad : false ≡ true = h in cc)
bind_kind Delete h = absurd (let bad : false ≡ true = h in cc)
bind_kind ModifyDn h = absurd (let bad : false ≡ true = h in cc)
bind_kind Compare h = absurd (let bad : false ≡ true = h in cc)
bind_kind Extended h = absurd (let bad : false ≡ true = h in cc)

-- a final answer to a Bind is no intermediate one, and no two codes are one
final_apart : (rest : List ℕ) → is_intermediate rest ≡ true → is_final Bind rest ≡ false
final_apart rest h = false_by (tag_of rest == 0x61) (λ k. sym (ap (λ n. n == 0x61) (same_number (tag_of rest) 0x79 h)) ∙ k)

pub code_apart : (rest : List ℕ) → has_code 14 rest ≡ true → has_code 0 rest ≡ false
code_apart rest h = by (result_code rest) h
  where
    by : (o : Option ℕ) → (elim o [ None ↦ false | Some code ↦ code == 14 ]) ≡ true → (elim o [ None ↦ false | Some code ↦ code == 0 ]) ≡ false
    by None k = refl
    by (Some code) k = false_by (code == 0) (λ j. sym (ap (λ n. n == 0) (same_number code 14 k)) ∙ j)

pub code_there : (n : ℕ) (o : Option ℕ) → (elim o [ None ↦ false | Some code ↦ code == n ]) ≡ true → is_none o ≡ false
code_there n None h = absurd (let bad : false ≡ true = h in cc)
code_there n (Some code) h = refl

back_apart : (rest : List ℕ) (r : UpRow) → has_code 14 rest ≡ true → keeps_back r rest ≡ false
back_apart rest r h = by r.ask_who
  where
    by : (b : Bool) → (b && has_code 0 rest) ≡ false
    by true = code_apart rest h
    by false = refl

-- an answer of a Bind that isn't final is intermediate
fits_by : (g i c : Bool) → (g || i || (false && c)) ≡ true → i ≡ false → g ≡ true
fits_by true i c h e = refl
fits_by false true c h e = absurd (let bad : true ≡ false = e in cc)
fits_by false false c h e = absurd (let bad : false ≡ true = h in cc)

not_left : (a b : Bool) → (not a || b) ≡ false → a ≡ true
not_left true b h = refl
not_left false b h = absurd (let bad : true ≡ false = h in cc)

-- where no own Bind waits, a message is bad by the requests alone
module _ (p : ConnectionState) (own : p.own_bind ≡ None) (m : Message) where
  abbrev bad_by : Bool → Option OwnWait → Bool
  bad_by i o = if i then false else (if passes (λ id. id == m.id) (elim o [ None ↦ None | Some w ↦ Some w.id ]) then not (tag_of m.rest == 0x61) else is_bad_other (message_facts p) m)

  pub not_own : is_under_own p m.id ≡ false
  not_own = ap (passes (λ w. w.id == m.id)) own

  pub bad_is : (i : Bool) → is_ignored m ≡ i → is_bad (message_facts p) m ≡ (if i then false else is_bad_other (message_facts p) m)
  bad_is i e = ap (bad_by (is_ignored m)) own ∙ ap (λ b. bad_by b None) e

  pub good_other : is_bad (message_facts p) m ≡ false → is_ignored m ≡ false → is_bad_other (message_facts p) m ≡ false
  good_other h e = sym (bad_is false e) ∙ h

  pub bad_other : is_bad (message_facts p) m ≡ true → is_bad_other (message_facts p) m ≡ true
  bad_other h = by (is_ignored m) refl
    where
      by : (i : Bool) → is_ignored m ≡ i → is_bad_other (message_facts p) m ≡ true
      by true e = absurd (let no : false ≡ true = sym (bad_is true e) ∙ h in cc)
      by false e = sym (bad_is false e) ∙ h

-- What a good message makes: a success that is kept back makes Who Am I be asked, and nothing else makes more happen.
abbrev pub Answers : Settings → ConnectionState → Bool → Act → Type 0
Answers s p true a = a ≡ keep_back s p
Answers s p false a = a.whats ≡ []

-- The one row.
module _ (s : Settings) (p : ConnectionState) (m : Message) (r : UpRow) (bind : is_bind_row r ≡ true) (above : not (r.id == 0) ≡ true) where
  kind : r.kind ≡ Bind
  kind = bind_kind r.kind bind

  -- a message under its identifier isn't ignored
  pub not_ignored : is_under m.id r ≡ true → is_ignored m ≡ false
  not_ignored under = false_by (is_ignored m) (λ k. let id : r.id ≡ m.id = same_number r.id m.id (left (r.id == m.id) _ under) in let zero : m.id ≡ 0 = same_number m.id 0 (left (m.id == 0) _ k) in sym (not_true (r.id == 0) above) ∙ ap (λ n. n == 0) (id ∙ zero))

  -- a good answer to the Bind is final where it isn't intermediate
  good_final : is_bad_answer m (open_request r) ≡ false → is_intermediate m.rest ≡ false → is_final r.kind m.rest ≡ true
  good_final good e = fits_by (is_final r.kind m.rest) (is_intermediate m.rest) (is_search_result m.rest) (ap (λ k. is_final r.kind m.rest || is_intermediate m.rest || (same_kind k Search && is_search_result m.rest)) (sym kind) ∙ not_left (fits r.kind m.rest) _ good) e

  row_answers : is_bad_answer m (open_request r) ≡ false → Answers s p (is_final r.kind m.rest && (is_bind_row r && keeps_back r m.rest)) (row_answer s p m.rest r)
  row_answers good = by (is_intermediate m.rest) (is_final r.kind m.rest) (is_bind_row r) (has_code 14 m.rest) (keeps_back r m.rest) bind (λ e. ap (λ k. is_final k m.rest) kind ∙ final_apart m.rest e) (good_final good) (back_apart m.rest r)
    where
      row_act : Bool → Bool → Bool → Act
      row_act i c k = elim i [ true ↦ act [] (reply r.op m.rest false None) | false ↦ elim c [ true ↦ act [] (reply r.op m.rest true None) | false ↦ elim k [ true ↦ keep_back s p | false ↦ act [] (reply r.op m.rest true None ++ holder_ended p) ] ] ]

      by : (i g b c k : Bool) → b ≡ true → (i ≡ true → g ≡ false) → (i ≡ false → g ≡ true) → (c ≡ true → k ≡ false) → Answers s p (g && (b && k)) (row_act i c k)
      by i g false c k e f q a = absurd (let bad : false ≡ true = e in cc)
      by true true true c k e f q a = absurd (let bad : true ≡ false = f refl in cc)
      by true false true c k e f q a = refl
      by false false true c k e f q a = absurd (let bad : false ≡ true = q refl in cc)
      by false true true true true e f q a = absurd (let bad : true ≡ false = a refl in cc)
      by false true true true false e f q a = refl
      by false true true false true e f q a = refl
      by false true true false false e f q a = refl

  -- what a message makes happen, by whether it is under the row's identifier
  abbrev who_act : Bool → Act
  who_act w = elim (cond w (Some r) None) [ Some q ↦ who_answer p m.rest q | None ↦ nothing ]

  abbrev under_act : Bool → Act
  under_act a = elim (cond a (Some r) None) [ Some q ↦ row_answer s p m.rest q | None ↦ who_act (is_under_who m.id r) ]

  who_whats : (w : Bool) → (who_act w).whats ≡ []
  who_whats false = refl
  who_whats true = by (is_intermediate m.rest)
    where
      told_act : Bool → Act
      told_act i = elim i [ true ↦ nothing | false ↦ act [] (identity_letters r m.rest ++ holder_ended p) ]

      by : (i : Bool) → (told_act i).whats ≡ []
      by true = refl
      by false = refl

  pub one_answers : (a : Bool) → (a ≡ true → is_bad_answer m (open_request r) ≡ false) → Answers s p ((a && (is_final r.kind m.rest && (is_bind_row r && keeps_back r m.rest))) || false) (under_act a)
  one_answers true good = subst (λ b. Answers s p b (row_answer s p m.rest r)) (sym (or-false (is_final r.kind m.rest && (is_bind_row r && keeps_back r m.rest)))) (row_answers (good refl))
  one_answers false good = who_whats (is_under_who m.id r)

  -- a bad message is no success that is kept back
  pub bad_fails : is_bad_answer m (open_request r) ≡ true → (is_final r.kind m.rest && (is_bind_row r && keeps_back r m.rest)) ≡ false
  bad_fails h = false_by (is_final r.kind m.rest && (is_bind_row r && keeps_back r m.rest)) (λ k. none (is_final r.kind m.rest) (is_intermediate m.rest) (same_kind r.kind Search && is_search_result m.rest) (same_kind Bind r.kind && is_final Bind m.rest) (is_none (result_code m.rest)) (left (is_final r.kind m.rest) _ k) (code_there 0 (result_code m.rest) (right r.ask_who _ (right (is_bind_row r) _ (right (is_final r.kind m.rest) _ k)))) h)
    where
      and_false : (x : Bool) → (x && false) ≡ true → false ≡ true
      and_false true j = j
      and_false false j = j

      none : (g i c x n : Bool) → g ≡ true → n ≡ false → (not (g || i || c) || (x && n)) ≡ true → false ≡ true
      none false i c x n e f j = e
      none true i c x true e f j = sym f
      none true i c x false e f j = and_false x j

  -- behind a success that is kept back, the row waits for its Who Am I
  pub one_waits : (a : Bool) → is_under m.id r ≡ a → (at : ℕ) → (a && (is_final r.kind m.rest && (is_bind_row r && keeps_back r m.rest))) ≡ true → list_any is_who_awaited (behind_message at m r ++ []) ≡ true
  one_waits false e at k = absurd (let bad : false ≡ true = k in cc)
  one_waits true e at k = by (is_under m.id r) (is_final r.kind m.rest) (is_intermediate m.rest) (same_kind r.kind Search && is_search_result m.rest) (is_bind_row r) (keeps_back r m.rest) e k
    where
      behind : Bool → Bool → Bool → Bool → List UpRow
      behind f g b c = elim f [ false ↦ r ∷ [] | true ↦ elim g [ true ↦ elim b [ false ↦ [] | true ↦ elim c [ true ↦ record r { answered = at; kept = Some (record { rest = m.rest; who = None }) } ∷ [] | false ↦ elim (is_none (result_code m.rest)) [ true ↦ record r { answered = at } ∷ [] | false ↦ [] ] ] ] | false ↦ record r { answered = at } ∷ [] ] ]

      by : (a g i x b c : Bool) → a ≡ true → (g && (b && c)) ≡ true → list_any is_who_awaited ((elim a [ true ↦ behind (g || i || x) g b c | false ↦ elim (is_under_who m.id r) [ true ↦ behind_who at m.rest r | false ↦ r ∷ [] ] ]) ++ []) ≡ true
      by false g i x b c d j = absurd (let bad : false ≡ true = d in cc)
      by true false i x b c d j = absurd (let bad : false ≡ true = j in cc)
      by true true i x false c d j = absurd (let bad : false ≡ true = j in cc)
      by true true i x true false d j = absurd (let bad : false ≡ true = j in cc)
      by true true i x true true d j = refl

-- What a message meets.
module _ (s : Settings) (p : ConnectionState) (own : p.own_bind ≡ None) (lone : is_lone p.rows ≡ true) (m : Message) where
  -- what it is to the one row
  abbrev bad_for : List UpRow → Bool
  bad_for rows = is_bad_for (message_facts p) m (find (bad.is_under m.id) (map open_request rows))

  one_good : (r : UpRow) → p.rows ≡ r ∷ [] → is_bind_row r ≡ true → not (r.id == 0) ≡ true → is_bad (message_facts p) m ≡ false → is_under m.id r ≡ true → is_bad_answer m (open_request r) ≡ false
  one_good r e b above good under = sym (ap (λ c. is_bad_for (message_facts p) m (cond c (Some (open_request r)) None)) under) ∙ sym (ap bad_for e) ∙ good_other p own m good (not_ignored s p m r b above under)

  pub one_bad : (r : UpRow) → p.rows ≡ r ∷ [] → is_bad (message_facts p) m ≡ true → is_under m.id r ≡ true → is_bad_answer m (open_request r) ≡ true
  one_bad r e h under = sym (ap (λ c. is_bad_for (message_facts p) m (cond c (Some (open_request r)) None)) under) ∙ sym (ap bad_for e) ∙ bad_other p own m h

  abbrev answered_by : List UpRow → Act
  answered_by rows = elim (find (is_under m.id) rows) [ Some r ↦ row_answer s p m.rest r | None ↦ elim (find (is_under_who m.id) rows) [ Some r ↦ who_answer p m.rest r | None ↦ nothing ] ]

  -- a message that isn't bad: Who Am I is asked exactly where it is a success that is kept back
  pub answers : is_bad (message_facts p) m ≡ false → Answers s p (list_any (succeeds m) p.rows) (answered s p m)
  answers good = by p.rows refl lone
    where
      by : (rows : List UpRow) → p.rows ≡ rows → is_lone rows ≡ true → Answers s p (list_any (succeeds m) rows) (answered_by rows)
      by [] e h = refl
      by (r ∷ []) e h = one_answers s p m r (left (is_bind_row r) _ h) (right (is_bind_row r) _ h) (is_under m.id r) (λ under. one_good r e (left (is_bind_row r) _ h) (right (is_bind_row r) _ h) good under)
      by (r ∷ q ∷ rows) e h = absurd (let bad : false ≡ true = h in cc)

  -- a bad message is no such success
  pub bad_is_none : is_bad (message_facts p) m ≡ true → list_any (succeeds m) p.rows ≡ false
  bad_is_none bad = by p.rows refl lone
    where
      by : (rows : List UpRow) → p.rows ≡ rows → is_lone rows ≡ true → list_any (succeeds m) rows ≡ false
      by [] e h = refl
      by (r ∷ []) e h = under (is_under m.id r) refl
        where
          under : (a : Bool) → is_under m.id r ≡ a → (a && (is_final r.kind m.rest && (is_bind_row r && keeps_back r m.rest)) || false) ≡ false
          under true j = ap (λ b. b || false) (bad_fails s p m r (left (is_bind_row r) _ h) (right (is_bind_row r) _ h) (one_bad r e bad j))
          under false j = refl
      by (r ∷ q ∷ rows) e h = absurd (let no : false ≡ true = h in cc)

  -- behind such a success the row waits for its Who Am I
  pub success_waits : (at : ℕ) → list_any (succeeds m) p.rows ≡ true → list_any is_who_awaited (flat_map (behind_message at m) p.rows) ≡ true
  success_waits at k = by p.rows lone k
    where
      by : (rows : List UpRow) → is_lone rows ≡ true → list_any (succeeds m) rows ≡ true → list_any is_who_awaited (flat_map (behind_message at m) rows) ≡ true
      by [] h j = absurd (let bad : false ≡ true = j in cc)
      by (r ∷ []) h j = one_waits s p m r (left (is_bind_row r) _ h) (right (is_bind_row r) _ h) (is_under m.id r) refl at (sym (or-false (succeeds m r)) ∙ j)
      by (r ∷ q ∷ rows) h j = absurd (let bad : false ≡ true = h in cc)

  -- a final answer to the Bind without a readable code is bad
  pub uncoded_bad : (r : UpRow) → p.rows ≡ r ∷ [] → is_bind_row r ≡ true → not (r.id == 0) ≡ true → is_under m.id r ≡ true → is_final Bind m.rest ≡ true → is_none (result_code m.rest) ≡ true → is_bad (message_facts p) m ≡ true
  uncoded_bad r e b above under final code = bad_is p own m false (not_ignored s p m r b above under) ∙ ap bad_for e ∙ ap (λ c. is_bad_for (message_facts p) m (cond c (Some (open_request r)) None)) under ∙ or_right (not (fits r.kind m.rest)) _ (both (is_bind_row r && is_final Bind m.rest) _ (both (is_bind_row r) _ b final) code)
