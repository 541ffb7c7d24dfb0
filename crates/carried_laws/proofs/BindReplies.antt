-- What a bind connection gives at a message: an answer tells the identity that the answer to Who Am I told, which settles the
-- Bind.
use Rattle.std.proofs.Common.{◌≡◌, ℕ, Bool, true, false, ◌==◌, ◌&&◌, ◌||◌, not, List, [], ◌∷◌, ◌++◌, refl, ap, ◌∙◌, sym, subst}
use Rattle.std.specs.Prelude.{Option, Some, None, find, map, cond, if◌then◌else◌}
use Rattle.std.specs.List.{list_any, list_all}
use Rattle.std.specs.Option.{option_or}
use Rattle.std.proofs.lemmas.List.{append-nil, map-append}
use Rattle.std.proofs.lemmas.List.Folds.{list_all-append}
use Rattle.ldap_spec.specs.Bodies.{who_am_i}
use Rattle.ldap_spec.specs.Kinds.{is_final, is_intermediate, tag_of}
use Rattle.ldap_spec.specs.Messages.{Message}
use Rattle.ldap_spec.specs.Responses.{has_code, tells_who, who_value}
use Rattle.ldap_spec.specs.Tags.{bind_in_progress, extended_response, success}
use Rattle.lload_names.specs.Same.{same_who}
use Rattle.lload_names.specs.declared.names.ConnKind.{ConnKind}
use Rattle.lload_names.specs.declared.names.ConnKind.TheVariants.{Regular, Bind as BindKind}
use Rattle.lload_names.specs.declared.names.EndWhy.TheVariants.{Bad}
use Rattle.lload_names.specs.declared.names.Entry.{Entry}
use Rattle.lload_names.specs.declared.names.Letter.TheVariants.{Reply}
use Rattle.lload_names.specs.declared.names.OpKind.TheVariants.{Bind}
use Rattle.lload_names.specs.declared.names.OpName.{OpName}
use Rattle.lload_names.specs.declared.names.PartName.{PartName}
use Rattle.lload_names.specs.declared.names.Posted.{Posted}
use Rattle.lload_names.specs.declared.names.Refusal.TheVariants.{C9}
use Rattle.lload_names.specs.declared.names.What.TheVariants as what
use Rattle.lload_spec.specs.Answers.{Sending, sendings, asks_who, closing_at, closing_by, final_answer, is_kept_back, who_answer, extended_under}
use Rattle.lload_spec.specs.BadMessages.{is_bad, is_bad_who, is_bad_for, is_bad_beside, is_bad_other, is_bad_own, is_ignored, MessageFacts, OpenRequest}
use Rattle.lload_spec.specs.BadMessages as bad
use Rattle.lload_spec.specs.Journal.{Family, same_op}
use Rattle.lload_spec.specs.Lists.{implies, passes}
use Rattle.lload_spec.specs.Operations.{operation, is_final_for, is_of}
use Rattle.lload_spec.specs.Settings.{Settings}
use Rattle.lload_spec.proofs.Growth.{both}
use Rattle.lload_laws.specs.ConnectionGrowth.{later_sending}
use Rattle.lload_laws.proofs.ConnectionGrowth.{sendings_grow}
use Rattle.lload_laws.proofs.ListLaws.{bytes_same, found_passes}
use Rattle.part_laws.proofs.ListLaws.{any_behind, eqb_sym, or_left, same_number, same_op_refl}
use Rattle.part_spec.specs.BindTurn.{answered, keep_back, kept_rest, row_answer, who_answer as who_act}
use Rattle.part_spec.specs.ConnectionState.{ConnectionState, Kept, UpRow, is_under, is_under_who, keeps_back, message_facts, open_request}
use Rattle.part_spec.specs.ConnectionTurn.{ended, goes_down, holder_ended, retires}
use Rattle.part_spec.specs.Gives.{got_letters}
use Rattle.part_spec.specs.Inputs.{act, failed, letters_alone, nothing, reply}
use Rattle.part_spec.specs.RegularTurn.{answered as regular_answered}
use Rattle.connection_laws.proofs.Closings.{final_more, who_more, extended_push}
use Rattle.bind_laws.proofs.Meets.{code_apart}
use Rattle.bind_laws.proofs.Sents.{IsAnswered, IsAsked, IsKept, IsLive}
use Rattle.bind_laws.proofs.Tells.{RowsAre}
use Rattle.carried_laws.specs.Laws.{is_reply_right, is_settled_so, tells_rightly}

abbrev pub are_replies_right : Settings → Family → List Sending → List Posted → Bool
are_replies_right s F sents xs = list_all (λ x. is_reply_right s F sents x.letter) xs

pub same_who_same : (who : Option (List ℕ)) → same_who who who ≡ true
same_who_same None = refl
same_who_same (Some x) = bytes_same x

-- the one row, and its Sent
record OneLive (s : Settings) (F : Family) (n : ℕ) (rows : List UpRow) (live : List Sending) (r : UpRow) : Type 0 where
  sent : Sending
  alone : live ≡ sent ∷ []
  only : rows ≡ r ∷ []
  is_live : IsLive s F n r sent []

one_live : (s : Settings) (F : Family) (n : ℕ) (rows : List UpRow) (live : List Sending) → RowsAre s F n rows live [] → (t : UpRow → Bool) (r : UpRow) → find t rows ≡ Some r → OneLive s F n rows live r
one_live s F n [] live h t r e = absurd (let bad : None ≡ Some r = e in cc)
one_live s F n (q ∷ []) [] h t r e = absurd h
one_live s F n (q ∷ []) (x ∷ []) h t r e = by (t q) e
  where
    by : (b : Bool) → cond b (Some q) None ≡ Some r → OneLive s F n (q ∷ []) (x ∷ []) r
    by true k = let same : q ≡ r = cc in record { sent = x; alone = refl; only = ap (λ y. y ∷ []) same; is_live = subst (λ (y : UpRow). IsLive s F n y x []) same h }
    by false k = absurd (let bad : None ≡ Some r = k in cc)
one_live s F n (q ∷ []) (x ∷ y ∷ xs) h t r e = absurd h
one_live s F n (q ∷ y ∷ rows) live h t r e = absurd h

module _ (s : Settings) (F : Family) (u : ℕ) (place : List Entry) (p : ConnectionState) (part : PartName) (at : ℕ) (m : Message) where
  abbrev got : Entry
  got = record { part = part; at = at; what = what.Got m.id m.rest }

  abbrev sents : List Sending
  sents = sendings u (place ++ record { part = part; at = at; what = what.Got m.id m.rest } ∷ [])

  abbrev Right : List Posted → Type 0
  Right xs = are_replies_right s F (sendings u (place ++ record { part = part; at = at; what = what.Got m.id m.rest } ∷ [])) xs ≡ true

  both_right : (xs ys : List Posted) → Right xs → Right ys → Right (xs ++ ys)
  both_right xs ys h k = list_all-append (λ (x : Posted). is_reply_right s F sents x.letter) xs ys ∙ both (are_replies_right s F sents xs) _ h k

  holder_right : Right (holder_ended p)
  holder_right = by p.holder
    where
      by : (o : Option OpName) → Right (elim o [ None ↦ [] | Some x ↦ ended p x None ])
      by None = refl
      by (Some x) = refl

  -- the live Bind of a row
  module _ (n : ℕ) (r : UpRow) (x : Sending) (h : IsLive s F n r x []) where
    there : operation F r.op ≡ Some h.o
    there = ap (operation F) (sym h.op) ∙ h.found

    -- an answer without an identity, to a Bind of which it isn't asked for, or that isn't such a success
    plain_reply : (rest : List ℕ) (is_last : Bool) → (asks_who s h.o && (is_final Bind rest && has_code success rest)) ≡ false → Right (reply r.op rest is_last None)
    plain_reply rest is_last k = both (is_reply_right s F sents (Reply r.op rest is_last None)) true (ap (passes (tells_rightly s r.op rest None sents)) there ∙ ap (λ b. implies b (list_any (is_settled_so s r.op None h.o) sents)) (ap (λ kind. asks_who s h.o && (passes (λ y. is_final y rest) kind && has_code success rest)) h.kind ∙ k)) refl

    none_and : (a b c : Bool) → (a && (b && c)) ≡ (b && (a && c))
    none_and true b c = refl
    none_and false true c = refl
    none_and false false c = refl

    intermediate : is_intermediate m.rest ≡ true → (asks_who s h.o && (is_final Bind m.rest && has_code success m.rest)) ≡ false
    intermediate e = none_and (asks_who s h.o) (is_final Bind m.rest) (has_code success m.rest) ∙ ap (λ b. b && (asks_who s h.o && has_code success m.rest)) (ap (λ t. t == 0x61) (same_number (tag_of m.rest) 0x79 e))

    in_progress : has_code bind_in_progress m.rest ≡ true → (asks_who s h.o && (is_final Bind m.rest && has_code success m.rest)) ≡ false
    in_progress e = ap (λ b. asks_who s h.o && (is_final Bind m.rest && b)) (code_apart m.rest e) ∙ never (asks_who s h.o) (is_final Bind m.rest)
      where
        never : (a b : Bool) → (a && (b && false)) ≡ false
        never true true = refl
        never true false = refl
        never false b = refl

    not_kept : keeps_back r m.rest ≡ false → (asks_who s h.o && (is_final Bind m.rest && has_code success m.rest)) ≡ false
    not_kept e = none_and (asks_who s h.o) (is_final Bind m.rest) (has_code success m.rest) ∙ ap (λ a. is_final Bind m.rest && (a && has_code success m.rest)) h.asks ∙ ap (λ b. is_final Bind m.rest && b) e ∙ never (is_final Bind m.rest)
      where
        never : (b : Bool) → (b && false) ≡ false
        never true = refl
        never false = refl

    keep_right : Right (letters_alone (keep_back s p))
    keep_right = by (p.ids.next == s.id_limit)
      where
        by : (b : Bool) → Right (letters_alone (act (elim b [ true ↦ what.Own p.ids.next who_am_i ∷ what.Retired ∷ [] | false ↦ what.Own p.ids.next who_am_i ∷ [] ]) (retires s p p.ids.next)))
        by true = refl
        by false = refl

    row_right : Right (letters_alone (row_answer s p m.rest r))
    row_right = by (is_intermediate m.rest) (has_code bind_in_progress m.rest) (keeps_back r m.rest) refl refl refl
      where
        by : (a b k : Bool) → is_intermediate m.rest ≡ a → has_code bind_in_progress m.rest ≡ b → keeps_back r m.rest ≡ k → Right (letters_alone (elim a [ true ↦ act [] (reply r.op m.rest false None) | false ↦ elim b [ true ↦ act [] (reply r.op m.rest true None) | false ↦ elim k [ true ↦ keep_back s p | false ↦ act [] (reply r.op m.rest true None ++ holder_ended p) ] ] ]))
        by true b k e f g = plain_reply m.rest false (intermediate e)
        by false true k e f g = plain_reply m.rest true (in_progress f)
        by false false true e f g = keep_right
        by false false false e f g = both_right (reply r.op m.rest true None) (holder_ended p) (plain_reply m.rest true (not_kept g)) holder_right

    -- what an answer to Who Am I settles
    module _ (kept : Kept) (w : ℕ) (k : r.kept ≡ Some kept) (asked : kept.who ≡ Some w) (under : (w == m.id) ≡ true) (tag : (tag_of m.rest == extended_response) ≡ true) where
      known : IsKept s h.o x kept []
      known = subst (λ o. IsAnswered s h.o x o []) k h.answer

      waits : IsAsked (Some w) known.es []
      waits = subst (λ o. IsAsked o known.es []) asked known.asked

      final : final_answer h.o (later_sending got x) ≡ Some (record { rest = kept.rest; behind = known.es ++ got ∷ [] })
      final = final_more h.o.request x.id x.behind got (record { rest = kept.rest; behind = known.es }) known.final

      heard : who_answer (known.es ++ got ∷ []) ≡ Some m.rest
      heard = ap (λ q. elim q [ None ↦ None | Some i ↦ extended_under i (known.es ++ got ∷ []) ]) (who_more known.es got w waits.0) ∙ extended_push w known.es got ∙ ap (λ q. option_or q (extended_under w (got ∷ []))) waits.1 ∙ ap (λ c. option_or (if c && tag_of m.rest == extended_response then Some m.rest else None) None) (eqb_sym m.id w ∙ under) ∙ ap (λ c. option_or (if c then Some m.rest else None) None) tag

      pub closes : closing_at s h.o (later_sending got x) ≡ Some m.rest
      closes = ap (λ q. elim q [ None ↦ None | Some f ↦ closing_by s h.o f ]) final ∙ ap (λ b. if is_of Bind h.o && b then None else if is_kept_back (asks_who s h.o) kept.rest then who_answer (known.es ++ got ∷ []) else Some kept.rest) known.code ∙ ap (λ b. if b then None else if is_kept_back (asks_who s h.o) kept.rest then who_answer (known.es ++ got ∷ []) else Some kept.rest) (never (is_of Bind h.o)) ∙ ap (λ b. if b then who_answer (known.es ++ got ∷ []) else Some kept.rest) known.back ∙ heard
        where
          never : (b : Bool) → (b && false) ≡ false
          never true = refl
          never false = refl

    -- the letters of an answer to Who Am I
    module _ (done : List Sending) (split : sendings u place ≡ done ++ x ∷ []) (under : is_under_who m.id r ≡ true) (not_bad : (is_ignored m || not (is_bad_who m)) ≡ true) where
      sents_are : sendings u (place ++ got ∷ []) ≡ map (later_sending got) done ++ later_sending got x ∷ []
      sents_are = sendings_grow u place got ∙ append-nil (map (later_sending got) (sendings u place)) ∙ ap (map (later_sending got)) split ∙ map-append (later_sending got) done (x ∷ [])

      extended : is_intermediate m.rest ≡ false → (tag_of m.rest == extended_response) ≡ true
      extended e = by (m.id == 0) (tag_of m.rest == extended_response) (sym (ap (λ b. (m.id == 0 && tag_of m.rest == extended_response) || not (not (b || tag_of m.rest == extended_response))) e) ∙ not_bad)
        where
          by : (z t : Bool) → ((z && t) || not (not (false || t))) ≡ true → t ≡ true
          by z true h = refl
          by true false h = absurd (let bad : false ≡ true = h in cc)
          by false false h = absurd (let bad : false ≡ true = h in cc)

      told_right : (kept : Kept) (w : ℕ) → r.kept ≡ Some kept → kept.who ≡ Some w → (w == m.id) ≡ true → is_intermediate m.rest ≡ false → Right (reply r.op (kept_rest r) true (who_value m.rest))
      told_right kept w k asked same e = both (is_reply_right s F sents (Reply r.op (kept_rest r) true (who_value m.rest))) true (ap (passes (tells_rightly s r.op (kept_rest r) (who_value m.rest) sents)) there ∙ implied_by (asks_who s h.o && (is_final_for h.o.request (kept_rest r) && has_code success (kept_rest r))) settled) refl
        where
          implied_by : (b : Bool) → list_any (is_settled_so s r.op (who_value m.rest) h.o) sents ≡ true → implies b (list_any (is_settled_so s r.op (who_value m.rest) h.o) sents) ≡ true
          implied_by true j = j
          implied_by false j = refl

          settled : list_any (is_settled_so s r.op (who_value m.rest) h.o) sents ≡ true
          settled = ap (list_any (is_settled_so s r.op (who_value m.rest) h.o)) sents_are ∙ any_behind (is_settled_so s r.op (who_value m.rest) h.o) (map (later_sending got) done) (later_sending got x ∷ []) (or_left (is_settled_so s r.op (who_value m.rest) h.o (later_sending got x)) false (both (same_op r.op x.op) _ (ap (same_op r.op) h.op ∙ same_op_refl r.op) (ap (passes (λ answer. same_who (who_value m.rest) (who_value answer))) (closes kept w k asked same (extended e)) ∙ same_who_same (who_value m.rest))))

      who_right : Right (letters_alone (who_act p m.rest r))
      who_right = by (is_intermediate m.rest) (tells_who m.rest) refl (waiting r.kept refl under)
        where
          waiting : (o : Option Kept) → r.kept ≡ o → passes (λ w. w == m.id) (elim o [ None ↦ None | Some k ↦ k.who ]) ≡ true → (kept : Kept) × (w : ℕ) × (r.kept ≡ Some kept) × (kept.who ≡ Some w) × ((w == m.id) ≡ true)
          waiting None e j = absurd (let bad : false ≡ true = j in cc)
          waiting (Some k) e j = asked k.who refl j
            where
              asked : (o : Option ℕ) → k.who ≡ o → passes (λ w. w == m.id) o ≡ true → (kept : Kept) × (w : ℕ) × (r.kept ≡ Some kept) × (kept.who ≡ Some w) × ((w == m.id) ≡ true)
              asked None f i = absurd (let bad : false ≡ true = i in cc)
              asked (Some w) f i = (k, w, e, f, i)

          by : (a b : Bool) → is_intermediate m.rest ≡ a → (kept : Kept) × (w : ℕ) × (r.kept ≡ Some kept) × (kept.who ≡ Some w) × ((w == m.id) ≡ true) → Right (letters_alone (elim a [ true ↦ nothing | false ↦ act [] ((elim b [ true ↦ reply r.op (kept_rest r) true (who_value m.rest) | false ↦ failed r.op C9 ]) ++ holder_ended p) ]))
          by true b e it = refl
          by false true e it = both_right (reply r.op (kept_rest r) true (who_value m.rest)) (holder_ended p) (told_right it.0 it.1 it.2 it.3 it.4 e) holder_right
          by false false e it = holder_right

  -- A message.
  module _ (kind : p.kind ≡ BindKind) (own : p.own_bind ≡ None) (n : ℕ) (done live : List Sending) (split : sendings u place ≡ done ++ live) (are : RowsAre s F n p.rows live []) where
    abbrev facts_by : List UpRow → MessageFacts
    facts_by rows = record (message_facts p) { requests = map open_request rows }

    -- what is known of a message under the identifier of a Who Am I that isn't bad
    not_bad_who : (r : UpRow) → p.rows ≡ r ∷ [] → find (is_under m.id) p.rows ≡ None → is_under_who m.id r ≡ true → is_bad (message_facts p) m ≡ false → (is_ignored m || not (is_bad_who m)) ≡ true
    not_bad_who r only none under good = by (is_ignored m) (is_bad_who m) (sym bad_is ∙ good)
      where
        other : is_under m.id r ≡ false
        other = at_one (is_under m.id r) (sym (ap (find (is_under m.id)) only) ∙ none)
          where
            at_one : (b : Bool) → cond b (Some r) None ≡ None → b ≡ false
            at_one true e = absurd (let bad : Some r ≡ None = e in cc)
            at_one false e = refl

        bad_is : is_bad (message_facts p) m ≡ (if is_ignored m then false else is_bad_who m)
        bad_is = ap (λ o. if is_ignored m then false else if passes (λ i. i == m.id) (elim o [ None ↦ None | Some x ↦ Some x.id ]) then is_bad_own m else is_bad_other (message_facts p) m) own ∙ ap (λ rows. if is_ignored m then false else is_bad_other (facts_by rows) m) only ∙ ap (λ b. if is_ignored m then false else is_bad_for (facts_by (r ∷ [])) m (cond b (Some (open_request r)) None)) other ∙ ap (λ b. if is_ignored m then false else if b || false then is_bad_who m else bad.is_bad_stray (facts_by (r ∷ [])) m) under

        by : (a b : Bool) → (if a then false else b) ≡ false → (a || not b) ≡ true
        by true b e = refl
        by false true e = absurd (let bad : true ≡ false = e in cc)
        by false false e = refl

    answered_right : is_bad (message_facts p) m ≡ false → Right (letters_alone (answered s p m))
    answered_right good = by (find (is_under m.id) p.rows) (find (is_under_who m.id) p.rows) refl refl
      where
        by : (a b : Option UpRow) → find (is_under m.id) p.rows ≡ a → find (is_under_who m.id) p.rows ≡ b → Right (letters_alone (elim a [ Some r ↦ row_answer s p m.rest r | None ↦ elim b [ Some r ↦ who_act p m.rest r | None ↦ nothing ] ]))
        by (Some r) b e f = let one : OneLive s F n p.rows live r = one_live s F n p.rows live are (is_under m.id) r e in row_right n r one.sent one.is_live
        by None (Some r) e f =
            let one : OneLive s F n p.rows live r = one_live s F n p.rows live are (is_under_who m.id) r f in
            let under : is_under_who m.id r ≡ true = found_passes (is_under_who m.id) p.rows r f in
            who_right n r one.sent one.is_live done (split ∙ ap (λ xs. done ++ xs) one.alone) under (not_bad_who r one.only e under good)
        by None None e f = refl

    pub got_right : are_replies_right s F (sendings u (place ++ record { part = part; at = at; what = what.Got m.id m.rest } ∷ [])) (got_letters s p at m) ≡ true
    got_right = by (is_bad (message_facts p) m) refl
      where
        text : Bool → ConnKind → List Posted
        text b k = letters_alone (elim b [ true ↦ goes_down p Bad | false ↦ elim k [ Regular ↦ regular_answered p at m | BindKind ↦ answered s p m ] ])

        by : (b : Bool) → is_bad (message_facts p) m ≡ b → Right (text b p.kind)
        by true e = refl
        by false e = subst (λ k. Right (text false k)) (sym kind) (answered_right e)
