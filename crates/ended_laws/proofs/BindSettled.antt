-- A message by which the holder of a bind connection lets go settles the last Bind there, and not with saslBindInProgress.
use Rattle.std.proofs.Common.{◌≡◌, ◌⊎◌, inl, inr, ℕ, Bool, true, false, ◌==◌, ◌&&◌, ◌||◌, not, List, [], ◌∷◌, ◌++◌, refl, ap, ◌∙◌, sym, subst}
use Rattle.std.specs.Prelude.{Option, Some, None, cond, find, is_none, is_some, map, option_map, if◌then◌else◌}
use Rattle.std.specs.List.{list_any}
use Rattle.ldap_spec.specs.Kinds.{is_final, is_intermediate, is_search_result, same_kind, tag_of}
use Rattle.ldap_spec.specs.Messages.{Message}
use Rattle.ldap_spec.specs.Responses.{has_code, result_code}
use Rattle.lload_names.specs.declared.names.Entry.{Entry}
use Rattle.lload_names.specs.declared.names.OpKind.TheVariants.{Bind, Search}
use Rattle.lload_names.specs.declared.names.OpName.{OpName}
use Rattle.lload_names.specs.declared.names.PartName.{PartName}
use Rattle.lload_names.specs.declared.names.What.TheVariants as what
use Rattle.lload_spec.specs.Answers.{Sending, sendings}
use Rattle.lload_spec.specs.BadMessages.{is_bad, is_bad_answer, is_bad_for, is_bad_stray, is_bad_who, is_ignored}
use Rattle.lload_spec.specs.BadMessages as bad
use Rattle.lload_spec.specs.Journal.{Family}
use Rattle.lload_spec.specs.Lists.{last}
use Rattle.lload_spec.specs.Settings.{Settings}
use Rattle.lload_spec.proofs.Growth.{left, right, both}
use Rattle.lload_laws.specs.ConnectionGrowth.{later_sending}
use Rattle.part_laws.proofs.ListLaws.{last_push, or_left, or_right}
use Rattle.part_spec.specs.ConnectionState.{ConnectionState, UpRow, frees_holder, is_bind_row, is_under, is_under_own, is_under_who, keeps_back, lets_go, message_facts, open_request, step_connection}
use Rattle.bind_laws.proofs.Lone.{is_lone}
use Rattle.bind_laws.proofs.Meets.{bind_kind, good_other, not_ignored, not_own, uncoded_bad}
use Rattle.bind_laws.proofs.Sents.{IsLive}
use Rattle.bind_laws.proofs.Tells.{RowsAre, SentsAre}
use Rattle.caused_laws.proofs.Holders.{HeldBy, Holds, Inv, IsOver, LastHolds, inv_got}
use Rattle.upstream_laws.proofs.Answered.{last_stays}
use Rattle.upstream_laws.proofs.BindDowns.{lets_gone}
use Rattle.upstream_laws.proofs.Held.{gone_closed}
use Rattle.ended_laws.proofs.BindLetters.{Answers, Identifies}
use Rattle.ended_laws.proofs.BindOver.{OverSent}

-- an answer that fits a Bind and isn't intermediate is final
final_by : (g i c x : Bool) → (not (g || i || (false && c)) || x) ≡ false → i ≡ false → g ≡ true
final_by true i c x h e = refl
final_by false true c x h e = absurd (let no : true ≡ false = e in cc)
final_by false false c x h e = absurd (let no : true ≡ false = h in cc)

told_by : (i x : Bool) → not (i || x) ≡ false → i ≡ false → x ≡ true
told_by true x h e = absurd (let no : true ≡ false = e in cc)
told_by false true h e = refl
told_by false false h e = absurd (let no : true ≡ false = h in cc)

-- where there is one row, it is found
pub record Found (t : UpRow → Bool) (r row : UpRow) : Type 0 where
  pub passes : t r ≡ true
  pub same : r ≡ row

one_found : (t : UpRow → Bool) (r row : UpRow) → find t (r ∷ []) ≡ Some row → Found t r row
one_found t r row h = by (t r) refl h
  where
    by : (b : Bool) → t r ≡ b → cond b (Some r) None ≡ Some row → Found t r row
    by true e k = record { passes = e; same = (let same : r ≡ row = cc in same) }
    by false e k = absurd (let no : None ≡ Some row = k in cc)

none_found : (t : UpRow → Bool) (r : UpRow) → find t (r ∷ []) ≡ None → t r ≡ false
none_found t r h = by (t r) refl h
  where
    by : (b : Bool) → t r ≡ b → cond b (Some r) None ≡ None → t r ≡ false
    by true e k = absurd (let no : Some r ≡ None = k in cc)
    by false e k = e

module _ (s : Settings) (p : ConnectionState) (own : p.own_bind ≡ None) (lone : is_lone p.rows ≡ true) (m : Message) (good : is_bad (message_facts p) m ≡ false) (r : UpRow) (one : p.rows ≡ r ∷ []) (bind : is_bind_row r ≡ true) (above : not (r.id == 0) ≡ true) where
  -- what it is to the one row
  good_for : is_ignored m ≡ false → is_bad_for (message_facts p) m (cond (is_under m.id r) (Some (open_request r)) None) ≡ false
  good_for k = sym (ap (λ rows. is_bad_for (message_facts p) m (find (bad.is_under m.id) (map open_request rows))) one) ∙ good_other p own m good k

  -- a final answer to the Bind
  lets_answer : is_under m.id r ≡ true → is_intermediate m.rest ≡ false → has_code 14 m.rest ≡ false → keeps_back r m.rest ≡ false → lets_go m r ≡ true
  lets_answer under whole over kept = both (is_bind_row r) _ bind (or_left (is_under m.id r && (is_final Bind m.rest && is_some (result_code m.rest) && not (has_code 14 m.rest) && not (keeps_back r m.rest))) _ (both (is_under m.id r) _ under (both (is_final Bind m.rest && is_some (result_code m.rest) && not (has_code 14 m.rest)) _ (both (is_final Bind m.rest && is_some (result_code m.rest)) _ (both (is_final Bind m.rest) _ final (coded (result_code m.rest) refl)) (ap not over)) (ap not kept))))
    where
      fitting : is_bad_answer m (open_request r) ≡ false
      fitting = sym (ap (λ c. is_bad_for (message_facts p) m (cond c (Some (open_request r)) None)) under) ∙ good_for (not_ignored s p m r bind above under)

      final : is_final Bind m.rest ≡ true
      final = final_by (is_final Bind m.rest) (is_intermediate m.rest) (is_search_result m.rest) (same_kind Bind r.kind && is_final Bind m.rest && is_none (result_code m.rest)) (ap (λ k. not (is_final k m.rest || is_intermediate m.rest || (same_kind k Search && is_search_result m.rest)) || (same_kind Bind r.kind && is_final Bind m.rest && is_none (result_code m.rest))) (sym (bind_kind r.kind bind)) ∙ fitting) whole

      coded : (o : Option ℕ) → result_code m.rest ≡ o → is_some (result_code m.rest) ≡ true
      coded None e = absurd (let no : true ≡ false = sym (uncoded_bad s p own lone m r one bind above under final (ap is_none e)) ∙ good in cc)
      coded (Some c) e = ap is_some e

  -- an answer to Who Am I
  lets_told : is_under m.id r ≡ false → is_under_who m.id r ≡ true → is_intermediate m.rest ≡ false → lets_go m r ≡ true
  lets_told apart under whole = both (is_bind_row r) _ bind (or_right (is_under m.id r && (is_final Bind m.rest && is_some (result_code m.rest) && not (has_code 14 m.rest) && not (keeps_back r m.rest))) _ (both (is_under_who m.id r) _ under (by (is_ignored m) refl)))
    where
      asked : list_any (bad.is_under_who m.id) (map open_request p.rows) ≡ true
      asked = ap (λ rows. list_any (bad.is_under_who m.id) (map open_request rows)) one ∙ or_left (is_under_who m.id r) false under

      by : (b : Bool) → is_ignored m ≡ b → (tag_of m.rest == 0x78) ≡ true
      by true e = right (m.id == 0) _ e
      by false e = told_by (is_intermediate m.rest) (tag_of m.rest == 0x78) (sym (ap (λ c. is_bad_for (message_facts p) m (cond c (Some (open_request r)) None)) apart ∙ ap (λ c. if c then is_bad_who m else is_bad_stray (message_facts p) m) asked) ∙ good_for e) whole

-- so the one row lets go
pub lets_so : (s : Settings) (p : ConnectionState) → p.own_bind ≡ None → (m : Message) → is_bad (message_facts p) m ≡ false → (r : UpRow) → p.rows ≡ r ∷ [] → is_lone (r ∷ []) ≡ true → Answers p m ⊎ Identifies p m → lets_go m r ≡ true
lets_so s p own m good r one lone (inl a) =
    let it : Found (is_under m.id) r a.row = one_found (is_under m.id) r a.row (sym (ap (find (is_under m.id)) one) ∙ a.under) in
    lets_answer s p own (ap is_lone one ∙ lone) m good r one (left (is_bind_row r) _ lone) (right (is_bind_row r) _ lone) it.passes a.last a.over (ap (λ q. keeps_back q m.rest) it.same ∙ a.kept)
lets_so s p own m good r one lone (inr a) =
    let it : Found (is_under_who m.id) r a.row = one_found (is_under_who m.id) r a.row (sym (ap (find (is_under_who m.id)) one) ∙ a.under) in
    lets_told s p own (ap is_lone one ∙ lone) m good r one (left (is_bind_row r) _ lone) (right (is_bind_row r) _ lone) (none_found (is_under m.id) r (sym (ap (find (is_under m.id)) one) ∙ a.apart)) it.passes a.last

-- The last Bind is settled.
module _ (s : Settings) (F : Family) (u : ℕ) (place : List Entry) (p : ConnectionState) (own : p.own_bind ≡ None) (lone : is_lone p.rows ≡ true) (known : SentsAre s F u place p.ids.next p.rows []) (part : PartName) (at id : ℕ) (rest : List ℕ) where
  abbrev got : Entry
  got = record { part = part; at = at; what = what.Got id rest }

  abbrev m : Message
  m = record { id = id; rest = rest }

  -- the same connection, held by the last Sent's operation
  abbrev held : OpName → ConnectionState
  held op = record p { holder = Some op; retired = false; down = false }

  over : (r : UpRow) (x : Sending) → last (sendings u place) ≡ Some x → frees_holder p m ≡ true → (a : IsLive s F p.ids.next r x []) → IsOver a.o (later_sending got x)
  over r x end frees a = now (inv_got s F u place (held x.op) part at None m own p.ids.next known.done known.live known.split known.are (inr (subst (Holds F (Some x.op)) (sym end) (record { o = a.o; found = a.found; either = inl (record { by = x.op; holds = refl; client = refl }) }))))
    where
      ends : LastHolds F None (later_sending got x) → IsOver a.o (later_sending got x)
      ends h = by h.either
        where
          same : h.o ≡ a.o
          same = let found : Some h.o ≡ Some a.o = sym h.found ∙ a.found in cc

          by : HeldBy None x.op.client ⊎ IsOver h.o (later_sending got x) → IsOver a.o (later_sending got x)
          by (inl k) = absurd (let no : None ≡ Some k.by = k.holds in cc)
          by (inr k) = subst (λ o. IsOver o (later_sending got x)) same k

      now : Inv F u (place ++ got ∷ []) (step_connection s (held x.op) (record { entry = got; mark = None })) → IsOver a.o (later_sending got x)
      now (inl h) = absurd (let no : false ≡ true = h in cc)
      now (inr h) = ends (subst (Holds F None) (last_stays u place got refl ∙ ap (option_map (later_sending got)) end) (subst (λ b. Holds F (if b then None else Some x.op) (last (sendings u (place ++ got ∷ [])))) frees h))

  pub last_over : is_bad (message_facts p) m ≡ false → Answers p m ⊎ Identifies p m → (x : Sending) × (last (sendings u place) ≡ Some x) × OverSent s F (later_sending got x)
  last_over good told = by p.rows known.live refl refl lone known.are told
    where
      there : (live : List Sending) → known.live ≡ live → (x : Sending) → live ≡ x ∷ [] → last (sendings u place) ≡ Some x
      there live e x f = ap last known.split ∙ ap (λ ys. last (known.done ++ ys)) (e ∙ f) ∙ last_push known.done x

      frees : (r : UpRow) → p.rows ≡ r ∷ [] → lets_go m r ≡ true → frees_holder p m ≡ true
      frees r e lets = both (not (is_under_own p id)) _ (ap not (not_own p own m)) (ap (list_any (lets_go m)) e ∙ or_left (lets_go m r) false lets)

      by : (rows : List UpRow) (live : List Sending) → p.rows ≡ rows → known.live ≡ live → is_lone rows ≡ true → RowsAre s F p.ids.next rows live [] → Answers p m ⊎ Identifies p m → (x : Sending) × (last (sendings u place) ≡ Some x) × OverSent s F (later_sending got x)
      by [] live e f b a (inl t) = absurd (let no : None ≡ Some t.row = sym (ap (find (is_under id)) e) ∙ t.under in cc)
      by [] live e f b a (inr t) = absurd (let no : None ≡ Some t.row = sym (ap (find (is_under_who id)) e) ∙ t.under in cc)
      by (r ∷ []) [] e f b a t = absurd a
      by (r ∷ []) (x ∷ []) e f b a t =
          let lets : lets_go m r ≡ true = lets_so s p own m good r e b t in
          let end : last (sendings u place) ≡ Some x = there (x ∷ []) f x refl in
          let settled : IsOver a.o (later_sending got x) = over r x end (frees r e lets) a in
          (x, end, record { o = a.o; found = a.found; closed = gone_closed s F p.ids.next r x a (left (is_bind_row r) _ b) part at m (lets_gone s F u place p own lone known part at id rest r (left (is_bind_row r) _ b) lets); final = settled.final; came = settled.came; code = settled.code })
      by (r ∷ []) (x ∷ y ∷ live) e f b a t = absurd a
      by (r ∷ q ∷ rows) live e f b a t = absurd (let no : false ≡ true = b in cc)
