-- A bind connection has one holder at a time: where a Bind is sent, the one before it is settled, and left the connection to
-- this client.
use Rattle.std.proofs.Common.{◌≡◌, ◌⊎◌, inl, inr, ℕ, Bool, true, false, ◌==◌, ◌&&◌, ◌||◌, not, List, [], ◌∷◌, ◌++◌, refl, ap, ◌∙◌, sym, subst}
use Rattle.std.specs.Prelude.{Option, Some, None, is_none, is_some, map, option_map, if◌then◌else◌}
use Rattle.std.specs.List.{list_any}
use Rattle.std.proofs.lemmas.List.{append-nil}
use Rattle.ldap_spec.specs.Kinds.{fits, is_final, is_intermediate, is_search_result, kind_of, same_kind, tag_of}
use Rattle.ldap_spec.specs.Messages.{Message}
use Rattle.ldap_spec.specs.Responses.{has_code, result_code}
use Rattle.lload_names.specs.declared.names.Entry.{Entry}
use Rattle.lload_names.specs.declared.names.Letter.{Letter}
use Rattle.lload_names.specs.declared.names.Letter.TheVariants.{Forward}
use Rattle.lload_names.specs.declared.names.OpKind.TheVariants.{Bind, Search}
use Rattle.lload_names.specs.declared.names.OpName.{OpName}
use Rattle.lload_names.specs.declared.names.PartName.{PartName}
use Rattle.lload_names.specs.declared.names.What.{What}
use Rattle.lload_names.specs.declared.names.What.TheVariants as what
use Rattle.lload_spec.specs.Answers.{Final, Sending, asks_who, final_answer, sendings, sending_made}
use Rattle.lload_spec.specs.Entries.{got_message, sent_message}
use Rattle.lload_spec.specs.Journal.{Family, same_op}
use Rattle.lload_spec.specs.Lists.{last, passes}
use Rattle.lload_spec.specs.Operations.{Operation, operation, is_final_for}
use Rattle.lload_spec.specs.Settings.{Settings}
use Rattle.lload_spec.proofs.Growth.{left, right}
use Rattle.lload_laws.specs.ConnectionGrowth.{later_sending}
use Rattle.lload_laws.proofs.ConnectionGrowth.{sendings_grow}
use Rattle.part_laws.proofs.ListLaws.{eqb_sym, false_by, last_push, not_true, or_elim}
use Rattle.part_spec.specs.ConnectionState.{ConnectionState, Kept, UpRow, step_connection, connection_behind, frees_holder, is_bind_row, is_stopped, is_under, is_under_own, is_under_who, keeps_back, lets_go}
use Rattle.part_spec.specs.Marked.{Marked, Taken}
use Rattle.part_spec.specs.Marks.{must_mark_connection, marks_connection}
use Rattle.connection_laws.proofs.Closings.{final_more, final_push}
use Rattle.bind_laws.proofs.Meets.{code_apart}
use Rattle.bind_laws.proofs.Sents.{IsAnswered, IsLive}
use Rattle.bind_laws.proofs.Tells.{RowsAre}
use Rattle.identity_laws.proofs.Finals.{last-map}

-- the last Sent's client holds the connection; or its final answer came, and isn't saslBindInProgress
pub record HeldBy (holder : Option OpName) (c : ℕ) : Type 0 where
  pub by : OpName
  pub holds : holder ≡ Some by
  pub client : by.client ≡ c

pub record IsOver (o : Operation) (sent : Sending) : Type 0 where
  pub final : Final
  pub came : final_answer o sent ≡ Some final
  pub code : has_code 14 final.rest ≡ false

pub record LastHolds (F : Family) (holder : Option OpName) (sent : Sending) : Type 0 where
  pub o : Operation
  pub found : operation F sent.op ≡ Some o
  pub either : HeldBy holder sent.op.client ⊎ IsOver o sent

abbrev pub Holds : Family → Option OpName → Option Sending → Type 0
Holds F holder None = Unit {0}
Holds F holder (Some sent) = LastHolds F holder sent

-- what is known of the holder where the connection takes operations
abbrev pub Inv : Family → ℕ → List Entry → ConnectionState → Type 0
Inv F u place p = (is_stopped p ≡ true) ⊎ Holds F p.holder (last (sendings u place))

over_later : (o : Operation) (sent : Sending) (e : Entry) → IsOver o sent → IsOver o (later_sending e sent)
over_later o sent e h = record { final = record { rest = h.final.rest; behind = h.final.behind ++ e ∷ [] }; came = final_more o.request sent.id sent.behind e h.final h.came; code = h.code }

holds_later : (F : Family) (e : Entry) (holder other : Option OpName) (o : Option Sending) → other ≡ holder → Holds F holder o → Holds F other (option_map (later_sending e) o)
holds_later F e holder other None z h = tt
holds_later F e holder other (Some x) z h = record { o = h.o; found = h.found; either = by h.either }
  where
    by : HeldBy holder x.op.client ⊎ IsOver h.o x → HeldBy other x.op.client ⊎ IsOver h.o (later_sending e x)
    by (inl k) = inl (record { by = k.by; holds = z ∙ k.holds; client = k.client })
    by (inr k) = inr (over_later h.o x e k)

-- the last Sent behind an entry that is none
last_stays : (u : ℕ) (place : List Entry) (e : Entry) → sent_message e.what ≡ None → last (sendings u (place ++ e ∷ [])) ≡ option_map (later_sending e) (last (sendings u place))
last_stays u place e h = ap last (sendings_grow u place e ∙ ap (λ o. map (later_sending e) (sendings u place) ++ sending_made u place e [] o) h ∙ append-nil (map (later_sending e) (sendings u place))) ∙ last-map (later_sending e) (sendings u place)

module _ (s : Settings) (F : Family) (u : ℕ) (place : List Entry) (p : ConnectionState) (part : PartName) (at : ℕ) (mark : Option Taken) where
  abbrev marked : What → Marked
  marked w = record { entry = record { part = part; at = at; what = w }; mark = mark }

  -- an entry that leaves the holder
  plain : (w : What) → sent_message w ≡ None → (connection_behind s (record { part = part; at = at; what = w }) mark p w).holder ≡ p.holder → ((is_stopped p ≡ true) → is_stopped (connection_behind s (record { part = part; at = at; what = w }) mark p w) ≡ true) → Inv F u place p → Inv F u (place ++ record { part = part; at = at; what = w } ∷ []) (step_connection s p (marked w))
  plain w none z stopped (inl h) = inl (stopped h)
  plain w none z stopped (inr h) = inr (subst (Holds F (step_connection s p (marked w)).holder) (sym (last_stays u place (record { part = part; at = at; what = w }) none)) (holds_later F (record { part = part; at = at; what = w }) p.holder (step_connection s p (marked w)).holder (last (sendings u place)) z h))

  or_right_true : (b : Bool) → (b || true) ≡ true
  or_right_true true = refl
  or_right_true false = refl

  -- an entry that is neither a message nor a Sent
  pub inv_other : (w : What) → is_none (got_message w) ≡ true → is_none (sent_message w) ≡ true → (elim mark [ None ↦ not (must_mark_connection p w) | Some t ↦ marks_connection p w t.letter ]) ≡ true → Inv F u place p → Inv F u (place ++ record { part = part; at = at; what = w } ∷ []) (step_connection s p (marked w))
  inv_other (what.Got id rest) g n k h = absurd (let bad : false ≡ true = g in cc)
  inv_other (what.Sent id op rest) g n k h = absurd (let bad : false ≡ true = n in cc)
  inv_other (what.Missed op) g n k h = inl (stopped mark k)
    where
      stopped : (o : Option Taken) → (elim o [ None ↦ false | Some t ↦ marks_connection p (what.Missed op) t.letter ]) ≡ true → is_stopped p ≡ true
      stopped None j = absurd (let bad : false ≡ true = j in cc)
      stopped (Some t) j = by t.letter j
        where
          by : (x : Letter) → marks_connection p (what.Missed op) x ≡ true → is_stopped p ≡ true
          by (Forward q sort body ask holder) i = right (same_op op q) _ i
          by _ i = absurd (let bad : false ≡ true = i in cc)
  inv_other (what.Down why) g n k h = inl (or_right_true p.retired)
  inv_other what.Retired g n k h = inl refl
  inv_other (what.Own id rest) g n k h = plain (what.Own id rest) refl refl (λ j. j) h
  inv_other what.Linked g n k h = plain what.Linked refl refl (λ j. j) h
  inv_other w g n k h = plain w refl refl (λ j. j) h

  -- a message
  module _ (m : Message) (own : p.own_bind ≡ None) (n : ℕ) (done live : List Sending) (split : sendings u place ≡ done ++ live) (are : RowsAre s F n p.rows live []) where
    abbrev got : Entry
    got = record { part = part; at = at; what = what.Got m.id m.rest }

    -- the Bind of a row that a message settles so that its holder lets go
    settled : (r : UpRow) (x : Sending) → IsLive s F n r x [] → lets_go m r ≡ true → (o : Operation) × (operation F x.op ≡ Some o) × IsOver o (later_sending got x)
    settled r x h k = (h.o, h.found, or_elim (is_under m.id r && (is_final Bind m.rest && is_some (result_code m.rest) && not (has_code 14 m.rest) && not (keeps_back r m.rest))) (is_under_who m.id r && tag_of m.rest == 0x78) answered told (right (is_bind_row r) _ k))
      where
        never_code : (rest : List ℕ) → has_code 0 rest ≡ true → has_code 14 rest ≡ false
        never_code rest e = false_by (has_code 14 rest) (λ j. sym (code_apart rest j) ∙ e)

        told : (is_under_who m.id r && tag_of m.rest == 0x78) ≡ true → IsOver h.o (later_sending got x)
        told j = by r.kept h.answer (left (is_under_who m.id r) _ j)
          where
            by : (o : Option Kept) → IsAnswered s h.o x o [] → passes (λ w. w == m.id) (elim o [ None ↦ None | Some q ↦ q.who ]) ≡ true → IsOver h.o (later_sending got x)
            by None a i = absurd (let bad : false ≡ true = i in cc)
            by (Some q) a i = record { final = record { rest = q.rest; behind = a.es ++ got ∷ [] }; came = final_more h.o.request x.id x.behind got (record { rest = q.rest; behind = a.es }) a.final; code = never_code q.rest (right (asks_who s h.o) _ a.back) }

        answered : (is_under m.id r && (is_final Bind m.rest && is_some (result_code m.rest) && not (has_code 14 m.rest) && not (keeps_back r m.rest))) ≡ true → IsOver h.o (later_sending got x)
        answered j = by r.kept h.answer (right (r.id == m.id) _ (left (is_under m.id r) _ j))
          where
            tests : (is_final Bind m.rest && is_some (result_code m.rest) && not (has_code 14 m.rest)) ≡ true
            tests = left (is_final Bind m.rest && is_some (result_code m.rest) && not (has_code 14 m.rest)) _ (right (is_under m.id r) _ j)

            final : is_final Bind m.rest ≡ true
            final = left (is_final Bind m.rest) _ (left (is_final Bind m.rest && is_some (result_code m.rest)) _ tests)

            same : (m.id == x.id) ≡ true
            same = ap (λ i. m.id == i) h.id ∙ eqb_sym m.id r.id ∙ left (r.id == m.id) _ (left (is_under m.id r) _ j)

            abbrev_final : Option (List ℕ) → Option Final
            abbrev_final a = if passes (is_final_for h.o.request) a then option_map (λ q. record { rest = q; behind = [] }) a else None

            by : (o : Option Kept) → IsAnswered s h.o x o [] → not (is_some o) ≡ true → IsOver h.o (later_sending got x)
            by (Some q) a i = absurd (let bad : false ≡ true = i in cc)
            by None a i = record {
              final = record { rest = m.rest; behind = [] };
              came = final_push h.o.request x.id x.behind got a h.reigns ∙ ap (λ b. abbrev_final (if b && passes (λ kind. fits kind m.rest) (kind_of h.o.request.rest) then Some m.rest else None)) same ∙ ap (λ k. abbrev_final (if passes (λ kind. fits kind m.rest) k then Some m.rest else None)) h.kind ∙ ap (λ b. abbrev_final (if b || is_intermediate m.rest || same_kind Bind Search && is_search_result m.rest then Some m.rest else None)) final ∙ ap (λ k. if passes (λ kind. is_final kind m.rest) k then Some (record { rest = m.rest; behind = [] }) else None) h.kind ∙ ap (λ b. if b then Some (record { rest = m.rest; behind = [] }) else None) final;
              code = not_true (has_code 14 m.rest) (right (is_final Bind m.rest && is_some (result_code m.rest)) _ tests);
            }

    -- the last Sent is that of the row
    rows_settled : (rows : List UpRow) (xs : List Sending) → RowsAre s F n rows xs [] → list_any (lets_go m) rows ≡ true → (x : Sending) × (xs ≡ x ∷ []) × ((o : Operation) × (operation F x.op ≡ Some o) × IsOver o (later_sending got x))
    rows_settled [] xs a k = absurd (let bad : false ≡ true = k in cc)
    rows_settled (r ∷ []) [] a k = absurd a
    rows_settled (r ∷ []) (x ∷ []) a k = (x, refl, settled r x a (or_elim (lets_go m r) false (λ j. j) (λ j. absurd (let bad : false ≡ true = j in cc)) k))
    rows_settled (r ∷ []) (x ∷ y ∷ xs) a k = absurd a
    rows_settled (r ∷ q ∷ rows) xs a k = absurd a

    pub inv_got : Inv F u place p → Inv F u (place ++ got ∷ []) (step_connection s p (marked (what.Got m.id m.rest)))
    inv_got (inl h) = inl h
    inv_got (inr h) = inr (subst (Holds F (step_connection s p (marked (what.Got m.id m.rest))).holder) (sym (last_stays u place got refl)) (by (frees_holder p m) refl))
      where
        by : (b : Bool) → frees_holder p m ≡ b → Holds F (if b then None else p.holder) (option_map (later_sending got) (last (sendings u place)))
        by false e = holds_later F got p.holder p.holder (last (sendings u place)) refl h
        by true e =
            let one = rows_settled p.rows live are (right (not (is_under_own p m.id)) _ e) in
            let final : last (sendings u place) ≡ Some one.0 = ap last (split ∙ ap (λ xs. done ++ xs) one.1) ∙ last_push done one.0 in
            subst (λ q. Holds F None (option_map (later_sending got) q)) (sym final) (record { o = one.2.0; found = one.2.1; either = inr one.2.2 })
