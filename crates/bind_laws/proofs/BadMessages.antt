-- A bad message leaves the operation that is live on a bind connection, and its holder, so that its end gives what it would
-- have given before.
use Rattle.std.proofs.Common.{◌≡◌, ℕ, Bool, true, false, ◌==◌, ◌&&◌, ◌||◌, not, List, [], ◌∷◌, ◌++◌, flat_map, refl, ap, ◌∙◌, sym}
use Rattle.std.specs.Prelude.{Option, Some, None, find, map, cond, is_none, is_some, if◌then◌else◌}
use Rattle.std.specs.List.{list_any}
use Rattle.ldap_spec.specs.Messages.{Message}
use Rattle.ldap_spec.specs.Kinds.{same_kind, tag_of, fits, is_final, is_intermediate, is_search_result}
use Rattle.ldap_spec.specs.Responses.{result_code, has_code}
use Rattle.lload_names.specs.declared.names.OpName.{OpName}
use Rattle.lload_names.specs.declared.names.OpKind.TheVariants.{Bind, Search}
use Rattle.lload_names.specs.declared.names.Refusal.TheVariants.{C4}
use Rattle.lload_names.specs.declared.names.What.TheVariants as what
use Rattle.lload_names.specs.declared.names.PartName.TheVariants.{Desk}
use Rattle.lload_names.specs.declared.names.Letter.TheVariants.{IsDown}
use Rattle.lload_names.specs.declared.names.Posted.{Posted}
use Rattle.lload_spec.specs.Lists.{passes}
use Rattle.lload_spec.specs.Settings.{Settings}
use Rattle.lload_spec.specs.BadMessages.{is_bad, is_bad_for, is_bad_answer, is_bad_who, is_bad_stray}
use Rattle.lload_spec.specs.BadMessages as bad
use Rattle.part_spec.specs.Inputs.{failed, to}
use Rattle.part_spec.specs.ConnectionState.{ConnectionState, UpRow, Kept, is_bind, is_bind_row, is_under, is_under_who, keeps_back, lets_go, behind_message, open_request, message_facts, step_connection}
use Rattle.part_spec.specs.ConnectionTurn.{loss, ended, holder_ended, down_letters}
use Rattle.lload_spec.proofs.Growth.{left, right}
use Rattle.part_laws.proofs.ListLaws.{not_true}
use Rattle.connection_laws.proofs.Pieces.{marked_up}
use Rattle.bind_laws.proofs.Lone.{is_lone}
use Rattle.bind_laws.proofs.Meets.{bind_kind, not_own, bad_other, one_bad}

-- a row stays with its operation
abbrev Stays : UpRow → List UpRow → Type 0
Stays r [] = ⊥
Stays r (q ∷ []) = r.op ≡ q.op
Stays r (q ∷ x ∷ xs) = ⊥

-- no message is under a row's identifier and under that of its Who Am I
under_one : (id : ℕ) (r : UpRow) → is_under id r ≡ true → is_under_who id r ≡ false
under_one id r h = by r.kept (right (r.id == id) _ h)
  where
    by : (o : Option Kept) → not (is_some o) ≡ true → passes (λ who. who == id) (elim o [ None ↦ None | Some k ↦ k.who ]) ≡ false
    by None k = refl
    by (Some x) k = absurd (let no : false ≡ true = k in cc)

no_tag : (a b : Bool) → not (a || b) ≡ true → b ≡ false
no_tag true b h = absurd (let no : false ≡ true = h in cc)
no_tag false b h = not_true b h

-- The one row.
module _ (at : ℕ) (m : Message) (r : UpRow) (bind : is_bind_row r ≡ true) (under_bad : is_under m.id r ≡ true → is_bad_answer m (open_request r) ≡ true) (who_bad : is_under m.id r ≡ false → is_under_who m.id r ≡ true → (tag_of m.rest == 0x78) ≡ false) where
  row_stays : Stays r (behind_message at m r)
  row_stays = by (is_under m.id r) (fits r.kind m.rest) (is_final r.kind m.rest) (is_bind_row r) (keeps_back r m.rest) (is_none (result_code m.rest)) (is_under_who m.id r) (tag_of m.rest == 0x78) (is_final Bind m.rest) bind under_bad who_bad
    where
      and_false : (x y : Bool) → (x && y && false) ≡ true → false ≡ true
      and_false true true j = j
      and_false true false j = j
      and_false false y j = j

      by : (a f g k b n w x y : Bool) → k ≡ true → (a ≡ true → (not f || (k && y && n)) ≡ true) → (a ≡ false → w ≡ true → x ≡ false) → Stays r (elim a [ true ↦ elim f [ false ↦ r ∷ [] | true ↦ elim g [ true ↦ elim k [ false ↦ [] | true ↦ elim b [ true ↦ record r { answered = at; kept = Some (record { rest = m.rest; who = None }) } ∷ [] | false ↦ elim n [ true ↦ record r { answered = at } ∷ [] | false ↦ [] ] ] ] | false ↦ record r { answered = at } ∷ [] ] ] | false ↦ elim w [ true ↦ elim x [ true ↦ [] | false ↦ record r { answered = at } ∷ [] ] | false ↦ r ∷ [] ] ])
      by a f g false b n w x y e h j = absurd (let no : false ≡ true = e in cc)
      by true false g true b n w x y e h j = refl
      by true true false true b n w x y e h j = refl
      by true true true true true n w x y e h j = refl
      by true true true true false true w x y e h j = refl
      by true true true true false false w x y e h j = absurd (let no : false ≡ true = and_false true y (h refl) in cc)
      by false f g true b n true true y e h j = absurd (let no : true ≡ false = j refl refl in cc)
      by false f g true b n true false y e h j = refl
      by false f g true b n false x y e h j = refl

  -- it doesn't let the holder go
  unsettled : is_bad_answer m (open_request r) ≡ true → (is_final Bind m.rest && is_some (result_code m.rest)) ≡ false
  unsettled h = by (is_final Bind m.rest) (is_intermediate m.rest) (same_kind r.kind Search && is_search_result m.rest) (same_kind Bind r.kind) (result_code m.rest) (ap (λ k. not (is_final k m.rest || is_intermediate m.rest || (same_kind r.kind Search && is_search_result m.rest)) || (same_kind Bind r.kind && is_final Bind m.rest && is_none (result_code m.rest))) (sym (bind_kind r.kind bind)) ∙ h)
    where
      by : (y i c k : Bool) (o : Option ℕ) → (not (y || i || c) || (k && y && is_none o)) ≡ true → (y && is_some o) ≡ false
      by false i c k o j = refl
      by true i c k None j = refl
      by true i c true (Some code) j = absurd (let no : false ≡ true = j in cc)
      by true i c false (Some code) j = absurd (let no : false ≡ true = j in cc)

  stays_held : lets_go m r ≡ false
  stays_held = by (is_under m.id r) refl
    where
      and_none : (b : Bool) → (b && false) ≡ false
      and_none true = refl
      and_none false = refl

      by : (a : Bool) → is_under m.id r ≡ a → lets_go m r ≡ false
      by true e = ap (λ c. is_bind_row r && (is_under m.id r && (c && not (has_code 14 m.rest) && not (keeps_back r m.rest)) || is_under_who m.id r && tag_of m.rest == 0x78)) (unsettled (under_bad e)) ∙ ap (λ w. is_bind_row r && (is_under m.id r && false || w && tag_of m.rest == 0x78)) (under_one m.id r e) ∙ ap (λ a. is_bind_row r && (a && false || false)) e ∙ and_none (is_bind_row r)
      by false e = ap (λ a. is_bind_row r && (a && (is_final Bind m.rest && is_some (result_code m.rest) && not (has_code 14 m.rest) && not (keeps_back r m.rest)) || is_under_who m.id r && tag_of m.rest == 0x78)) e ∙ who (is_under_who m.id r) refl
        where
          who : (w : Bool) → is_under_who m.id r ≡ w → (is_bind_row r && (is_under_who m.id r && tag_of m.rest == 0x78)) ≡ false
          who true f = ap (λ t. is_bind_row r && (is_under_who m.id r && t)) (who_bad e f) ∙ ap (λ w. is_bind_row r && (w && false)) f ∙ and_none (is_bind_row r)
          who false f = ap (λ w. is_bind_row r && (w && tag_of m.rest == 0x78)) f ∙ and_none (is_bind_row r)

-- A bad message, and the end.
module _ (s : Settings) (p : ConnectionState) (own : p.own_bind ≡ None) (lone : is_lone p.rows ≡ true) (at : ℕ) (m : Message) (h : is_bad (message_facts p) m ≡ true) where
  abbrev bad_for : List UpRow → Bool
  bad_for rows = is_bad_for (message_facts p) m (find (bad.is_under m.id) (map open_request rows))

  abbrev beside : Bool → Bool
  beside w = if w || false then is_bad_who m else is_bad_stray (message_facts p) m

  one_who : (r : UpRow) → p.rows ≡ r ∷ [] → is_under m.id r ≡ false → is_under_who m.id r ≡ true → (tag_of m.rest == 0x78) ≡ false
  one_who r e f w =
      let other : is_bad_for (message_facts p) m (cond (is_under m.id r) (Some (open_request r)) None) ≡ true = sym (ap bad_for e) ∙ bad_other p own m h in
      let none : (if list_any (bad.is_under_who m.id) (map open_request p.rows) then is_bad_who m else is_bad_stray (message_facts p) m) ≡ true = sym (ap (λ c. is_bad_for (message_facts p) m (cond c (Some (open_request r)) None)) f) ∙ other in
      let here : beside (bad.is_under_who m.id (open_request r)) ≡ true = sym (ap (λ rows. if list_any (bad.is_under_who m.id) (map open_request rows) then is_bad_who m else is_bad_stray (message_facts p) m) e) ∙ none in
      no_tag (tag_of m.rest == 0x79) (tag_of m.rest == 0x78) (sym (ap beside w) ∙ here)

  rows_lost : (rows : List UpRow) → p.rows ≡ rows → is_lone rows ≡ true → flat_map (loss p) (flat_map (behind_message at m) rows) ≡ flat_map (loss p) rows
  rows_lost [] e k = refl
  rows_lost (r ∷ []) e k = by (behind_message at m r) (row_stays at m r (left (is_bind_row r) _ k) (one_bad s p own lone m r e h) (one_who r e))
    where
      by : (rs : List UpRow) → Stays r rs → flat_map (loss p) (rs ++ []) ≡ loss p r ++ []
      by [] j = absurd j
      by (q ∷ []) j = ap (λ o. (failed o C4 ++ elim (is_bind p) [ true ↦ [] | false ↦ ended p o None ]) ++ []) (sym j)
      by (q ∷ x ∷ xs) j = absurd j
  rows_lost (r ∷ q ∷ rows) e k = absurd (let no : false ≡ true = k in cc)

  none_go : (rows : List UpRow) → p.rows ≡ rows → is_lone rows ≡ true → list_any (lets_go m) rows ≡ false
  none_go [] e k = refl
  none_go (r ∷ []) e k = ap (λ b. b || false) (stays_held at m r (left (is_bind_row r) _ k) (one_bad s p own lone m r e h) (one_who r e))
  none_go (r ∷ q ∷ rows) e k = absurd (let no : false ≡ true = k in cc)

  -- what the end gives behind it
  pub down_behind : (u : ℕ) → down_letters (step_connection s p (marked_up u at None (what.Got m.id m.rest))) ≡ down_letters p
  down_behind u = ap (λ b. end_by (if b then p.rows else flat_map (behind_message at m) p.rows) (if not b && list_any (lets_go m) p.rows then None else p.holder)) (not_own p own m) ∙ ap (λ b. end_by (flat_map (behind_message at m) p.rows) (if b then None else p.holder)) (none_go p.rows refl lone) ∙ ap (λ lost. lost ++ (holder_ended p ++ to Desk (IsDown p.number))) (rows_lost p.rows refl lone)
    where
      end_by : List UpRow → Option OpName → List Posted
      end_by rows holder = flat_map (loss p) rows ++ ((elim holder [ None ↦ [] | Some x ↦ ended p x None ]) ++ to Desk (IsDown p.number))
