-- What is known of a client behind each entry of its turns: of its rows, and of what it asked.
use Rattle.std.proofs.Common.{◌≡◌, ℕ, suc, ◌+◌, Bool, true, false, ◌==◌, ◌&&◌, ◌||◌, not, List, [], ◌∷◌, ◌++◌, length, refl, ap, arith, ◌∙◌, sym, subst, append_assoc}
use Rattle.std.specs.Prelude.{Option, Some, None, is_some, is_none, find, cond, nat_le, nat_lt}
use Rattle.std.specs.List.{list_any, list_all}
use Rattle.std.proofs.lemmas.List.{append-nil}
use Rattle.std.proofs.lemmas.Bool.Decides.{nat_tests}
use Rattle.ldap_spec.specs.Messages.{Message}
use Rattle.ldap_spec.specs.Kinds.{same_kind}
use Rattle.lload_names.specs.declared.names.Entry.{Entry}
use Rattle.lload_names.specs.declared.names.OpName.{OpName}
use Rattle.lload_names.specs.declared.names.OpKind.TheVariants.{Bind}
use Rattle.lload_names.specs.declared.names.Answer.{Answer}
use Rattle.lload_names.specs.declared.names.PartName.TheVariants.{Client}
use Rattle.lload_names.specs.declared.names.What.{What}
use Rattle.lload_names.specs.declared.names.What.TheVariants as what
use Rattle.lload_spec.specs.Lists.{passes, implies}
use Rattle.lload_spec.specs.Settings.{Settings}
use Rattle.lload_spec.specs.Journal.{same_op}
use Rattle.lload_spec.specs.Entries.{operation_message, chosen}
use Rattle.lload_spec.specs.Operations.{Operation, operations, operations_from, operation_made, operation_in, made, live_operations, is_live, is_of}
use Rattle.lload_spec.specs.Binding.{action, makes_wait, restricts}
use Rattle.lload_spec.specs.Strict.{is_choice_for, lets_wait, holds}
use Rattle.part_spec.specs.Marked.{Taken, entries}
use Rattle.part_spec.specs.Inputs.{entries_of}
use Rattle.part_spec.specs.ClientState.{ClientState, ClientRow, is_bind_row, is_holding, lets_wait as row_waits, step_client}
use Rattle.part_spec.specs.Fit.{ledger_behind as behind}
use Rattle.lload_spec.proofs.Growth.{left, right, both}
use Rattle.lload_laws.specs.ClientGrowth.{is_named_within}
use Rattle.part_laws.proofs.ListLaws.{same_number, eqb_same, eq_eqb}
use Rattle.client_laws.proofs.Matches.{Matches, ClientLives}
use Rattle.client_laws.proofs.ClientTurns.{client_turn_of, tail_none, count_more}
use Rattle.client_laws.proofs.ClientClauses.{Says, says_more}
use Rattle.client_answer_laws.proofs.Each.{Each, each_imply, each_both, each_filter}
use Rattle.client_answer_laws.proofs.Waits.{is_within, IsOf, RowKnown, rows_known, named_each}
use Rattle.client_answer_laws.proofs.Asks.{AsksKnown, asks_behind}

pub or_false_left : (a b : Bool) → (a || b) ≡ false → a ≡ false
or_false_left true b h = h
or_false_left false b h = refl

pub or_false_right : (a b : Bool) → (a || b) ≡ false → b ≡ false
or_false_right true b h = absurd (let bad : true ≡ false = h in cc)
or_false_right false b h = h

pub record Known (s : Settings) (c : ℕ) (place : List Entry) (p : ClientState) : Type 0 where
  pub says : Says c place p
  pub count : p.count ≡ length (operations c place)
  pub rows : Each (RowKnown s c place) p.rows
  pub asks : AsksKnown c place p.asked

-- an entry that is no choice, or one of what was asked for
abbrev pub IsAsked : ClientState → What → Type 0
IsAsked p w = (op : OpName) (a : Answer) → w ≡ what.Chosen op a → list_any (λ x. same_op op x.op) p.asked ≡ true

pub known_more : (s : Settings) (c u at : ℕ) (mark : Option Taken) (w : What) (place : List Entry) (p : ClientState) → Known s c place p → IsAsked p w → Known s c (place ++ record { part = Client u; at = at; what = w } ∷ []) (step_client s p (record { entry = record { part = Client u; at = at; what = w }; mark = mark }))
known_more s c u at mark w place p h f =
    record {
      says = says_more s c place p (record { entry = record { part = Client u; at = at; what = w }; mark = mark }) h.says;
      count = count_more s c place (record { part = Client u; at = at; what = w }) mark p h.count;
      rows = rows_known s c at (Client u) mark place p h.says.number h.count w h.rows;
      asks = asks_behind s c at (Client u) place p h.says.number h.count h.asks w f;
    }

abbrev pub is_unchosen : What → Bool
is_unchosen w = is_none (chosen w)

pub none_asked : (p : ClientState) (w : What) → is_unchosen w ≡ true → IsAsked p w
none_asked p w h op a e = absurd (let bad : false ≡ true = sym (ap is_unchosen e) ∙ h in cc)

-- the first entry of a turn, and then the others
joined : (s : Settings) (c u at : ℕ) (w : What) (ws : List What) (mark : Option Taken) (place : List Entry) (p : ClientState) → Known s c ((place ++ record { part = Client u; at = at; what = w } ∷ []) ++ entries (client_turn_of u at None ws)) (behind (step_client s) (step_client s p (record { entry = record { part = Client u; at = at; what = w }; mark = mark })) (client_turn_of u at None ws)) → Known s c (place ++ entries (client_turn_of u at mark (w ∷ ws))) (behind (step_client s) p (client_turn_of u at mark (w ∷ ws)))
joined s c u at w ws mark place p h =
    let e : Entry = record { part = Client u; at = at; what = w } in
    let next : ClientState = step_client s p (record { entry = e; mark = mark }) in
    subst (λ ms. Known s c (place ++ e ∷ entries ms) (behind (step_client s) next ms)) (sym (tail_none (entries_of (Client u) at ws))) (subst (λ l. Known s c l (behind (step_client s) next (client_turn_of u at None ws))) (append_assoc place (e ∷ []) (entries (client_turn_of u at None ws))) h)

known_through : (s : Settings) (c u at : ℕ) (ws : List What) (mark : Option Taken) (place : List Entry) (p : ClientState) → Known s c place p → list_all is_unchosen ws ≡ true → Known s c (place ++ entries (client_turn_of u at mark ws)) (behind (step_client s) p (client_turn_of u at mark ws))
known_through s c u at [] mark place p h k = subst (λ l. Known s c l p) (sym (append-nil place)) h
known_through s c u at (w ∷ ws) mark place p h k = joined s c u at w ws mark place p (known_through s c u at ws None (place ++ record { part = Client u; at = at; what = w } ∷ []) (step_client s p (record { entry = record { part = Client u; at = at; what = w }; mark = mark })) (known_more s c u at mark w place p h (none_asked p w (left (is_unchosen w) _ k))) (right (is_unchosen w) _ k))

-- a turn whose first entry is no choice, or one of what was asked for
pub known_turn : (s : Settings) (c u at : ℕ) (w : What) (ws : List What) (mark : Option Taken) (place : List Entry) (p : ClientState) → Known s c place p → IsAsked p w → list_all is_unchosen ws ≡ true → Known s c (place ++ entries (client_turn_of u at mark (w ∷ ws))) (behind (step_client s) p (client_turn_of u at mark (w ∷ ws)))
known_turn s c u at w ws mark place p h f k = joined s c u at w ws mark place p (known_through s c u at ws None (place ++ record { part = Client u; at = at; what = w } ∷ []) (step_client s p (record { entry = record { part = Client u; at = at; what = w }; mark = mark })) (known_more s c u at mark w place p h f) k)

-- The operation of a number that is within.
numbered : (c n k : ℕ) (before L : List Entry) → nat_lt n k ≡ true → nat_le k (n + length (operations_from c n before L)) ≡ true → is_some (find (λ o. same_op (record { client = c; k = k }) o.name) (operations_from c n before L)) ≡ true
numbered c n k before [] low top = absurd (grind (arith, nat_tests, low, top))
numbered c n k before (e ∷ L) low top = more (operation_message e.what) top (λ j lower upper. numbered c j k (before ++ e ∷ []) L lower upper)
  where
    more : (m : Option Message) → nat_le k (n + length (operation_made c (suc n) before e L m ++ operations_from c (n + made m) (before ++ e ∷ []) L)) ≡ true → ((j : ℕ) → nat_lt j k ≡ true → nat_le k (j + length (operations_from c j (before ++ e ∷ []) L)) ≡ true → is_some (find (λ o. same_op (record { client = c; k = k }) o.name) (operations_from c j (before ++ e ∷ []) L)) ≡ true) → is_some (find (λ o. same_op (record { client = c; k = k }) o.name) (operation_made c (suc n) before e L m ++ operations_from c (n + made m) (before ++ e ∷ []) L)) ≡ true
    more None upper ih = subst (λ j. is_some (find (λ o. same_op (record { client = c; k = k }) o.name) (operations_from c j (before ++ e ∷ []) L)) ≡ true) (let same : n ≡ n + 0 = omega arith in same) (ih n low (subst (λ j. nat_le k (n + length (operations_from c j (before ++ e ∷ []) L)) ≡ true) (let same : n + 0 ≡ n = omega arith in same) upper))
    more (Some m) upper ih = by (k == suc n) refl
      where
        one : Operation
        one = record { name = record { client = c; k = suc n }; at = e.at; request = m; before = before; behind = L }

        by : (b : Bool) → (k == suc n) ≡ b → is_some (cond (same_op (record { client = c; k = k }) (record { client = c; k = suc n })) (Some one) (find (λ o. same_op (record { client = c; k = k }) o.name) (operations_from c (n + 1) (before ++ e ∷ []) L))) ≡ true
        by true j = ap (λ x. is_some (cond x (Some one) (find (λ o. same_op (record { client = c; k = k }) o.name) (operations_from c (n + 1) (before ++ e ∷ []) L)))) (both (c == c) _ (eqb_same c) j)
        by false j =
            let lower : nat_lt (n + 1) k ≡ true = grind (arith, nat_tests, low, j) in
            let higher : nat_le k ((n + 1) + length (operations_from c (n + 1) (before ++ e ∷ []) L)) ≡ true = subst (λ i. nat_le k i ≡ true) (let same : n + suc (length (operations_from c (n + 1) (before ++ e ∷ []) L)) ≡ (n + 1) + length (operations_from c (n + 1) (before ++ e ∷ []) L) = omega arith in same) upper in
            ap (λ x. is_some (cond (c == c && x) (Some one) (find (λ o. same_op (record { client = c; k = k }) o.name) (operations_from c (n + 1) (before ++ e ∷ []) L)))) j ∙ by_client (c == c) (ih (n + 1) lower higher)
          where
            by_client : (a : Bool) → is_some (find (λ o. same_op (record { client = c; k = k }) o.name) (operations_from c (n + 1) (before ++ e ∷ []) L)) ≡ true → is_some (cond (a && false) (Some one) (find (λ o. same_op (record { client = c; k = k }) o.name) (operations_from c (n + 1) (before ++ e ∷ []) L))) ≡ true
            by_client true i = i
            by_client false i = i

pub within_there : (c : ℕ) (place : List Entry) (op : OpName) → is_within c (length (operations c place)) op ≡ true → is_some (operation_in c place op) ≡ true
within_there c place op h =
    let client : op.client ≡ c = same_number op.client c (left (op.client == c) _ (left (op.client == c && nat_lt 0 op.k) _ h)) in
    ap (λ n. is_some (find (λ o. same_op (record { client = n; k = op.k }) o.name) (operations c place))) client ∙ numbered c 0 op.k [] place (right (op.client == c) _ (left (op.client == c && nat_lt 0 op.k) _ h)) (subst (λ n. nat_le op.k n ≡ true) (let same : length (operations c place) ≡ 0 + length (operations c place) = omega arith in same) (right (op.client == c && nat_lt 0 op.k) _ h))

-- Where no row lets later messages wait, no live operation does.
module _ (s : Settings) (c : ℕ) (place : List Entry) where
  abbrev IsSo : ClientRow → Operation → Type 0
  IsSo r o = (is_named_within c (length (operations c place)) o ≡ true) × ((r.k == o.name.k) ≡ true → IsOf s r o)

  abbrev Chosen : ClientRow → Type 0
  Chosen r = implies (not (is_bind_row r) && is_some r.connection) (list_any (is_choice_for (record { client = c; k = r.k })) place) ≡ true

  free : (b t there ch : Bool) → (b || t && not there) ≡ false → implies (not b && there) ch ≡ true → (b || t && not ch) ≡ false
  free true t there ch h k = absurd (let bad : true ≡ false = h in cc)
  free false false there ch h k = refl
  free false true true ch h k = ap not k
  free false true false ch h k = absurd (let bad : true ≡ false = h in cc)

  none_wait : (rows : List ClientRow) (os : List Operation) → Matches rows os → Each (λ r. Each (IsSo r) os) rows → Each Chosen rows → list_any (row_waits s) rows ≡ false → list_any (lets_wait s place) os ≡ false
  none_wait [] [] m f g h = refl
  none_wait (r ∷ rows) (o ∷ os) m f g h =
      let so : IsSo r o = f.0.0 in
      let number : (r.k == o.name.k) ≡ true = eq_eqb r.k o.name.k m.0.k in
      let client : o.name.client ≡ c = same_number o.name.client c (left (o.name.client == c) _ (left (o.name.client == c && nat_lt 0 o.name.k) _ so.0)) in
      let name : list_any (is_choice_for (record { client = c; k = r.k })) place ≡ list_any (is_choice_for o.name) place = ap (λ n. list_any (is_choice_for (record { client = n; k = r.k })) place) (sym client) ∙ ap (λ n. list_any (is_choice_for (record { client = o.name.client; k = n })) place) m.0.k in
      let kind : is_bind_row r ≡ is_of Bind o = ap (passes (same_kind Bind)) m.0.kind in
      let first : row_waits s r ≡ false = or_false_left (row_waits s r) (list_any (row_waits s) rows) h in
      let same : makes_wait s (is_of Bind o) (action s o.request.rest) (list_any (is_choice_for o.name) place) ≡ false = ap (λ b. makes_wait s b (action s o.request.rest) (list_any (is_choice_for o.name) place)) (sym kind) ∙ ap (λ a. makes_wait s (is_bind_row r) a (list_any (is_choice_for o.name) place)) (sym (so.1 number).action) ∙ ap (makes_wait s (is_bind_row r) r.action) (sym name) ∙ free (is_bind_row r) (restricts s r.action) (is_some r.connection) (list_any (is_choice_for (record { client = c; k = r.k })) place) first g.0 in
      ap (λ b. b || list_any (lets_wait s place) os) same ∙ none_wait rows os m.1 (each_imply (λ x. Each (IsSo x) (o ∷ os)) (λ x. Each (IsSo x) os) rows (λ x k. k.1) f.1) g.1 (or_false_right (row_waits s r) (list_any (row_waits s) rows) h)
  none_wait [] (o ∷ os) m f g h = absurd m
  none_wait (r ∷ rows) [] m f g h = absurd m

  pub unheld : (p : ClientState) → ClientLives c place p → Each (RowKnown s c place) p.rows → is_holding s p ≡ false → holds s c place ≡ false
  unheld p lives known h = none_wait p.rows (live_operations c place) lives.rows (each_imply (RowKnown s c place) (λ r. Each (IsSo r) (live_operations c place)) p.rows (λ r k. each_filter (IsSo r) (IsSo r) is_live (operations c place) (λ o e j. j) (each_both (λ o. is_named_within c (length (operations c place)) o ≡ true) (λ o. (r.k == o.name.k) ≡ true → IsOf s r o) (operations c place) (named_each c place) k.same)) known) (each_imply (RowKnown s c place) Chosen p.rows (λ r k. k.chosen) known) (or_false_left (list_any (row_waits s) p.rows) _ h)
