-- What each act of a client makes of the row of an operation that is expected: it stays, or its Drop is given, or the act took
-- the last answer.
use Rattle.std.proofs.Common.{◌≡◌, ◌⊎◌, inl, inr, ℕ, suc, arith, Bool, true, false, ◌==◌, ◌&&◌, ◌||◌, not, if◌then◌else◌, List, [], ◌∷◌, ◌++◌, refl, ap, ◌∙◌, sym, subst}
use Rattle.std.specs.Prelude.{Option, Some, None, filter, find, map, nat_le, unwrap_or}
use Rattle.std.specs.List.{list_any}
use Rattle.std.proofs.lemmas.Bool.Decides.{nat_tests}
use Rattle.ldap_spec.specs.Bodies.{cancel_answer, refusal}
use Rattle.ldap_spec.specs.Kinds.{kind_of}
use Rattle.ldap_spec.specs.Messages.{Message}
use Rattle.lload_names.specs.declared.names.Answer.{Answer}
use Rattle.lload_names.specs.declared.names.Answer.TheVariants.{Go, Busy, Unavailable}
use Rattle.lload_names.specs.declared.names.CancelAnswer.{CancelAnswer}
use Rattle.lload_names.specs.declared.names.CancelAnswer.TheVariants.{C13, S1}
use Rattle.lload_names.specs.declared.names.OpKind.{OpKind}
use Rattle.lload_names.specs.declared.names.OpKind.TheVariants.{Bind}
use Rattle.lload_names.specs.declared.names.OpName.{OpName}
use Rattle.lload_names.specs.declared.names.PartName.TheVariants.{Client}
use Rattle.lload_names.specs.declared.names.Posted.{Posted}
use Rattle.lload_names.specs.declared.names.Refusal.{Refusal}
use Rattle.lload_names.specs.declared.names.Refusal.TheVariants.{C1, C3}
use Rattle.lload_names.specs.declared.names.What.{What}
use Rattle.lload_names.specs.declared.names.What.TheVariants as what
use Rattle.lload_spec.specs.Entries.{makes_operation}
use Rattle.lload_spec.specs.FirstCheck.{Check, Ends, Unbinds, Abandons, Refuses, Answers, Cancels, GoesOn, live_request, may_be_canceled}
use Rattle.lload_spec.specs.Journal.{same_op}
use Rattle.lload_spec.specs.Lists.{passes}
use Rattle.lload_spec.specs.Operations.{abandons_id, is_final_for, is_request_of}
use Rattle.lload_spec.specs.Settings.{Settings}
use Rattle.lload_spec.proofs.Growth.{both, left, right}
use Rattle.lload_laws.proofs.ListLaws.{any-filter, found_passes}
use Rattle.part_laws.proofs.ListLaws.{any_before, any_split, not_true, or_elim, same_number}
use Rattle.part_spec.specs.ClientState.{ClientRow, ClientState, abandons, check_at, facts_of, forwarded, is_bind_row, new_row, row_named, step_client, with_connection}
use Rattle.part_spec.specs.ClientTurn.{abandoned_drop, asks, binds, canceled, canceled_drop, drop_of, drops, endings, letters_by, refused, whats_by, whats_for}
use Rattle.part_spec.specs.Fit.{Expected, ledger_behind}
use Rattle.part_spec.specs.Inputs.{entries_of}
use Rattle.part_spec.specs.Marked.{Marked, Taken}
use Rattle.client_laws.proofs.ClientCancels.{cancel_named}
use Rattle.client_laws.proofs.ClientGives.{in_state}
use Rattle.client_laws.proofs.ClientTurns.{client_turn_of, free_by, is_end}
use Rattle.client_laws.proofs.Matches.{are_apart}
use Rattle.client_answer_laws.proofs.Each.{Each, each_append}
use Rattle.client_answer_laws.proofs.Rows.{rows_behind}
use Rattle.client_moves_laws.proofs.Checks.{Abandoned, abandoned, answers_ext, ext_plain, is_answering, is_operating, operates}
use Rattle.client_moves_laws.proofs.ClientRows.{find_live}
use Rattle.expect_laws.specs.Laws.{has_row, is_dropped, went_as}
use Rattle.expect_laws.proofs.Rows.{Outs, any_found, by_identifier, by_number, drop_before, found_any, found_map, in_closing, in_drops, in_endings, last_any, last_each, one_drop, one_row, out_row}

-- a row that is forwarded stays the same operation's
forwarded_as : (x : Expected) (k v : ℕ) (r : ClientRow) → went_as x r ≡ true → went_as x (forwarded k v r) ≡ true
forwarded_as x k v r h = by (r.k == k)
  where
    kept : (o : Option ℕ) → passes (λ n. n == x.connection) o ≡ true → (unwrap_or o v == x.connection) ≡ true
    kept None j = absurd (let bad : false ≡ true = j in cc)
    kept (Some n) j = j

    by : (b : Bool) → went_as x (if b then record r { connection = Some (unwrap_or r.connection v) } else r) ≡ true
    by true = both (r.k == x.op.k) _ (left (r.k == x.op.k) _ h) (both (not (is_bind_row r)) _ (left (not (is_bind_row r)) _ (right (r.k == x.op.k) _ h)) (kept r.connection (right (not (is_bind_row r)) _ (right (r.k == x.op.k) _ h))))
    by false = h

module _ (s : Settings) (x : Expected) (p : ClientState) (at : ℕ) (own : x.op.client ≡ p.number) (within : nat_le x.op.k p.count ≡ true) (apart : are_apart p.rows ≡ true) (has : has_row x p.rows ≡ true) where
  abbrev rest_of : List What → List Marked
  rest_of ws = map (λ e. record { entry = e; mark = None }) (entries_of (Client p.number) at ws)

  abbrev stepped : Option Taken → What → ClientState
  stepped mark w = step_client s p (record { entry = record { part = Client p.number; at = at; what = w }; mark = mark })

  -- behind an act the row is there, or its Drop is among the act's letters
  abbrev pub Kept : Option Taken → List What → List Posted → Type 0
  Kept mark ws letters = (has_row x (ledger_behind (step_client s) p (client_turn_of p.number at mark ws)).rows ≡ true) ⊎ (is_dropped x letters ≡ true)

  -- its row
  pub mine : (r : ClientRow) × (find (went_as x) p.rows ≡ Some r)
  mine = any_found (went_as x) p.rows has

  mine_is : went_as x mine.0 ≡ true
  mine_is = found_passes (went_as x) p.rows mine.0 mine.1

  mine_number : mine.0.k ≡ x.op.k
  mine_number = same_number mine.0.k x.op.k (left (mine.0.k == x.op.k) _ mine_is)

  -- a row that is found under its number and an identifier is that one
  of_number : (t : ClientRow → Bool) (r : ClientRow) → find t p.rows ≡ Some r → r.k ≡ x.op.k → r ≡ mine.0
  of_number t r e k = one_row (λ q. q.k) by_number t (went_as x) p.rows r mine.0 apart e mine.1 (k ∙ sym mine_number)

  of_identifier : (t : ClientRow → Bool) (r : ClientRow) → find t p.rows ≡ Some r → r.request.id ≡ mine.0.request.id → r ≡ mine.0
  of_identifier t r e i = one_row (λ q. q.request.id) by_identifier t (went_as x) p.rows r mine.0 apart e mine.1 i

  -- where some row has an identifier and its number, its own has the identifier
  mine_under : (id : ℕ) → list_any (λ y. y.request.id == id && y.k == x.op.k) p.rows ≡ true → mine.0.request.id ≡ id
  mine_under id h =
      let one = any_found (λ (y : ClientRow). y.request.id == id && y.k == x.op.k) p.rows h in
      let passed : (one.0.request.id == id && one.0.k == x.op.k) ≡ true = found_passes (λ (y : ClientRow). y.request.id == id && y.k == x.op.k) p.rows one.0 one.1 in
      let same : one.0 ≡ mine.0 = of_number (λ y. y.request.id == id && y.k == x.op.k) one.0 one.1 (same_number one.0.k x.op.k (right (one.0.request.id == id) _ passed)) in
      sym (ap (λ (r : ClientRow). r.request.id) same) ∙ same_number one.0.request.id id (left (one.0.request.id == id) _ passed)

  -- An Out for the row of a live operation.
  module _ (op : OpName) (r : ClientRow) (named : row_named p op ≡ Some r) (rest : List ℕ) where
    its : (p.number == op.client && r.k == op.k) ≡ true
    its = found_passes (λ y. p.number == op.client && y.k == op.k) p.rows r named

    -- where that is the row of this operation, the name is this one
    pub same_name : mine.0.request.id ≡ r.request.id → same_op x.op op ≡ true
    same_name i =
        let same : r ≡ mine.0 = of_identifier (λ y. p.number == op.client && y.k == op.k) r named (sym i) in
        both (x.op.client == op.client) _ (ap (λ n. n == op.client) own ∙ left (p.number == op.client) _ its) (ap (λ n. n == op.k) (sym mine_number ∙ sym (ap (λ (y : ClientRow). y.k) same)) ∙ right (p.number == op.client) _ its)

    pub out_named : (q : ClientState) → q.rows ≡ p.rows → (mark : Option Taken) → (same_op x.op op ≡ true → is_final_for r.request rest ≡ true → false ≡ true) → has_row x (step_client s q (record { entry = record { part = Client p.number; at = at; what = what.Out r.request.id rest }; mark = mark })).rows ≡ true
    out_named q e mark f = by (out_row x s q (Client p.number) at mark r.request.id rest (ap (has_row x) e ∙ has))
      where
        by : (has_row x (step_client s q (record { entry = record { part = Client p.number; at = at; what = what.Out r.request.id rest }; mark = mark })).rows ≡ true) ⊎ Outs x q r.request.id rest → has_row x (step_client s q (record { entry = record { part = Client p.number; at = at; what = what.Out r.request.id rest }; mark = mark })).rows ≡ true
        by (inl h) = h
        by (inr o) =
            let there : list_any (λ y. y.request.id == r.request.id && y.k == x.op.k) p.rows ≡ true = subst (λ rows. list_any (λ y. y.request.id == r.request.id && y.k == x.op.k) rows ≡ true) e (last_any (λ y. y.request.id == r.request.id) q.rows o.row (λ y. y.k == x.op.k) o.is o.number) in
            let i : mine.0.request.id ≡ r.request.id = mine_under r.request.id there in
            let finals : list_any (λ y. y.request.id == r.request.id && is_final_for y.request rest) p.rows ≡ true = subst (λ rows. list_any (λ y. y.request.id == r.request.id && is_final_for y.request rest) rows ≡ true) e (last_any (λ y. y.request.id == r.request.id) q.rows o.row (λ y. is_final_for y.request rest) o.is o.final) in
            let one = any_found (λ (y : ClientRow). y.request.id == r.request.id && is_final_for y.request rest) p.rows finals in
            let passed : (one.0.request.id == r.request.id && is_final_for one.0.request rest) ≡ true = found_passes (λ (y : ClientRow). y.request.id == r.request.id && is_final_for y.request rest) p.rows one.0 one.1 in
            let same : one.0 ≡ r = one_row (λ y. y.request.id) by_identifier (λ y. y.request.id == r.request.id && is_final_for y.request rest) (λ y. p.number == op.client && y.k == op.k) p.rows one.0 r apart one.1 named (same_number one.0.request.id r.request.id (left (one.0.request.id == r.request.id) _ passed)) in
            absurd (let bad : false ≡ true = f (same_name i) (ap (λ (y : ClientRow). is_final_for y.request rest) (sym same) ∙ right (one.0.request.id == r.request.id) _ passed) in cc)

  -- A message.
  module _ (m : Message) where
    abbrev came : ClientState
    came = stepped None (what.In m.id m.rest)

    abbrev Others : ClientState → Type 0
    Others q = Each (λ r. (r.request.id == m.id) ≡ true → (r.k == x.op.k) ≡ false) q.rows

    module _ (makes : makes_operation m ≡ true) (plain : is_request_of Bind m ≡ false) (free : list_any (λ r. r.request.id == m.id) p.rows ≡ false) where
      came_rows : (stepped None (what.In m.id m.rest)).rows ≡ p.rows ++ new_row s p m ∷ []
      came_rows = ap (λ b. (in_state s at p m b (is_request_of Bind m)).rows) makes ∙ ap (λ d. (in_state s at p m true d).rows) plain

      came_has : has_row x (stepped None (what.In m.id m.rest)).rows ≡ true
      came_has = ap (has_row x) came_rows ∙ any_before (went_as x) p.rows (new_row s p m ∷ []) has

      new_other : (suc p.count == x.op.k) ≡ false
      new_other = let top = within in grind (arith, nat_tests, top)

      came_others : Others (stepped None (what.In m.id m.rest))
      came_others = subst (Each (λ r. (r.request.id == m.id) ≡ true → (r.k == x.op.k) ≡ false)) (sym came_rows) (each_append (λ r. (r.request.id == m.id) ≡ true → (r.k == x.op.k) ≡ false) p.rows (new_row s p m ∷ []) (olds p.rows free) (λ i. new_other, tt))
        where
          olds : (rows : List ClientRow) → list_any (λ r. r.request.id == m.id) rows ≡ false → Each (λ r. (r.request.id == m.id) ≡ true → (r.k == x.op.k) ≡ false) rows
          olds [] j = tt
          olds (r ∷ rows) j = by (r.request.id == m.id) refl j (olds rows)
            where
              by : (b : Bool) → (r.request.id == m.id) ≡ b → (b || list_any (λ y. y.request.id == m.id) rows) ≡ false → (list_any (λ y. y.request.id == m.id) rows ≡ false → Each (λ y. (y.request.id == m.id) ≡ true → (y.k == x.op.k) ≡ false) rows) → ((r.request.id == m.id) ≡ true → (r.k == x.op.k) ≡ false) × Each (λ y. (y.request.id == m.id) ≡ true → (y.k == x.op.k) ≡ false) rows
              by true e i ih = absurd (let bad : true ≡ false = i in cc)
              by false e i ih = (λ k. absurd (let bad : false ≡ true = sym e ∙ k in cc), ih i)

      -- an Out under the message's identifier is for its own operation
      out_own : (q : ClientState) (rest : List ℕ) → Others q → has_row x q.rows ≡ true → has_row x (step_client s q (record { entry = record { part = Client p.number; at = at; what = what.Out m.id rest }; mark = None })).rows ≡ true
      out_own q rest others h = by (out_row x s q (Client p.number) at None m.id rest h)
        where
          by : (has_row x (step_client s q (record { entry = record { part = Client p.number; at = at; what = what.Out m.id rest }; mark = None })).rows ≡ true) ⊎ Outs x q m.id rest → has_row x (step_client s q (record { entry = record { part = Client p.number; at = at; what = what.Out m.id rest }; mark = None })).rows ≡ true
          by (inl k) = k
          by (inr o) =
              let one = last_each (λ r. (r.request.id == m.id) ≡ true → (r.k == x.op.k) ≡ false) (λ r. r.request.id == m.id) q.rows o.row others o.is in
              absurd (let bad : false ≡ true = sym (one.0 one.1) ∙ o.number in cc)

      others_out : (q : ClientState) (id : ℕ) (rest : List ℕ) → Others q → Others (step_client s q (record { entry = record { part = Client p.number; at = at; what = what.Out id rest }; mark = None }))
      others_out q id rest others = rows_behind s at None q (λ r. (r.request.id == m.id) ≡ true → (r.k == x.op.k) ≡ false) others (what.Out id rest) (λ n e k. absurd (no_in e)) (λ op u b y r e k j. absurd (no_choice e))
        where
          is_out : What → Bool
          is_out (what.Out i r) = true
          is_out _ = false

          no_in : {i : ℕ} {r : List ℕ} → what.Out id rest ≡ what.In i r → ⊥
          no_in e = let bad : true ≡ false = ap is_out e in absurd (cc)

          no_choice : {o : OpName} {a : Answer} → what.Out id rest ≡ what.Chosen o a → ⊥
          no_choice e = let bad : true ≡ false = ap is_out e in absurd (cc)

      refused_own : (q : ClientState) (which : Refusal) → Others q → has_row x q.rows ≡ true → has_row x (ledger_behind (step_client s) q (map (λ e. record { entry = e; mark = None }) (entries_of (Client p.number) at (refused m which)))).rows ≡ true
      refused_own q which others h = by (kind_of m.rest)
        where
          outs_of : Option OpKind → List What
          outs_of o = elim o [ None ↦ [] | Some kind ↦ what.Out m.id (refusal kind which) ∷ [] ]

          by : (o : Option OpKind) → has_row x (ledger_behind (step_client s) q (map (λ e. record { entry = e; mark = None }) (entries_of (Client p.number) at (outs_of o)))).rows ≡ true
          by None = h
          by (Some kind) = out_own q (refusal kind which) others h

      canceled_own : (q : ClientState) (which : CancelAnswer) (o : Option OpKind) → Others q → has_row x q.rows ≡ true → has_row x (ledger_behind (step_client s) q (map (λ e. record { entry = e; mark = None }) (entries_of (Client p.number) at (canceled m.id o which)))).rows ≡ true
      canceled_own q which None others h = h
      canceled_own q which (Some kind) others h = out_own q (cancel_answer kind which) others h

      -- a Cancel of a live operation
      cancels_it : (id : ℕ) (kind : OpKind) → (r : ClientRow) → find (λ q. may_be_canceled id (live_request q.request)) p.rows ≡ Some r → Kept None (what.In m.id m.rest ∷ what.Out id (cancel_answer kind C13) ∷ canceled m.id (kind_of m.rest) S1) (canceled_drop p id)
      cancels_it id kind r e = by (out_row x s came (Client p.number) at None id (cancel_answer kind C13) came_has)
        where
          next : ClientState
          next = step_client s came (record { entry = record { part = Client p.number; at = at; what = what.Out id (cancel_answer kind C13) }; mark = None })

          under : Outs x came id (cancel_answer kind C13) → mine.0.request.id ≡ id
          under o = any_split (λ y. y.request.id == id && y.k == x.op.k) p.rows (new_row s p m ∷ []) (mine_under id) late (subst (λ rows. list_any (λ y. y.request.id == id && y.k == x.op.k) rows ≡ true) came_rows (last_any (λ y. y.request.id == id) came.rows o.row (λ y. y.k == x.op.k) o.is o.number))
            where
              late : list_any (λ y. y.request.id == id && y.k == x.op.k) (new_row s p m ∷ []) ≡ true → mine.0.request.id ≡ id
              late k = or_elim (m.id == id && suc p.count == x.op.k) false (λ j. absurd (let bad : false ≡ true = sym new_other ∙ right (m.id == id) _ j in cc)) (λ j. absurd (let bad : false ≡ true = j in cc)) k

          by : (has_row x next.rows ≡ true) ⊎ Outs x came id (cancel_answer kind C13) → Kept None (what.In m.id m.rest ∷ what.Out id (cancel_answer kind C13) ∷ canceled m.id (kind_of m.rest) S1) (canceled_drop p id)
          by (inl h) = inl (canceled_own next S1 (kind_of m.rest) (others_out came id (cancel_answer kind C13) came_others) h)
          by (inr o) =
              let passed : (r.request.id == id && not (is_bind_row r)) ≡ true = found_passes (λ q. may_be_canceled id (live_request q.request)) p.rows r e in
              let same : r ≡ mine.0 = of_identifier (λ q. may_be_canceled id (live_request q.request)) r e (same_number r.request.id id (left (r.request.id == id) _ passed) ∙ sym (under o)) in
              inr (ap (λ y. is_dropped x (elim y [ None ↦ [] | Some q ↦ drop_of p q ])) e ∙ one_drop x p own r (ap (went_as x) same ∙ mine_is))

    free_so : is_end (check_at s p m) ≡ false → makes_operation m ≡ true → list_any (λ r. r.request.id == m.id) p.rows ≡ false
    free_so e makes = not_true (list_any (λ r. r.request.id == m.id) p.rows) (ap (λ b. elim (put b) [ None ↦ true | Some y ↦ not (list_any (λ r. r.request.id == y.id) p.rows) ]) (sym makes) ∙ free_by s p m e)
      where
        put : Bool → Option Message
        put b = elim b [ true ↦ Some (record { id = m.id; rest = m.rest }) | false ↦ None ]

    made : (k : Check) → check_at s p m ≡ k → is_operating k ≡ true → makes_operation m ≡ true
    made k e o = (operates s (facts_of p) m (ap is_operating e ∙ o)).makes

    -- an Abandon
    abandons_it : (id : ℕ) → check_at s p m ≡ Abandons id → Kept None (what.In m.id m.rest ∷ []) (abandoned_drop p m)
    abandons_it id e = by (abandons m mine.0) refl
      where
        is : Abandoned m id
        is = abandoned s (facts_of p) m id e

        rows_are : (stepped None (what.In m.id m.rest)).rows ≡ filter (λ r. not (abandons m r)) p.rows
        rows_are = ap (λ b. (in_state s at p m b (is_request_of Bind m)).rows) is.makes

        id_of : (r : ClientRow) → abandons m r ≡ true → id ≡ r.request.id
        id_of r h = same_number id r.request.id (sym (ap (abandons_id r.request.id) is.is) ∙ right (not (m.id == 0) && not (is_bind_row r)) _ h)

        by : (b : Bool) → abandons m mine.0 ≡ b → Kept None (what.In m.id m.rest ∷ []) (abandoned_drop p m)
        by false k = inl (ap (has_row x) rows_are ∙ any-filter (went_as x) (λ r. not (abandons m r)) p.rows ∙ found_any (went_as x) (λ r. not (abandons m r) && went_as x r) p.rows mine.0 mine.1 (both (not (abandons m mine.0)) _ (ap not k) mine_is))
        by true k =
            let one = any_found (abandons m) p.rows (found_any (went_as x) (abandons m) p.rows mine.0 mine.1 k) in
            let same : one.0 ≡ mine.0 = of_identifier (abandons m) one.0 one.1 (sym (id_of one.0 (found_passes (abandons m) p.rows one.0 one.1)) ∙ id_of mine.0 k) in
            inr (ap (λ y. is_dropped x (elim y [ None ↦ [] | Some q ↦ drop_of p q ])) one.1 ∙ one_drop x p own one.0 (ap (went_as x) same ∙ mine_is))

    pub checked : (k : Check) → check_at s p m ≡ k → Kept None (what.In m.id m.rest ∷ whats_by m k) (letters_by s p at m k)
    checked (Ends why) e = inr (in_closing x p own has)
    checked Unbinds e = inr (in_closing x p own has)
    checked (Abandons id) e = abandons_it id e
    checked (Refuses which) e = by (is_request_of Bind m) refl
      where
        by : (b : Bool) → is_request_of Bind m ≡ b → Kept None (what.In m.id m.rest ∷ refused m which) (letters_by s p at m (Refuses which))
        by true k = inr (ap (λ d. is_dropped x (elim d [ true ↦ endings p | false ↦ [] ])) k ∙ in_endings x p own has)
        by false k =
            let makes = made (Refuses which) e refl in
            let free = free_so (ap is_end e) makes in
            inl (refused_own makes k free came which (came_others makes k free) (came_has makes k free))
    checked (Answers which) e =
        let makes = made (Answers which) e refl in
        let plain : is_request_of Bind m ≡ false = ext_plain m (answers_ext s (facts_of p) m (ap is_answering e)) in
        let free = free_so (ap is_end e) makes in
        inl (canceled_own makes plain free came which (kind_of m.rest) (came_others makes plain free) (came_has makes plain free))
    checked (Cancels id kind) e =
        let makes = made (Cancels id kind) e refl in
        let named = (cancel_named s (facts_of p) m id kind e).0 in
        let plain : is_request_of Bind m ≡ false = ext_plain m named.ext in
        let free = free_so (ap is_end e) makes in
        let one = find_live (may_be_canceled id) p.rows named.one.request named.one.found in
        cancels_it makes plain free id kind one.0 one.1.0
    checked GoesOn e = by (is_request_of Bind m) refl
      where
        by : (b : Bool) → is_request_of Bind m ≡ b → Kept None (what.In m.id m.rest ∷ []) (letters_by s p at m GoesOn)
        by true k = inr (ap (λ d. is_dropped x (elim d [ true ↦ binds s p at m | false ↦ asks s p at m ])) k ∙ drop_before x (drops p) _ (in_drops x p own has))
        by false k = let makes = made GoesOn e refl in inl (came_has makes k (free_so (ap is_end e) makes))

  -- A choice, of another operation.
  pub chosen : (op : OpName) (a : Answer) (mark : Option Taken) → same_op x.op op ≡ false → has_row x (ledger_behind (step_client s) p (client_turn_of p.number at mark (what.Chosen op a ∷ whats_for (row_named p op) a))).rows ≡ true
  chosen op (Go v b) mark other = by (row_named p op)
    where
      state : Option ClientRow → ClientState
      state o = elim o [ None ↦ p | Some r ↦ with_connection v b p r ]

      rows : (o : Option ClientRow) → has_row x (state o).rows ≡ true
      rows None = has
      rows (Some r) = found_map (went_as x) (went_as x) (forwarded r.k v) p.rows mine.0 mine.1 (forwarded_as x r.k v mine.0 mine_is)

      by : (o : Option ClientRow) → has_row x (ledger_behind (step_client s) (stepped mark (what.Chosen op (Go v b))) (rest_of (whats_for o (Go v b)))).rows ≡ true
      by None = rows (row_named p op)
      by (Some r) = rows (row_named p op)
  chosen op Busy mark other = by (row_named p op) refl
    where
      by : (o : Option ClientRow) → row_named p op ≡ o → has_row x (ledger_behind (step_client s) (stepped mark (what.Chosen op Busy)) (rest_of (whats_for o Busy))).rows ≡ true
      by None e = has
      by (Some r) e = kinds (kind_of r.request.rest)
        where
          outs_of : Option OpKind → List What
          outs_of o = elim o [ None ↦ [] | Some kind ↦ what.Out r.request.id (refusal kind C1) ∷ [] ]

          kinds : (o : Option OpKind) → has_row x (ledger_behind (step_client s) (stepped mark (what.Chosen op Busy)) (rest_of (outs_of o))).rows ≡ true
          kinds None = has
          kinds (Some kind) = out_named op r e (refusal kind C1) (stepped mark (what.Chosen op Busy)) refl None (λ i f. sym other ∙ i)
  chosen op Unavailable mark other = by (row_named p op) refl
    where
      by : (o : Option ClientRow) → row_named p op ≡ o → has_row x (ledger_behind (step_client s) (stepped mark (what.Chosen op Unavailable)) (rest_of (whats_for o Unavailable))).rows ≡ true
      by None e = has
      by (Some r) e = kinds (kind_of r.request.rest)
        where
          outs_of : Option OpKind → List What
          outs_of o = elim o [ None ↦ [] | Some kind ↦ what.Out r.request.id (refusal kind C3) ∷ [] ]

          kinds : (o : Option OpKind) → has_row x (ledger_behind (step_client s) (stepped mark (what.Chosen op Unavailable)) (rest_of (outs_of o))).rows ≡ true
          kinds None = has
          kinds (Some kind) = out_named op r e (refusal kind C3) (stepped mark (what.Chosen op Unavailable)) refl None (λ i f. sym other ∙ i)
