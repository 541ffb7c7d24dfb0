-- Where nothing waits, each upstream was told of what its client ended: an operation with a row at a regular connection is
-- expected by its client, and has a row there, so that it is live, or its Drop was given and taken.
use Rattle.std.proofs.Common.{◌≡◌, ◌⊎◌, inl, inr, ℕ, arith, Bool, true, false, ◌==◌, ◌&&◌, ◌||◌, not, if◌then◌else◌, List, [], ◌∷◌, length, refl, ap, ◌∙◌, sym, subst}
use Rattle.std.specs.Prelude.{Option, Some, None, cond, find, is_none, map}
use Rattle.std.specs.List.{list_all, list_any}
use Rattle.std.proofs.lemmas.List.Folds.{list_all-append}
use Rattle.ldap_spec.specs.Kinds.{kind_of, same_kind}
use Rattle.lload_names.specs.declared.names.ConnKind.TheVariants.{Regular, Bind as BindKind}
use Rattle.lload_names.specs.declared.names.Entry.{Entry}
use Rattle.lload_names.specs.declared.names.OpKind.TheVariants.{Bind}
use Rattle.lload_names.specs.declared.names.PartName.TheVariants.{Client, Up as Connection}
use Rattle.lload_spec.specs.Answers.{Sending, is_open, of_operation, sendings, sendings_at}
use Rattle.lload_spec.specs.Binding.{kind_wanted}
use Rattle.lload_spec.specs.Caused.{check_of}
use Rattle.lload_spec.specs.FirstCheck.{lets_go_on}
use Rattle.lload_spec.specs.Journal.{Family, same_op, same_part}
use Rattle.lload_spec.specs.Lists.{implies, passes}
use Rattle.lload_spec.specs.Operations.{Ending, Operation, ending, is_by_client, is_ended_by_client, is_live, is_of, is_request_of, live_operations, operation, operation_in, operations}
use Rattle.lload_spec.specs.Owed.{is_open_at}
use Rattle.lload_spec.specs.Settings.{Settings, is_of_kind}
use Rattle.lload_spec.specs.Settled.{is_told_upstream}
use Rattle.lload_spec.specs.Strict.{is_sent_rightly}
use Rattle.lload_spec.proofs.Growth.{both, left, right}
use Rattle.lload_laws.proofs.ListLaws.{any-map, any_imply, found, found_passes, implies_by}
use Rattle.lload_laws.specs.ClientGrowth.{is_named_within}
use Rattle.part_laws.proofs.ListLaws.{eq_eqb, false_by, not_true, or_elim, or_left, or_right, same_number, same_op_eq, same_op_refl, same_op_sym}
use Rattle.part_spec.specs.ClientState.{ClientRow}
use Rattle.part_spec.specs.ConnectionState.{UpRow}
use Rattle.part_spec.specs.Fit.{Expected, is_drop_of}
use Rattle.part_spec.specs.Gives.{gives}
use Rattle.part_spec.specs.Marked.{entries}
use Rattle.part_spec.specs.Merge.{PartMove, world_of}
use Rattle.part_spec.specs.World.{World, list_in}
use Rattle.client_answer_laws.proofs.Each.{Each, each_both, each_filter, each_found, each_imply}
use Rattle.client_answer_laws.proofs.Waits.{named_each}
use Rattle.joined_laws.proofs.Begun.{own_client}
use Rattle.forward_laws.proofs.Ops.{own_found}
use Rattle.forward_laws.proofs.Sendings.{each_sending}
use Rattle.client_moves_laws.proofs.Lists.{find_each}
use Rattle.carried_laws.specs.Laws.{Played}
use Rattle.settled_laws.specs.Laws.{Rested}
use Rattle.rows_laws.specs.Laws.{RowsAreOpen, are_open_sents, is_row_of}
use Rattle.move_laws.specs.World as machine
use Rattle.move_laws.specs.World.{at}
use Rattle.move_laws.specs.Counts.{num}
use Rattle.move_laws.proofs.Appends.{num_le, num_true}
use Rattle.stands_laws.specs.Books.{Book, name}
use Rattle.stands_laws.specs.ClientStands.{expected_at}
use Rattle.stands_laws.specs.RegularStands.{RegularIs, RegularRows, RowIs}
use Rattle.stands_laws.specs.WorldStands.{client_ledger_in, connection_ledger_in, stands_by}
use Rattle.fitness_laws.proofs.WorldTurns.{Standing}
use Rattle.expect_laws.specs.Laws.{EachRowedOrDropped, has_row, is_dropped, went_as}
use Rattle.run_laws.specs.Runs.{family_of_run}
use Rattle.rest_laws.specs.Laws.{DroppedAreOver}
use Rattle.rest_laws.proofs.Dealt.{numbers_are}
use Rattle.expect_laws.proofs.Rows.{any_found}
use Rattle.rest_laws.proofs.Retired.{serves_none, state_is}
use Rattle.rest_laws.proofs.Standing.{book, stood}

-- what holds of the one that is found
abbrev Live : ℕ → List Entry → Operation → Type 0
Live c place q = ((operation_in c place q.name ≡ Some q) × (q.name.client ≡ c)) × (is_live q ≡ true)

live_known : (c : ℕ) (place : List Entry) → Each (Live c place) (live_operations c place)
live_known c place = each_filter (λ q. (operation_in c place q.name ≡ Some q) × (q.name.client ≡ c)) (Live c place) is_live (operations c place) (λ q live k. (k, live)) (each_both (λ q. operation_in c place q.name ≡ Some q) (λ q. q.name.client ≡ c) (operations c place) (own_found c place) (each_imply (λ q. is_named_within c (length (operations c place)) q ≡ true) (λ q. q.name.client ≡ c) (operations c place) (own_client c (length (operations c place))) (named_each c place)))

any_op : (t : Operation → Bool) (os : List Operation) → list_any t os ≡ true → (q : Operation) × (find t os ≡ Some q)
any_op t [] h = absurd (let bad : false ≡ true = h in cc)
any_op t (y ∷ ys) h = by (t y) h (any_op t ys)
  where
    by : (b : Bool) → (b || list_any t ys) ≡ true → (list_any t ys ≡ true → (q : Operation) × (find t ys ≡ Some q)) → (q : Operation) × (cond b (Some y) (find t ys) ≡ Some q)
    by true k ih = (y, refl)
    by false k ih = ih k

-- each Sent is among them
each_member : (xs : List Sending) → Each (λ x. (t : Sending → Bool) → t x ≡ true → list_any t xs ≡ true) xs
each_member [] = tt
each_member (x ∷ xs) = (λ t h. or_left (t x) _ h, each_imply (λ y. (t : Sending → Bool) → t y ≡ true → list_any t xs ≡ true) (λ y. (t : Sending → Bool) → t y ≡ true → list_any t (x ∷ xs) ≡ true) xs (λ y f t h. or_right (t x) _ (f t h)) (each_member xs))

module _ (s : Settings) (ms : List PartMove) (played : Played s (family_of_run s ms) (list_in (world_of s ms))) (rested : Rested s (family_of_run s ms) (list_in (world_of s ms))) (rest : (world_of s ms).letters ≡ []) (expects : EachRowedOrDropped) (dropped_over : DroppedAreOver) where
  abbrev F : Family
  F = family_of_run s ms

  abbrev w : World
  w = world_of s ms

  abbrev b : Book
  b = book s ms

  standing : Standing s (book s ms) (world_of s ms)
  standing = (stood s ms).standing

  -- An operation with a row at a regular connection.
  module _ (c k u : ℕ) (kind : is_of_kind s Regular u ≡ true) (there : list_any (λ r. same_op (name c k) r.op) (connection_ledger_in s (world_of s ms) u).state.rows ≡ true) where
    abbrev x : machine.Client
    x = standing.model.clients c

    abbrev v : machine.Conn
    v = standing.model.conns u

    abbrev e : Expected
    e = expected_at b c k u

    regular : RegularIs s (book s ms) u (connection_ledger_in s (world_of s ms) u) (standing.model.conns u)
    regular = subst (λ t. stands_by t s b u (connection_ledger_in s w u) v) (serves_none s u kind) (standing.stands.conns u)

    rows : RegularRows (book s ms) (connection_ledger_in s (world_of s ms) u).state (standing.model.conns u)
    rows = by (connection_ledger_in s w u).state.down refl
      where
        by : (d : Bool) → (connection_ledger_in s w u).state.down ≡ d → RegularRows b (connection_ledger_in s w u).state v
        by false i = regular.stands.stands i
        by true i = absurd (let bad : false ≡ true = sym (ap (list_any (λ r. same_op (name c k) r.op)) (regular.stands.fallen i).rows) ∙ there in cc)

    taken_row : (standing.model.conns u).rows c k ≡ true
    taken_row = sym (rows.ops c k) ∙ there

    given_so : at ((standing.model.clients c).given k) u ≡ true
    given_so =
        let routed = (standing.holds.routed c k u).routed in
        let sent = routed.sent in
        let one = routed.one in
        let row : num (v.rows c k) ≡ 1 = ap num taken_row in
        let below = num_le (at (x.given k) u) in
        num_true (at (x.given k) u) (omega (arith, sent, one, row, below))

    not_closed : (standing.model.clients c).closed k u ≡ false
    not_closed =
        let routed = (standing.holds.routed c k u).routed in
        let one = routed.one in
        let told = routed.told in
        let row : num (v.rows c k) ≡ 1 = ap num taken_row in
        let below = num_le (v.taken c k) in
        by (x.closed k u) refl (omega (arith, one, told, row, below))
      where
        by : (d : Bool) → (standing.model.clients c).closed k u ≡ d → num ((standing.model.clients c).closed k u) ≡ 0 → d ≡ false
        by false i j = refl
        by true i j = absurd (let one : num ((standing.model.clients c).closed k u) ≡ 1 = ap num i in let bad : 1 ≡ 0 = sym one ∙ j in cc)

    expected_is : find (λ y. same_op (name c k) y.op && same_part (Connection u) (Connection y.connection)) (client_ledger_in s (world_of s ms) c).expected ≡ Some (expected_at (book s ms) c k u)
    expected_is =
        (standing.stands.clients c).stands.expected k u
        ∙ ap (λ t. if t && not (x.closed k u) then Some e else None) given_so
        ∙ ap (λ t. if true && not t then Some e else None) not_closed

    -- it isn't a Bind
    plain : is_request_of Bind ((book s ms).request c k) ≡ false
    plain =
        let one = any_found (λ r. same_op (name c k) r.op) (connection_ledger_in s w u).state.rows there in
        let row = find_each (RowIs b (connection_ledger_in s w u).state.ids.next) (λ r. same_op (name c k) r.op) (connection_ledger_in s w u).state.rows one.0 rows.each one.1 in
        let same : name c k ≡ one.0.op = same_op_eq (name c k) one.0.op row.1 in
        ap (λ n. passes (same_kind Bind) (kind_of (b.request n.client n.k).rest)) same ∙ ap (passes (same_kind Bind)) row.0.kind ∙ row.0.plain

    -- so its client has its row, or its Drop was given
    fate : (has_row (expected_at (book s ms) c k u) (client_ledger_in s (world_of s ms) c).state.rows ≡ true) ⊎ (is_dropped (expected_at (book s ms) c k u) (gives s (Client c) (list_in (world_of s ms) (Client c))) ≡ true)
    fate = by (is_request_of Bind (b.request c k)) plain (found (λ y. is_request_of Bind y.request || has_row y (client_ledger_in s w c).state.rows || is_dropped y (gives s (Client c) (list_in w (Client c)))) (λ y. same_op (name c k) y.op && same_part (Connection u) (Connection y.connection)) (client_ledger_in s w c).expected e expected_is (expects s F (list_in w) played c))
      where
        of : (has_row e (client_ledger_in s w c).state.rows || is_dropped e (gives s (Client c) (list_in w (Client c)))) ≡ true → (has_row e (client_ledger_in s w c).state.rows ≡ true) ⊎ (is_dropped e (gives s (Client c) (list_in w (Client c))) ≡ true)
        of h = or_elim (has_row e (client_ledger_in s w c).state.rows) (is_dropped e (gives s (Client c) (list_in w (Client c)))) (λ i. inl i) (λ i. inr i) h

        by : (d : Bool) → d ≡ false → (d || has_row e (client_ledger_in s w c).state.rows || is_dropped e (gives s (Client c) (list_in w (Client c)))) ≡ true → (has_row e (client_ledger_in s w c).state.rows ≡ true) ⊎ (is_dropped e (gives s (Client c) (list_in w (Client c))) ≡ true)
        by false i h = of h
        by true i h = absurd (let bad : true ≡ false = i in cc)

    -- it is live, or isn't open there
    live_or_over : (list_any (λ o. o.name.k == k) (live_operations c ((family_of_run s ms).client c)) ≡ true) ⊎ (is_open_at s (family_of_run s ms) u ((family_of_run s ms).connection u) (name c k) ≡ false)
    live_or_over = by fate
      where
        live : has_row e (client_ledger_in s w c).state.rows ≡ true → list_any (λ o. o.name.k == k) (live_operations c (F.client c)) ≡ true
        live h =
            let numbered : list_any (λ n. n == k) (map (λ r. r.k) (client_ledger_in s w c).state.rows) ≡ true = any-map (λ n. n == k) (λ (r : ClientRow). r.k) (client_ledger_in s w c).state.rows ∙ any_imply (went_as e) (λ r. r.k == k) (client_ledger_in s w c).state.rows (λ r i. left (r.k == k) _ i) h in
            sym (any-map (λ n. n == k) (λ (o : Operation). o.name.k) (live_operations c (F.client c))) ∙ subst (λ es. list_any (λ n. n == k) (map (λ o. o.name.k) (live_operations c es)) ≡ true) (played.joined.shared.same_entries (Client c)) (ap (list_any (λ n. n == k)) (sym (numbers_are s ms played rest c)) ∙ numbered)

        over : is_dropped e (gives s (Client c) (list_in w (Client c))) ≡ true → is_open_at s F u (F.connection u) (name c k) ≡ false
        over h = dropped_over s F (list_in w) played u kind (name c k) (subst (λ l. list_any (is_drop_of (name c k)) l ≡ true) (sym (rested.all_taken (Client c) (Connection u))) h)

        by : (has_row e (client_ledger_in s w c).state.rows ≡ true) ⊎ (is_dropped e (gives s (Client c) (list_in w (Client c))) ≡ true) → (list_any (λ o. o.name.k == k) (live_operations c (F.client c)) ≡ true) ⊎ (is_open_at s F u (F.connection u) (name c k) ≡ false)
        by (inl h) = inl (live h)
        by (inr h) = inr (over h)

  -- The Sents of a connection.
  module _ (u : ℕ) (open_rows : is_of_kind s Regular u ≡ true → RowsAreOpen s (family_of_run s ms) u (list_in (world_of s ms) (Connection u))) where
    abbrev sents : List Sending
    sents = sendings u (F.connection u)

    -- one that is open has a row
    row_of_open : is_of_kind s Regular u ≡ true → (y : Sending) → ((t : Sending → Bool) → t y ≡ true → list_any t (sendings u ((family_of_run s ms).connection u)) ≡ true) → of_operation (family_of_run s ms) (is_open s) y ≡ true → list_any (λ r. same_op y.op r.op) (connection_ledger_in s (world_of s ms) u).state.rows ≡ true
    row_of_open kind y member still =
        let state = state_is s ms u in
        let sound : are_open_sents s F u (F.connection u) (connection_ledger_in s w u).state.rows ≡ true = subst (λ es. are_open_sents s F u es (connection_ledger_in s w u).state.rows ≡ true) (played.joined.shared.same_entries (Connection u)) (subst (λ q. are_open_sents s F u (entries (list_in w (Connection u))) q.rows ≡ true) (sym state) (open_rows kind).behind_all) in
        let each = right (list_all (λ r. list_any (is_row_of s F r) (sendings u (F.connection u))) (connection_ledger_in s w u).state.rows) _ sound in
        by (list_any (λ r. is_row_of s F r y) (connection_ledger_in s w u).state.rows) refl each
      where
        rows_of : List UpRow
        rows_of = (connection_ledger_in s (world_of s ms) u).state.rows

        none : (q : Sending → Bool) (xs : List Sending) → list_all q xs ≡ true → list_any (λ z. not (q z)) xs ≡ false
        none q [] h = refl
        none q (z ∷ xs) h = ap (λ d. not d || list_any (λ i. not (q i)) xs) (left (q z) _ h) ∙ none q xs (right (q z) _ h)

        by : (d : Bool) → list_any (λ r. is_row_of s F r y) (connection_ledger_in s w u).state.rows ≡ d → list_all (λ z. implies (of_operation F (is_open s) z) (list_any (λ r. is_row_of s F r z) (connection_ledger_in s w u).state.rows)) (sendings u (F.connection u)) ≡ true → list_any (λ r. same_op y.op r.op) (connection_ledger_in s w u).state.rows ≡ true
        by true i h = any_imply (λ r. is_row_of s F r y) (λ r. same_op y.op r.op) (connection_ledger_in s w u).state.rows (λ r j. same_op_sym y.op r.op ∙ left (same_op r.op y.op) _ (left (same_op r.op y.op && y.id == r.id) _ (left (same_op r.op y.op && y.id == r.id && y.at == r.sent) _ j))) i
        by false i h =
            let fails : not (implies (of_operation F (is_open s) y) (list_any (λ r. is_row_of s F r y) rows_of)) ≡ true = ap (λ t. not (implies t (list_any (λ r. is_row_of s F r y) rows_of))) still ∙ ap (λ t. not (implies true t)) i in
            absurd (let bad : false ≡ true = sym (none (λ z. implies (of_operation F (is_open s) z) (list_any (λ r. is_row_of s F r z) rows_of)) (sendings u (F.connection u)) h) ∙ member (λ z. not (implies (of_operation F (is_open s) z) (list_any (λ r. is_row_of s F r z) rows_of))) fails in cc)

    told_one : (y : Sending) → ((t : Sending → Bool) → t y ≡ true → list_any t (sendings u ((family_of_run s ms).connection u)) ≡ true) → y.connection ≡ u → of_operation (family_of_run s ms) (is_sent_rightly s (family_of_run s ms)) y ≡ true → of_operation (family_of_run s ms) (is_told_upstream s) y ≡ true
    told_one y member here rightly = by (operation F y.op) refl rightly
      where
        one : (o : Operation) → operation F y.op ≡ Some o → is_sent_rightly s F o y ≡ true → is_told_upstream s o y ≡ true
        one o f k = implies_by (is_ended_by_client o && not (is_of Bind o)) (not (is_open s o y)) (λ g. ap not (false_by (is_open s o y) (λ still. clash (left (is_ended_by_client o) _ g) (right (is_ended_by_client o) _ g) still)))
          where
            clash : is_ended_by_client o ≡ true → not (is_of Bind o) ≡ true → is_open s o y ≡ true → false ≡ true
            clash ended other still = of (live_or_over y.op.client y.op.k u kind (row_of_open kind y member opened))
              where
                placed : is_of_kind s (kind_wanted o.request) y.connection ≡ true
                placed = right (lets_go_on (check_of s F o)) _ (left (lets_go_on (check_of s F o) && is_of_kind s (kind_wanted o.request) y.connection) _ k)

                kind : is_of_kind s Regular u ≡ true
                kind = subst (λ n. is_of_kind s Regular n ≡ true) here (ap (λ d. is_of_kind s (if d then BindKind else Regular) y.connection) (sym (not_true (is_of Bind o) other)) ∙ placed)

                opened : of_operation F (is_open s) y ≡ true
                opened = ap (passes (λ z. is_open s z y)) f ∙ still

                of : (list_any (λ z. z.name.k == y.op.k) (live_operations y.op.client (F.client y.op.client)) ≡ true) ⊎ (is_open_at s F u (F.connection u) (name y.op.client y.op.k) ≡ false) → false ≡ true
                of (inl h) =
                    let found_one = any_op (λ z. z.name.k == y.op.k) (live_operations y.op.client (F.client y.op.client)) h in
                    let q = each_found (Live y.op.client (F.client y.op.client)) (λ z. z.name.k == y.op.k) (live_operations y.op.client (F.client y.op.client)) found_one.0 found_one.1 (live_known y.op.client (F.client y.op.client)) in
                    let number : found_one.0.name.k ≡ y.op.k = same_number found_one.0.name.k y.op.k (found_passes (λ z. z.name.k == y.op.k) (live_operations y.op.client (F.client y.op.client)) found_one.0 found_one.1) in
                    let named : found_one.0.name ≡ y.op = (λ i. name (q.0.1 i) (number i)) in
                    let same : Some found_one.0 ≡ Some o = sym q.0.0 ∙ ap (operation_in y.op.client (F.client y.op.client)) named ∙ f in
                    let one_op : found_one.0 ≡ o = cc in
                    live_ended o (subst (λ z. is_live z ≡ true) one_op q.1) ended
                  where
                    live_ended : (z : Operation) → is_live z ≡ true → is_ended_by_client z ≡ true → false ≡ true
                    live_ended z = go (ending z)
                      where
                        go : (n : Option Ending) → is_none n ≡ true → passes is_by_client n ≡ true → false ≡ true
                        go None i j = j
                        go (Some m) i j = i
                of (inr h) = sym h ∙ member (λ z. same_op y.op z.op && of_operation F (is_open s) z) (both (same_op y.op y.op) _ (same_op_refl y.op) opened)

        by : (o : Option Operation) → operation F y.op ≡ o → passes (λ z. is_sent_rightly s F z y) o ≡ true → passes (λ z. is_told_upstream s z y) o ≡ true
        by None f k = absurd (let bad : false ≡ true = k in cc)
        by (Some o) f k = one o f k

    told_each : (xs : List Sending) → Each (λ y. (t : Sending → Bool) → t y ≡ true → list_any t (sendings u ((family_of_run s ms).connection u)) ≡ true) xs → list_all (λ y. y.connection == u) xs ≡ true → list_all (of_operation (family_of_run s ms) (is_sent_rightly s (family_of_run s ms))) xs ≡ true → list_all (of_operation (family_of_run s ms) (is_told_upstream s)) xs ≡ true
    told_each [] h k g = refl
    told_each (y ∷ xs) h k g = both (of_operation F (is_told_upstream s) y) _ (told_one y h.0 (same_number y.connection u (left (y.connection == u) _ k)) (left (of_operation F (is_sent_rightly s F) y) _ g)) (told_each xs h.1 (right (y.connection == u) _ k) (right (of_operation F (is_sent_rightly s F) y) _ g))

  pub told_at : ((u : ℕ) → is_of_kind s Regular u ≡ true → RowsAreOpen s (family_of_run s ms) u (list_in (world_of s ms) (Connection u))) → (us : List ℕ) → list_all (of_operation (family_of_run s ms) (is_sent_rightly s (family_of_run s ms))) (sendings_at (family_of_run s ms) us) ≡ true → list_all (of_operation (family_of_run s ms) (is_told_upstream s)) (sendings_at (family_of_run s ms) us) ≡ true
  told_at open_rows [] g = refl
  told_at open_rows (u ∷ us) g =
      let parts : (list_all (of_operation F (is_sent_rightly s F)) (sendings u (F.connection u)) && list_all (of_operation F (is_sent_rightly s F)) (sendings_at F us)) ≡ true = sym (list_all-append (of_operation F (is_sent_rightly s F)) (sendings u (F.connection u)) (sendings_at F us)) ∙ g in
      list_all-append (of_operation F (is_told_upstream s)) (sendings u (F.connection u)) (sendings_at F us)
      ∙ both (list_all (of_operation F (is_told_upstream s)) (sendings u (F.connection u))) _
      (told_each u (open_rows u) (sendings u (F.connection u)) (each_member (sendings u (F.connection u))) (each_sending u (λ y. y.connection == u) [] (F.connection u) (λ y i j. eq_eqb y.connection u i)) (left (list_all (of_operation F (is_sent_rightly s F)) (sendings u (F.connection u))) _ parts))
      (told_at open_rows us (right (list_all (of_operation F (is_sent_rightly s F)) (sendings u (F.connection u))) _ parts))
