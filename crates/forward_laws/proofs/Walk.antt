-- A client's list, from entry to entry: what is known there, and the cause of each Forward that the list gives.
use Rattle.std.proofs.Common.{◌≡◌, inl, inr, ℕ, suc, Bool, true, false, ◌==◌, ◌&&◌, not, List, [], ◌∷◌, ◌++◌, length, append_assoc, refl, ap, arith, ◌∙◌, sym, subst}
use Rattle.std.specs.Prelude.{Option, Some, None, nat_le, nat_lt}
use Rattle.std.specs.List.{list_any}
use Rattle.std.proofs.lemmas.Bool.{le-leb}
use Rattle.ldap_spec.specs.Kinds.{kind_of}
use Rattle.ldap_spec.specs.Messages.{Message}
use Rattle.lload_names.specs.declared.names.Answer.{Answer}
use Rattle.lload_names.specs.declared.names.Entry.{Entry}
use Rattle.lload_names.specs.declared.names.OpKind.{OpKind}
use Rattle.lload_names.specs.declared.names.OpKind.TheVariants.{Bind}
use Rattle.lload_names.specs.declared.names.OpName.{OpName}
use Rattle.lload_names.specs.declared.names.PartName.TheVariants.{Up as Connection}
use Rattle.lload_names.specs.declared.names.What.TheVariants as what
use Rattle.lload_spec.specs.Entries.{chosen, goes_to, is_choice_of, operation_message}
use Rattle.lload_spec.specs.Journal.{same_op}
use Rattle.lload_spec.specs.Lists.{passes}
use Rattle.lload_spec.specs.Fifo.{is_in_progress}
use Rattle.lload_spec.specs.Operations.{Operation, operations, operation_in, live_operations, is_live, is_live_at, is_of, is_request_of, last_bind}
use Rattle.lload_spec.specs.Settings.{Settings}
use Rattle.lload_spec.proofs.Growth.{left, right, both}
use Rattle.lload_laws.specs.ClientGrowth.{new_operation, is_named_within}
use Rattle.lload_laws.proofs.ClientGrowth.{own_names}
use Rattle.lload_laws.proofs.ListLaws.{found_passes}
use Rattle.part_laws.proofs.ListLaws.{any_split, eq_eqb, same_number, same_op_eq, same_op_refl}
use Rattle.part_spec.specs.ClientState.{empty_client, step_client}
use Rattle.part_spec.specs.Fit.{ClientLedger, empty_client_ledger, step_client_ledger, fits_client, are_fit_from, is_unfit, is_last_by, expected_behind}
use Rattle.part_spec.specs.Gives.{client_letters, client_gives}
use Rattle.part_spec.specs.Marked.{Marked, Taken, entries}
use Rattle.client_laws.proofs.ClientClauses.{Says, says_more, nothing_kept}
use Rattle.client_laws.proofs.ClientTurns.{count_more}
use Rattle.client_laws.proofs.KindsKept.{carried_kind}
use Rattle.client_laws.proofs.Matches.{Match}
use Rattle.client_answer_laws.proofs.Asks.{AsksKnown, asks_behind, going_makes}
use Rattle.client_answer_laws.proofs.Each.{Each, each_filter, each_found}
use Rattle.client_answer_laws.proofs.Expects.{ExpectKnown, expected_known}
use Rattle.client_answer_laws.proofs.Waits.{RowKnown, rows_known, IsOf}
use Rattle.joined_laws.proofs.Begun.{is_begun, is_live_named, live_named, of_row}
use Rattle.joined_laws.proofs.Taken.{is_fit_there, is_mark_from}
use Rattle.joined_laws.proofs.Walks.{Begins, Begun}
use Rattle.fifo_laws.proofs.Givings.{was_asked}
use Rattle.fifo_laws.proofs.Quiet.{is_reply_of}
use Rattle.forward_laws.proofs.Binds.{ExchangeAt}
use Rattle.forward_laws.proofs.Causes.{Cause, cause_more, is_live_choice, is_sent_there, is_step_from, letters_hit, some_last, Pinned, WasChosen}
use Rattle.forward_laws.proofs.Exchange.{Going}
use Rattle.forward_laws.proofs.Ops.{bind_number, number_of, new_found, operation_later, LaterOperation}
use Rattle.forward_laws.proofs.Outs.{last_passing, each_of}
use Rattle.forward_laws.proofs.Steps.{exchange_more}

-- what is known at a place of a client's list
pub record Stands (s : Settings) (c : ℕ) (place : List Entry) (b : List Marked) (l : ClientLedger) : Type 0 where
  says : Says c place l.state
  count : l.state.count ≡ length (operations c place)
  asks : AsksKnown c place l.state.asked
  rows : Each (RowKnown s c place) l.state.rows
  expected : Each (ExpectKnown s c place) l.expected
  exchange : ExchangeAt c place b l

-- the number of the last Bind is one of the operations'
bind_within : (c : ℕ) (place : List Entry) → nat_le (bind_number c place) (length (operations c place)) ≡ true
bind_within c place = by (last_bind c place) refl
  where
    by : (o : Option Operation) → last_bind c place ≡ o → nat_le (number_of o) (length (operations c place)) ≡ true
    by None e = le-leb 0 (length (operations c place)) (omega arith)
    by (Some q) e = right (q.name.client == c && nat_lt 0 q.name.k) _ (last_passing (λ o. is_named_within c (length (operations c place)) o ≡ true) (is_of Bind) (operations c place) q e (each_of (is_named_within c (length (operations c place))) (operations c place) (own_names c place))).0

module _ (s : Settings) (c : ℕ) where
  -- an entry stands behind
  stands_more : (place : List Entry) (b : List Marked) (l : ClientLedger) (m : Marked) → Stands s c place b l → ((op : OpName) (a : Answer) → m.entry.what ≡ what.Chosen op a → list_any (λ x. same_op op x.op) l.state.asked ≡ true) → (is_begun m.entry.what ≡ true → Begins c place l.state m) → ((t : Taken) → m.mark ≡ Some t → fits_client s l t.sender t.letter ≡ true) → Stands s c (place ++ m.entry ∷ []) (b ++ m ∷ []) (step_client_ledger s l m)
  stands_more place b l m h asked begins fit =
      record {
        says = says_more s c place l.state m h.says;
        count = count_more s c place m.entry m.mark l.state h.count;
        asks = asks_behind s c m.entry.at m.entry.part place l.state h.says.number h.count h.asks m.entry.what asked;
        rows = rows_known s c m.entry.at m.entry.part m.mark place l.state h.says.number h.count m.entry.what h.rows;
        expected = each_filter (ExpectKnown s c (place ++ m.entry ∷ [])) (ExpectKnown s c (place ++ m.entry ∷ [])) (λ x. not (is_last_by x.op m.mark)) (expected_behind s l.state l.expected m.entry.what) (λ x e q. q) (expected_known s c m.entry.at m.entry.part place l.state h.says.number h.count h.rows l.expected h.expected m.entry.what);
        exchange = exchange_more s c place b l m h.says.number h.count h.asks h.rows h.expected (bind_within c place) h.exchange asked begins fit;
      }

  module _ (op : OpName) (kind : OpKind) (u : ℕ) where
    -- a Bind that goes on
    of_pinned : (place : List Entry) (b : List Marked) (l : ClientLedger) (m : Marked) → Stands s c place b l → (id : ℕ) (rest : List ℕ) → m.entry.what ≡ what.In id rest → Pinned s op kind u l.state (record { id = id; rest = rest }) → Cause c op u kind (place ++ m.entry ∷ []) b
    of_pinned place b l m h id rest e f =
        record {
          operation = new_operation c place m.entry msg;
          own = same_number op.client l.state.number (left (op.client == l.state.number) _ f.hit.named) ∙ h.says.number;
          found = ap (λ n. operation_in c (place ++ m.entry ∷ []) (record { client = c; k = n })) number_is ∙ new_found c place m.entry msg message;
          kind_is = sym (carried_kind s msg l.state.identity) ∙ f.hit.kind_is;
          way = inr (left (is_request_of Bind msg) _ (left (is_request_of Bind msg && l.state.in_exchange) _ f.pinned), step (last_bind c place) refl going.answered);
        }
      where
        msg : Message
        msg = record { id = id; rest = rest }

        put : Bool → Option Message
        put d = elim d [ true ↦ Some (record { id = id; rest = rest }) | false ↦ None ]

        message : operation_message m.entry.what ≡ Some (record { id = id; rest = rest })
        message = ap operation_message e ∙ ap put (going_makes s l.state (record { id = id; rest = rest }) (right (is_request_of Bind (record { id = id; rest = rest }) && l.state.in_exchange) _ f.pinned))

        number_is : op.k ≡ suc (length (operations c place))
        number_is = same_number op.k (suc l.state.count) (right (op.client == l.state.number) _ f.hit.named) ∙ ap suc h.count

        going : Going c (bind_number c place) place b l.state.rows l.state.hold
        going = h.exchange.going (right (is_request_of Bind (record { id = id; rest = rest })) _ (left (is_request_of Bind (record { id = id; rest = rest }) && l.state.in_exchange) _ f.pinned))

        step : (o : Option Operation) → last_bind c place ≡ o → passes is_in_progress o ≡ true → passes (is_step_from u b) o ≡ true
        step None z k = k
        step (Some q) z k =
            let within : is_named_within c (length (operations c place)) q ≡ true = (last_passing (λ o. is_named_within c (length (operations c place)) o ≡ true) (is_of Bind) (operations c place) q z (each_of (is_named_within c (length (operations c place))) (operations c place) (own_names c place))).0 in
            let client : (c == q.name.client) ≡ true = eq_eqb c q.name.client (sym (same_number q.name.client c (left (q.name.client == c) _ (left (q.name.client == c && nat_lt 0 q.name.k) _ within)))) in
            let name : record { client = c; k = bind_number c place } ≡ q.name = same_op_eq (record { client = c; k = bind_number c place }) q.name (both (c == q.name.client) _ client (eq_eqb (bind_number c place) q.name.k (ap number_of z))) in
            both (is_in_progress q) _ k (subst (λ n. list_any (λ x. is_mark_from (Connection n) (is_reply_of q.name) x.mark) b ≡ true) (same_number f.held.connection u f.hit.there) (subst (λ n. list_any (λ x. is_mark_from (Connection f.held.connection) (is_reply_of n) x.mark) b ≡ true) name (going.told f.held f.holds)))

    -- an operation that was chosen a connection
    of_chosen : (place : List Entry) (b : List Marked) (l : ClientLedger) (m : Marked) → Stands s c place b l → Begins c place l.state m → (o : OpName) (a : Answer) → m.entry.what ≡ what.Chosen o a → WasChosen s op kind u l.state o a → Cause c op u kind (place ++ m.entry ∷ []) b
    of_chosen place b l m h begins o a e f = by (operation_in c place op) refl live
      where
        named : (l.state.number == o.client && f.row.k == o.k) ≡ true
        named = found_passes (λ x. l.state.number == o.client && x.k == o.k) l.state.rows f.row f.row_is

        same : op ≡ o
        same = same_op_eq op o (both (op.client == o.client) _ (eq_eqb op.client o.client (same_number op.client l.state.number (left (op.client == l.state.number) _ f.hit.named) ∙ same_number l.state.number o.client (left (l.state.number == o.client) _ named))) (eq_eqb op.k o.k (same_number op.k f.row.k (right (op.client == l.state.number) _ f.hit.named) ∙ same_number f.row.k o.k (right (l.state.number == o.client) _ named))))

        own : op.client ≡ c
        own = same_number op.client l.state.number (left (op.client == l.state.number) _ f.hit.named) ∙ h.says.number

        known : RowKnown s c place f.row
        known = each_found (RowKnown s c place) (λ x. l.state.number == o.client && x.k == o.k) l.state.rows f.row f.row_is h.rows

        -- the operation of the row is live
        live : is_live_at c place op ≡ true
        live =
            let one = of_row (λ x. l.state.number == o.client && x.k == o.k) (is_live_named c place) l.state.rows (live_operations c place) f.row begins.lives.rows (live_named c place) f.row_is in
            let q : Operation = one.0 in
            let match : Match f.row q = one.1.0 in
            let within : is_named_within c (length (operations c place)) q ≡ true = left (is_named_within c (length (operations c place)) q) _ one.1.1 in
            let name : q.name ≡ op = same_op_eq q.name op (both (q.name.client == op.client) _ (eq_eqb q.name.client op.client (same_number q.name.client c (left (q.name.client == c) _ (left (q.name.client == c && nat_lt 0 q.name.k) _ within)) ∙ sym own)) (eq_eqb q.name.k op.k (sym match.k ∙ sym (same_number op.k f.row.k (right (op.client == l.state.number) _ f.hit.named))))) in
            subst (λ n. is_live_at c place n ≡ true) name (right (is_named_within c (length (operations c place)) q) _ one.1.1)

        choice : is_live_choice c op u place m.entry ≡ true
        choice = both (is_choice_of op u m.entry) _ (ap (λ w. passes (λ x. same_op op x.op && goes_to u x.value) (chosen w)) e ∙ ap (λ x. same_op op o && goes_to u x) f.answer_is ∙ both (same_op op o) _ (ap (λ n. same_op op n) (sym same) ∙ same_op_refl op) f.hit.there) live

        by : (q : Option Operation) → operation_in c place op ≡ q → passes is_live q ≡ true → Cause c op u kind (place ++ m.entry ∷ []) b
        by None z k = absurd (let bad : false ≡ true = k in cc)
        by (Some q) z k =
            let here : operation_in c place (record { client = c; k = op.k }) ≡ Some q = ap (λ n. operation_in c place (record { client = n; k = op.k })) (sym own) ∙ z in
            let is_of_row : IsOf s f.row q = each_found (λ x. (f.row.k == x.name.k) ≡ true → IsOf s f.row x) (λ x. same_op op x.name) (operations c place) q z known.same (eq_eqb f.row.k q.name.k (sym (same_number op.k f.row.k (right (op.client == l.state.number) _ f.hit.named)) ∙ same_number op.k q.name.k (right (op.client == q.name.client) _ (found_passes (λ x. same_op op x.name) (operations c place) q z)))) in
            let next : LaterOperation c op.k (place ++ m.entry ∷ []) q = operation_later c op.k place (m.entry ∷ []) q here in
            record {
              operation = next.later;
              own = own;
              found = next.found;
              kind_is = ap (λ (x : Message). kind_of x.rest) next.request ∙ sym is_of_row.carries.kind ∙ f.hit.kind_is;
              way = inl (some_last (is_live_choice c op u) [] place m.entry choice);
            }

    head_cause : (place : List Entry) (b : List Marked) (l : ClientLedger) (m : Marked) → Stands s c place b l → (is_begun m.entry.what ≡ true → Begins c place l.state m) → list_any (is_sent_there op kind u) (client_letters s l.state m.entry.at m.entry.what) ≡ true → Cause c op u kind (place ++ m.entry ∷ []) b
    head_cause place b l m h begins k = letters_hit s op kind u l.state m.entry.at m.entry.what k (of_pinned place b l m h) (λ o a e. of_chosen place b l m h (begins (ap is_begun e)) o a e)

    walk : (place : List Entry) (b : List Marked) (l : ClientLedger) (ms : List Marked) → Stands s c place b l → Begun s c place l.state ms → are_fit_from (fits_client s) (step_client_ledger s) l ms ≡ true → list_any (is_sent_there op kind u) (client_gives s l.state ms) ≡ true → Cause c op u kind (place ++ entries ms) (b ++ ms)
    walk place b l [] h g f k = absurd (let bad : false ≡ true = k in cc)
    walk place b l (m ∷ ms) h g f k =
        any_split (is_sent_there op kind u) (client_letters s l.state m.entry.at m.entry.what) (client_gives s (step_client s l.state m) ms)
        (λ j. there (cause_more c op u kind (place ++ m.entry ∷ []) (entries ms) b (m ∷ ms) (head_cause place b l m h g.0 j)))
        (λ j. later (walk (place ++ m.entry ∷ []) (b ++ m ∷ []) (step_client_ledger s l m) ms behind g.1 (right (not (is_unfit (fits_client s) l m.mark)) _ f) j)) k
      where
        behind : Stands s c (place ++ m.entry ∷ []) (b ++ m ∷ []) (step_client_ledger s l m)
        behind = stands_more place b l m h (was_asked s op c l m.entry m.mark (are_fit_from (fits_client s) (step_client_ledger s) (step_client_ledger s l m) ms) (λ i. (g.0 i).marked) f) g.0 (λ t z. is_fit_there (fits_client s) l t (are_fit_from (fits_client s) (step_client_ledger s) (step_client_ledger s l m) ms) (subst (λ mark. (not (is_unfit (fits_client s) l mark) && are_fit_from (fits_client s) (step_client_ledger s) (step_client_ledger s l m) ms) ≡ true) z f))

        there : Cause c op u kind ((place ++ m.entry ∷ []) ++ entries ms) (b ++ (m ∷ ms)) → Cause c op u kind (place ++ (m.entry ∷ entries ms)) (b ++ (m ∷ ms))
        there x = subst (λ p. Cause c op u kind p (b ++ (m ∷ ms))) (append_assoc place (m.entry ∷ []) (entries ms)) x

        later : Cause c op u kind ((place ++ m.entry ∷ []) ++ entries ms) ((b ++ m ∷ []) ++ ms) → Cause c op u kind (place ++ (m.entry ∷ entries ms)) (b ++ (m ∷ ms))
        later x = there (subst (λ q. Cause c op u kind ((place ++ m.entry ∷ []) ++ entries ms) q) (append_assoc b (m ∷ []) ms) x)

    nothing_yet : Stands s c [] [] (empty_client_ledger c)
    nothing_yet =
        record {
          says = (nothing_kept s c).says;
          count = (nothing_kept s c).lives.count;
          asks = record { each = tt; choices = refl };
          rows = tt;
          expected = tt;
          exchange = record { kinds = refl; held = λ k. refl; unasked = refl; going = λ k. absurd (let bad : false ≡ true = k in cc) };
        }

    -- each Forward among what a client's list gives has its cause there
    pub forward_cause : (ms : List Marked) → Begun s c [] (empty_client c) ms → are_fit_from (fits_client s) (step_client_ledger s) (empty_client_ledger c) ms ≡ true → list_any (is_sent_there op kind u) (client_gives s (empty_client c) ms) ≡ true → Cause c op u kind (entries ms) ms
    forward_cause ms g f k = walk [] [] (empty_client_ledger c) ms nothing_yet g f k
