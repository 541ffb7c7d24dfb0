-- Each Leave that a client gives has its cause: the client is gone, or it sent a Bind of another version while its exchange
-- was there.
use Rattle.std.proofs.Common.{◌≡◌, ℕ, Bool, true, false, ◌==◌, ◌&&◌, ◌||◌, List, [], ◌∷◌, ◌++◌, length, refl, ap, ◌∙◌, sym, subst, append_assoc}
use Rattle.std.specs.Prelude.{Option, Some, None, is_some, map, nat_lt}
use Rattle.std.specs.List.{list_any}
use Rattle.ldap_spec.specs.Kinds.{same_kind}
use Rattle.ldap_spec.specs.Messages.{Message}
use Rattle.ldap_spec.specs.Requests.{request}
use Rattle.lload_names.specs.declared.names.EndWhy.{EndWhy}
use Rattle.lload_names.specs.declared.names.Entry.{Entry}
use Rattle.lload_names.specs.declared.names.OpKind.TheVariants.{Bind}
use Rattle.lload_names.specs.declared.names.OpName.{OpName}
use Rattle.lload_names.specs.declared.names.PartName.TheVariants.{Up as Connection}
use Rattle.lload_names.specs.declared.names.Refusal.{Refusal}
use Rattle.lload_names.specs.declared.names.What.TheVariants as what
use Rattle.lload_spec.specs.CausedUp.{has_other_version}
use Rattle.lload_spec.specs.Entries.{in_message, is_gone, operation_message}
use Rattle.lload_spec.specs.Fifo.{is_in_progress}
use Rattle.lload_spec.specs.FirstCheck.{Refuses}
use Rattle.lload_spec.specs.Lists.{passes, some_entry}
use Rattle.lload_spec.specs.Operations.{Operation, is_of, is_request_of, last_bind, live_operations, operations}
use Rattle.lload_spec.specs.Settings.{Settings}
use Rattle.lload_spec.specs.Strict.{holds, lets_wait}
use Rattle.lload_spec.proofs.Growth.{left, right, both}
use Rattle.lload_laws.specs.ClientGrowth.{is_named_within, later_operation, new_operation}
use Rattle.lload_laws.proofs.ClientGrowth.{operations_one, own_names}
use Rattle.lload_laws.proofs.ListLaws.{any_imply, implied, passes_imply}
use Rattle.part_laws.proofs.ListLaws.{any_before, any_behind, any_split, eq_eqb, not_true, or_elim, or_left, or_right, same_number, same_op_eq}
use Rattle.part_spec.specs.ClientState.{ClientRow, check_at, empty_client, is_bind_row, step_client}
use Rattle.part_spec.specs.Fit.{ClientLedger, empty_client_ledger, step_client_ledger}
use Rattle.part_spec.specs.Gives.{client_gives, client_letters}
use Rattle.part_spec.specs.Marked.{Marked, entries}
use Rattle.client_laws.proofs.Matches.{Matches}
use Rattle.joined_laws.proofs.Begun.{is_begun}
use Rattle.joined_laws.proofs.Taken.{is_mark_from}
use Rattle.fifo_laws.proofs.Quiet.{is_reply_of}
use Rattle.forward_laws.proofs.Causes.{is_live_choice, is_step_from}
use Rattle.forward_laws.proofs.Exchange.{Going}
use Rattle.forward_laws.proofs.Ops.{bind_number, number_of}
use Rattle.identity_laws.proofs.Finals.{last_all}
use Rattle.leave_laws.proofs.Along.{Along, Here}
use Rattle.leave_laws.proofs.Letters.{Holds, is_left_there, left_at}
use Rattle.leave_laws.proofs.Chosen.{some_kept}
use Rattle.leave_laws.proofs.Lists.{any_later}
use Rattle.leave_laws.proofs.Refused.{refused_makes, refused_version}

-- whether an operation is a Bind of another version in an exchange at this connection, by the answers that were taken
abbrev pub is_leaving : ℕ → ℕ → List Marked → Operation → Bool
is_leaving c u marks o = passes has_other_version (request o.request.rest) && (is_of Bind o && passes (is_step_from u marks) (last_bind c o.before))

-- whether a client left its exchange at this connection
abbrev pub has_left : ℕ → ℕ → List Entry → List Marked → Bool
has_left c u place marks = list_any is_gone place || list_any (is_leaving c u marks) (operations c place)

leaving_more : (c u : ℕ) (b ms : List Marked) (o : Operation) → is_leaving c u b o ≡ true → is_leaving c u (b ++ ms) o ≡ true
leaving_more c u b ms o h =
    let bind : (is_of Bind o && passes (is_step_from u b) (last_bind c o.before)) ≡ true = right (passes has_other_version (request o.request.rest)) _ h in
    both (passes has_other_version (request o.request.rest)) _ (left (passes has_other_version (request o.request.rest)) _ h)
    (both (is_of Bind o) _ (left (is_of Bind o) _ bind) (passes_imply (is_step_from u b) (is_step_from u (b ++ ms)) (last_bind c o.before) (λ q k. both (is_in_progress q) _ (left (is_in_progress q) _ k) (any_before (λ m. is_mark_from (Connection u) (is_reply_of q.name) m.mark) b ms (right (is_in_progress q) _ k))) (right (is_of Bind o) _ bind)))

-- and whether the connection was chosen for this holder
abbrev pub has_left_for : OpName → ℕ → ℕ → List Entry → List Marked → Bool
has_left_for h c u place marks = some_entry (is_live_choice c h u) place && has_left c u place marks

-- it stays so
left_more : (c u : ℕ) (place M : List Entry) (b ms : List Marked) → has_left c u place b ≡ true → has_left c u (place ++ M) (b ++ ms) ≡ true
left_more c u place M b ms h =
    or_elim (list_any is_gone place) (list_any (is_leaving c u b) (operations c place))
    (λ k. or_left (list_any is_gone (place ++ M)) _ (any_before is_gone place M k))
    (λ k. or_right (list_any is_gone (place ++ M)) _ (any_later (is_leaving c u (b ++ ms)) c place M (λ e o. refl) (any_imply (is_leaving c u b) (is_leaving c u (b ++ ms)) (operations c place) (leaving_more c u b ms) k))) h

left_for_more : (h : OpName) (c u : ℕ) (place M : List Entry) (b ms : List Marked) → has_left_for h c u place b ≡ true → has_left_for h c u (place ++ M) (b ++ ms) ≡ true
left_for_more h c u place M b ms k = both (some_entry (is_live_choice c h u) (place ++ M)) _ (some_kept (is_live_choice c h u) [] place M (left (some_entry (is_live_choice c h u) place) _ k)) (left_more c u place M b ms (right (some_entry (is_live_choice c h u) place) _ k))

-- a Bind among the rows is live
row_live : (rows : List ClientRow) (os : List Operation) → Matches rows os → list_any is_bind_row rows ≡ true → list_any (is_of Bind) os ≡ true
row_live [] [] m h = h
row_live (r ∷ rows) (o ∷ os) m h = or_elim (is_bind_row r) (list_any is_bind_row rows) (λ k. or_left (is_of Bind o) _ (sym (ap (passes (same_kind Bind)) m.0.kind) ∙ k)) (λ k. or_right (is_of Bind o) _ (row_live rows os m.1 k)) h
row_live [] (o ∷ os) m h = absurd m
row_live (r ∷ rows) [] m h = absurd m

module _ (s : Settings) (c u : ℕ) (h : OpName) where
  -- A Bind that is refused.
  module _ (place : List Entry) (b : List Marked) (l : ClientLedger) (m : Marked) (ms : List Marked) (here : Here s c place b l m ms) (id : ℕ) (rest : List ℕ) (is_in : m.entry.what ≡ what.In id rest) where
    abbrev msg : Message
    msg = record { id = id; rest = rest }

    -- a message comes only where no Bind is live
    none_bound : list_any is_bind_row l.state.rows ≡ true → false ≡ true
    none_bound k =
        let live : list_any (lets_wait s place) (live_operations c place) ≡ true = any_imply (is_of Bind) (lets_wait s place) (live_operations c place) (λ o j. or_left (is_of Bind o) _ j) (row_live l.state.rows (live_operations c place) (here.begins (ap is_begun is_in)).lives.rows k) in
        sym (not_true (holds s c place) (implied (is_some (in_message m.entry.what)) _ here.unheld (ap (λ w. is_some (in_message w)) is_in))) ∙ live

    -- so what is held is of an exchange
    in_exchange : Holds l.state h u → l.state.in_exchange ≡ true
    in_exchange k = or_elim l.state.in_exchange (list_any is_bind_row l.state.rows) (λ j. j) (λ j. absurd (let bad : false ≡ true = none_bound j in cc)) (implied (is_some l.state.hold) _ here.stands.pending (ap is_some k.holds))

    step : (k : Holds l.state h u) → Going c (bind_number c place) place b l.state.rows l.state.hold → passes (is_step_from u b) (last_bind c place) ≡ true
    step k going = by (last_bind c place) refl going.answered
      where
        by : (o : Option Operation) → last_bind c place ≡ o → passes is_in_progress o ≡ true → passes (is_step_from u b) o ≡ true
        by None z j = j
        by (Some q) z j =
            let own : (q.name.client == c) ≡ true = left (q.name.client == c) _ (left (q.name.client == c && nat_lt 0 q.name.k) _ (last_all (is_of Bind) (is_named_within c (length (operations c place))) (operations c place) q z (own_names c place))) in
            let name : record { client = c; k = bind_number c place } ≡ q.name = same_op_eq (record { client = c; k = bind_number c place }) q.name (both (c == q.name.client) _ (eq_eqb c q.name.client (sym (same_number q.name.client c own))) (eq_eqb (bind_number c place) q.name.k (ap number_of z))) in
            both (is_in_progress q) _ j (subst (λ n. list_any (λ x. is_mark_from (Connection n) (is_reply_of q.name) x.mark) b ≡ true) k.there (subst (λ n. list_any (λ x. is_mark_from (Connection k.held.connection) (is_reply_of n) x.mark) b ≡ true) name (going.told k.held k.holds)))

    refused_left : (which : Refusal) → check_at s l.state (record { id = id; rest = rest }) ≡ Refuses which → is_request_of Bind (record { id = id; rest = rest }) ≡ true → Holds l.state h u → has_left c u (place ++ m.entry ∷ []) b ≡ true
    refused_left which refused bind k =
        or_right (list_any is_gone (place ++ m.entry ∷ [])) _
        (ap (list_any (is_leaving c u b)) (operations_one c place m.entry msg message)
        ∙ any_behind (is_leaving c u b) (map (later_operation m.entry) (operations c place)) (new_operation c place m.entry msg ∷ [])
        (or_left (is_leaving c u b (new_operation c place m.entry msg)) false
        (both (passes has_other_version (request rest)) _ (refused_version s l.state msg which refused bind) (both (is_request_of Bind msg) _ bind (step k (here.stands.exchange.going (in_exchange k)))))))
      where
        message : operation_message m.entry.what ≡ Some (record { id = id; rest = rest })
        message = ap operation_message is_in ∙ ap (λ x. elim x [ true ↦ Some (record { id = id; rest = rest }) | false ↦ None ]) (refused_makes s l.state (record { id = id; rest = rest }) which refused bind)

  head_left : (place : List Entry) (b : List Marked) (l : ClientLedger) (m : Marked) (ms : List Marked) → Here s c place b l m ms → list_any (is_left_there h u) (client_letters s l.state m.entry.at m.entry.what) ≡ true → has_left_for h c u (place ++ m.entry ∷ []) b ≡ true
  head_left place b l m ms here k = left_at s h u l.state m.entry.at m.entry.what k (λ why e j. both (some_entry (is_live_choice c h u) (place ++ m.entry ∷ [])) _ (chosen_for j) (gone why e)) (λ id rest which e i d j. both (some_entry (is_live_choice c h u) (place ++ m.entry ∷ [])) _ (chosen_for j) (refused_left place b l m ms here id rest e which i d j))
    where
      chosen_for : Holds l.state h u → some_entry (is_live_choice c h u) (place ++ m.entry ∷ []) ≡ true
      chosen_for j = some_kept (is_live_choice c h u) [] place (m.entry ∷ []) (subst (λ v. some_entry (is_live_choice c v u) place ≡ true) j.name (subst (λ v. some_entry (is_live_choice c j.held.holder v) place ≡ true) j.there (here.stands.chosen j.held j.holds)))

      gone : (why : EndWhy) → m.entry.what ≡ what.Gone why → has_left c u (place ++ m.entry ∷ []) b ≡ true
      gone why e = or_left (list_any is_gone (place ++ m.entry ∷ [])) _ (any_behind is_gone place (m.entry ∷ []) (or_left (is_gone m.entry) false (ap (λ w. is_gone (record { part = m.entry.part; at = m.entry.at; what = w })) e)))

  walk : (place : List Entry) (b : List Marked) (l : ClientLedger) (ms : List Marked) → Along s c place b l ms → list_any (is_left_there h u) (client_gives s l.state ms) ≡ true → has_left_for h c u (place ++ entries ms) (b ++ ms) ≡ true
  walk place b l [] a k = absurd (let bad : false ≡ true = k in cc)
  walk place b l (m ∷ ms) a k =
      any_split (is_left_there h u) (client_letters s l.state m.entry.at m.entry.what) (client_gives s (step_client s l.state m) ms)
      (λ j. at_place (left_for_more h c u (place ++ m.entry ∷ []) (entries ms) b (m ∷ ms) (head_left place b l m ms a.0 j)))
      (λ j. at_place (subst (λ q. has_left_for h c u ((place ++ m.entry ∷ []) ++ entries ms) q ≡ true) (append_assoc b (m ∷ []) ms) (walk (place ++ m.entry ∷ []) (b ++ m ∷ []) (step_client_ledger s l m) ms a.1 j))) k
    where
      at_place : has_left_for h c u ((place ++ m.entry ∷ []) ++ entries ms) (b ++ (m ∷ ms)) ≡ true → has_left_for h c u (place ++ (m.entry ∷ entries ms)) (b ++ (m ∷ ms)) ≡ true
      at_place x = subst (λ p. has_left_for h c u p (b ++ (m ∷ ms)) ≡ true) (append_assoc place (m.entry ∷ []) (entries ms)) x

  -- a client that gave a Leave left its exchange there, and the connection was chosen for the holder
  pub gave_leave : (ms : List Marked) → Along s c [] [] (empty_client_ledger c) ms → list_any (is_left_there h u) (client_gives s (empty_client c) ms) ≡ true → has_left_for h c u (entries ms) ms ≡ true
  gave_leave ms a k = walk [] [] (empty_client_ledger c) ms a k
