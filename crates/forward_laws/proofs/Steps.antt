-- The exchange behind each entry of a client's list.
use Rattle.std.proofs.Common.{◌≡◌, ℕ, Bool, true, false, ◌==◌, ◌&&◌, ◌||◌, not, if◌then◌else◌, List, [], ◌∷◌, ◌++◌, length, refl, ap, ◌∙◌, sym, subst}
use Rattle.std.specs.Prelude.{Option, Some, None, cond, filter, find, map, nat_le}
use Rattle.std.specs.List.{list_any, list_all}
use Rattle.ldap_spec.specs.Kinds.{kind_of, same_kind}
use Rattle.lload_names.specs.declared.names.Answer.{Answer}
use Rattle.lload_names.specs.declared.names.Answer.TheVariants.{Go, Busy, Unavailable}
use Rattle.lload_names.specs.declared.names.Entry.{Entry}
use Rattle.lload_names.specs.declared.names.OpKind.TheVariants.{Bind}
use Rattle.lload_names.specs.declared.names.OpName.{OpName}
use Rattle.lload_names.specs.declared.names.What.{What}
use Rattle.lload_names.specs.declared.names.What.TheVariants as what
use Rattle.lload_spec.specs.Entries.{operation_message}
use Rattle.lload_spec.specs.Journal.{same_op}
use Rattle.lload_spec.specs.Lists.{passes, agrees}
use Rattle.lload_spec.specs.Operations.{operations, is_bind_in}
use Rattle.lload_spec.specs.Settings.{Settings}
use Rattle.lload_spec.proofs.Growth.{left, right}
use Rattle.lload_laws.proofs.ListLaws.{all_imply, found, found_passes}
use Rattle.part_laws.proofs.ListLaws.{eq_eqb, or_left, or_right, same_number}
use Rattle.part_spec.specs.ClientState.{ClientState, ClientRow, Held, asked_behind, client_behind, forwarded, is_bind_row, name_of, row_named, with_choice, with_connection}
use Rattle.part_spec.specs.Fit.{ClientLedger, Expected, fits_client, expected_behind, going_to, is_last_by, step_client_ledger, with_forward}
use Rattle.part_spec.specs.Marked.{Marked, Taken}
use Rattle.client_answer_laws.proofs.Asks.{AsksKnown}
use Rattle.client_answer_laws.proofs.Each.{Each}
use Rattle.client_answer_laws.proofs.Expects.{ExpectKnown}
use Rattle.client_answer_laws.proofs.Waits.{RowKnown}
use Rattle.joined_laws.proofs.Begun.{is_begun}
use Rattle.joined_laws.proofs.Walks.{Begins}
use Rattle.forward_laws.proofs.Binds.{ExchangeAt, stays, expected_up_to, exchange_in}
use Rattle.forward_laws.proofs.Exchange.{Exchange, is_known_up_to, is_kind_right, is_numbered, ended, asked_less, other_chosen, bind_chosen}
use Rattle.forward_laws.proofs.Ops.{bind_number}
use Rattle.forward_laws.proofs.Outs.{exchange_out}

module _ (s : Settings) (c : ℕ) (place : List Entry) (b : List Marked) (l : ClientLedger) (m : Marked) (number : l.state.number ≡ c) (count : l.state.count ≡ length (operations c place)) (asks : AsksKnown c place l.state.asked) (rows : Each (RowKnown s c place) l.state.rows) (known : Each (ExpectKnown s c place) l.expected) (low : nat_le (bind_number c place) (length (operations c place)) ≡ true) (h : ExchangeAt c place b l) where
  -- behind an entry that says this
  abbrev Behind : What → Type 0
  Behind w = Exchange c (bind_number c (place ++ m.entry ∷ [])) (place ++ m.entry ∷ []) (b ++ m ∷ []) (client_behind s m.entry.at m.mark l.state w).rows (client_behind s m.entry.at m.mark l.state w).hold (asked_behind s l.state w) (client_behind s m.entry.at m.mark l.state w).in_exchange (filter (λ x. not (is_last_by x.op m.mark)) (expected_behind s l.state l.expected w))

  no_bind : (w : What) → m.entry.what ≡ w → operation_message w ≡ None → is_bind_in m.entry ≡ false
  no_bind w e k = ap (passes (λ n. passes (same_kind Bind) (kind_of n.rest))) (ap operation_message e ∙ k)

  idle : is_bind_in m.entry ≡ false → Exchange c (bind_number c (place ++ m.entry ∷ [])) (place ++ m.entry ∷ []) (b ++ m ∷ []) l.state.rows l.state.hold l.state.asked l.state.in_exchange (filter (λ x. not (is_last_by x.op m.mark)) l.expected)
  idle e = stays c place b m l.state.rows l.state.hold l.state.asked l.state.in_exchange l.expected (λ x. not (is_last_by x.op m.mark)) e h

  -- A choice.
  module _ (op : OpName) (a : Answer) (is_chosen : m.entry.what ≡ what.Chosen op a) (was : list_any (λ x. same_op op x.op) l.state.asked ≡ true) where
    plain : is_bind_in m.entry ≡ false
    plain = no_bind (what.Chosen op a) is_chosen refl

    less : Exchange c (bind_number c (place ++ m.entry ∷ [])) (place ++ m.entry ∷ []) (b ++ m ∷ []) l.state.rows l.state.hold (filter (λ x. not (same_op op x.op)) l.state.asked) l.state.in_exchange (filter (λ x. not (is_last_by x.op m.mark)) l.expected)
    less = stays c place b m l.state.rows l.state.hold (filter (λ x. not (same_op op x.op)) l.state.asked) l.state.in_exchange l.expected (λ x. not (is_last_by x.op m.mark)) plain (asked_less c (bind_number c place) place b l.state.rows l.state.hold l.state.asked l.state.in_exchange l.expected h op)

    own : list_all (λ x. x.op.client == c) l.expected ≡ true
    own = all_imply (is_known_up_to c (length (operations c place))) (λ x. x.op.client == c) l.expected (λ x k. left (x.op.client == c) _ k) (expected_up_to s c place l.expected known)

    numbered : (r : ClientRow) → row_named l.state op ≡ Some r → list_any (λ x. x.k == op.k) l.state.rows ≡ true
    numbered r e = go l.state.rows e
      where
        go : (xs : List ClientRow) → find (λ x. l.state.number == op.client && x.k == op.k) xs ≡ Some r → list_any (λ x. x.k == op.k) xs ≡ true
        go [] k = absurd (let bad : None ≡ Some r = k in cc)
        go (x ∷ xs) k = by (l.state.number == op.client && x.k == op.k) refl k (go xs)
          where
            by : (d : Bool) → (l.state.number == op.client && x.k == op.k) ≡ d → cond d (Some x) (find (λ y. l.state.number == op.client && y.k == op.k) xs) ≡ Some r → (find (λ y. l.state.number == op.client && y.k == op.k) xs ≡ Some r → list_any (λ y. y.k == op.k) xs ≡ true) → ((x.k == op.k) || list_any (λ y. y.k == op.k) xs) ≡ true
            by true z j ih = or_left (x.k == op.k) _ (right (l.state.number == op.client) _ z)
            by false z j ih = or_right (x.k == op.k) _ (ih j)

    goes : (u v : ℕ) (r : ClientRow) → row_named l.state op ≡ Some r → Exchange c (bind_number c (place ++ m.entry ∷ [])) (place ++ m.entry ∷ []) (b ++ m ∷ []) (with_connection u v l.state r).rows (with_connection u v l.state r).hold (filter (λ x. not (same_op op x.op)) l.state.asked) l.state.in_exchange (filter (λ x. not (is_last_by x.op m.mark)) (l.expected ++ record { op = op; request = r.request; connection = u } ∷ []))
    goes u v r e = by (is_bind_row r) refl
      where
        named : (l.state.number == op.client && r.k == op.k) ≡ true
        named = found_passes (λ x. l.state.number == op.client && x.k == op.k) l.state.rows r e

        number_is : r.k ≡ op.k
        number_is = same_number r.k op.k (right (l.state.number == op.client) _ named)

        kind : agrees (is_bind_row r) (r.k == bind_number c place) ≡ true
        kind = found (is_kind_right (bind_number c place)) (λ x. l.state.number == op.client && x.k == op.k) l.state.rows r e h.kinds

        new : Expected
        new = record { op = op; request = r.request; connection = u }

        when : (d : Bool) → is_bind_row r ≡ d → (op.k == bind_number c place) ≡ d
        when d k = ap (λ n. n == bind_number c place) (sym number_is) ∙ same (is_bind_row r) (r.k == bind_number c place) kind ∙ k
          where
            same : (x y : Bool) → agrees x y ≡ true → y ≡ x
            same true true i = refl
            same false false i = refl
            same true false i = absurd (let bad : false ≡ true = i in cc)
            same false true i = absurd (let bad : false ≡ true = i in cc)

        hold_by : Bool → Option Held
        hold_by d = if d then Some (record { connection = u; holder = name_of l.state r }) else l.state.hold

        by : (d : Bool) → is_bind_row r ≡ d → Exchange c (bind_number c (place ++ m.entry ∷ [])) (place ++ m.entry ∷ []) (b ++ m ∷ []) (map (forwarded r.k u) l.state.rows) (hold_by d) (filter (λ x. not (same_op op x.op)) l.state.asked) l.state.in_exchange (filter (λ x. not (is_last_by x.op m.mark)) (l.expected ++ record { op = op; request = r.request; connection = u } ∷ []))
        by true k =
            let there : list_any (is_numbered (bind_number c place)) l.state.rows ≡ true = subst (λ n. list_any (λ x. x.k == n) l.state.rows ≡ true) (same_number op.k (bind_number c place) (when true k)) (numbered r e) in
            stays c place b m (map (forwarded r.k u) l.state.rows) (Some (record { connection = u; holder = name_of l.state r })) (filter (λ x. not (same_op op x.op)) l.state.asked) l.state.in_exchange (l.expected ++ new ∷ []) (λ x. not (is_last_by x.op m.mark)) plain
            (bind_chosen c (bind_number c place) place b l.state.rows l.state.hold l.state.asked l.state.in_exchange l.expected h op u r.k new (record { connection = u; holder = name_of l.state r }) refl refl (when true k) (eq_eqb op.client c (sym (same_number l.state.number op.client (left (l.state.number == op.client) _ named)) ∙ number)) there was own)
        by false k =
            stays c place b m (map (forwarded r.k u) l.state.rows) l.state.hold (filter (λ x. not (same_op op x.op)) l.state.asked) l.state.in_exchange (l.expected ++ new ∷ []) (λ x. not (is_last_by x.op m.mark)) plain
            (other_chosen c (bind_number c place) place b l.state.rows l.state.hold l.state.asked l.state.in_exchange l.expected h op u r.k new refl (when false k))

    abbrev Chosen : Answer → Type 0
    Chosen x = Exchange c (bind_number c (place ++ m.entry ∷ [])) (place ++ m.entry ∷ []) (b ++ m ∷ []) (with_choice op x l.state).rows (with_choice op x l.state).hold (filter (λ y. not (same_op op y.op)) l.state.asked) (with_choice op x l.state).in_exchange (filter (λ y. not (is_last_by y.op m.mark)) (elim (row_named l.state op) [ None ↦ l.expected | Some r ↦ with_forward op r.request (going_to x) l.expected ]))

    nowhere : (o : Option ClientRow) → Exchange c (bind_number c (place ++ m.entry ∷ [])) (place ++ m.entry ∷ []) (b ++ m ∷ []) l.state.rows l.state.hold (filter (λ y. not (same_op op y.op)) l.state.asked) l.state.in_exchange (filter (λ y. not (is_last_by y.op m.mark)) (elim o [ None ↦ l.expected | Some r ↦ with_forward op r.request None l.expected ]))
    nowhere None = less
    nowhere (Some r) = less

    exchange_chosen : (x : Answer) → Chosen x
    exchange_chosen Busy = nowhere (row_named l.state op)
    exchange_chosen Unavailable = nowhere (row_named l.state op)
    exchange_chosen (Go u v) = by (row_named l.state op) refl
      where
        state : Option ClientRow → ClientState
        state o = elim o [ None ↦ l.state | Some r ↦ with_connection u v l.state r ]

        by : (o : Option ClientRow) → row_named l.state op ≡ o → Exchange c (bind_number c (place ++ m.entry ∷ [])) (place ++ m.entry ∷ []) (b ++ m ∷ []) (state o).rows (state o).hold (filter (λ y. not (same_op op y.op)) l.state.asked) (state o).in_exchange (filter (λ y. not (is_last_by y.op m.mark)) (elim o [ None ↦ l.expected | Some r ↦ with_forward op r.request (Some u) l.expected ]))
        by None e = less
        by (Some r) e = goes u v r e

  pub exchange_more : ((op : OpName) (a : Answer) → m.entry.what ≡ what.Chosen op a → list_any (λ x. same_op op x.op) l.state.asked ≡ true) → (is_begun m.entry.what ≡ true → Begins c place l.state m) → ((t : Taken) → m.mark ≡ Some t → fits_client s l t.sender t.letter ≡ true) → ExchangeAt c (place ++ m.entry ∷ []) (b ++ m ∷ []) (step_client_ledger s l m)
  exchange_more asked begins fit = by m.entry.what refl
    where
      by : (w : What) → m.entry.what ≡ w → Behind w
      by (what.In id rest) e = exchange_in s c place b l m number count asks known low h id rest e
      by (what.Out id rest) e = exchange_out s c place b l m number rows h id rest e (λ i. begins (ap is_begun e ∙ i)) fit
      by (what.Chosen op a) e = exchange_chosen op a e (asked op a e) a
      by (what.Gone why) e = stays c place b m [] None l.state.asked l.state.in_exchange l.expected (λ x. not (is_last_by x.op m.mark)) (no_bind (what.Gone why) e refl) (ended c (bind_number c place) place b l.state.rows l.state.hold l.state.asked l.state.in_exchange l.expected h)
      by what.Stalled e = idle (no_bind what.Stalled e refl)
      by what.Flowing e = idle (no_bind what.Flowing e refl)
      by what.Arrived e = idle (no_bind what.Arrived e refl)
      by w e = idle (no_bind w e refl)
