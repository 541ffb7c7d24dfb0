-- What a client holds, it holds until its exchange is over by the list: its last Bind isn't asked for meanwhile.
use Rattle.std.proofs.Common.{◌≡◌, ◌⊎◌, inl, inr, ℕ, suc, Bool, true, false, ◌==◌, ◌&&◌, ◌||◌, not, if◌then◌else◌, List, [], ◌∷◌, ◌++◌, length, refl, ap, arith, ◌∙◌, sym, subst}
use Rattle.std.specs.Prelude.{Option, Some, None, filter, is_some, nat_le, nat_lt}
use Rattle.std.specs.List.{list_any}
use Rattle.std.proofs.lemmas.Bool.{le-leb}
use Rattle.std.proofs.lemmas.Bool.Decides.{nat_tests}
use Rattle.std.proofs.lemmas.Slice.Eq.{bytes_eq-Decides}
use Rattle.ldap_spec.specs.Bodies.{protocol_error_notice}
use Rattle.ldap_spec.specs.Kinds.{is_final, kind_of, same_kind}
use Rattle.ldap_spec.specs.Messages.{Message}
use Rattle.ldap_spec.specs.Requests.{request}
use Rattle.ldap_spec.specs.Responses.{has_code}
use Rattle.lload_names.specs.declared.names.Answer.{Answer}
use Rattle.lload_names.specs.declared.names.Answer.TheVariants.{Go, Busy, Unavailable}
use Rattle.lload_names.specs.declared.names.Entry.{Entry}
use Rattle.lload_names.specs.declared.names.Letter.TheVariants.{Leave}
use Rattle.lload_names.specs.declared.names.OpKind.TheVariants.{Bind}
use Rattle.lload_names.specs.declared.names.OpName.{OpName}
use Rattle.lload_names.specs.declared.names.PartName.TheVariants.{Up as Connection}
use Rattle.lload_names.specs.declared.names.Posted.{Posted}
use Rattle.lload_names.specs.declared.names.What.{What}
use Rattle.lload_names.specs.declared.names.What.TheVariants as what
use Rattle.lload_spec.specs.Binding.{kind_wanted}
use Rattle.lload_spec.specs.Entries.{in_message, is_gone, is_notice, is_this, makes_operation, operation_message, out_message}
use Rattle.lload_spec.specs.FirstCheck.{lets_go_on}
use Rattle.lload_spec.specs.Identity.{identity_of}
use Rattle.lload_spec.specs.Journal.{same_op}
use Rattle.lload_spec.specs.Lists.{agrees, first_passes, passes}
use Rattle.lload_spec.specs.Operations.{Operation, is_final_for, is_of, is_request_of, last_bind, live_operations, operations}
use Rattle.lload_spec.specs.Settings.{Settings}
use Rattle.lload_spec.specs.Strict.{holds as waits, lets_wait}
use Rattle.lload_spec.proofs.Growth.{left, right, both}
use Rattle.lload_laws.specs.ClientGrowth.{is_named_within}
use Rattle.lload_laws.proofs.ClientGrowth.{own_names}
use Rattle.lload_laws.proofs.ListLaws.{any_imply, found, found_passes, implied}
use Rattle.part_laws.proofs.ListLaws.{any_before, any_behind, any_filtered, eq_eqb, eqb_same, false_by, none_of_both, not_both, not_true, or_elim, or_left, or_right, same_number, same_op_refl}
use Rattle.part_spec.specs.ClientState.{AskedFor, ClientRow, ClientState, Held, asked_behind, check_at, client_behind, is_bind_row, name_of, next_name, row_named, row_under, step_client, who_told, with_choice, with_connection, without}
use Rattle.part_spec.specs.ClientTurn.{closing, drops, endings, leave, resumes}
use Rattle.part_spec.specs.Fit.{ClientLedger}
use Rattle.part_spec.specs.Gives.{client_letters}
use Rattle.part_spec.specs.Marked.{Marked, entries}
use Rattle.client_laws.proofs.ClientGives.{in_state}
use Rattle.client_laws.proofs.ClientLives.{out_state_of}
use Rattle.client_laws.proofs.Matches.{ClientLives, Matches}
use Rattle.client_answer_laws.proofs.Asks.{AskKnown, going_makes}
use Rattle.client_answer_laws.proofs.Each.{Each, each_filter, each_imply}
use Rattle.joined_laws.proofs.Begun.{is_begun}
use Rattle.forward_laws.proofs.Exchange.{is_kind_right}
use Rattle.forward_laws.proofs.Ops.{bind_number, last_new, number_later, number_of}
use Rattle.forward_laws.proofs.Outs.{last_passing}
use Rattle.identity_laws.proofs.Finals.{last_all}
use Rattle.leave_laws.proofs.Along.{Here}
use Rattle.leave_laws.proofs.Letters.{is_left_there}
use Rattle.leave_laws.proofs.Ours.{Alive, LiveRow, live_rows}
use Rattle.leave_laws.proofs.Refused.{bind_request}
use Rattle.left_laws.proofs.ExchangeOver.{is_ended, out_ended}

-- none that passes, where each fails
none_each : {A : Type 0} (t : A → Bool) (xs : List A) → Each (λ x. t x ≡ false) xs → list_any t xs ≡ false
none_each t [] h = refl
none_each t (x ∷ xs) h = ap (λ b. b || list_any t xs) h.0 ∙ none_each t xs h.1

-- a Bind among the rows is live
row_live : (rows : List ClientRow) (os : List Operation) → Matches rows os → list_any is_bind_row rows ≡ true → list_any (is_of Bind) os ≡ true
row_live [] [] m h = h
row_live (r ∷ rows) (o ∷ os) m h = or_elim (is_bind_row r) (list_any is_bind_row rows) (λ k. or_left (is_of Bind o) _ (sym (ap (passes (same_kind Bind)) m.0.kind) ∙ k)) (λ k. or_right (is_of Bind o) _ (row_live rows os m.1 k)) h
row_live [] (o ∷ os) m h = absurd m
row_live (r ∷ rows) [] m h = absurd m

-- the notice answers no Bind
pub notice_unbinding : (r : ClientRow) (id : ℕ) (rest : List ℕ) → is_bind_row r ≡ true → is_this 0 protocol_error_notice (record { id = id; rest = rest }) ≡ true → is_final_for r.request rest ≡ false
notice_unbinding r id rest bind h =
    let text : rest ≡ protocol_error_notice = (bytes_eq-Decides rest protocol_error_notice).0 (right (id == 0) _ h) in
    let kind : kind_of r.request.rest ≡ Some Bind = bind_request (kind_of r.request.rest) bind in
    ap (passes (λ x. is_final x rest)) kind ∙ ap (is_final Bind) text

-- while a client holds a connection, its last Bind isn't asked for
abbrev pub LastUnasked : ℕ → List Entry → ClientState → Type 0
LastUnasked c place p = (x : Held) → p.hold ≡ Some x → list_any (λ a. a.op.k == bind_number c place) p.asked ≡ false

-- what is held is this connection, for the operation of this number
pub record Holds (c k u : ℕ) (place : List Entry) (hold : Option Held) : Type 0 where
  pub holds : hold ≡ Some (record { connection = u; holder = record { client = c; k = k } })
  pub below : nat_le k (bind_number c place) ≡ true

-- or its exchange is over
abbrev pub HoldsOrEnded : ℕ → ℕ → ℕ → List Entry → Option Held → Type 0
HoldsOrEnded c k u place hold = Holds c k u place hold ⊎ (is_ended c k place ≡ true)

-- the number of the last Bind is one of the operations'
last_within : (c : ℕ) (place : List Entry) → nat_le (bind_number c place) (length (operations c place)) ≡ true
last_within c place = by (last_bind c place) refl
  where
    by : (o : Option Operation) → last_bind c place ≡ o → nat_le (number_of o) (length (operations c place)) ≡ true
    by None e = le-leb 0 (length (operations c place)) (omega arith)
    by (Some q) e = right (q.name.client == c && nat_lt 0 q.name.k) _ (last_all (is_of Bind) (is_named_within c (length (operations c place))) (operations c place) q e (own_names c place))

-- The Leave of what is held.
module _ (c k u : ℕ) (p : ClientState) (h : p.hold ≡ Some (record { connection = u; holder = record { client = c; k = k } })) where
  abbrev test : Posted → Bool
  test = is_left_there (record { client = c; k = k }) u

  pub endings_give : list_any (is_left_there (record { client = c; k = k }) u) (endings p) ≡ true
  endings_give = any_behind test (drops p) (leave p) (ap (λ o. list_any test (elim o [ None ↦ [] | Some x ↦ record { to = Connection x.connection; letter = Leave x.holder } ∷ [] ])) h ∙ or_left (same_op (record { client = c; k = k }) (record { client = c; k = k }) && u == u) false (both (same_op (record { client = c; k = k }) (record { client = c; k = k })) _ (same_op_refl (record { client = c; k = k })) (eqb_same u)))

  pub closing_gives : list_any (is_left_there (record { client = c; k = k }) u) (closing p) ≡ true
  closing_gives = any_before test (endings p) (resumes p) endings_give

module _ (s : Settings) (c : ℕ) (place : List Entry) (b : List Marked) (l : ClientLedger) (m : Marked) (ms : List Marked) (here : Here s c place b l m ms) where
  abbrev p : ClientState
  p = l.state

  abbrev later : List Entry
  later = place ++ m.entry ∷ []

  abbrev gone_to : ℕ → ℕ → Option ClientRow → ClientState
  gone_to u n o = elim o [ None ↦ l.state | Some r ↦ with_connection u n l.state r ]

  pub same_number_later : (w : What) → m.entry.what ≡ w → operation_message w ≡ None → bind_number c (place ++ m.entry ∷ []) ≡ bind_number c place
  same_number_later w e none = number_later c place m.entry (ap (λ v. passes (λ n. passes (same_kind Bind) (kind_of n.rest)) (operation_message v)) e ∙ ap (passes (λ n. passes (same_kind Bind) (kind_of n.rest))) none)

  -- A message.
  module _ (id : ℕ) (rest : List ℕ) (is_in : m.entry.what ≡ what.In id rest) where
    abbrev msg : Message
    msg = record { id = id; rest = rest }

    pub in_hold : (mk bd : Bool) → (in_state s m.entry.at l.state (record { id = id; rest = rest }) mk bd).hold ≡ l.state.hold
    in_hold false bd = refl
    in_hold true true = refl
    in_hold true false = refl

    message : (x : Bool) → makes_operation msg ≡ x → operation_message m.entry.what ≡ elim x [ true ↦ Some (record { id = id; rest = rest }) | false ↦ None ]
    message x e = ap operation_message is_in ∙ ap (λ y. elim y [ true ↦ Some (record { id = id; rest = rest }) | false ↦ None ]) e

    not_made : makes_operation msg ≡ false → bind_number c (place ++ m.entry ∷ []) ≡ bind_number c place
    not_made e = number_later c place m.entry (ap (passes (λ n. passes (same_kind Bind) (kind_of n.rest))) (message false e))

    other_made : makes_operation msg ≡ true → is_request_of Bind msg ≡ false → bind_number c (place ++ m.entry ∷ []) ≡ bind_number c place
    other_made e d = number_later c place m.entry (ap (passes (λ n. passes (same_kind Bind) (kind_of n.rest))) (message true e) ∙ d)

    bind_made : makes_operation msg ≡ true → is_request_of Bind msg ≡ true → bind_number c (place ++ m.entry ∷ []) ≡ suc (length (operations c place))
    bind_made e d = ap number_of (last_new c place m.entry msg (message true e) d)

    -- a message comes only where no Bind is live, so what is held is of an exchange
    none_bound : list_any is_bind_row l.state.rows ≡ true → false ≡ true
    none_bound j =
        let live : list_any (lets_wait s place) (live_operations c place) ≡ true = any_imply (is_of Bind) (lets_wait s place) (live_operations c place) (λ o i. or_left (is_of Bind o) _ i) (row_live l.state.rows (live_operations c place) (here.begins (ap is_begun is_in)).lives.rows j) in
        sym (not_true (waits s c place) (implied (is_some (in_message m.entry.what)) _ here.unheld (ap (λ w. is_some (in_message w)) is_in))) ∙ live

    in_exchange : (x : Held) → l.state.hold ≡ Some x → l.state.in_exchange ≡ true
    in_exchange x e = or_elim l.state.in_exchange (list_any is_bind_row l.state.rows) (λ j. j) (λ j. absurd (let bad : false ≡ true = none_bound j in cc)) (implied (is_some l.state.hold) _ here.stands.pending (ap is_some e))

    asked_old : list_any (λ a. a.op.k == suc (length (operations c place))) l.state.asked ≡ false
    asked_old = none_each (λ (a : AskedFor). a.op.k == suc (length (operations c place))) l.state.asked (each_imply (AskKnown c place) (λ a. (a.op.k == suc (length (operations c place))) ≡ false) l.state.asked (λ a known. above a.op.k (length (operations c place)) (right (a.op.client == c && nat_lt 0 a.op.k) _ known.within)) here.stands.asks.each)
      where
        above : (n top : ℕ) → nat_le n top ≡ true → (n == suc top) ≡ false
        above n top h = false_by (n == suc top) (λ e. absurd (grind (arith, nat_tests, h, e)))

    abbrev wanted : AskedFor
    wanted = record { op = next_name l.state; kind = kind_wanted (record { id = id; rest = rest }) }

    abbrev asked_by : Bool → Bool → List AskedFor
    asked_by g pin = if g && not pin then l.state.asked ++ wanted ∷ [] else l.state.asked

    unasked_in : LastUnasked c place l.state → (x : Held) → l.state.hold ≡ Some x → list_any (λ a. a.op.k == bind_number c (place ++ m.entry ∷ [])) (asked_behind s l.state (what.In id rest)) ≡ false
    unasked_in h x e = by (makes_operation msg) (is_request_of Bind msg) (lets_go_on (check_at s l.state msg)) l.state.in_exchange refl refl (going_makes s l.state msg) (in_exchange x e)
      where
        at_number : (xs : List AskedFor) (n : ℕ) → bind_number c (place ++ m.entry ∷ []) ≡ n → list_any (λ a. a.op.k == n) xs ≡ false → list_any (λ a. a.op.k == bind_number c (place ++ m.entry ∷ [])) xs ≡ false
        at_number xs n same j = ap (λ v. list_any (λ (a : AskedFor). a.op.k == v) xs) same ∙ j

        other : (suc l.state.count == bind_number c place) ≡ false
        other = false_by (suc l.state.count == bind_number c place) (λ j. let top : nat_le (bind_number c place) (length (operations c place)) ≡ true = last_within c place in let same : l.state.count ≡ length (operations c place) = here.stands.count in absurd (grind (arith, nat_tests, top, same, j)))

        by : (mk bd g ex : Bool) → makes_operation msg ≡ mk → is_request_of Bind msg ≡ bd → (g ≡ true → makes_operation msg ≡ true) → ex ≡ true → list_any (λ a. a.op.k == bind_number c (place ++ m.entry ∷ [])) (asked_by g (bd && ex && g)) ≡ false
        by mk bd g false y d f i = absurd (let bad : false ≡ true = i in cc)
        by true true true true y d f i = at_number l.state.asked (suc (length (operations c place))) (bind_made y d) asked_old
        by true true false true y d f i = at_number l.state.asked (suc (length (operations c place))) (bind_made y d) asked_old
        by true false true true y d f i = at_number (l.state.asked ++ wanted ∷ []) (bind_number c place) (other_made y d) (none_of_both (λ (a : AskedFor). a.op.k == bind_number c place) l.state.asked (wanted ∷ []) (h x e) (ap (λ z. z || false) other))
        by true false false true y d f i = at_number l.state.asked (bind_number c place) (other_made y d) (h x e)
        by false bd true true y d f i = not_both (makes_operation msg) (f refl) y
        by false bd false true y d f i = at_number l.state.asked (bind_number c place) (not_made y) (h x e)

    below_in : (k : ℕ) → nat_le k (bind_number c place) ≡ true → nat_le k (bind_number c (place ++ m.entry ∷ [])) ≡ true
    below_in k low = by (makes_operation msg) (is_request_of Bind msg) refl refl
      where
        top : nat_le (bind_number c place) (length (operations c place)) ≡ true
        top = last_within c place

        above : nat_le k (suc (length (operations c place))) ≡ true
        above = grind (arith, nat_tests, low, top)

        by : (mk bd : Bool) → makes_operation msg ≡ mk → is_request_of Bind msg ≡ bd → nat_le k (bind_number c (place ++ m.entry ∷ [])) ≡ true
        by true true y d = ap (nat_le k) (bind_made y d) ∙ above
        by true false y d = ap (nat_le k) (other_made y d) ∙ low
        by false bd y d = ap (nat_le k) (not_made y) ∙ low

  -- An answer.
  out_held : (rest : List ℕ) (o : Option ClientRow) (x : Held) → (out_state_of s m.entry.at m.mark l.state rest o).hold ≡ Some x → l.state.hold ≡ Some x
  out_held rest None x e = e
  out_held rest (Some r) x e = by (is_final_for r.request rest) (is_bind_row r) (has_code 14 rest) e
    where
      ended : ClientState
      ended = without (λ y. y.k == r.k) m.entry.at l.state

      answered : Bool → ClientState
      answered y = elim y [ true ↦ record ended { in_exchange = true } | false ↦ record ended { hold = None; identity = if has_code 0 rest then identity_of s (who_told m.mark) (request r.request.rest) else [] } ]

      state : Bool → Bool → Bool → ClientState
      state g d y = elim g [ false ↦ l.state | true ↦ elim d [ true ↦ answered y | false ↦ ended ] ]

      by : (g d y : Bool) → (state g d y).hold ≡ Some x → l.state.hold ≡ Some x
      by false d y j = j
      by true true true j = j
      by true true false j = absurd (let bad : None ≡ Some x = j in cc)
      by true false y j = j

  -- A choice, for the operation of a row.
  module _ (op : OpName) (r : ClientRow) (row_is : row_named l.state op ≡ Some r) (bind : is_bind_row r ≡ true) where
    pub named : (l.state.number == op.client && r.k == op.k) ≡ true
    named = found_passes (λ x. l.state.number == op.client && x.k == op.k) l.state.rows r row_is

    pub row_number : r.k ≡ bind_number c place
    row_number = same_number r.k (bind_number c place) (agreed (is_bind_row r) (r.k == bind_number c place) (found (is_kind_right (bind_number c place)) (λ x. l.state.number == op.client && x.k == op.k) l.state.rows r row_is here.stands.exchange.kinds) bind)
      where
        agreed : (a d : Bool) → agrees a d ≡ true → a ≡ true → d ≡ true
        agreed true d k e = k
        agreed false d k e = absurd (let bad : false ≡ true = e in cc)

    op_number : op.k ≡ bind_number c place
    op_number = sym (same_number r.k op.k (right (l.state.number == op.client) _ named)) ∙ row_number

    op_client : op.client ≡ c
    op_client = sym (same_number l.state.number op.client (left (l.state.number == op.client) _ named)) ∙ here.stands.says.number

    none_left : list_any (λ a. a.op.k == bind_number c place) (filter (λ a. not (same_op op a.op)) l.state.asked) ≡ false
    none_left = none_each (λ (a : AskedFor). a.op.k == bind_number c place) (filter (λ a. not (same_op op a.op)) l.state.asked) (each_filter (AskKnown c place) (λ a. (a.op.k == bind_number c place) ≡ false) (λ a. not (same_op op a.op)) l.state.asked one here.stands.asks.each)
      where
        one : (a : AskedFor) → not (same_op op a.op) ≡ true → AskKnown c place a → (a.op.k == bind_number c place) ≡ false
        one a k known = false_by (a.op.k == bind_number c place) (λ j. sym (ap not (both (op.client == a.op.client) _ (eq_eqb op.client a.op.client (op_client ∙ sym (same_number a.op.client c (left (a.op.client == c) _ (left (a.op.client == c && nat_lt 0 a.op.k) _ known.within))))) (eq_eqb op.k a.op.k (op_number ∙ sym (same_number a.op.k (bind_number c place) j))))) ∙ k)

    -- where it was asked for, nothing is held
    asked_free : LastUnasked c place l.state → list_any (λ a. same_op op a.op) l.state.asked ≡ true → (x : Held) → l.state.hold ≡ Some x → false ≡ true
    asked_free h asked x e = sym (h x e) ∙ any_imply (λ a. same_op op a.op) (λ a. a.op.k == bind_number c place) l.state.asked (λ a k. eq_eqb a.op.k (bind_number c place) (sym (same_number op.k a.op.k (right (op.client == a.op.client) _ k)) ∙ op_number)) asked

  unasked_chosen : LastUnasked c place l.state → (op : OpName) (a : Answer) (x : Held) → (with_choice op a l.state).hold ≡ Some x → list_any (λ y. y.op.k == bind_number c place) (filter (λ y. not (same_op op y.op)) l.state.asked) ≡ false
  unasked_chosen h op a x e = by a e
    where
      old : l.state.hold ≡ Some x → list_any (λ y. y.op.k == bind_number c place) (filter (λ y. not (same_op op y.op)) l.state.asked) ≡ false
      old j = false_by (list_any (λ y. y.op.k == bind_number c place) (filter (λ y. not (same_op op y.op)) l.state.asked)) (λ i. sym (h x j) ∙ any_filtered (λ (y : AskedFor). y.op.k == bind_number c place) (λ y. not (same_op op y.op)) l.state.asked i)

      kind : (u n : ℕ) (r : ClientRow) → row_named l.state op ≡ Some r → (d : Bool) → is_bind_row r ≡ d → (if d then Some (record { connection = u; holder = name_of l.state r }) else l.state.hold) ≡ Some x → list_any (λ y. y.op.k == bind_number c place) (filter (λ y. not (same_op op y.op)) l.state.asked) ≡ false
      kind u n r z true i j = none_left op r z i
      kind u n r z false i j = old j

      row : (u n : ℕ) (o : Option ClientRow) → row_named l.state op ≡ o → (gone_to u n o).hold ≡ Some x → list_any (λ y. y.op.k == bind_number c place) (filter (λ y. not (same_op op y.op)) l.state.asked) ≡ false
      row u n None z j = old j
      row u n (Some r) z j = kind u n r z (is_bind_row r) refl j

      by : (v : Answer) → (with_choice op v l.state).hold ≡ Some x → list_any (λ y. y.op.k == bind_number c place) (filter (λ y. not (same_op op y.op)) l.state.asked) ≡ false
      by (Go u n) j = row u n (row_named l.state op) refl j
      by Busy j = old j
      by Unavailable j = old j

  unasked_by : LastUnasked c place l.state → (w : What) → m.entry.what ≡ w → (x : Held) → (client_behind s m.entry.at m.mark l.state w).hold ≡ Some x → list_any (λ a. a.op.k == bind_number c (place ++ m.entry ∷ [])) (asked_behind s l.state w) ≡ false
  unasked_by h (what.In id rest) e x j = unasked_in id rest e h x (sym (in_hold id rest e (makes_operation (record { id = id; rest = rest })) (is_request_of Bind (record { id = id; rest = rest }))) ∙ j)
  unasked_by h (what.Chosen op a) e x j = ap (λ n. list_any (λ (y : AskedFor). y.op.k == n) (filter (λ y. not (same_op op y.op)) l.state.asked)) (same_number_later (what.Chosen op a) e refl) ∙ unasked_chosen h op a x j
  unasked_by h (what.Out id rest) e x j = ap (λ n. list_any (λ (y : AskedFor). y.op.k == n) l.state.asked) (same_number_later (what.Out id rest) e refl) ∙ h x (out_held rest (row_under l.state id) x j)
  unasked_by h (what.Gone why) e x j = absurd (let bad : None ≡ Some x = j in cc)
  unasked_by h w e x j = ap (λ n. list_any (λ (y : AskedFor). y.op.k == n) l.state.asked) (same_number_later w e refl) ∙ h x j

  pub unasked_next : LastUnasked c place l.state → LastUnasked c (place ++ m.entry ∷ []) (step_client s l.state m)
  unasked_next h x e = unasked_by h m.entry.what refl x e

  -- What is held.
  module _ (k u : ℕ) (h : Holds c k u place l.state.hold) (alive : Alive c place l.state (m ∷ ms)) (unasked : LastUnasked c place l.state) (asked : (op : OpName) (a : Answer) → m.entry.what ≡ what.Chosen op a → list_any (λ x. same_op op x.op) l.state.asked ≡ true) (quiet : list_any (is_left_there (record { client = c; k = k }) u) (client_letters s l.state m.entry.at m.entry.what) ≡ false) where
    abbrev After : Option Held → Type 0
    After hold = HoldsOrEnded c k u (place ++ m.entry ∷ []) hold

    stays : (w : What) → m.entry.what ≡ w → operation_message w ≡ None → (hold : Option Held) → hold ≡ l.state.hold → After hold
    stays w e none hold same = inl (record { holds = same ∙ h.holds; below = ap (nat_le k) (same_number_later w e none) ∙ h.below })

    -- the last Bind was answered for good
    module _ (id : ℕ) (rest : List ℕ) (is_out : m.entry.what ≡ what.Out id rest) (r : ClientRow) (under : row_under l.state id ≡ Some r) (final : is_final_for r.request rest ≡ true) (bind : is_bind_row r ≡ true) (over : has_code 14 rest ≡ false) where
      live_ends : ClientLives c place l.state → is_ended c k (place ++ m.entry ∷ []) ≡ true
      live_ends lives =
          let it : LiveRow c place r × ((r.request.id == id) ≡ true) = last_passing (LiveRow c place) (λ x. x.request.id == id) l.state.rows r under (live_rows c place l.state lives) in
          let row : LiveRow c place r = it.0 in
          let number : r.k ≡ bind_number c place = same_number r.k (bind_number c place) (right_kind (is_bind_row r) (r.k == bind_number c place) (last_all (λ x. x.request.id == id) (is_kind_right (bind_number c place)) l.state.rows r under here.stands.exchange.kinds) bind) in
          let ended : is_ended c k (place ++ record { part = m.entry.part; at = m.entry.at; what = what.Out id rest } ∷ []) ≡ true =
          out_ended c k r.k place m.entry.part m.entry.at id rest row.0 row.1.1.0 (ap (nat_le k) (sym row.1.0.k ∙ number) ∙ h.below) (ap (passes (same_kind Bind)) (sym row.1.0.kind) ∙ bind)
          (both (row.0.request.id == id) _ (eq_eqb row.0.request.id id (sym row.1.0.id ∙ same_number r.request.id id it.1)) row.1.1.1.1)
          (ap (passes (λ kind. is_final kind rest)) (sym row.1.0.kind) ∙ final) over in
          subst (λ w. is_ended c k (place ++ record { part = m.entry.part; at = m.entry.at; what = w } ∷ []) ≡ true) (sym is_out) ended
        where
          right_kind : (a d : Bool) → agrees a d ≡ true → a ≡ true → d ≡ true
          right_kind true d i e = i
          right_kind false d i e = absurd (let bad : false ≡ true = e in cc)

      no_notice : is_notice m.entry ≡ true → false ≡ true
      no_notice g = sym (notice_unbinding r id rest bind (ap (λ w. passes (is_this 0 protocol_error_notice) (out_message w)) (sym is_out) ∙ g)) ∙ final

      answered : is_ended c k (place ++ m.entry ∷ []) ≡ true
      answered = by alive
        where
          by : Alive c place l.state (m ∷ ms) → is_ended c k (place ++ m.entry ∷ []) ≡ true
          by (inl lives) = live_ends lives
          by (inr soon) = or_elim (is_gone m.entry) (is_notice m.entry && first_passes is_gone (entries ms)) (λ g. absurd (let bad : false ≡ true = ap (λ w. is_gone (record { part = m.entry.part; at = m.entry.at; what = w })) (sym is_out) ∙ g in cc)) (λ g. absurd (let bad : false ≡ true = no_notice (left (is_notice m.entry) _ g) in cc)) soon.1

    out_next : (id : ℕ) (rest : List ℕ) → m.entry.what ≡ what.Out id rest → (o : Option ClientRow) → row_under l.state id ≡ o → After (out_state_of s m.entry.at m.mark l.state rest o).hold
    out_next id rest e None z = stays (what.Out id rest) e refl l.state.hold refl
    out_next id rest e (Some r) z = by (is_final_for r.request rest) (is_bind_row r) (has_code 14 rest) refl refl refl
      where
        ended : ClientState
        ended = without (λ y. y.k == r.k) m.entry.at l.state

        answered_by : Bool → ClientState
        answered_by y = elim y [ true ↦ record ended { in_exchange = true } | false ↦ record ended { hold = None; identity = if has_code 0 rest then identity_of s (who_told m.mark) (request r.request.rest) else [] } ]

        state : Bool → Bool → Bool → ClientState
        state g d y = elim g [ false ↦ l.state | true ↦ elim d [ true ↦ answered_by y | false ↦ ended ] ]

        by : (g d y : Bool) → is_final_for r.request rest ≡ g → is_bind_row r ≡ d → has_code 14 rest ≡ y → After (state g d y).hold
        by false d y i j f = stays (what.Out id rest) e refl l.state.hold refl
        by true true true i j f = stays (what.Out id rest) e refl l.state.hold refl
        by true true false i j f = inr (answered id rest e r z i j f)
        by true false y i j f = stays (what.Out id rest) e refl l.state.hold refl

    chosen_next : (op : OpName) (a : Answer) → m.entry.what ≡ what.Chosen op a → After (with_choice op a l.state).hold
    chosen_next op a e = by a
      where
        same : After l.state.hold
        same = stays (what.Chosen op a) e refl l.state.hold refl

        kind : (v : ℕ) (r : ClientRow) → row_named l.state op ≡ Some r → (d : Bool) → is_bind_row r ≡ d → After (if d then Some (record { connection = v; holder = name_of l.state r }) else l.state.hold)
        kind v r z true i = absurd (let bad : false ≡ true = asked_free op r z i unasked (asked op a e) (record { connection = u; holder = record { client = c; k = k } }) h.holds in cc)
        kind v r z false i = same

        row : (v n : ℕ) (o : Option ClientRow) → row_named l.state op ≡ o → After (gone_to v n o).hold
        row v n None z = same
        row v n (Some r) z = kind v r z (is_bind_row r) refl

        by : (x : Answer) → After (with_choice op x l.state).hold
        by (Go v n) = row v n (row_named l.state op) refl
        by Busy = same
        by Unavailable = same

    holds_by : (w : What) → m.entry.what ≡ w → After (client_behind s m.entry.at m.mark l.state w).hold
    holds_by (what.In id rest) e = inl (record { holds = in_hold id rest e (makes_operation (record { id = id; rest = rest })) (is_request_of Bind (record { id = id; rest = rest })) ∙ h.holds; below = below_in id rest e k h.below })
    holds_by (what.Out id rest) e = out_next id rest e (row_under l.state id) refl
    holds_by (what.Chosen op a) e = chosen_next op a e
    holds_by (what.Gone why) e = absurd (let bad : false ≡ true = sym quiet ∙ ap (λ w. list_any (is_left_there (record { client = c; k = k }) u) (client_letters s l.state m.entry.at w)) e ∙ closing_gives c k u l.state h.holds in cc)
    holds_by w e = stays w e refl l.state.hold refl

    pub holds_next : HoldsOrEnded c k u (place ++ m.entry ∷ []) (step_client s l.state m).hold
    holds_next = holds_by m.entry.what refl
