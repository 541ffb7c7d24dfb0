-- The exchange behind a message: a Bind begins anew, and goes on to what is held; another request changes nothing of it.
use Rattle.std.proofs.Common.{◌≡◌, ℕ, suc, Bool, true, false, ◌==◌, ◌&&◌, not, if◌then◌else◌, List, [], ◌∷◌, ◌++◌, length, refl, ap, arith, ◌∙◌, sym, subst}
use Rattle.std.specs.Prelude.{Option, Some, None, filter, nat_le, nat_lt}
use Rattle.std.specs.List.{list_any, list_all}
use Rattle.std.proofs.lemmas.Bool.Decides.{nat_tests}
use Rattle.std.proofs.lemmas.List.Folds.{list_all-append}
use Rattle.ldap_spec.specs.Kinds.{kind_of, same_kind}
use Rattle.ldap_spec.specs.Messages.{Message}
use Rattle.lload_names.specs.declared.names.Entry.{Entry}
use Rattle.lload_names.specs.declared.names.OpKind.TheVariants.{Bind}
use Rattle.lload_names.specs.declared.names.What.TheVariants as what
use Rattle.lload_spec.specs.Binding.{kind_wanted}
use Rattle.lload_spec.specs.Entries.{operation_message, makes_operation}
use Rattle.lload_spec.specs.FirstCheck.{lets_go_on}
use Rattle.lload_spec.specs.Journal.{same_op}
use Rattle.lload_spec.specs.Lists.{passes, agrees}
use Rattle.lload_spec.specs.Operations.{operations, is_request_of, is_bind_in}
use Rattle.lload_spec.specs.Settings.{Settings}
use Rattle.lload_spec.proofs.Growth.{left, right, both}
use Rattle.lload_laws.proofs.ListLaws.{all_imply, implies_by}
use Rattle.part_laws.proofs.ListLaws.{all_kept, eq_eqb, eqb_same, false_by, not_both}
use Rattle.part_spec.specs.ClientState.{ClientState, ClientRow, Held, AskedFor, is_bind_row, check_at, new_row, next_name, held_connection, without, abandons, with_bind, with_request}
use Rattle.part_spec.specs.Fit.{ClientLedger, Expected, is_last_by, with_forward}
use Rattle.part_spec.specs.Marked.{Marked}
use Rattle.client_laws.proofs.KindsKept.{carried_kind}
use Rattle.client_answer_laws.proofs.Asks.{AsksKnown, asked_known, going_makes}
use Rattle.client_answer_laws.proofs.Each.{Each}
use Rattle.client_answer_laws.proofs.Expects.{ExpectKnown}
use Rattle.forward_laws.proofs.Exchange.{Exchange, is_known_up_to, is_at_hold, is_held_there, is_kind_right, is_asked_too, place_more, rows_less, expected_less, asked_more, row_more}
use Rattle.forward_laws.proofs.Ops.{bind_number, number_of, number_later, last_new}

-- what is known of what is expected
pub expected_up_to : (s : Settings) (c : ℕ) (place : List Entry) (xs : List Expected) → Each (ExpectKnown s c place) xs → list_all (is_known_up_to c (length (operations c place))) xs ≡ true
expected_up_to s c place [] h = refl
expected_up_to s c place (x ∷ xs) h = both (is_known_up_to c (length (operations c place)) x) _ (both (x.op.client == c) _ (left (x.op.client == c) _ (left (x.op.client == c && nat_lt 0 x.op.k) _ h.0.within)) (right (x.op.client == c && nat_lt 0 x.op.k) _ h.0.within)) (expected_up_to s c place xs h.1)

above : (k n : ℕ) → nat_le k n ≡ true → (k == suc n) ≡ false
above k n h = false_by (k == suc n) (λ e. absurd (grind (arith, nat_tests, h, e)))

-- the exchange at a place of a client's list
abbrev pub ExchangeAt : ℕ → List Entry → List Marked → ClientLedger → Type 0
ExchangeAt c place b l = Exchange c (bind_number c place) place b l.state.rows l.state.hold l.state.asked l.state.in_exchange l.expected

-- behind an entry that is no Bind
pub stays : (c : ℕ) (place : List Entry) (b : List Marked) (m : Marked) (rows : List ClientRow) (hold : Option Held) (asked : List AskedFor) (ex : Bool) (expected : List Expected) (u : Expected → Bool) → is_bind_in m.entry ≡ false → Exchange c (bind_number c place) place b rows hold asked ex expected → Exchange c (bind_number c (place ++ m.entry ∷ [])) (place ++ m.entry ∷ []) (b ++ m ∷ []) rows hold asked ex (filter u expected)
stays c place b m rows hold asked ex expected u e h =
    let more : Exchange c (bind_number c place) (place ++ m.entry ∷ []) (b ++ m ∷ []) rows hold asked ex expected = place_more c (bind_number c place) place b rows hold asked ex expected h m e in
    subst (λ n. Exchange c n (place ++ m.entry ∷ []) (b ++ m ∷ []) rows hold asked ex (filter u expected)) (sym (number_later c place m.entry e)) (expected_less c (bind_number c place) (place ++ m.entry ∷ []) (b ++ m ∷ []) rows hold asked ex expected more u)

module _ (s : Settings) (c : ℕ) (place : List Entry) (b : List Marked) (l : ClientLedger) (m : Marked) (number : l.state.number ≡ c) (count : l.state.count ≡ length (operations c place)) (asks : AsksKnown c place l.state.asked) (known : Each (ExpectKnown s c place) l.expected) (low : nat_le (bind_number c place) (length (operations c place)) ≡ true) (h : ExchangeAt c place b l) where
  -- what is expected is below the next number
  olds : list_all (λ x. not (x.op.k == suc l.state.count)) l.expected ≡ true
  olds = all_imply (is_known_up_to c (length (operations c place))) (λ x. not (x.op.k == suc l.state.count)) l.expected (λ x k. ap not (ap (λ n. x.op.k == suc n) count ∙ above x.op.k (length (operations c place)) (right (x.op.client == c) _ k))) (expected_up_to s c place l.expected known)

  next_unasked : list_any (λ a. same_op (next_name l.state) a.op) l.state.asked ≡ false
  next_unasked = false_by (list_any (λ a. same_op (next_name l.state) a.op) l.state.asked) (λ j. let top : nat_le (suc l.state.count) (length (operations c place)) ≡ true = right (l.state.number == c && nat_lt 0 (suc l.state.count)) _ (asked_known c place l.state.asked (next_name l.state) asks.each j).within in let same : l.state.count ≡ length (operations c place) = count in absurd (grind (arith, nat_tests, top, same)))

  module _ (id : ℕ) (rest : List ℕ) (is_in : m.entry.what ≡ what.In id rest) where
    abbrev msg : Message
    msg = record { id = id; rest = rest }

    abbrev wanted : AskedFor
    wanted = record { op = next_name l.state; kind = kind_wanted msg }

    abbrev state_by : Bool → Bool → ClientState
    state_by mk bd = elim mk [ false ↦ without (abandons msg) m.entry.at l.state | true ↦ elim bd [ true ↦ with_bind s msg l.state | false ↦ with_request s msg l.state ] ]

    abbrev asked_by : Bool → Bool → List AskedFor
    asked_by g pin = if g && not pin then l.state.asked ++ wanted ∷ [] else l.state.asked

    abbrev expected_by : Bool → Bool → List Expected
    expected_by g pin = if g && pin then with_forward (next_name l.state) (new_row s l.state msg).request (held_connection l.state) l.expected else l.expected

    abbrev Next : Bool → Bool → List AskedFor → List Expected → Type 0
    Next mk bd asked expected = Exchange c (bind_number c (place ++ m.entry ∷ [])) (place ++ m.entry ∷ []) (b ++ m ∷ []) (state_by mk bd).rows (state_by mk bd).hold asked (state_by mk bd).in_exchange (filter (λ x. not (is_last_by x.op m.mark)) expected)

    message : (x : Bool) → makes_operation msg ≡ x → operation_message m.entry.what ≡ elim x [ true ↦ Some (record { id = id; rest = rest }) | false ↦ None ]
    message x e = ap operation_message is_in ∙ ap (λ y. elim y [ true ↦ Some (record { id = id; rest = rest }) | false ↦ None ]) e

    no_bind : makes_operation msg ≡ false → is_bind_in m.entry ≡ false
    no_bind e = ap (passes (λ n. passes (same_kind Bind) (kind_of n.rest))) (message false e)

    other_kind : makes_operation msg ≡ true → is_request_of Bind msg ≡ false → is_bind_in m.entry ≡ false
    other_kind e k = ap (passes (λ n. passes (same_kind Bind) (kind_of n.rest))) (message true e) ∙ k

    -- an Abandon, or a message that makes no operation
    abandoned : makes_operation msg ≡ false → Next false false l.state.asked l.expected
    abandoned e = stays c place b m (filter (λ r. not (abandons msg r)) l.state.rows) l.state.hold l.state.asked l.state.in_exchange l.expected (λ x. not (is_last_by x.op m.mark)) (no_bind e) (rows_less c (bind_number c place) place b l.state.rows l.state.hold l.state.asked l.state.in_exchange l.expected h (λ r. not (abandons msg r)))

    -- a request that is no Bind
    row_kind : is_bind_row (new_row s l.state msg) ≡ is_request_of Bind msg
    row_kind = ap (passes (same_kind Bind)) (carried_kind s msg l.state.identity)

    one_more : is_request_of Bind msg ≡ false → Exchange c (bind_number c place) place b (l.state.rows ++ new_row s l.state msg ∷ []) l.state.hold l.state.asked l.state.in_exchange l.expected
    one_more k = row_more c (bind_number c place) place b l.state.rows l.state.hold l.state.asked l.state.in_exchange l.expected h (new_row s l.state msg) (row_kind ∙ k) (false_by (suc l.state.count == bind_number c place) (λ j. let top : nat_le (bind_number c place) (length (operations c place)) ≡ true = low in let same : l.state.count ≡ length (operations c place) = count in absurd (grind (arith, nat_tests, top, same, j))))

    asked_too : is_request_of Bind msg ≡ false → Exchange c (bind_number c place) place b (l.state.rows ++ new_row s l.state msg ∷ []) l.state.hold (l.state.asked ++ wanted ∷ []) l.state.in_exchange l.expected
    asked_too k = asked_more c (bind_number c place) place b (l.state.rows ++ new_row s l.state msg ∷ []) l.state.hold l.state.asked l.state.in_exchange l.expected (one_more k) wanted olds

    requested : makes_operation msg ≡ true → is_request_of Bind msg ≡ false → (g : Bool) → Next true false (asked_by g false) (expected_by g false)
    requested e k true = stays c place b m (l.state.rows ++ new_row s l.state msg ∷ []) l.state.hold (l.state.asked ++ wanted ∷ []) l.state.in_exchange l.expected (λ x. not (is_last_by x.op m.mark)) (other_kind e k) (asked_too k)
    requested e k false = stays c place b m (l.state.rows ++ new_row s l.state msg ∷ []) l.state.hold l.state.asked l.state.in_exchange l.expected (λ x. not (is_last_by x.op m.mark)) (other_kind e k) (one_more k)

    -- a Bind: none but itself is live, and what is expected for it is where it goes on
    new_number : makes_operation msg ≡ true → is_request_of Bind msg ≡ true → suc l.state.count ≡ bind_number c (place ++ m.entry ∷ [])
    new_number e k = ap suc count ∙ sym (ap number_of (last_new c place m.entry msg (message true e) k))

    bound : (asked : List AskedFor) (expected : List Expected) → makes_operation msg ≡ true → is_request_of Bind msg ≡ true → list_all (is_held_there (suc l.state.count) l.state.hold) expected ≡ true → list_all (λ x. not (is_asked_too asked x)) expected ≡ true → Next true true asked expected
    bound asked expected e k held un =
        subst (λ n. Exchange c n (place ++ m.entry ∷ []) (b ++ m ∷ []) (new_row s l.state msg ∷ []) l.state.hold asked false (filter (λ x. not (is_last_by x.op m.mark)) expected)) (new_number e k)
        (record {
          kinds = both (is_kind_right (suc l.state.count) (new_row s l.state msg)) true (ap (λ x. agrees x (suc l.state.count == suc l.state.count)) (row_kind ∙ k) ∙ ap (agrees true) (eqb_same (suc l.state.count))) refl;
          held = λ j. all_kept (is_held_there (suc l.state.count) l.state.hold) (λ x. not (is_last_by x.op m.mark)) expected held;
          unasked = all_kept (λ x. not (is_asked_too asked x)) (λ x. not (is_last_by x.op m.mark)) expected un;
          going = λ j. absurd (let bad : false ≡ true = j in cc);
        })

    old_held : list_all (is_held_there (suc l.state.count) l.state.hold) l.expected ≡ true
    old_held = all_imply (λ x. not (x.op.k == suc l.state.count)) (is_held_there (suc l.state.count) l.state.hold) l.expected (λ x k. implies_by (x.op.k == suc l.state.count) _ (λ j. absurd (let bad : false ≡ true = sym (ap not j) ∙ k in cc))) olds

    both_held : (hd : Held) (x : Expected) → l.state.hold ≡ Some hd → x.connection ≡ hd.connection → list_all (is_held_there (suc l.state.count) l.state.hold) (l.expected ++ x ∷ []) ≡ true
    both_held hd x e k = list_all-append (is_held_there (suc l.state.count) l.state.hold) l.expected (x ∷ []) ∙ both (list_all (is_held_there (suc l.state.count) l.state.hold) l.expected) _ old_held (both (is_held_there (suc l.state.count) l.state.hold x) true (implies_by (x.op.k == suc l.state.count) _ (λ j. ap (λ o. is_at_hold o x) e ∙ eq_eqb hd.connection x.connection (sym k))) refl)

    both_unasked : (x : Expected) → x.op ≡ next_name l.state → list_all (λ y. not (is_asked_too l.state.asked y)) (l.expected ++ x ∷ []) ≡ true
    both_unasked x e = list_all-append (λ y. not (is_asked_too l.state.asked y)) l.expected (x ∷ []) ∙ both (list_all (λ y. not (is_asked_too l.state.asked y)) l.expected) _ h.unasked (both (not (is_asked_too l.state.asked x)) true (ap (λ o. not (list_any (λ a. same_op o a.op) l.state.asked)) e ∙ ap not next_unasked) refl)

    old_unasked : list_all (λ y. not (is_asked_too (l.state.asked ++ wanted ∷ []) y)) l.expected ≡ true
    old_unasked = (asked_more c (bind_number c place) place b l.state.rows l.state.hold l.state.asked l.state.in_exchange l.expected h wanted olds).unasked

    pinned : makes_operation msg ≡ true → is_request_of Bind msg ≡ true → (hold : Option Held) → l.state.hold ≡ hold → Next true true l.state.asked (with_forward (next_name l.state) (new_row s l.state msg).request (elim hold [ None ↦ None | Some x ↦ Some x.connection ]) l.expected)
    pinned e k None z = bound l.state.asked l.expected e k old_held h.unasked
    pinned e k (Some hd) z =
        bound l.state.asked (l.expected ++ record { op = next_name l.state; request = (new_row s l.state msg).request; connection = hd.connection } ∷ []) e k
        (both_held hd (record { op = next_name l.state; request = (new_row s l.state msg).request; connection = hd.connection }) z refl)
        (both_unasked (record { op = next_name l.state; request = (new_row s l.state msg).request; connection = hd.connection }) refl)

    rebound : makes_operation msg ≡ true → is_request_of Bind msg ≡ true → (g ex : Bool) → Next true true (asked_by g (true && ex && g)) (expected_by g (true && ex && g))
    rebound e k true true = pinned e k l.state.hold refl
    rebound e k true false = bound (l.state.asked ++ wanted ∷ []) l.expected e k old_held old_unasked
    rebound e k false true = bound l.state.asked l.expected e k old_held h.unasked
    rebound e k false false = bound l.state.asked l.expected e k old_held h.unasked

    pub exchange_in : Next (makes_operation msg) (is_request_of Bind msg) (asked_by (lets_go_on (check_at s l.state msg)) (is_request_of Bind msg && l.state.in_exchange && lets_go_on (check_at s l.state msg))) (expected_by (lets_go_on (check_at s l.state msg)) (is_request_of Bind msg && l.state.in_exchange && lets_go_on (check_at s l.state msg)))
    exchange_in = by (makes_operation msg) (is_request_of Bind msg) (lets_go_on (check_at s l.state msg)) refl refl (going_makes s l.state msg)
      where
        by : (mk bd g : Bool) → makes_operation msg ≡ mk → is_request_of Bind msg ≡ bd → (g ≡ true → makes_operation msg ≡ true) → Next mk bd (asked_by g (bd && l.state.in_exchange && g)) (expected_by g (bd && l.state.in_exchange && g))
        by true true g e k f = rebound e k g l.state.in_exchange
        by true false g e k f = requested e k g
        by false bd true e k f = not_both (makes_operation msg) (f refl) e
        by false bd false e k f = abandoned e
