-- Where a client leaves an exchange, no Bind of it was answered for good.
use Rattle.std.proofs.Common.{◌≡◌, inl, inr, ℕ, suc, Bool, true, false, ◌==◌, ◌&&◌, ◌||◌, not, nat_le, nat_lt, List, [], ◌∷◌, ◌++◌, length, map, refl, ap, ◌∙◌, sym, subst, arith, Option, Some, None}
use Rattle.std.specs.List.{list_all, list_any}
use Rattle.std.proofs.lemmas.Bool.Decides.{nat_tests}
use Rattle.std.proofs.lemmas.List.Folds.{list_all-append, list_all-map}
use Rattle.lload_names.specs.declared.names.Answer.TheVariants.{Go}
use Rattle.lload_names.specs.declared.names.Entry.{Entry}
use Rattle.lload_names.specs.declared.names.OpKind.TheVariants.{Bind}
use Rattle.lload_names.specs.declared.names.OpName.{OpName}
use Rattle.lload_names.specs.declared.names.What.TheVariants as what
use Rattle.lload_names.specs.declared.names.What.{What}
use Rattle.ldap_spec.specs.Bodies.{protocol_error_notice}
use Rattle.ldap_spec.specs.Kinds.{kind_of, same_kind}
use Rattle.ldap_spec.specs.Messages.{Message}
use Rattle.ldap_spec.specs.Responses.{has_code}
use Rattle.lload_spec.specs.Entries.{gone_why, is_gone, is_notice, is_this, operation_message, out_message}
use Rattle.lload_spec.specs.Fifo.{is_out_before_end}
use Rattle.lload_spec.specs.Lists.{agrees, first_passes, implies, passes}
use Rattle.lload_spec.specs.Operations.{Operation, is_bind_in, is_final_for, is_live, is_live_at, is_of, live_operations, operation_in, operation_made, operations}
use Rattle.lload_spec.specs.Settings.{Settings}
use Rattle.lload_spec.proofs.Growth.{both, left, right}
use Rattle.part_spec.specs.ClientState.{ClientRow, Held, client_behind, is_bind_row, name_of, row_named}
use Rattle.part_spec.specs.Fit.{ClientLedger}
use Rattle.part_spec.specs.Marked.{Marked, entries}
use Rattle.lload_laws.specs.ClientGrowth.{is_named_within, later_operation}
use Rattle.lload_laws.proofs.ClientGrowth.{count_rises, operations_grow, own_names}
use Rattle.lload_laws.proofs.ListLaws.{all_imply, found, implied, implies_by}
use Rattle.part_laws.proofs.ListLaws.{eq_eqb, false_by, not_true, or_elim, same_number, same_op_eq}
use Rattle.client_laws.proofs.ClientOuts.{has_last}
use Rattle.client_laws.proofs.Matches.{Match, is_untaken}
use Rattle.client_answer_laws.proofs.Each.{each_both}
use Rattle.joined_laws.proofs.Begun.{is_begun, is_live_named, live_named, of_row, own_client}
use Rattle.joined_laws.proofs.Walks.{Begins}
use Rattle.forward_laws.proofs.Exchange.{is_kind_right}
use Rattle.forward_laws.proofs.Ops.{bind_number, last_new, number_later, number_of, own_found}
use Rattle.forward_laws.proofs.Outs.{each_of}
use Rattle.identity_laws.proofs.Finals.{is_timely, none_got}
use Rattle.leave_laws.proofs.Along.{Here}
use Rattle.leave_laws.proofs.Ours.{Alive}
use Rattle.left_laws.proofs.ExchangeOver.{ends_from}
use Rattle.idle_laws.proofs.Closings.{closed_frees, closes_now, closing_stays, none_each}
use Rattle.idle_laws.proofs.Held.{Freed, HoldNext, Learned, Same, hold_next}

-- no Bind of the exchange of what is held was answered for good
abbrev pub IsOpen : ℕ → List Entry → Option Held → Type 0
IsOpen c place hold = (x : Held) → hold ≡ Some x → list_any (ends_from x.holder.k) (operations c place) ≡ false

-- no Bind has a number above that of the last
abbrev is_low : ℕ → Operation → Bool
is_low n b = implies (is_of Bind b) (nat_le b.name.k n)

abbrev pub AreLow : ℕ → List Entry → Type 0
AreLow c place = list_all (is_low (bind_number c place)) (operations c place) ≡ true

pub low_more : (c : ℕ) (place : List Entry) (e : Entry) → AreLow c place → AreLow c (place ++ e ∷ [])
low_more c place e h = by (is_bind_in e) refl
  where
    new : (o : Option Message) → operation_message e.what ≡ o → passes (λ n. passes (same_kind Bind) (kind_of n.rest)) o ≡ true → AreLow c (place ++ e ∷ [])
    new None z j = absurd (let bad : false ≡ true = j in cc)
    new (Some m) z j =
        let number : bind_number c (place ++ e ∷ []) ≡ suc (length (operations c place)) = ap number_of (last_new c place e m z j) in
        let top : length (operations c (place ++ e ∷ [])) ≡ bind_number c (place ++ e ∷ []) = count_rises c place e m z ∙ sym number in
        all_imply (is_named_within c (length (operations c (place ++ e ∷ [])))) (is_low (bind_number c (place ++ e ∷ []))) (operations c (place ++ e ∷ []))
        (λ b i. implies_by (is_of Bind b) (nat_le b.name.k (bind_number c (place ++ e ∷ []))) (λ q. subst (λ n. nat_le b.name.k n ≡ true) top (right (b.name.client == c && nat_lt 0 b.name.k) _ i)))
        (own_names c (place ++ e ∷ []))

    made_low : (n k : ℕ) (o : Option Message) → passes (λ x. passes (same_kind Bind) (kind_of x.rest)) o ≡ false → list_all (is_low n) (operation_made c k place e [] o) ≡ true
    made_low n k None j = refl
    made_low n k (Some m) j = ap (λ d. implies d (nat_le k n) && true) j

    by : (d : Bool) → is_bind_in e ≡ d → AreLow c (place ++ e ∷ [])
    by true k = new (operation_message e.what) refl k
    by false k =
        ap (λ n. list_all (is_low n) (operations c (place ++ e ∷ []))) (number_later c place e k)
        ∙ ap (list_all (is_low (bind_number c place))) (operations_grow c place e)
        ∙ list_all-append (is_low (bind_number c place)) (map (later_operation e) (operations c place)) (operation_made c (suc (length (operations c place))) place e [] (operation_message e.what))
        ∙ both (list_all (is_low (bind_number c place)) (map (later_operation e) (operations c place))) _ (list_all-map (is_low (bind_number c place)) (later_operation e) (operations c place) ∙ h) (made_low (bind_number c place) (suc (length (operations c place))) (operation_message e.what) k)

-- no entry but an Out answers anything
none_answered : (w : What) (os : List Operation) → out_message w ≡ None → list_any (closes_now w) os ≡ false
none_answered w [] h = refl
none_answered w (o ∷ os) h = ap (λ m. passes (λ x. has_last x.id o && is_of Bind o && is_final_for o.request x.rest && not (has_code 14 x.rest)) m || list_any (closes_now w) os) h ∙ none_answered w os h

module _ (s : Settings) (c : ℕ) (place : List Entry) (b : List Marked) (l : ClientLedger) (m : Marked) (ms : List Marked) (here : Here s c place b l m ms) (alive : Alive c place l.state (m ∷ ms)) (timely : list_all (is_timely m.entry) (operations c place) ≡ true) (low : AreLow c place) where
  -- What is chosen for a live Bind: it is the last.
  module _ (op : OpName) (u n : ℕ) (r : ClientRow) (is_one : m.entry.what ≡ what.Chosen op (Go u n)) (row_is : row_named l.state op ≡ Some r) (bind : is_bind_row r ≡ true) where
    start : Begins c place l.state m
    start = here.begins (ap is_begun is_one)

    right_kind : (a d : Bool) → agrees a d ≡ true → a ≡ true → d ≡ true
    right_kind true d k e = k
    right_kind false d k e = absurd (let bad : false ≡ true = e in cc)

    last_one : (r.k == bind_number c place) ≡ true
    last_one = right_kind (is_bind_row r) (r.k == bind_number c place) (found (is_kind_right (bind_number c place)) (λ x. l.state.number == op.client && x.k == op.k) l.state.rows r row_is here.stands.exchange.kinds) bind

    live : is_live_at c place (name_of l.state r) ≡ true
    live =
        let one = of_row (λ x. l.state.number == op.client && x.k == op.k) (is_live_named c place) l.state.rows (live_operations c place) r start.lives.rows (live_named c place) row_is in
        let q : Operation = one.0 in
        let match : Match r q = one.1.0 in
        let same : q.name ≡ name_of l.state r = same_op_eq q.name (name_of l.state r) (both (q.name.client == l.state.number) _ (eq_eqb q.name.client l.state.number (own_client c (length (operations c place)) q (left _ _ one.1.1) ∙ sym start.says.number)) (eq_eqb q.name.k r.k (sym match.k))) in
        subst (λ v. is_live_at c place v ≡ true) same (right _ _ one.1.1)

    abbrev So : Operation → Type 0
    So q = (operation_in c place q.name ≡ Some q) × ((is_low (bind_number c place) q ≡ true) × (is_named_within c (length (operations c place)) q ≡ true))

    one_open : (q : Operation) → So q → ends_from r.k q ≡ false
    one_open q h = false_by (ends_from r.k q) (λ j.
        let two : (nat_le r.k q.name.k && is_of Bind q) ≡ true = left (nat_le r.k q.name.k && is_of Bind q) _ j in
        let over : nat_le r.k q.name.k ≡ true = left (nat_le r.k q.name.k) _ two in
        let under : nat_le q.name.k (bind_number c place) ≡ true = implied (is_of Bind q) (nat_le q.name.k (bind_number c place)) h.1.0 (right (nat_le r.k q.name.k) _ two) in
        let at_last : r.k ≡ bind_number c place = same_number r.k (bind_number c place) last_one in
        let number : (q.name.k == r.k) ≡ true = grind (arith, nat_tests, over, under, at_last) in
        let own : q.name.client ≡ c = same_number q.name.client c (left (q.name.client == c) _ (left (q.name.client == c && nat_lt 0 q.name.k) _ h.1.1)) in
        let name : q.name ≡ name_of l.state r = same_op_eq q.name (name_of l.state r) (both (q.name.client == l.state.number) _ (eq_eqb q.name.client l.state.number (own ∙ sym start.says.number)) number) in
        let lives : is_live q ≡ true = sym (ap (passes is_live) h.0) ∙ subst (λ v. is_live_at c place v ≡ true) (sym name) live in
        sym (none_got (λ x. not (has_code 14 x)) q lives) ∙ right (nat_le r.k q.name.k && is_of Bind q) _ j)

    none_closing : list_any (ends_from r.k) (operations c place) ≡ false
    none_closing = none_each So (ends_from r.k) (operations c place) one_open (each_both (λ q. operation_in c place q.name ≡ Some q) (λ q. (is_low (bind_number c place) q ≡ true) × (is_named_within c (length (operations c place)) q ≡ true)) (operations c place) (own_found c place) (each_both (λ q. is_low (bind_number c place) q ≡ true) (λ q. is_named_within c (length (operations c place)) q ≡ true) (operations c place) (each_of (is_low (bind_number c place)) (operations c place) low) (each_of (is_named_within c (length (operations c place))) (operations c place) (own_names c place))))

  -- Where an answer for good goes out, nothing is held any more.
  freed : list_any (closes_now m.entry.what) (operations c place) ≡ true → (client_behind s m.entry.at m.mark l.state m.entry.what).hold ≡ None
  freed now = by m.entry.what refl
    where
      notice : (id : ℕ) (body : List ℕ) → m.entry.what ≡ what.Out id body → id ≡ 0 → false ≡ true
      notice id body e zero = sym (none (operations c place) timely) ∙ sym (ap (λ w. list_any (closes_now w) (operations c place)) e ∙ ap (λ i. list_any (closes_now (what.Out i body)) (operations c place)) zero) ∙ now
        where
          none : (os : List Operation) → list_all (is_timely m.entry) os ≡ true → list_any (closes_now (what.Out 0 body)) os ≡ false
          none [] t = refl
          none (o ∷ os) t = ap (λ d. d && is_untaken o && is_of Bind o && is_final_for o.request body && not (has_code 14 body) || list_any (closes_now (what.Out 0 body)) os) (not_true (o.request.id == 0) (right (is_out_before_end o.request o.behind m.entry) _ (left (is_timely m.entry o) _ t))) ∙ none os (right (is_timely m.entry o) _ t)

      out : (id : ℕ) (body : List ℕ) → m.entry.what ≡ what.Out id body → Alive c place l.state (m ∷ ms) → (client_behind s m.entry.at m.mark l.state (what.Out id body)).hold ≡ None
      out id body e (inl lives) = closed_frees s c place l.state lives m.entry.part m.entry.at id body m.mark (subst (λ w. list_all (is_timely (record { part = m.entry.part; at = m.entry.at; what = w })) (operations c place) ≡ true) e timely) (ap (λ w. list_any (closes_now w) (operations c place)) (sym e) ∙ now)
      out id body e (inr k) = absurd (let bad : false ≡ true = notice id body e (same_number id 0 (or_elim (is_gone m.entry) (is_notice m.entry && first_passes is_gone (entries ms)) (λ g. absurd (let no : false ≡ true = sym (ap (λ w. passes (λ _. true) (gone_why w)) e) ∙ g in cc)) (λ g. left (id == 0) _ (sym (ap (λ w. passes (is_this 0 protocol_error_notice) (out_message w)) e) ∙ left (is_notice m.entry) _ g)) k.1)) in cc)

      by : (w : What) → m.entry.what ≡ w → (client_behind s m.entry.at m.mark l.state w).hold ≡ None
      by (what.Out id body) e = out id body e alive
      by w e = absurd (let bad : false ≡ true = sym (none_answered m.entry.what (operations c place) (ap out_message e)) ∙ now in cc)

  pub open_more : IsOpen c place l.state.hold → IsOpen c (place ++ m.entry ∷ []) (client_behind s m.entry.at m.mark l.state m.entry.what).hold
  open_more h = by (hold_next s m.entry.at m.mark l.state m.entry.what)
    where
      nothing : (o : Option Held) → o ≡ None → IsOpen c (place ++ m.entry ∷ []) o
      nothing o e x z = absurd (let bad : None ≡ Some x = sym e ∙ z in cc)

      by : HoldNext l.state (client_behind s m.entry.at m.mark l.state m.entry.what).hold m.entry.what → IsOpen c (place ++ m.entry ∷ []) (client_behind s m.entry.at m.mark l.state m.entry.what).hold
      by (Freed e) = nothing (client_behind s m.entry.at m.mark l.state m.entry.what).hold e
      by (Same e) = on (list_any (closes_now m.entry.what) (operations c place)) refl
        where
          on : (d : Bool) → list_any (closes_now m.entry.what) (operations c place) ≡ d → IsOpen c (place ++ m.entry ∷ []) (client_behind s m.entry.at m.mark l.state m.entry.what).hold
          on true q = nothing (client_behind s m.entry.at m.mark l.state m.entry.what).hold (freed q)
          on false q = λ x z. closing_stays c x.holder.k place m.entry q (h x (sym e ∙ z))
      by (Learned op u n r w z k e) = λ x y.
          let same : record { connection = u; holder = name_of l.state r } ≡ x = (let some : Some (record { connection = u; holder = name_of l.state r }) ≡ Some x = sym e ∙ y in cc) in
          subst (λ (v : Held). list_any (ends_from v.holder.k) (operations c (place ++ m.entry ∷ [])) ≡ false) same (closing_stays c r.k place m.entry (none_answered m.entry.what (operations c place) (ap out_message w)) (none_closing op u n r w z k))
