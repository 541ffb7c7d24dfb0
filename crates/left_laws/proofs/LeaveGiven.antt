-- A client that left an exchange for which a connection was chosen gave this a Leave.
use Rattle.std.proofs.Common.{◌≡◌, ◌⊎◌, inl, inr, ℕ, Bool, true, false, ◌==◌, ◌&&◌, ◌||◌, not, if◌then◌else◌, List, [], ◌∷◌, ◌++◌, length, refl, ap, arith, ◌∙◌, sym, subst, append_assoc}
use Rattle.std.specs.Prelude.{Option, Some, None, cond, find, is_some, nat_le, nat_lt}
use Rattle.std.specs.List.{list_any}
use Rattle.std.proofs.lemmas.Bool.Decides.{nat_tests}
use Rattle.ldap_spec.specs.Bodies.{protocol_error_notice}
use Rattle.ldap_spec.specs.Kinds.{same_kind}
use Rattle.ldap_spec.specs.Requests.{request}
use Rattle.ldap_spec.specs.Responses.{has_code}
use Rattle.lload_names.specs.declared.names.Answer.{Answer}
use Rattle.lload_names.specs.declared.names.Answer.TheVariants.{Go}
use Rattle.lload_names.specs.declared.names.EndWhy.{EndWhy}
use Rattle.lload_names.specs.declared.names.Entry.{Entry}
use Rattle.lload_names.specs.declared.names.OpKind.TheVariants.{Bind}
use Rattle.lload_names.specs.declared.names.OpName.{OpName}
use Rattle.lload_names.specs.declared.names.Posted.{Posted}
use Rattle.lload_names.specs.declared.names.Refusal.TheVariants.{C11}
use Rattle.lload_names.specs.declared.names.What.{What}
use Rattle.lload_names.specs.declared.names.What.TheVariants as what
use Rattle.lload_spec.specs.Caused.{begin_with_notice, is_followed_up}
use Rattle.lload_spec.specs.CausedUp.{has_other_version}
use Rattle.lload_spec.specs.Entries.{chosen, gone_why, goes_to, in_message, is_choice_of, is_gone, is_gone_by, is_notice, is_this, makes_operation, out_message, same_why}
use Rattle.lload_spec.specs.FirstCheck.{Check, Ends, Refuses}
use Rattle.lload_spec.specs.Identity.{identity_of}
use Rattle.lload_spec.specs.Journal.{same_op}
use Rattle.lload_spec.specs.Lists.{first_passes, passes, some_split_from}
use Rattle.lload_spec.specs.Operations.{Operation, is_bind_in, is_final_for, is_live, is_live_at, is_of, is_request_of, live_operations, operation_in, operations}
use Rattle.lload_spec.specs.Settings.{Settings}
use Rattle.lload_spec.proofs.Growth.{left, right, both}
use Rattle.lload_laws.specs.ClientGrowth.{is_named_within, later_operation}
use Rattle.lload_laws.proofs.ClientGrowth.{own_names}
use Rattle.lload_laws.proofs.ListLaws.{any-filter, found_passes}
use Rattle.part_laws.proofs.ListLaws.{any_before, any_behind, eq_eqb, or_elim, or_right, same_number, same_op_eq}
use Rattle.part_spec.specs.ClientState.{ClientRow, ClientState, Held, check_at, empty_client, client_behind, is_bind_row, name_of, row_named, row_under, step_client, who_told, with_choice, with_connection, without}
use Rattle.part_spec.specs.ClientTurn.{endings}
use Rattle.part_spec.specs.Fit.{ClientLedger, are_fit_from, empty_client_ledger, fits_client, is_unfit, step_client_ledger}
use Rattle.part_spec.specs.Gives.{client_gives, client_letters, message_letters}
use Rattle.part_spec.specs.Marked.{Marked, entries}
use Rattle.client_laws.proofs.ClientClauses.{nothing_kept}
use Rattle.client_laws.proofs.ClientLives.{out_state_of}
use Rattle.client_laws.proofs.Matches.{Matches}
use Rattle.client_answer_laws.proofs.Each.{Each, each_both, each_filter, each_imply}
use Rattle.joined_laws.proofs.Begun.{gone_is, is_begun}
use Rattle.fifo_laws.proofs.Givings.{was_asked}
use Rattle.forward_laws.proofs.Causes.{is_live_choice}
use Rattle.forward_laws.proofs.Ops.{LaterOperation, bind_number, operation_later, own_found}
use Rattle.forward_laws.proofs.Outs.{each_of}
use Rattle.leave_laws.proofs.Along.{Along, Here}
use Rattle.leave_laws.proofs.Letters.{is_left_there}
use Rattle.leave_laws.proofs.Lists.{any_found}
use Rattle.leave_laws.proofs.Ours.{Alive, alive_next, ends_soon}
use Rattle.leave_laws.proofs.Refused.{refused_makes}
use Rattle.left_laws.proofs.ClientHolds.{Holds, HoldsOrEnded, LastUnasked, closing_gives, endings_give, holds_next, in_hold, named, notice_unbinding, row_number, same_number_later, unasked_next}
use Rattle.left_laws.proofs.ExchangeOver.{bind_dead, ended_more, found_more, gone_dead, is_ended, none_chosen}
use Rattle.left_laws.proofs.Versions.{other_version_bind, other_version_check}

-- the row of a live Bind of this number
row_found : (k : ℕ) (t : ClientRow → Bool) → ((r : ClientRow) → t r ≡ (r.k == k)) → (rows : List ClientRow) (os : List Operation) → Matches rows os → Each (λ o. (o.name.k == k) ≡ true → is_of Bind o ≡ true) os → list_any (λ o. o.name.k == k) os ≡ true → (r : ClientRow) × ((find t rows ≡ Some r) × (is_bind_row r ≡ true))
row_found k t f [] [] m e h = absurd (let bad : false ≡ true = h in cc)
row_found k t f (r ∷ rows) (o ∷ os) m e h = by (t r) refl h (row_found k t f rows os m.1 e.1)
  where
    number : (r.k == k) ≡ (o.name.k == k)
    number = ap (λ n. n == k) m.0.k

    by : (d : Bool) → t r ≡ d → ((o.name.k == k) || list_any (λ q. q.name.k == k) os) ≡ true → (list_any (λ q. q.name.k == k) os ≡ true → (x : ClientRow) × ((find t rows ≡ Some x) × (is_bind_row x ≡ true))) → (x : ClientRow) × ((cond d (Some r) (find t rows) ≡ Some x) × (is_bind_row x ≡ true))
    by true z j more = (r, (refl, ap (passes (same_kind Bind)) m.0.kind ∙ e.0 (sym number ∙ sym (f r) ∙ z)))
    by false z j more = more (or_elim (o.name.k == k) (list_any (λ q. q.name.k == k) os) (λ i. absurd (let bad : false ≡ true = sym z ∙ f r ∙ number ∙ i in cc)) (λ i. i) j)
row_found k t f [] (o ∷ os) m e h = absurd m
row_found k t f (r ∷ rows) [] m e h = absurd m

-- a notice, or an end, is no choice
notice_unchosen : (op : OpName) (u : ℕ) (e : Entry) → is_notice e ≡ true → is_choice_of op u e ≡ false
notice_unchosen op u e h = by e.what h
  where
    by : (w : What) → passes (is_this 0 protocol_error_notice) (out_message w) ≡ true → passes (λ x. same_op op x.op && goes_to u x.value) (chosen w) ≡ false
    by (what.Out id rest) k = refl
    by _ k = absurd (let bad : false ≡ true = k in cc)

gone_unchosen : (op : OpName) (u : ℕ) (e : Entry) → is_gone e ≡ true → is_choice_of op u e ≡ false
gone_unchosen op u e h = let it = gone_is e.what h in ap (λ w. passes (λ x. same_op op x.op && goes_to u x.value) (chosen w)) it.1

-- behind a check that ends the client
ends_so : (why : EndWhy) (es : List Entry) → begin_with_notice why es ≡ true → ends_soon es ≡ true
ends_so why [] h = h
ends_so why (e ∷ es) h = or_right (is_gone e) _ (both (is_notice e) _ (left (is_notice e) _ h) (first es (right (is_notice e) _ h)))
  where
    one : (o : Option EndWhy) → passes (same_why why) o ≡ true → passes (λ _. true) o ≡ true
    one None k = k
    one (Some v) k = refl

    first : (xs : List Entry) → first_passes (is_gone_by why) xs ≡ true → first_passes is_gone xs ≡ true
    first [] k = k
    first (x ∷ xs) k = one (gone_why x.what) k

-- whether an entry leaves the exchange that the operation of this number began
abbrev pub leaves_at : ℕ → ℕ → List Entry → Entry → Bool
leaves_at c k place e = (is_gone e || passes (λ m. passes has_other_version (request m.rest)) (in_message e.what)) && is_some (operation_in c place (record { client = c; k = k })) && not (is_ended c k place)

module _ (s : Settings) (c k u : ℕ) where
  abbrev name : OpName
  name = record { client = c; k = k }

  abbrev held : Held
  held = record { connection = u; holder = record { client = c; k = k } }

  abbrev Gives : ClientState → List Marked → Type 0
  Gives p ms = list_any (is_left_there (record { client = c; k = k }) u) (client_gives s p ms) ≡ true

  abbrev test : Posted → Bool
  test = is_left_there (record { client = c; k = k }) u

  gone_letters : (p : ClientState) (m : Marked) → p.hold ≡ Some held → is_gone m.entry ≡ true → list_any (is_left_there (record { client = c; k = k }) u) (client_letters s p m.entry.at m.entry.what) ≡ true
  gone_letters p m h g = let it = gone_is m.entry.what g in ap (λ w. list_any test (client_letters s p m.entry.at w)) it.1 ∙ closing_gives c k u p h

  gives_here : (p : ClientState) (m : Marked) (ms : List Marked) → list_any (is_left_there (record { client = c; k = k }) u) (client_letters s p m.entry.at m.entry.what) ≡ true → Gives p (m ∷ ms)
  gives_here p m ms h = any_before test (client_letters s p m.entry.at m.entry.what) (client_gives s (step_client s p m) ms) h

  gives_later : (p : ClientState) (m : Marked) (ms : List Marked) → Gives (step_client s p m) ms → Gives p (m ∷ ms)
  gives_later p m ms h = any_behind test (client_letters s p m.entry.at m.entry.what) (client_gives s (step_client s p m) ms) h

  -- the notice leaves what is held
  notice_kept : (p : ClientState) (m : Marked) → is_notice m.entry ≡ true → (step_client s p m).hold ≡ p.hold
  notice_kept p m g = by m.entry.what refl g
    where
      row : (id : ℕ) (rest : List ℕ) → is_this 0 protocol_error_notice (record { id = id; rest = rest }) ≡ true → (o : Option ClientRow) → (out_state_of s m.entry.at m.mark p rest o).hold ≡ p.hold
      row id rest j None = refl
      row id rest j (Some r) = cases (is_final_for r.request rest) (is_bind_row r) (has_code 14 rest) refl refl
        where
          ended : ClientState
          ended = without (λ y. y.k == r.k) m.entry.at p

          answered : Bool → ClientState
          answered y = elim y [ true ↦ record ended { in_exchange = true } | false ↦ record ended { hold = None; identity = if has_code 0 rest then identity_of s (who_told m.mark) (request r.request.rest) else [] } ]

          state : Bool → Bool → Bool → ClientState
          state f d y = elim f [ false ↦ p | true ↦ elim d [ true ↦ answered y | false ↦ ended ] ]

          cases : (f d y : Bool) → is_final_for r.request rest ≡ f → is_bind_row r ≡ d → (state f d y).hold ≡ p.hold
          cases false d y a z = refl
          cases true false y a z = refl
          cases true true true a z = refl
          cases true true false a z = absurd (let bad : false ≡ true = sym (notice_unbinding r id rest z j) ∙ a in cc)

      by : (w : What) → m.entry.what ≡ w → passes (is_this 0 protocol_error_notice) (out_message w) ≡ true → (client_behind s m.entry.at m.mark p m.entry.what).hold ≡ p.hold
      by (what.Out id rest) e j = ap (λ w. (client_behind s m.entry.at m.mark p w).hold) e ∙ row id rest j (row_under p id)
      by _ e j = absurd (let bad : false ≡ true = j in cc)

  -- a client that is about to end gives the Leave
  soon_gives : (ms : List Marked) (p : ClientState) → p.hold ≡ Some held → ends_soon (entries ms) ≡ true → Gives p ms
  soon_gives [] p h g = absurd (let bad : false ≡ true = g in cc)
  soon_gives (m ∷ ms) p h g = or_elim (is_gone m.entry) (is_notice m.entry && first_passes is_gone (entries ms)) (λ i. gives_here p m ms (gone_letters p m h i)) (λ i. gives_later p m ms (next ms (step_client s p m) (notice_kept p m (left (is_notice m.entry) _ i) ∙ h) (right (is_notice m.entry) _ i))) g
    where
      next : (ns : List Marked) (q : ClientState) → q.hold ≡ Some held → first_passes is_gone (entries ns) ≡ true → Gives q ns
      next [] q e j = absurd (let bad : false ≡ true = j in cc)
      next (n ∷ ns) q e j = gives_here q n ns (gone_letters q n e j)

  -- what is known beside at each place
  record Known (place : List Entry) (l : ClientLedger) (ms : List Marked) : Type 0 where
    alive : Alive c place l.state ms
    unasked : LastUnasked c place l.state

  module _ (place : List Entry) (b : List Marked) (l : ClientLedger) (m : Marked) (ms : List Marked) (here : Here s c place b l m ms) (known : Known place l (m ∷ ms)) (fit : are_fit_from (fits_client s) (step_client_ledger s) l (m ∷ ms) ≡ true) where
    known_next : Known (place ++ m.entry ∷ []) (step_client_ledger s l m) ms
    known_next = record { alive = alive_next s c place l.state m ms here.stands.count here.checked known.alive; unasked = unasked_next s c place b l m ms here known.unasked }

    asked : (op : OpName) (a : Answer) → m.entry.what ≡ what.Chosen op a → list_any (λ x. same_op op x.op) l.state.asked ≡ true
    asked = was_asked s (record { client = c; k = 0 }) c l m.entry m.mark (are_fit_from (fits_client s) (step_client_ledger s) (step_client_ledger s l m) ms) (λ i. (here.begins i).marked) fit

    -- An entry that leaves the exchange.
    module _ (leaves : leaves_at c k place m.entry ≡ true) where
      entry_leaves : (is_gone m.entry || passes (λ x. passes has_other_version (request x.rest)) (in_message m.entry.what)) ≡ true
      entry_leaves = left (is_gone m.entry || passes (λ x. passes has_other_version (request x.rest)) (in_message m.entry.what)) _ (left ((is_gone m.entry || passes (λ x. passes has_other_version (request x.rest)) (in_message m.entry.what)) && is_some (operation_in c place name)) _ leaves)

      there : is_some (operation_in c place (record { client = c; k = k })) ≡ true
      there = right (is_gone m.entry || passes (λ x. passes has_other_version (request x.rest)) (in_message m.entry.what)) _ (left ((is_gone m.entry || passes (λ x. passes has_other_version (request x.rest)) (in_message m.entry.what)) && is_some (operation_in c place name)) _ leaves)

      not_ended : is_ended c k place ≡ true → false ≡ true
      not_ended j = sym (ap not j) ∙ right ((is_gone m.entry || passes (λ x. passes has_other_version (request x.rest)) (in_message m.entry.what)) && is_some (operation_in c place name)) _ leaves

      -- it is Gone, or an In whose check refuses it or ends the client
      sorts : {C : Type 0} → (is_gone m.entry ≡ true → C) → ((id : ℕ) (rest : List ℕ) → m.entry.what ≡ what.In id rest → passes has_other_version (request rest) ≡ true → (check_at s l.state (record { id = id; rest = rest }) ≡ Refuses C11 → C) × (ends_soon (entries ms) ≡ true → C)) → C
      sorts {C} f g = or_elim (is_gone m.entry) (passes (λ x. passes has_other_version (request x.rest)) (in_message m.entry.what)) f (λ j. by m.entry.what refl j) entry_leaves
        where
          message : (id : ℕ) (rest : List ℕ) → m.entry.what ≡ what.In id rest → passes has_other_version (request rest) ≡ true → C
          message id rest e j = checks (other_version_check s l.state (record { id = id; rest = rest }) j)
            where
              followed : (x : Check) → check_at s l.state (record { id = id; rest = rest }) ≡ x → is_followed_up (record { id = id; rest = rest }) (entries ms) x ≡ true
              followed x i = ap (is_followed_up (record { id = id; rest = rest }) (entries ms)) (sym i) ∙ sym (ap (λ w. elim (in_message w) [ None ↦ true | Some y ↦ is_followed_up y (entries ms) (check_at s l.state y) ]) e) ∙ here.checked

              checks : ((why : EndWhy) × (check_at s l.state (record { id = id; rest = rest }) ≡ Ends why)) ⊎ (check_at s l.state (record { id = id; rest = rest }) ≡ Refuses C11) → C
              checks (inl i) = (g id rest e j).1 (ends_so i.0 (entries ms) (followed (Ends i.0) i.1))
              checks (inr i) = (g id rest e j).0 i

          by : (w : What) → m.entry.what ≡ w → passes (λ x. passes has_other_version (request x.rest)) (in_message w) ≡ true → C
          by (what.In id rest) e j = message id rest e j
          by _ e j = absurd (let bad : false ≡ true = j in cc)

      leave_given : Holds c k u place l.state.hold → Gives l.state (m ∷ ms)
      leave_given h = sorts (λ g. gives_here l.state m ms (gone_letters l.state m h.holds g)) (λ id rest e j. (
        (λ i. gives_here l.state m ms (ap (λ w. list_any test (client_letters s l.state m.entry.at w)) e ∙ ap (λ x. list_any test (message_letters s l.state m.entry.at (record { id = id; rest = rest }) x)) i ∙ ap (λ d. list_any test (elim d [ true ↦ endings l.state | false ↦ [] ])) (other_version_bind rest j) ∙ endings_give c k u l.state h.holds)),
        (λ i. gives_later l.state m ms (soon_gives ms (step_client s l.state m) (ap (λ w. (client_behind s m.entry.at m.mark l.state w).hold) e ∙ in_hold s c place b l m ms here id rest e (makes_operation (record { id = id; rest = rest })) (is_request_of Bind (record { id = id; rest = rest })) ∙ h.holds) i)),
      ))

      -- and behind it no connection is chosen for the operation
      none_later : some_split_from (λ q e d. is_live_choice c (record { client = c; k = k }) u q e) (place ++ m.entry ∷ []) (entries ms) ≡ false
      none_later = by (operation_in c place name) refl there
        where
          of : (o : Operation) → operation_in c place (record { client = c; k = k }) ≡ Some o → some_split_from (λ q e d. is_live_choice c (record { client = c; k = k }) u q e) (place ++ m.entry ∷ []) (entries ms) ≡ false
          of o z = sorts (λ g. let it = gone_is m.entry.what g in none_chosen c k u (entries ms) (place ++ m.entry ∷ []) (gone_dead c k place m.entry o z it.0 it.1)) (λ id rest e j. (
            (λ i. none_chosen c k u (entries ms) (place ++ m.entry ∷ []) (bind_dead c k place m.entry o z id rest e (bind_in id rest e j i))),
            (λ i. soon (entries ms) (place ++ m.entry ∷ []) (later_operation m.entry o) (found_more c k place m.entry o z) i),
          ))
            where
              bind_in : (id : ℕ) (rest : List ℕ) → m.entry.what ≡ what.In id rest → passes has_other_version (request rest) ≡ true → check_at s l.state (record { id = id; rest = rest }) ≡ Refuses C11 → is_bind_in m.entry ≡ true
              bind_in id rest e j i = ap (λ w. is_bind_in (record { part = m.entry.part; at = m.entry.at; what = w })) e ∙ ap (λ d. passes (λ n. is_request_of Bind n) (elim d [ true ↦ Some (record { id = id; rest = rest }) | false ↦ None ])) (refused_makes s l.state (record { id = id; rest = rest }) C11 i (other_version_bind rest j)) ∙ other_version_bind rest j

              soon : (es L : List Entry) (q : Operation) → operation_in c L (record { client = c; k = k }) ≡ Some q → ends_soon es ≡ true → some_split_from (λ x e d. is_live_choice c (record { client = c; k = k }) u x e) L es ≡ false
              soon [] L q f i = refl
              soon (x ∷ es) L q f i = or_elim (is_gone x) (is_notice x && first_passes is_gone es) (λ g. let it = gone_is x.what g in skip x es L (gone_unchosen name u x g) (none_chosen c k u es (L ++ x ∷ []) (gone_dead c k L x q f it.0 it.1))) (λ g. skip x es L (notice_unchosen name u x (left (is_notice x) _ g)) (last es (L ++ x ∷ []) (later_operation x q) (found_more c k L x q f) (right (is_notice x) _ g))) i
                where
                  skip : (y : Entry) (zs M : List Entry) → is_choice_of (record { client = c; k = k }) u y ≡ false → some_split_from (λ a e d. is_live_choice c (record { client = c; k = k }) u a e) (M ++ y ∷ []) zs ≡ false → some_split_from (λ a e d. is_live_choice c (record { client = c; k = k }) u a e) M (y ∷ zs) ≡ false
                  skip y zs M a d = ap (λ v. v && is_live_at c M name || some_split_from (λ r e w. is_live_choice c name u r e) (M ++ y ∷ []) zs) a ∙ d

                  last : (zs M : List Entry) (r : Operation) → operation_in c M (record { client = c; k = k }) ≡ Some r → first_passes is_gone zs ≡ true → some_split_from (λ a e d. is_live_choice c (record { client = c; k = k }) u a e) M zs ≡ false
                  last [] M r a d = refl
                  last (z ∷ zs) M r a d = let it = gone_is z.what d in skip z zs M (gone_unchosen name u z d) (none_chosen c k u zs (M ++ z ∷ []) (gone_dead c k M z r a it.0 it.1))

          by : (o : Option Operation) → operation_in c place (record { client = c; k = k }) ≡ o → is_some o ≡ true → some_split_from (λ q e d. is_live_choice c (record { client = c; k = k }) u q e) (place ++ m.entry ∷ []) (entries ms) ≡ false
          by None z j = absurd (let bad : false ≡ true = j in cc)
          by (Some o) z j = of o z

    -- The choice.
    module _ (whole : passes (is_of Bind) (operation_in c (place ++ (m.entry ∷ entries ms)) (record { client = c; k = k })) ≡ true) (choice : is_live_choice c (record { client = c; k = k }) u place m.entry ≡ true) where
      its_bind : (q : Operation) → operation_in c place (record { client = c; k = k }) ≡ Some q → is_of Bind q ≡ true
      its_bind q f =
          let later : LaterOperation c k (place ++ (m.entry ∷ entries ms)) q = operation_later c k place (m.entry ∷ entries ms) q f in
          ap (is_request_of Bind) (sym later.request) ∙ (sym (ap (passes (is_of Bind)) later.found) ∙ whole)

      binds_live : Each (λ o. (o.name.k == k) ≡ true → is_of Bind o ≡ true) (live_operations c place)
      binds_live = each_filter (λ o. (o.name.k == k) ≡ true → is_of Bind o ≡ true) (λ o. (o.name.k == k) ≡ true → is_of Bind o ≡ true) is_live (operations c place) (λ o i f. f) (each_imply (λ o. (operation_in c place o.name ≡ Some o) × (is_named_within c (length (operations c place)) o ≡ true)) (λ o. (o.name.k == k) ≡ true → is_of Bind o ≡ true) (operations c place) (λ o f j. its_bind o (subst (λ n. operation_in c place n ≡ Some o) (named_so o f.1 j) f.0)) (each_both (λ o. operation_in c place o.name ≡ Some o) (λ o. is_named_within c (length (operations c place)) o ≡ true) (operations c place) (own_found c place) (each_of (is_named_within c (length (operations c place))) (operations c place) (own_names c place))))
        where
          named_so : (o : Operation) → is_named_within c (length (operations c place)) o ≡ true → (o.name.k == k) ≡ true → o.name ≡ record { client = c; k = k }
          named_so o f j =
              let client : o.name.client ≡ c = same_number o.name.client c (left (o.name.client == c) _ (left (o.name.client == c && nat_lt 0 o.name.k) _ f)) in
              let number : o.name.k ≡ k = same_number o.name.k k j in
              λ i. record { client = client i; k = number i }

      live_there : list_any (λ o. o.name.k == k) (live_operations c place) ≡ true
      live_there = by (operation_in c place (record { client = c; k = k })) refl (right (is_choice_of name u m.entry) _ choice)
        where
          by : (o : Option Operation) → operation_in c place (record { client = c; k = k }) ≡ o → passes is_live o ≡ true → list_any (λ q. q.name.k == k) (live_operations c place) ≡ true
          by None f j = absurd (let bad : false ≡ true = j in cc)
          by (Some q) f j =
              let same : (c == q.name.client && k == q.name.k) ≡ true = found_passes (λ o. same_op name o.name) (operations c place) q f in
              any-filter (λ o. o.name.k == k) is_live (operations c place) ∙ any_found (λ o. same_op name o.name) (λ o. is_live o && o.name.k == k) (operations c place) q f (both (is_live q) _ j (eq_eqb q.name.k k (sym (same_number k q.name.k (right (c == q.name.client) _ same)))))

      module _ (op : OpName) (n : ℕ) (is_one : m.entry.what ≡ what.Chosen op (Go u n)) (same : op ≡ record { client = c; k = k }) where
        numbered : (l.state.number == c) ≡ true
        numbered = eq_eqb l.state.number c here.stands.says.number

        row : (r : ClientRow) × ((row_named l.state (record { client = c; k = k }) ≡ Some r) × (is_bind_row r ≡ true))
        row = row_found k (λ x. l.state.number == c && x.k == k) (λ x. ap (λ d. d && x.k == k) numbered) l.state.rows (live_operations c place) (here.begins (ap is_begun is_one)).lives.rows binds_live live_there

        row_k : row.0.k ≡ k
        row_k = same_number row.0.k k (right (l.state.number == c) _ (named s c place b l m ms here name row.0 row.1.0 row.1.1))

        holder_is : name_of l.state row.0 ≡ record { client = c; k = k }
        holder_is = let number : l.state.number ≡ c = here.stands.says.number in let k_is : row.0.k ≡ k = row_k in λ i. record { client = number i; k = k_is i }

        below : nat_le k (bind_number c place) ≡ true
        below = let at : k ≡ bind_number c place = sym row_k ∙ row_number s c place b l m ms here name row.0 row.1.0 row.1.1 in grind (arith, nat_tests, at)

        abbrev gone_to : Option ClientRow → ClientState
        gone_to o = elim o [ None ↦ l.state | Some r ↦ with_connection u n l.state r ]

        holds_one : Holds c k u (place ++ m.entry ∷ []) (step_client s l.state m).hold
        holds_one =
            record {
              holds =
                  ap (λ w. (client_behind s m.entry.at m.mark l.state w).hold) is_one ∙ ap (λ o. (with_choice o (Go u n) l.state).hold) same
                  ∙ ap (λ o. (gone_to o).hold) row.1.0
                  ∙ ap (λ d. if d then Some (record { connection = u; holder = name_of l.state row.0 }) else l.state.hold) row.1.1
                  ∙ ap (λ (o : OpName). Some (record { connection = u; holder = o })) holder_is;
              below = ap (nat_le k) (same_number_later s c place b l m ms here (what.Chosen op (Go u n)) is_one refl) ∙ below;
            }

      chosen_holds : Holds c k u (place ++ m.entry ∷ []) (step_client s l.state m).hold
      chosen_holds = by m.entry.what refl (left (is_choice_of name u m.entry) _ choice)
        where
          answer : (op : OpName) (a : Answer) → m.entry.what ≡ what.Chosen op a → same_op (record { client = c; k = k }) op ≡ true → goes_to u a ≡ true → Holds c k u (place ++ m.entry ∷ []) (step_client s l.state m).hold
          answer op (Go v n) e i j = holds_one op n (e ∙ ap (λ x. what.Chosen op (Go x n)) (same_number v u j)) (sym (same_op_eq name op i))
          answer op _ e i j = absurd (let bad : false ≡ true = j in cc)

          by : (w : What) → m.entry.what ≡ w → passes (λ x. same_op (record { client = c; k = k }) x.op && goes_to u x.value) (chosen w) ≡ true → Holds c k u (place ++ m.entry ∷ []) (step_client s l.state m).hold
          by (what.Chosen op a) e j = answer op a e (left (same_op name op) _ j) (right (same_op name op) _ j)
          by _ e j = absurd (let bad : false ≡ true = j in cc)

      stays_there : leaves_at c k place m.entry ≡ true → false ≡ true
      stays_there h = by m.entry.what (left (is_choice_of name u m.entry) _ choice) (entry_leaves h)
        where
          by : (w : What) → passes (λ x. same_op (record { client = c; k = k }) x.op && goes_to u x.value) (chosen w) ≡ true → (passes (λ _. true) (gone_why w) || passes (λ x. passes has_other_version (request x.rest)) (in_message w)) ≡ true → false ≡ true
          by (what.Chosen op a) i j = j
          by _ i j = i

  abbrev leaves_there : List Entry → List Entry → Bool
  leaves_there place es = some_split_from (λ q e d. leaves_at c k q e) place es

  abbrev chosen_there : List Entry → List Entry → Bool
  chosen_there place es = some_split_from (λ q e d. is_live_choice c (record { client = c; k = k }) u q e) place es

  -- behind the choice
  held_gives : (ms : List Marked) (place : List Entry) (b : List Marked) (l : ClientLedger) → Along s c place b l ms → Known place l ms → are_fit_from (fits_client s) (step_client_ledger s) l ms ≡ true → HoldsOrEnded c k u place l.state.hold → leaves_there place (entries ms) ≡ true → Gives l.state ms
  held_gives [] place b l a known fit status h = absurd (let bad : false ≡ true = h in cc)
  held_gives (m ∷ ms) place b l a known fit status h = by (list_any test (client_letters s l.state m.entry.at m.entry.what)) refl (λ e j. held_gives ms (place ++ m.entry ∷ []) (b ++ m ∷ []) (step_client_ledger s l m) a.1 (known_next place b l m ms a.0 known fit) (right (not (is_unfit (fits_client s) l m.mark)) _ fit) (next e status) j)
    where
      next : list_any (is_left_there (record { client = c; k = k }) u) (client_letters s l.state m.entry.at m.entry.what) ≡ false → HoldsOrEnded c k u place l.state.hold → HoldsOrEnded c k u (place ++ m.entry ∷ []) (step_client s l.state m).hold
      next e (inl i) = holds_next s c place b l m ms a.0 k u i known.alive known.unasked (asked place b l m ms a.0 known fit) e
      next e (inr i) = inr (ended_more c k place m.entry i)

      leave : leaves_at c k place m.entry ≡ true → HoldsOrEnded c k u place l.state.hold → Gives l.state (m ∷ ms)
      leave j (inl i) = leave_given place b l m ms a.0 known fit j i
      leave j (inr i) = absurd (let bad : false ≡ true = not_ended place b l m ms a.0 known fit j i in cc)

      by : (d : Bool) → list_any (is_left_there (record { client = c; k = k }) u) (client_letters s l.state m.entry.at m.entry.what) ≡ d → (list_any (is_left_there (record { client = c; k = k }) u) (client_letters s l.state m.entry.at m.entry.what) ≡ false → leaves_there (place ++ m.entry ∷ []) (entries ms) ≡ true → Gives (step_client s l.state m) ms) → Gives l.state (m ∷ ms)
      by true e more = gives_here l.state m ms e
      by false e more = or_elim (leaves_at c k place m.entry) (leaves_there (place ++ m.entry ∷ []) (entries ms)) (λ j. leave j status) (λ j. gives_later l.state m ms (more e j)) h

  -- before it
  chosen_gives : (ms : List Marked) (place : List Entry) (b : List Marked) (l : ClientLedger) → Along s c place b l ms → Known place l ms → are_fit_from (fits_client s) (step_client_ledger s) l ms ≡ true → passes (is_of Bind) (operation_in c (place ++ entries ms) (record { client = c; k = k })) ≡ true → chosen_there place (entries ms) ≡ true → leaves_there place (entries ms) ≡ true → Gives l.state ms
  chosen_gives [] place b l a known fit whole g h = absurd (let bad : false ≡ true = h in cc)
  chosen_gives (m ∷ ms) place b l a known fit whole g h =
      or_elim (is_live_choice c name u place m.entry) (chosen_there (place ++ m.entry ∷ []) (entries ms))
      (λ j. gives_later l.state m ms (held_gives ms (place ++ m.entry ∷ []) (b ++ m ∷ []) (step_client_ledger s l m) a.1 (known_next place b l m ms a.0 known fit) fit_rest (inl (chosen_holds place b l m ms a.0 known fit whole j)) (or_elim (leaves_at c k place m.entry) (leaves_there (place ++ m.entry ∷ []) (entries ms)) (λ i. absurd (let bad : false ≡ true = stays_there place b l m ms a.0 known fit whole j i in cc)) (λ i. i) h)))
      (λ j. or_elim (leaves_at c k place m.entry) (leaves_there (place ++ m.entry ∷ []) (entries ms)) (λ i. absurd (let bad : false ≡ true = sym (none_later place b l m ms a.0 known fit i) ∙ j in cc)) (λ i. gives_later l.state m ms (chosen_gives ms (place ++ m.entry ∷ []) (b ++ m ∷ []) (step_client_ledger s l m) a.1 (known_next place b l m ms a.0 known fit) fit_rest (subst (λ es. passes (is_of Bind) (operation_in c es name) ≡ true) (sym (append_assoc place (m.entry ∷ []) (entries ms))) whole) j i)) h) g
    where
      fit_rest : are_fit_from (fits_client s) (step_client_ledger s) (step_client_ledger s l m) ms ≡ true
      fit_rest = right (not (is_unfit (fits_client s) l m.mark)) _ fit

  -- in a whole list
  pub left_gives : (ms : List Marked) → Along s c [] [] (empty_client_ledger c) ms → are_fit_from (fits_client s) (step_client_ledger s) (empty_client_ledger c) ms ≡ true → passes (is_of Bind) (operation_in c (entries ms) (record { client = c; k = k })) ≡ true → chosen_there [] (entries ms) ≡ true → leaves_there [] (entries ms) ≡ true → Gives (empty_client c) ms
  left_gives ms a fit whole g h = chosen_gives ms [] [] (empty_client_ledger c) a (record { alive = inl (nothing_kept s c).lives; unasked = λ x e. refl }) fit whole g h
