-- The exchange behind an Out: a final answer to the live Bind ends it; with saslBindInProgress the exchange goes on, and the
-- answer came from the connection that the client holds.
use Rattle.std.proofs.Common.{◌≡◌, ℕ, Bool, true, false, ◌==◌, ◌&&◌, ◌||◌, not, if◌then◌else◌, List, [], ◌∷◌, ◌++◌, length, refl, ap, ◌∙◌, sym, subst}
use Rattle.std.specs.Prelude.{Option, Some, None, cond, filter, find, nat_lt, option_map}
use Rattle.std.specs.List.{list_any, list_all}
use Rattle.std.specs.Str.{bytes_eq}
use Rattle.std.proofs.lemmas.Slice.Eq.{bytes_eq-Decides}
use Rattle.ldap_spec.specs.Bodies.{refusal, protocol_error_notice}
use Rattle.ldap_spec.specs.Kinds.{kind_of, is_final, same_kind}
use Rattle.ldap_spec.specs.Requests.{request}
use Rattle.ldap_spec.specs.Responses.{has_code}
use Rattle.ldap_spec.specs.Tags.{bind_in_progress}
use Rattle.lload_names.specs.declared.names.Entry.{Entry}
use Rattle.lload_names.specs.declared.names.Letter.{Letter}
use Rattle.lload_names.specs.declared.names.Letter.TheVariants.{Reply, Failed}
use Rattle.lload_names.specs.declared.names.OpKind.{OpKind}
use Rattle.lload_names.specs.declared.names.OpKind.TheVariants.{Bind}
use Rattle.lload_names.specs.declared.names.OpName.{OpName}
use Rattle.lload_names.specs.declared.names.PartName.{PartName}
use Rattle.lload_names.specs.declared.names.PartName.TheVariants.{Up as Connection}
use Rattle.lload_names.specs.declared.names.Refusal.{Refusal}
use Rattle.lload_names.specs.declared.names.What.TheVariants as what
use Rattle.lload_spec.specs.Entries.{is_notice, operation_message, out_message}
use Rattle.lload_spec.specs.Fifo.{is_in_progress}
use Rattle.lload_spec.specs.Identity.{identity_of}
use Rattle.lload_spec.specs.Journal.{same_op, same_part}
use Rattle.lload_spec.specs.Lists.{last, passes, implies, agrees}
use Rattle.lload_spec.specs.Operations.{Operation, operations, operation_in, live_operations, is_bind_in, is_final_for, is_live, is_of, last_bind, out_rest, outs_under, takes_id}
use Rattle.lload_spec.specs.Settings.{Settings}
use Rattle.lload_spec.proofs.Growth.{left, right, both}
use Rattle.lload_laws.specs.ClientGrowth.{later_operation, is_named_within}
use Rattle.lload_laws.proofs.ClientGrowth.{own_names, outs_grow}
use Rattle.lload_laws.proofs.ListLaws.{all_imply, found, found_passes, implied, implies_by}
use Rattle.part_laws.proofs.ListLaws.{any_behind, eq_eqb, eqb_same, none_filtered, not_both, not_true, or_left, same_number, same_op_eq}
use Rattle.part_spec.specs.ClientState.{ClientState, ClientRow, Held, client_behind, is_bind_row, row_named, row_under, who_told, without}
use Rattle.part_spec.specs.Fit.{ClientLedger, Expected, fits_client, is_last_by, expected_from, answers, is_known}
use Rattle.part_spec.specs.Marked.{Marked, Taken}
use Rattle.part_spec.specs.Marks.{marks_client, may_be_first, must_mark_client, is_answer_to, is_refusal_of}
use Rattle.client_laws.proofs.ClientLives.{out_state_of}
use Rattle.client_laws.proofs.Matches.{Match, Matches, is_apart, are_apart, is_untaken}
use Rattle.client_answer_laws.proofs.Each.{Each, each_both, each_filter}
use Rattle.client_answer_laws.proofs.Waits.{RowKnown}
use Rattle.joined_laws.proofs.Begun.{is_begun}
use Rattle.joined_laws.proofs.OwnCodes.{notice_ends, refusal_ends}
use Rattle.joined_laws.proofs.Taken.{is_mark_from}
use Rattle.joined_laws.proofs.Walks.{Begins}
use Rattle.fifo_laws.proofs.Quiet.{is_reply_of}
use Rattle.forward_laws.proofs.Binds.{ExchangeAt, stays}
use Rattle.forward_laws.proofs.Exchange.{Exchange, is_at_hold, is_held_there, is_kind_right, is_numbered, rows_less, let_go}
use Rattle.forward_laws.proofs.Ops.{bind_number, number_of, number_later, own_found, one_of_name, each_last, last_later}

-- Rows and operations.

pub each_of : {A : Type 0} (t : A → Bool) (xs : List A) → list_all t xs ≡ true → Each (λ x. t x ≡ true) xs
each_of t [] h = tt
each_of t (x ∷ xs) h = (left (t x) _ h, each_of t xs (right (t x) _ h))

-- what is so of the last that passes
pub last_passing : {A : Type 0} (P : A → Type 0) (t : A → Bool) (xs : List A) (y : A) → last (filter t xs) ≡ Some y → Each P xs → P y × (t y ≡ true)
last_passing P t xs y e h = each_last (λ x. P x × (t x ≡ true)) (filter t xs) y e (each_filter P (λ x. P x × (t x ≡ true)) t xs (λ x k p. (p, k)) h)

pub none_of : {A : Type 0} (t : A → Bool) (xs : List A) → list_any t xs ≡ false → list_all (λ x. not (t x)) xs ≡ true
none_of t [] h = refl
none_of t (x ∷ xs) h = by (t x) refl h (none_of t xs)
  where
    by : (d : Bool) → t x ≡ d → (d || list_any t xs) ≡ false → (list_any t xs ≡ false → list_all (λ y. not (t y)) xs ≡ true) → (not (t x) && list_all (λ y. not (t y)) xs) ≡ true
    by true e k ih = absurd (let bad : true ≡ false = k in cc)
    by false e k ih = both (not (t x)) _ (ap not e) (ih k)

not_not : (d : Bool) → not (not d) ≡ true → d ≡ true
not_not true h = refl
not_not false h = h

-- each row is of an operation of which this is so
pub matched : (P : Operation → Type 0) (rows : List ClientRow) (os : List Operation) → Matches rows os → Each P os → Each (λ r. (o : Operation) × (Match r o × P o)) rows
matched P [] os m h = tt
matched P (r ∷ rows) (o ∷ os) m h = ((o, (m.0, h.0)), matched P rows os m.1 h.1)
matched P (r ∷ rows) [] m h = absurd m

-- two rows of one identifier are of one number
pub one_row : (t : ClientRow → Bool) (q : ClientRow) (rows : List ClientRow) → are_apart rows ≡ true → find t rows ≡ Some q → list_all (λ r. implies (r.request.id == q.request.id) (r.k == q.k)) rows ≡ true
one_row t q [] h e = refl
one_row t q (x ∷ rows) h e = by (t x) e (one_row t q rows (right (list_all (is_apart x) rows) _ h))
  where
    others : list_all (is_apart x) rows ≡ true
    others = left (list_all (is_apart x) rows) _ h

    unlike : (r : ClientRow) → is_apart x r ≡ true → x ≡ q → implies (r.request.id == q.request.id) (r.k == q.k) ≡ true
    unlike r k same = implies_by (r.request.id == q.request.id) (r.k == q.k) (λ j. absurd (let bad : false ≡ true = sym (ap not (eq_eqb x.request.id r.request.id (ap (λ (y : ClientRow). y.request.id) same ∙ sym (same_number r.request.id q.request.id j)))) ∙ right (not (x.k == r.k)) _ k in cc))

    by : (d : Bool) → cond d (Some x) (find t rows) ≡ Some q → (find t rows ≡ Some q → list_all (λ r. implies (r.request.id == q.request.id) (r.k == q.k)) rows ≡ true) → list_all (λ r. implies (r.request.id == q.request.id) (r.k == q.k)) (x ∷ rows) ≡ true
    by true j ih =
        let same : x ≡ q = cc in
        both (implies (x.request.id == q.request.id) (x.k == q.k)) _ (implies_by (x.request.id == q.request.id) (x.k == q.k) (λ i. eq_eqb x.k q.k (ap (λ (y : ClientRow). y.k) same))) (all_imply (is_apart x) (λ r. implies (r.request.id == q.request.id) (r.k == q.k)) rows (λ r k. unlike r k same) others)
    by false j ih =
        let apart : is_apart x q ≡ true = found (is_apart x) t rows q j others in
        both (implies (x.request.id == q.request.id) (x.k == q.k)) _ (implies_by (x.request.id == q.request.id) (x.k == q.k) (λ i. not_both (x.request.id == q.request.id) i (not_true (x.request.id == q.request.id) (right (not (x.k == q.k)) _ apart)))) (ih j)

module _ (s : Settings) (c : ℕ) (place : List Entry) (b : List Marked) (l : ClientLedger) (m : Marked) (number : l.state.number ≡ c) (rows : Each (RowKnown s c place) l.state.rows) (h : ExchangeAt c place b l) (id : ℕ) (rest : List ℕ) (is_out : m.entry.what ≡ what.Out id rest) where
  no_message : operation_message m.entry.what ≡ None
  no_message = ap operation_message is_out

  no_bind : is_bind_in m.entry ≡ false
  no_bind = ap (passes (λ n. passes (same_kind Bind) (kind_of n.rest))) no_message

  -- the row that it is for
  module _ (r : ClientRow) (under : row_under l.state id ≡ Some r) where
    of_row : (RowKnown s c place r × (is_kind_right (bind_number c place) r ≡ true)) × ((r.request.id == id) ≡ true)
    of_row = last_passing (λ x. RowKnown s c place x × (is_kind_right (bind_number c place) x ≡ true)) (λ x. x.request.id == id) l.state.rows r under (each_both (RowKnown s c place) (λ x. is_kind_right (bind_number c place) x ≡ true) l.state.rows rows (each_of (is_kind_right (bind_number c place)) l.state.rows h.kinds))

    right_kind : (a d : Bool) → agrees a d ≡ true → a ≡ true → d ≡ true
    right_kind true d k e = k
    right_kind false d k e = absurd (let bad : false ≡ true = e in cc)

    numbered : is_bind_row r ≡ true → (r.k == bind_number c place) ≡ true
    numbered k = right_kind (is_bind_row r) (r.k == bind_number c place) of_row.0.1 k

    -- no row of the last Bind is left
    ended : is_bind_row r ≡ true → list_any (is_numbered (bind_number c place)) (filter (λ x. not (x.k == r.k)) l.state.rows) ≡ false
    ended k = none_filtered (is_numbered (bind_number c place)) (λ x. not (x.k == r.k)) l.state.rows (λ x j. ap not (eq_eqb x.k r.k (same_number x.k (bind_number c place) j ∙ sym (same_number r.k (bind_number c place) (numbered k)))))

    -- The exchange goes on.
    module _ (bind : is_bind_row r ≡ true) (final : is_final_for r.request rest ≡ true) (step : has_code bind_in_progress rest ≡ true) (begins : Begins c place l.state m) (fit : (t : Taken) → m.mark ≡ Some t → fits_client s l t.sender t.letter ≡ true) where
      abbrev Found : Operation → Type 0
      Found o = (operation_in c place o.name ≡ Some o) × (is_named_within c (length (operations c place)) o ≡ true)

      finds : Each Found (operations c place)
      finds = each_both (λ o. operation_in c place o.name ≡ Some o) (λ o. is_named_within c (length (operations c place)) o ≡ true) (operations c place) (own_found c place) (each_of (is_named_within c (length (operations c place))) (operations c place) (own_names c place))

      -- its operation is live, and its identifier isn't taken
      mine : (o : Operation) × (Match r o × (Found o × (is_untaken o ≡ true)))
      mine = (last_passing (λ x. (o : Operation) × (Match x o × (Found o × (is_untaken o ≡ true)))) (λ x. x.request.id == id) l.state.rows r under (matched (λ o. Found o × (is_untaken o ≡ true)) l.state.rows (live_operations c place) begins.lives.rows (each_both Found (λ o. is_untaken o ≡ true) (live_operations c place) (each_filter Found Found is_live (operations c place) (λ o j p. p) finds) (each_of is_untaken (live_operations c place) begins.lives.untaken)))).0

      client_of : (o : Operation) → Found o → o.name.client ≡ c
      client_of o f = same_number o.name.client c (left (o.name.client == c) _ (left (o.name.client == c && nat_lt 0 o.name.k) _ f.1))

      -- it is the last Bind
      is_last : (q : Operation) → last_bind c place ≡ Some q → mine.0 ≡ q
      is_last q e =
          let found_q : Found q = (last_passing Found (is_of Bind) (operations c place) q e finds).0 in
          let k : r.k ≡ q.name.k = same_number r.k (bind_number c place) (numbered bind) ∙ ap number_of e in
          one_of_name c place mine.0 q mine.1.1.0.0 found_q.0 (names (client_of mine.0 mine.1.1.0 ∙ sym (client_of q found_q)) (sym mine.1.0.k ∙ k))
        where
          names : mine.0.name.client ≡ q.name.client → mine.0.name.k ≡ q.name.k → mine.0.name ≡ q.name
          names x y = same_op_eq mine.0.name q.name (both (mine.0.name.client == q.name.client) _ (eq_eqb mine.0.name.client q.name.client x) (eq_eqb mine.0.name.k q.name.k y))

      got : (q : Operation) → mine.0 ≡ q → is_in_progress (later_operation m.entry q) ≡ true
      got q e = subst (λ (o : Operation). is_in_progress (later_operation m.entry o) ≡ true) e (ap (list_any (λ x. is_final_for mine.0.request x && has_code bind_in_progress x)) grown ∙ any_behind (λ x. is_final_for mine.0.request x && has_code bind_in_progress x) (outs_under mine.0.request.id mine.0.behind) (rest ∷ []) (or_left (is_final_for mine.0.request rest && has_code bind_in_progress rest) false (both (is_final_for mine.0.request rest) _ (ap (passes (λ kind. is_final kind rest)) (sym mine.1.0.kind) ∙ final) step)))
        where
          this_id : mine.0.request.id ≡ id
          this_id = sym mine.1.0.id ∙ same_number r.request.id id of_row.1

          grown : outs_under mine.0.request.id (mine.0.behind ++ m.entry ∷ []) ≡ outs_under mine.0.request.id mine.0.behind ++ rest ∷ []
          grown = outs_grow mine.0.request.id mine.0.behind m.entry ∙ ap (λ x. outs_under mine.0.request.id mine.0.behind ++ (if x || takes_id mine.0.request.id m.entry then [] else out_rest mine.0.request.id (out_message m.entry.what))) (not_true (list_any (takes_id mine.0.request.id) mine.0.behind) mine.1.1.1) ∙ ap (λ o. outs_under mine.0.request.id mine.0.behind ++ (if passes (λ n. n.id == mine.0.request.id) o then [] else out_rest mine.0.request.id (out_message m.entry.what))) no_message ∙ ap (λ w. outs_under mine.0.request.id mine.0.behind ++ out_rest mine.0.request.id (out_message w)) is_out ∙ ap (λ x. outs_under mine.0.request.id mine.0.behind ++ (if x then rest ∷ [] else [])) (eq_eqb id mine.0.request.id (sym this_id))

      answered : passes is_in_progress (last_bind c (place ++ m.entry ∷ [])) ≡ true
      answered = ap (passes is_in_progress) (last_later c place m.entry no_bind) ∙ by (last_bind c place) refl
        where
          by : (o : Option Operation) → last_bind c place ≡ o → passes is_in_progress (option_map (later_operation m.entry) o) ≡ true
          by (Some q) e = got q (is_last q e)
          by None e =
              let none : r.k ≡ 0 = same_number r.k (bind_number c place) (numbered bind) ∙ ap number_of e in
              let some : nat_lt 0 r.k ≡ true = of_row.0.0.positive in
              absurd (let bad : false ≡ true = sym (ap (nat_lt 0) none) ∙ some in cc)

      -- the answer is a Reply of the connection that is held
      from_hold : (hd : Held) → l.state.hold ≡ Some hd → is_mark_from (Connection hd.connection) (is_reply_of (record { client = c; k = bind_number c place })) m.mark ≡ true
      from_hold hd e = by m.mark refl begins.marked
        where
          no_notice : is_notice m.entry ≡ true → ⊥
          no_notice k =
              let same : (id == 0 && bytes_eq rest protocol_error_notice) ≡ true = ap (λ w. passes (λ x. x.id == 0 && bytes_eq x.rest protocol_error_notice) (out_message w)) (sym is_out) ∙ k in
              let text : rest ≡ protocol_error_notice = (bytes_eq-Decides rest protocol_error_notice).0 (right (id == 0) _ same) in
              let bad : false ≡ true = sym notice_ends ∙ ap (has_code bind_in_progress) (sym text) ∙ step in absurd (cc)

          no_refusal : (which : Refusal) (o : Option OpKind) → passes (λ kind. bytes_eq rest (refusal kind which)) o ≡ true → ⊥
          no_refusal which None k = absurd (let bad : false ≡ true = k in cc)
          no_refusal which (Some kind) k =
              let text : rest ≡ refusal kind which = (bytes_eq-Decides rest (refusal kind which)).0 k in
              let bad : false ≡ true = sym (refusal_ends kind which) ∙ ap (has_code bind_in_progress) (sym text) ∙ step in absurd (cc)

          -- the row that the Reply is for is this row
          of_reply : (o : OpName) (q : ClientRow) → row_named l.state o ≡ Some q → (q.request.id == id) ≡ true → (o.client ≡ c) × (o.k ≡ bind_number c place)
          of_reply o q f i =
              let named : (l.state.number == o.client && q.k == o.k) ≡ true = found_passes (λ x. l.state.number == o.client && x.k == o.k) l.state.rows q f in
              let same : implies (r.request.id == q.request.id) (r.k == q.k) ≡ true = (last_passing (λ x. implies (x.request.id == q.request.id) (x.k == q.k) ≡ true) (λ x. x.request.id == id) l.state.rows r under (each_of (λ x. implies (x.request.id == q.request.id) (x.k == q.k)) l.state.rows (one_row (λ x. l.state.number == o.client && x.k == o.k) q l.state.rows begins.lives.apart f))).0 in
              let k : (r.k == q.k) ≡ true = implied (r.request.id == q.request.id) (r.k == q.k) same (eq_eqb r.request.id q.request.id (same_number r.request.id id of_row.1 ∙ sym (same_number q.request.id id i))) in
              (sym (same_number l.state.number o.client (left (l.state.number == o.client) _ named)) ∙ number, sym (same_number q.k o.k (right (l.state.number == o.client) _ named)) ∙ sym (same_number r.k q.k k) ∙ same_number r.k (bind_number c place) (numbered bind))

          live : list_any (is_numbered (bind_number c place)) l.state.rows ≡ true
          live = any_last l.state.rows under
            where
              any_last : (xs : List ClientRow) → last (filter (λ x. x.request.id == id) xs) ≡ Some r → list_any (is_numbered (bind_number c place)) xs ≡ true
              any_last xs k = by_none (list_any (is_numbered (bind_number c place)) xs) refl
                where
                  by_none : (d : Bool) → list_any (is_numbered (bind_number c place)) xs ≡ d → d ≡ true
                  by_none true z = refl
                  by_none false z = absurd (let none : (not (is_numbered (bind_number c place) r)) ≡ true = (last_passing (λ x. not (is_numbered (bind_number c place) x) ≡ true) (λ x. x.request.id == id) xs r k (each_of (λ x. not (is_numbered (bind_number c place) x)) xs (none_of (is_numbered (bind_number c place)) xs z))).0 in let bad : false ≡ true = sym (ap not (numbered bind)) ∙ none in cc)

          sender_is : (sender : PartName) (v : ℕ) → hd.connection ≡ v → same_part sender (Connection v) ≡ true → same_part (Connection hd.connection) sender ≡ true
          sender_is (Connection w) v k j = eq_eqb hd.connection w (k ∙ sym (same_number w v j))
          sender_is _ v k j = absurd (let bad : false ≡ true = j in cc)

          replied : (sender : PartName) (o : OpName) (r' : List ℕ) (is_last : Bool) (who : Option (List ℕ)) → fits_client s l sender (Reply o r' is_last who) ≡ true → (o.client ≡ c) × (o.k ≡ bind_number c place) → (same_part (Connection hd.connection) sender && same_op (record { client = c; k = bind_number c place }) o) ≡ true
          replied sender o r' is_last who f k = by_expected (expected_from l sender o) refl f
            where
              by_expected : (x : Option Expected) → expected_from l sender o ≡ x → passes (λ y. answers y.request r' is_last && is_known s y.request r' who) x ≡ true → (same_part (Connection hd.connection) sender && same_op (record { client = c; k = bind_number c place }) o) ≡ true
              by_expected None z j = absurd (let bad : false ≡ true = j in cc)
              by_expected (Some x) z j =
                  let passed : (same_op o x.op && same_part sender (Connection x.connection)) ≡ true = found_passes (λ y. same_op o y.op && same_part sender (Connection y.connection)) l.expected x z in
                  let op : o ≡ x.op = same_op_eq o x.op (left (same_op o x.op) _ passed) in
                  let held : is_held_there (bind_number c place) l.state.hold x ≡ true = found (is_held_there (bind_number c place) l.state.hold) (λ y. same_op o y.op && same_part sender (Connection y.connection)) l.expected x z (h.held live) in
                  let at : is_at_hold (Some hd) x ≡ true = ap (λ q. is_at_hold q x) (sym e) ∙ implied (x.op.k == bind_number c place) _ held (eq_eqb x.op.k (bind_number c place) (ap (λ (q : OpName). q.k) (sym op) ∙ k.1)) in
                  both (same_part (Connection hd.connection) sender) _ (sender_is sender x.connection (same_number hd.connection x.connection at) (right (same_op o x.op) _ passed)) (both (c == o.client) _ (eq_eqb c o.client (sym k.0)) (eq_eqb (bind_number c place) o.k (sym k.1)))

          by : (mark : Option Taken) → m.mark ≡ mark → may_be_first l.state m.entry mark ≡ true → is_mark_from (Connection hd.connection) (is_reply_of (record { client = c; k = bind_number c place })) mark ≡ true
          by None z k = absurd (no_notice (not_not (is_notice m.entry) (ap (λ w. not (must_mark_client m.entry w)) (sym is_out) ∙ k)))
          by (Some t) z k = on t.letter (ap (λ w. marks_client l.state w t.letter) (sym is_out) ∙ k) (fit t z)
            where
              one : (o : OpName) (r' : List ℕ) (is_last : Bool) (who : Option (List ℕ)) (q : Option ClientRow) → row_named l.state o ≡ q → passes (is_answer_to id rest r') q ≡ true → fits_client s l t.sender (Reply o r' is_last who) ≡ true → (same_part (Connection hd.connection) t.sender && same_op (record { client = c; k = bind_number c place }) o) ≡ true
              one o r' is_last who None f j g = absurd (let bad : false ≡ true = j in cc)
              one o r' is_last who (Some q) f j g = replied t.sender o r' is_last who g (of_reply o q f (left (q.request.id == id) _ j))

              refused : (which : Refusal) (q : Option ClientRow) → passes (is_refusal_of id rest which) q ≡ true → ⊥
              refused which None j = absurd (let bad : false ≡ true = j in cc)
              refused which (Some q) j = no_refusal which (kind_of q.request.rest) (right (q.request.id == id) _ j)

              on : (x : Letter) → marks_client l.state (what.Out id rest) x ≡ true → fits_client s l t.sender x ≡ true → (same_part (Connection hd.connection) t.sender && is_reply_of (record { client = c; k = bind_number c place }) x) ≡ true
              on (Reply o r' is_last who) j g = one o r' is_last who (row_named l.state o) refl j g
              on (Failed o which) j g = absurd (refused which (row_named l.state o) j)
              on _ j g = absurd (let bad : false ≡ true = j in cc)

  -- Behind the Out.
  abbrev After : ClientState → Type 0
  After q = Exchange c (bind_number c (place ++ m.entry ∷ [])) (place ++ m.entry ∷ []) (b ++ m ∷ []) q.rows q.hold l.state.asked q.in_exchange (filter (λ x. not (is_last_by x.op m.mark)) l.expected)

  unchanged : After l.state
  unchanged = stays c place b m l.state.rows l.state.hold l.state.asked l.state.in_exchange l.expected (λ x. not (is_last_by x.op m.mark)) no_bind h

  fewer : (t : ClientRow → Bool) → Exchange c (bind_number c place) place b (filter t l.state.rows) l.state.hold l.state.asked l.state.in_exchange l.expected
  fewer t = rows_less c (bind_number c place) place b l.state.rows l.state.hold l.state.asked l.state.in_exchange l.expected h t

  pub exchange_out : (is_begun (what.Out id rest) ≡ true → Begins c place l.state m) → ((t : Taken) → m.mark ≡ Some t → fits_client s l t.sender t.letter ≡ true) → After (client_behind s m.entry.at m.mark l.state (what.Out id rest))
  exchange_out begins fit = by (row_under l.state id) refl
    where
      ended_state : ClientRow → ClientState
      ended_state r = without (λ x. x.k == r.k) m.entry.at l.state

      answered_by : ClientRow → Bool → ClientState
      answered_by r d = elim d [ true ↦ record (ended_state r) { in_exchange = true } | false ↦ record (ended_state r) { hold = None; identity = if has_code 0 rest then identity_of s (who_told m.mark) (request r.request.rest) else [] } ]

      state : ClientRow → Bool → Bool → Bool → ClientState
      state r f k d = elim f [ false ↦ l.state | true ↦ elim k [ true ↦ answered_by r d | false ↦ ended_state r ] ]

      on : (r : ClientRow) → row_under l.state id ≡ Some r → (f k d : Bool) → is_final_for r.request rest ≡ f → is_bind_row r ≡ k → has_code bind_in_progress rest ≡ d → After (state r f k d)
      on r e false k d x y z = unchanged
      on r e true false d x y z = stays c place b m (filter (λ q. not (q.k == r.k)) l.state.rows) l.state.hold l.state.asked l.state.in_exchange l.expected (λ q. not (is_last_by q.op m.mark)) no_bind (fewer (λ q. not (q.k == r.k)))
      on r e true true false x y z =
          stays c place b m (filter (λ q. not (q.k == r.k)) l.state.rows) None l.state.asked l.state.in_exchange l.expected (λ q. not (is_last_by q.op m.mark)) no_bind
          (let_go c (bind_number c place) place b (filter (λ q. not (q.k == r.k)) l.state.rows) l.state.hold l.state.asked l.state.in_exchange l.expected (fewer (λ q. not (q.k == r.k))) (ended r e y))
      on r e true true true x y z =
          let start : Begins c place l.state m = begins (ap (λ i. true && not (not i)) z) in
          let more : Exchange c (bind_number c (place ++ m.entry ∷ [])) (place ++ m.entry ∷ []) (b ++ m ∷ []) (filter (λ q. not (q.k == r.k)) l.state.rows) l.state.hold l.state.asked l.state.in_exchange (filter (λ q. not (is_last_by q.op m.mark)) l.expected) = stays c place b m (filter (λ q. not (q.k == r.k)) l.state.rows) l.state.hold l.state.asked l.state.in_exchange l.expected (λ q. not (is_last_by q.op m.mark)) no_bind (fewer (λ q. not (q.k == r.k))) in
          record {
            kinds = more.kinds;
            held = more.held;
            unasked = more.unasked;
            going = λ j. record {
              over = ap (λ n. list_any (is_numbered n) (filter (λ q. not (q.k == r.k)) l.state.rows)) (number_later c place m.entry no_bind) ∙ ended r e y;
              answered = answered r e y x z start fit;
              told = λ hd i. ap (λ n. list_any (λ q. is_mark_from (Connection hd.connection) (is_reply_of (record { client = c; k = n })) q.mark) (b ++ m ∷ [])) (number_later c place m.entry no_bind) ∙ any_behind (λ q. is_mark_from (Connection hd.connection) (is_reply_of (record { client = c; k = bind_number c place })) q.mark) b (m ∷ []) (or_left (is_mark_from (Connection hd.connection) (is_reply_of (record { client = c; k = bind_number c place })) m.mark) false (from_hold r e y x z start fit hd i));
            };
          }

      by : (o : Option ClientRow) → row_under l.state id ≡ o → After (out_state_of s m.entry.at m.mark l.state rest o)
      by None e = unchanged
      by (Some r) e = on r e (is_final_for r.request rest) (is_bind_row r) (has_code bind_in_progress rest) refl refl refl
