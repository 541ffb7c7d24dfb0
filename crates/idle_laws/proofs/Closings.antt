-- The final answers of the Binds of an exchange, behind an entry more: where one ends the exchange, the client holds nothing.
use Rattle.std.proofs.Common.{◌≡◌, ℕ, suc, Bool, true, false, ◌==◌, ◌&&◌, ◌||◌, not, nat_le, if◌then◌else◌, cond, List, [], ◌∷◌, ◌++◌, length, map, filter, refl, ap, ◌∙◌, sym, Option, Some, None}
use Rattle.std.specs.List.{list_all, list_any}
use Rattle.lload_names.specs.declared.names.Entry.{Entry}
use Rattle.lload_names.specs.declared.names.OpKind.TheVariants.{Bind}
use Rattle.lload_names.specs.declared.names.PartName.{PartName}
use Rattle.lload_names.specs.declared.names.What.TheVariants as what
use Rattle.lload_names.specs.declared.names.What.{What}
use Rattle.ldap_spec.specs.Kinds.{is_final, kind_of, same_kind}
use Rattle.ldap_spec.specs.Messages.{Message}
use Rattle.ldap_spec.specs.Requests.{request}
use Rattle.ldap_spec.specs.Responses.{has_code}
use Rattle.lload_spec.specs.Entries.{operation_message, out_message}
use Rattle.lload_spec.specs.Fifo.{is_out_before_end}
use Rattle.lload_spec.specs.Identity.{identity_of}
use Rattle.lload_spec.specs.Lists.{last, passes}
use Rattle.lload_spec.specs.Operations.{Operation, got_final, is_final_for, is_live, is_of, is_request_of, live_operations, operation_made, operations, outs}
use Rattle.lload_spec.specs.Settings.{Settings}
use Rattle.lload_spec.proofs.Growth.{both, left, right}
use Rattle.part_spec.specs.ClientState.{ClientRow, ClientState, client_behind, is_bind_row, who_told, without}
use Rattle.part_spec.specs.Marked.{Taken}
use Rattle.lload_laws.specs.ClientGrowth.{later_operation}
use Rattle.lload_laws.proofs.ClientGrowth.{operations_grow}
use Rattle.lload_laws.proofs.ListLaws.{all_imply, any-filter, any-map, any_imply, implied}
use Rattle.part_laws.proofs.ListLaws.{eqb_sym, none_of_both, not_both, not_true, or_elim, or_left, or_right, same_number}
use Rattle.connection_laws.proofs.RegularLetters.{and_none}
use Rattle.client_laws.proofs.ClientLives.{out_state_of}
use Rattle.client_laws.proofs.ClientOuts.{has_last}
use Rattle.client_laws.proofs.Matches.{ClientLives, Matches, are_apart, is_apart, is_untaken}
use Rattle.client_answer_laws.proofs.Each.{Each, each_both}
use Rattle.client_answer_laws.proofs.Only.{out_added, out_other}
use Rattle.forward_laws.proofs.Outs.{each_of, none_of}
use Rattle.identity_laws.proofs.Bound.{got_same}
use Rattle.identity_laws.proofs.Finals.{got_more, is_timely}
use Rattle.leave_laws.proofs.Lists.{any_among}
use Rattle.leave_laws.proofs.Refused.{bind_request}
use Rattle.left_laws.proofs.ExchangeOver.{ends_from}

-- whether an entry answers a Bind for good
abbrev pub closes_now : What → Operation → Bool
closes_now w b = passes (λ m. has_last m.id b && is_of Bind b && is_final_for b.request m.rest && not (has_code 14 m.rest)) (out_message w)

-- none of a list passes, where each is known not to
pub none_each : {A : Type 0} (P : A → Type 0) (t : A → Bool) (xs : List A) → ((x : A) → P x → t x ≡ false) → Each P xs → list_any t xs ≡ false
none_each P t [] f h = refl
none_each P t (x ∷ xs) f h = ap (λ b. b || list_any t xs) (f x h.0) ∙ none_each P t xs f h.1

module _ (c k : ℕ) (place : List Entry) (e : Entry) where
  -- the operation that an entry makes got nothing
  made_none : (n : ℕ) (m : Option Message) → list_any (ends_from k) (operation_made c n place e [] m) ≡ false
  made_none n None = refl
  made_none n (Some m) = ap (λ b. b || false) (and_none (nat_le k n) (is_request_of Bind m) false refl)

  -- where the entry answers none, those of an exchange stay as they are
  pub closing_stays : list_any (closes_now e.what) (operations c place) ≡ false → list_any (ends_from k) (operations c place) ≡ false → list_any (ends_from k) (operations c (place ++ e ∷ [])) ≡ false
  closing_stays none old =
      ap (list_any (ends_from k)) (operations_grow c place e)
      ∙ none_of_both (ends_from k) (map (later_operation e) (operations c place)) (operation_made c (suc (length (operations c place))) place e [] (operation_message e.what))
      (any-map (ends_from k) (later_operation e) (operations c place) ∙ none_each (λ b. (not (closes_now e.what b) ≡ true) × (not (ends_from k b) ≡ true)) (λ b. ends_from k (later_operation e b)) (operations c place) (λ b h. one b (not_true (closes_now e.what b) h.0) (not_true (ends_from k b) h.1)) (each_both (λ b. not (closes_now e.what b) ≡ true) (λ b. not (ends_from k b) ≡ true) (operations c place) (each_of (λ b. not (closes_now e.what b)) (operations c place) (none_of (closes_now e.what) (operations c place) none)) (each_of (λ b. not (ends_from k b)) (operations c place) (none_of (ends_from k) (operations c place) old))))
      (made_none (suc (length (operations c place))) (operation_message e.what))
    where
      -- an Out
      out : (b : Operation) (id : ℕ) (body : List ℕ) → e.what ≡ what.Out id body → closes_now (what.Out id body) b ≡ false → (d l : Bool) → is_of Bind b ≡ d → has_last id b ≡ l → d ≡ true → got_final (λ r. not (has_code 14 r)) (later_operation e b) ≡ got_final (λ r. not (has_code 14 r)) b
      out b id body i now d false x y z = ap (list_any (λ r. is_final_for b.request r && not (has_code 14 r))) (ap (λ w. outs (later_operation (record { part = e.part; at = e.at; what = w }) b)) i ∙ out_other e.part e.at id body b y)
      out b id body i now d true x y z =
          let answers : (is_final_for b.request body && not (has_code 14 body)) ≡ false = sym (ap (λ v. v && is_of Bind b && is_final_for b.request body && not (has_code 14 body)) y ∙ ap (λ v. true && v && is_final_for b.request body && not (has_code 14 body)) (x ∙ z)) ∙ now in
          got_more (λ r. not (has_code 14 r)) b (later_operation e b) body refl (ap (λ w. outs (later_operation (record { part = e.part; at = e.at; what = w }) b)) i ∙ out_added e.part e.at id body b y)
          ∙ ap (λ v. got_final (λ r. not (has_code 14 r)) b || v) answers ∙ or_none (got_final (λ r. not (has_code 14 r)) b)
        where
          or_none : (v : Bool) → (v || false) ≡ v
          or_none true = refl
          or_none false = refl

      same : (b : Operation) → closes_now e.what b ≡ false → is_of Bind b ≡ true → got_final (λ r. not (has_code 14 r)) (later_operation e b) ≡ got_final (λ r. not (has_code 14 r)) b
      same b now bind = by e.what refl
        where
          by : (w : What) → e.what ≡ w → got_final (λ r. not (has_code 14 r)) (later_operation e b) ≡ got_final (λ r. not (has_code 14 r)) b
          by (what.Out id body) i = out b id body i (ap (λ w. closes_now w b) (sym i) ∙ now) (is_of Bind b) (has_last id b) refl refl bind
          by w i = got_same e b (ap out_message i) (λ r. not (has_code 14 r))

      one : (b : Operation) → closes_now e.what b ≡ false → ends_from k b ≡ false → ends_from k (later_operation e b) ≡ false
      one b now old = by (is_of Bind b) refl
        where
          by : (d : Bool) → is_of Bind b ≡ d → ends_from k (later_operation e b) ≡ false
          by true i = ap (λ v. nat_le k b.name.k && is_of Bind b && v) (same b now i) ∙ old
          by false i = ap (λ v. nat_le k b.name.k && v && got_final (λ r. not (has_code 14 r)) (later_operation e b)) i ∙ never (nat_le k b.name.k) (got_final (λ r. not (has_code 14 r)) (later_operation e b))
            where
              never : (a v : Bool) → (a && false && v) ≡ false
              never true v = refl
              never false v = refl

-- An answer for good finds its row, and lets go of what is held.

-- the row of a live Bind
bind_row : (id : ℕ) (rows : List ClientRow) (os : List Operation) → Matches rows os → list_any (λ o. o.request.id == id && is_of Bind o) os ≡ true → list_any (λ r. r.request.id == id && is_bind_row r) rows ≡ true
bind_row id [] [] m h = h
bind_row id (r ∷ rows) (o ∷ os) m h = or_elim (o.request.id == id && is_of Bind o) (list_any (λ x. x.request.id == id && is_of Bind x) os) (λ k. or_left (r.request.id == id && is_bind_row r) _ (both (r.request.id == id) _ (ap (λ n. n == id) m.0.id ∙ left (o.request.id == id) _ k) (ap (passes (same_kind Bind)) m.0.kind ∙ right (o.request.id == id) _ k))) (λ k. or_right (r.request.id == id && is_bind_row r) _ (bind_row id rows os m.1 k)) h
bind_row id [] (o ∷ os) m h = absurd m
bind_row id (r ∷ rows) [] m h = absurd m

others_under : (id : ℕ) (rows : List ClientRow) → list_all (λ r. not (r.request.id == id)) rows ≡ true → (filter (λ r. r.request.id == id) rows ≡ []) × (list_any (λ r. r.request.id == id && is_bind_row r) rows ≡ false)
others_under id [] h = (refl, refl)
others_under id (r ∷ rows) h =
    let none : (r.request.id == id) ≡ false = not_true (r.request.id == id) (left (not (r.request.id == id)) _ h) in
    let more = others_under id rows (right (not (r.request.id == id)) _ h) in
    (ap (λ b. cond b (r ∷ filter (λ x. x.request.id == id) rows) (filter (λ x. x.request.id == id) rows)) none ∙ more.0, ap (λ b. b && is_bind_row r || list_any (λ x. x.request.id == id && is_bind_row x) rows) none ∙ more.1)

-- rows are of different identifiers, so the one that is found is the Bind's
found_bind : (id : ℕ) (rows : List ClientRow) → are_apart rows ≡ true → list_any (λ r. r.request.id == id && is_bind_row r) rows ≡ true → (r : ClientRow) × (last (filter (λ x. x.request.id == id) rows) ≡ Some r) × (is_bind_row r ≡ true)
found_bind id [] a h = absurd (let bad : false ≡ true = h in cc)
found_bind id (r ∷ rows) a h = by (r.request.id == id) refl (found_bind id rows (right (list_all (is_apart r) rows) _ a))
  where
    others : (r.request.id == id) ≡ true → (filter (λ x. x.request.id == id) rows ≡ []) × (list_any (λ x. x.request.id == id && is_bind_row x) rows ≡ false)
    others e = others_under id rows (all_imply (is_apart r) (λ x. not (x.request.id == id)) rows (λ x k. ap (λ n. not (x.request.id == n)) (sym (same_number r.request.id id e)) ∙ ap not (eqb_sym x.request.id r.request.id) ∙ right (not (r.k == x.k)) _ k) (left (list_all (is_apart r) rows) _ a))

    by : (b : Bool) → (r.request.id == id) ≡ b → (list_any (λ x. x.request.id == id && is_bind_row x) rows ≡ true → (q : ClientRow) × (last (filter (λ x. x.request.id == id) rows) ≡ Some q) × (is_bind_row q ≡ true)) → (q : ClientRow) × (last (filter (λ x. x.request.id == id) (r ∷ rows)) ≡ Some q) × (is_bind_row q ≡ true)
    by true e ih = (r, ap (λ b. last (cond b (r ∷ filter (λ x. x.request.id == id) rows) (filter (λ x. x.request.id == id) rows))) e ∙ ap (λ l. last (r ∷ l)) (others e).0, or_elim (r.request.id == id && is_bind_row r) (list_any (λ x. x.request.id == id && is_bind_row x) rows) (λ k. right (r.request.id == id) _ k) (λ k. not_both (list_any (λ x. x.request.id == id && is_bind_row x) rows) k (others e).1) h)
    by false e ih =
        let more = ih (or_elim (r.request.id == id && is_bind_row r) (list_any (λ x. x.request.id == id && is_bind_row x) rows) (λ k. absurd (let bad : false ≡ true = sym e ∙ left (r.request.id == id) _ k in cc)) (λ k. k) h) in
        (more.0, ap (λ b. last (cond b (r ∷ filter (λ x. x.request.id == id) rows) (filter (λ x. x.request.id == id) rows))) e ∙ more.1, more.2)

module _ (s : Settings) (c : ℕ) (place : List Entry) (p : ClientState) (lives : ClientLives c place p) (part : PartName) (at id : ℕ) (body : List ℕ) (mark : Option Taken) where
  abbrev went : Entry
  went = record { part = part; at = at; what = what.Out id body }

  pub closed_frees : list_all (is_timely went) (operations c place) ≡ true → list_any (closes_now (what.Out id body)) (operations c place) ≡ true → (client_behind s at mark p (what.Out id body)).hold ≡ None
  closed_frees timely now =
      let row = found_bind id p.rows lives.apart (bind_row id p.rows (live_operations c place) lives.rows alive) in
      ap (λ o. (out_state_of s at mark p body o).hold) row.1
      ∙ ap (λ g. (state row.0 g (is_bind_row row.0) (has_code 14 body)).hold) (ap (passes (λ k. is_final k body)) (bind_request (kind_of row.0.request.rest) row.2) ∙ final)
      ∙ ap (λ b. (state row.0 true b (has_code 14 body)).hold) row.2
      ∙ ap (λ d. (state row.0 true true d).hold) code
    where
      less : ClientRow → ClientState
      less r = without (λ x. x.k == r.k) at p

      answered : ClientRow → Bool → ClientState
      answered r x = elim x [ true ↦ record (less r) { in_exchange = true } | false ↦ record (less r) { hold = None; identity = if has_code 0 body then identity_of s (who_told mark) (request r.request.rest) else [] } ]

      state : ClientRow → Bool → Bool → Bool → ClientState
      state r g b x = elim g [ false ↦ p | true ↦ elim b [ true ↦ answered r x | false ↦ less r ] ]

      So : Operation → Bool
      So b = (is_live b && (b.request.id == id && is_of Bind b)) && (is_final Bind body && not (has_code 14 body))

      Closes : Operation → Bool
      Closes b = is_timely went b && closes_now (what.Out id body) b

      one : (b : Operation) → Closes b ≡ true → So b ≡ true
      one b k =
          let closes : (has_last id b && is_of Bind b && is_final_for b.request body && not (has_code 14 body)) ≡ true = right (is_timely went b) _ k in
          let three : (has_last id b && is_of Bind b && is_final_for b.request body) ≡ true = left (has_last id b && is_of Bind b && is_final_for b.request body) _ closes in
          let two : (has_last id b && is_of Bind b) ≡ true = left (has_last id b && is_of Bind b) _ three in
          let of_id : has_last id b ≡ true = left (has_last id b) _ two in
          let bind : is_of Bind b ≡ true = right (has_last id b) _ two in
          let live : is_live b ≡ true = implied ((id == b.request.id) && is_untaken b) (is_live b) (left (is_out_before_end b.request b.behind went) _ (left (is_timely went b) _ k)) (ap (λ x. x && is_untaken b) (eqb_sym id b.request.id) ∙ of_id) in
          both (is_live b && (b.request.id == id && is_of Bind b)) _
          (both (is_live b) _ live (both (b.request.id == id) _ (left (b.request.id == id) _ of_id) bind))
          (both (is_final Bind body) _ (sym (ap (passes (λ q. is_final q body)) (bind_request (kind_of b.request.rest) bind)) ∙ right (has_last id b && is_of Bind b) _ three) (right (has_last id b && is_of Bind b && is_final_for b.request body) _ closes))

      some : list_any So (operations c place) ≡ true
      some = any_among (is_timely went) (closes_now (what.Out id body)) So (operations c place) (λ b i j. one b (both (is_timely went b) _ i j)) timely now

      alive : list_any (λ o. o.request.id == id && is_of Bind o) (live_operations c place) ≡ true
      alive = any-filter (λ o. o.request.id == id && is_of Bind o) is_live (operations c place) ∙ any_imply So (λ o. is_live o && (o.request.id == id && is_of Bind o)) (operations c place) (λ o j. left (is_live o && (o.request.id == id && is_of Bind o)) _ j) some

      both_of : (is_final Bind body && not (has_code 14 body)) ≡ true
      both_of = given (operations c place) some
        where
          given : (os : List Operation) → list_any So os ≡ true → (is_final Bind body && not (has_code 14 body)) ≡ true
          given [] k = absurd (let bad : false ≡ true = k in cc)
          given (o ∷ os) k = or_elim (So o) (list_any So os) (λ j. right (is_live o && (o.request.id == id && is_of Bind o)) _ j) (given os) k

      final : is_final Bind body ≡ true
      final = left (is_final Bind body) _ both_of

      code : has_code 14 body ≡ false
      code = not_true (has_code 14 body) (right (is_final Bind body) _ both_of)
