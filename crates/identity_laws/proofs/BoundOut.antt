-- Who a client is behind an Out: where it is the final answer to the last Bind, what that says.
use Rattle.std.proofs.Common.{◌≡◌, ℕ, Bool, true, false, ◌==◌, ◌&&◌, ◌||◌, not, List, [], ◌∷◌, ◌++◌, refl, ap, ◌∙◌, sym, subst}
use Rattle.std.specs.Prelude.{Option, Some, None, cond, filter, option_map, if◌then◌else◌}
use Rattle.std.specs.List.{list_any, list_all}
use Rattle.ldap_spec.specs.Kinds.{same_kind}
use Rattle.ldap_spec.specs.Requests.{request}
use Rattle.ldap_spec.specs.Responses.{has_code}
use Rattle.ldap_spec.specs.Tags.{success}
use Rattle.lload_names.specs.declared.names.Entry.{Entry}
use Rattle.lload_names.specs.declared.names.OpKind.TheVariants.{Bind}
use Rattle.lload_names.specs.declared.names.PartName.{PartName}
use Rattle.lload_names.specs.declared.names.What.TheVariants as what
use Rattle.lload_spec.specs.Answers.{closing}
use Rattle.lload_spec.specs.Identity.{identity_of, who_by}
use Rattle.lload_spec.specs.Journal.{Family}
use Rattle.lload_spec.specs.Lists.{last, passes}
use Rattle.lload_spec.specs.Operations.{Operation, operations, live_operations, is_live, is_of, is_final_for, last_bind, got_final}
use Rattle.lload_spec.specs.Fifo.{is_out_before_end}
use Rattle.lload_spec.specs.Settings.{Settings}
use Rattle.lload_spec.proofs.Growth.{left, right, both}
use Rattle.lload_laws.specs.ClientGrowth.{later_operation}
use Rattle.lload_laws.proofs.ListLaws.{all_imply, any_imply, any-filter, implied}
use Rattle.part_laws.proofs.ListLaws.{eqb_sym, eq_eqb, false_by, not_true, same_number, or_elim, or_left, or_right}
use Rattle.part_spec.specs.ClientState.{ClientState, ClientRow, step_client, is_bind_row, row_under, without, who_told}
use Rattle.part_spec.specs.Marked.{Marked, Taken}
use Rattle.bind_laws.proofs.Meets.{code_apart}
use Rattle.client_laws.proofs.Matches.{Matches, ClientLives, is_apart, are_apart, is_untaken}
use Rattle.client_laws.proofs.ClientLives.{out_state_of}
use Rattle.client_laws.proofs.ClientOuts.{has_last}
use Rattle.client_answer_laws.proofs.Each.{Each, each_filter, each_imply}
use Rattle.client_answer_laws.proofs.Only.{out_added, out_other}
use Rattle.identity_laws.proofs.Finals.{bind_stays, last_all, last_any, last_passes_it, none_got, got_more, is_timely}
use Rattle.identity_laws.proofs.Bound.{Bound, BindKnown, BindSays, IsBindOf, IsUntaken, RowsFrom, rows_same, rows_filtered, says_later, untaken_stays, other_moment}

pub each_end : {A : Type 0} (P : A → Type 0) (xs : List A) (y : A) → last xs ≡ Some y → Each P xs → P y
each_end P [] y e h = absurd (let bad : None ≡ Some y = e in cc)
each_end P (x ∷ []) y e h = let same : x ≡ y = cc in subst P same h.0
each_end P (x ∷ z ∷ xs) y e h = each_end P (z ∷ xs) y e h.1

module _ (p : ClientState) (id : ℕ) (r : ClientRow) (e : row_under p id ≡ Some r) where
  abbrev is_under : ClientRow → Bool
  is_under x = x.request.id == id

  -- what holds of all rows holds of the one under an identifier
  under_is : (Q : ClientRow → Type 0) → Each Q p.rows → Q r
  under_is Q h = each_end Q (filter (λ x. x.request.id == id) p.rows) r e (each_filter Q Q (λ x. x.request.id == id) p.rows (λ x k j. j) h)

  under_id : r.request.id ≡ id
  under_id = same_number r.request.id id (last_passes_it (λ x. x.request.id == id) p.rows r e)

  under_any : (t : ClientRow → Bool) → t r ≡ true → list_any t p.rows ≡ true
  under_any t h = any_imply (λ x. x.request.id == id && t x) t p.rows (λ x k. right (x.request.id == id) _ k) (last_any (λ x. x.request.id == id) t p.rows r e h)

-- the row of a live Bind
bind_row_of : (id : ℕ) (rows : List ClientRow) (os : List Operation) → Matches rows os → list_any (λ o. o.request.id == id && is_of Bind o) os ≡ true → list_any (λ r. r.request.id == id && is_bind_row r) rows ≡ true
bind_row_of id [] [] m h = h
bind_row_of id (r ∷ rows) (o ∷ os) m h = or_elim (o.request.id == id && is_of Bind o) (list_any (λ x. x.request.id == id && is_of Bind x) os) (λ k. or_left (r.request.id == id && is_bind_row r) _ (both (r.request.id == id) _ (ap (λ n. n == id) m.0.id ∙ left (o.request.id == id) _ k) (ap (passes (same_kind Bind)) m.0.kind ∙ right (o.request.id == id) _ k))) (λ k. or_right (r.request.id == id && is_bind_row r) _ (bind_row_of id rows os m.1 k)) h
bind_row_of id [] (o ∷ os) m h = absurd m
bind_row_of id (r ∷ rows) [] m h = absurd m

-- a row of a Bind that is found under an identifier
pub record BindRow (p : ClientState) (id : ℕ) : Type 0 where
  pub row : ClientRow
  pub found : row_under p id ≡ Some row
  pub bind : is_bind_row row ≡ true

none_under : (id : ℕ) (rows : List ClientRow) → list_all (λ r. not (r.request.id == id)) rows ≡ true → filter (λ r. r.request.id == id) rows ≡ []
none_under id [] h = refl
none_under id (r ∷ rows) h = ap (λ b. cond b (r ∷ filter (λ x. x.request.id == id) rows) (filter (λ x. x.request.id == id) rows)) (not_true (r.request.id == id) (left (not (r.request.id == id)) _ h)) ∙ none_under id rows (right (not (r.request.id == id)) _ h)

none_bind : (id : ℕ) (rows : List ClientRow) → list_all (λ r. not (r.request.id == id)) rows ≡ true → list_any (λ r. r.request.id == id && is_bind_row r) rows ≡ false
none_bind id [] h = refl
none_bind id (r ∷ rows) h = ap (λ b. b && is_bind_row r || list_any (λ x. x.request.id == id && is_bind_row x) rows) (not_true (r.request.id == id) (left (not (r.request.id == id)) _ h)) ∙ none_bind id rows (right (not (r.request.id == id)) _ h)

-- rows have different identifiers
bind_under : (id : ℕ) (rows : List ClientRow) → are_apart rows ≡ true → list_any (λ r. r.request.id == id && is_bind_row r) rows ≡ true → (r : ClientRow) × (last (filter (λ x. x.request.id == id) rows) ≡ Some r) × (is_bind_row r ≡ true)
bind_under id [] a h = absurd (let bad : false ≡ true = h in cc)
bind_under id (r ∷ rows) a h = by (r.request.id == id) refl (bind_under id rows (right (list_all (is_apart r) rows) _ a))
  where
    others : (r.request.id == id) ≡ true → list_all (λ x. not (x.request.id == id)) rows ≡ true
    others e = all_imply (is_apart r) (λ x. not (x.request.id == id)) rows (λ x k. ap (λ n. not (x.request.id == n)) (sym (same_number r.request.id id e)) ∙ ap not (eqb_sym x.request.id r.request.id) ∙ right (not (r.k == x.k)) _ k) (left (list_all (is_apart r) rows) _ a)

    by : (b : Bool) → (r.request.id == id) ≡ b → (list_any (λ x. x.request.id == id && is_bind_row x) rows ≡ true → (q : ClientRow) × (last (filter (λ x. x.request.id == id) rows) ≡ Some q) × (is_bind_row q ≡ true)) → (q : ClientRow) × (last (filter (λ x. x.request.id == id) (r ∷ rows)) ≡ Some q) × (is_bind_row q ≡ true)
    by true e ih = (r, ap (λ b. last (cond b (r ∷ filter (λ x. x.request.id == id) rows) (filter (λ x. x.request.id == id) rows))) e ∙ ap (λ l. last (r ∷ l)) (none_under id rows (others e)), or_elim (r.request.id == id && is_bind_row r) (list_any (λ x. x.request.id == id && is_bind_row x) rows) (λ k. right (r.request.id == id) _ k) (λ k. absurd (let bad : false ≡ true = sym (none_bind id rows (others e)) ∙ k in cc)) h)
    by false e ih =
        let more = ih (or_elim (r.request.id == id && is_bind_row r) (list_any (λ x. x.request.id == id && is_bind_row x) rows) (λ k. absurd (let bad : false ≡ true = sym e ∙ left (r.request.id == id) _ k in cc)) (λ k. k) h) in
        (more.0, ap (λ b. last (cond b (r ∷ filter (λ x. x.request.id == id) rows) (filter (λ x. x.request.id == id) rows))) e ∙ more.1, more.2)

module _ (s : Settings) (F : Family) (c : ℕ) (place : List Entry) (p : ClientState) (part : PartName) (at id : ℕ) (rest : List ℕ) (mark : Option Taken) where
  abbrev went : Entry
  went = record { part = part; at = at; what = what.Out id rest }

  abbrev marked : Marked
  marked = record { entry = record { part = part; at = at; what = what.Out id rest }; mark = mark }

  -- what the letter of the Out tells of the identity is what the family says
  abbrev pub WhoRight : Type 0
  WhoRight = (b : Operation) → last_bind c place ≡ Some b → (r : ClientRow) → row_under p id ≡ Some r → is_bind_row r ≡ true → (r.k ≡ b.name.k) → is_final_for b.request rest ≡ true → has_code 0 rest ≡ true → identity_of s (who_told mark) (request b.request.rest) ≡ identity_of s (who_by (closing s F b)) (request b.request.rest)

  module _ (timely : list_all (is_timely went) (operations c place) ≡ true) (found : (b : Operation) → last_bind c place ≡ Some b → has_last id b ≡ true → BindRow p id) (fresh : (b : Operation) → last_bind c place ≡ Some b → (r : ClientRow) → row_under p id ≡ Some r → is_bind_row r ≡ true → is_untaken b ≡ true) (who : WhoRight) where
    abbrev state : Option ClientRow → ClientState
    state o = out_state_of s at mark p rest o

    abbrev ended : ClientRow → ClientState
    ended r = without (λ x. x.k == r.k) at p

    abbrev answered : ClientRow → Bool → ClientState
    answered r b = elim b [ true ↦ record (ended r) { in_exchange = true } | false ↦ record (ended r) { hold = None; identity = if has_code 0 rest then identity_of s (who_told mark) (request r.request.rest) else [] } ]

    abbrev by_row : ClientRow → Bool → Bool → Bool → ClientState
    by_row r f b x = elim f [ false ↦ p | true ↦ elim b [ true ↦ answered r x | false ↦ ended r ] ]

    rows_by : (r : ClientRow) (f b x : Bool) → RowsFrom p (by_row r f b x)
    rows_by r false b x = rows_same p p refl
    rows_by r true true true = rows_filtered p (by_row r true true true) (λ x. not (x.k == r.k)) refl
    rows_by r true true false = rows_filtered p (by_row r true true false) (λ x. not (x.k == r.k)) refl
    rows_by r true false x = rows_filtered p (ended r) (λ y. not (y.k == r.k)) refl

    pub out_rows_from : (o : Option ClientRow) → RowsFrom p (out_state_of s at mark p rest o)
    out_rows_from None = rows_same p p refl
    out_rows_from (Some r) = rows_by r (is_final_for r.request rest) (is_bind_row r) (has_code 14 rest)

    -- the last Bind got no other final answer
    live : (b : Operation) → last_bind c place ≡ Some b → has_last id b ≡ true → is_live b ≡ true
    live b e h = implied ((id == b.request.id) && is_untaken b) (is_live b) (left (is_out_before_end b.request b.behind went) _ (last_all (is_of Bind) (is_timely went) (operations c place) b e timely)) (ap (λ x. x && is_untaken b) (eqb_sym id b.request.id) ∙ h)

    same_other : (b : Operation) → has_last id b ≡ false → (t : List ℕ → Bool) → got_final t (later_operation went b) ≡ got_final t b
    same_other b h t = ap (list_any (λ r. is_final_for b.request r && t r)) (out_other part at id rest b h)

    or_none : (b : Bool) → (b || false) ≡ b
    or_none true = refl
    or_none false = refl

    same_part : (b : Operation) → has_last id b ≡ true → is_final_for b.request rest ≡ false → (t : List ℕ → Bool) → got_final t (later_operation went b) ≡ got_final t b
    same_part b h f t = got_more t b (later_operation went b) rest refl (out_added part at id rest b h) ∙ ap (λ x. got_final t b || (x && t rest)) f ∙ or_none (got_final t b)

    module _ (b : Operation) (z : last_bind c place ≡ Some b) (h : BindKnown s F p b) where
      none_here : row_under p id ≡ None → BindSays s F p (Some (later_operation went b))
      none_here e = says_later s F went p p (Some b) refl refl (rows_same p p refl) (λ x y t. by x y t) h
        where
          by : (x : Operation) → Some b ≡ Some x → (t : List ℕ → Bool) → got_final t (later_operation went x) ≡ got_final t x
          by x y t =
              let same : b ≡ x = cc in
              subst (λ o. got_final t (later_operation went o) ≡ got_final t o) same (same_other b (false_by (has_last id b) (λ k. let f : BindRow p id = found b z k in absurd (let bad : None ≡ Some f.row = sym e ∙ f.found in cc))) t)

      module _ (r : ClientRow) (e : row_under p id ≡ Some r) where
        same_request : is_bind_row r ≡ true → (r.k ≡ b.name.k) × (r.request ≡ b.request)
        same_request k = under_is p id r e (IsBindOf b) h.rows k

        -- it isn't the final answer to the last Bind
        not_this : (is_final_for r.request rest && is_bind_row r) ≡ false → (t : List ℕ → Bool) → got_final t (later_operation went b) ≡ got_final t b
        not_this n t = by (has_last id b) refl
          where
            by : (x : Bool) → has_last id b ≡ x → got_final t (later_operation went b) ≡ got_final t b
            by false k = same_other b k t
            by true k =
                let f : BindRow p id = found b z k in
                let one : Some r ≡ Some f.row = sym e ∙ f.found in
                let row : f.row ≡ r = cc in
                let bind : is_bind_row r ≡ true = ap is_bind_row (sym row) ∙ f.bind in
                same_part b k (ap (λ m. is_final_for m rest) (sym (same_request bind).1) ∙ false_by (is_final_for r.request rest) (λ j. sym n ∙ both (is_final_for r.request rest) _ j bind)) t

        quiet : (q : ClientState) → q.identity ≡ p.identity → q.in_exchange ≡ p.in_exchange → RowsFrom p q → (is_final_for r.request rest && is_bind_row r) ≡ false → BindSays s F q (Some (later_operation went b))
        quiet q a x rows n = says_later s F went p q (Some b) a x rows (λ y w t. by y w t) h
          where
            by : (y : Operation) → Some b ≡ Some y → (t : List ℕ → Bool) → got_final t (later_operation went y) ≡ got_final t y
            by y w t = let same : b ≡ y = cc in subst (λ o. got_final t (later_operation went o) ≡ got_final t o) same (not_this n t)

        -- it is
        module _ (f : is_final_for r.request rest ≡ true) (k : is_bind_row r ≡ true) where
          final : is_final_for b.request rest ≡ true
          final = ap (λ m. is_final_for m rest) (sym (same_request k).1) ∙ f

          last_one : has_last id b ≡ true
          last_one = both (b.request.id == id) _ (eq_eqb b.request.id id (ap (λ m. m.id) (sym (same_request k).1) ∙ under_id p id r e)) (fresh b z r e k)

          before : (t : List ℕ → Bool) → got_final t b ≡ false
          before t = none_got t b (live b z last_one)

          behind : (t : List ℕ → Bool) → got_final t (later_operation went b) ≡ t rest
          behind t = got_more t b (later_operation went b) rest refl (out_added part at id rest b last_one) ∙ ap (λ x. x || (is_final_for b.request rest && t rest)) (before t) ∙ ap (λ x. x && t rest) final

          rows_known : (q : ClientState) → RowsFrom p q → Each (IsBindOf (later_operation went b)) q.rows
          rows_known q rows = each_imply (IsBindOf b) (IsBindOf (later_operation went b)) q.rows (λ x i j. i j) (rows.each b h.rows)

          abbrev identity_text : Bool → List ℕ
          identity_text g = if g then identity_of s (who_by (closing s F b)) (request b.request.rest) else []

          told : (x : Bool) → has_code 14 rest ≡ x → BindSays s F (answered r x) (Some (later_operation went b))
          told true j = record {
            identity = h.identity ∙ ap identity_text (before (has_code success)) ∙ sym (ap identity_text (behind (has_code success) ∙ code_apart rest j));
            exchange = sym (behind (has_code 14) ∙ j);
            rows = rows_known (answered r true) (rows_by r true true true);
          }
          told false j = record {
            identity = by (has_code 0 rest) refl ∙ sym (ap identity_text (behind (has_code success)));
            exchange = h.exchange ∙ before (has_code 14) ∙ sym (behind (has_code 14) ∙ j);
            rows = rows_known (answered r false) (rows_by r true true false);
          }
            where
              by : (x : Bool) → has_code 0 rest ≡ x → (if x then identity_of s (who_told mark) (request r.request.rest) else []) ≡ identity_text x
              by true i = ap (λ m. identity_of s (who_told mark) (request m.rest)) (same_request k).1 ∙ who b z r e k (same_request k).0 final i
              by false i = refl

        pub some_here : (f d x : Bool) → is_final_for r.request rest ≡ f → is_bind_row r ≡ d → has_code 14 rest ≡ x → BindSays s F (by_row r f d x) (Some (later_operation went b))
        some_here true true x i j k = told i j x k
        some_here true false x i j k = quiet (ended r) refl refl (rows_by r true false x) (ap (λ d. is_final_for r.request rest && d) j ∙ never (is_final_for r.request rest))
          where
            never : (d : Bool) → (d && false) ≡ false
            never true = refl
            never false = refl
        some_here false d x i j k = quiet p refl refl (rows_same p p refl) (ap (λ f. f && is_bind_row r) i)

    says_out : (o : Option Operation) → last_bind c place ≡ o → BindSays s F p o → BindSays s F (state (row_under p id)) (option_map (later_operation went) o)
    says_out None z h = by (row_under p id) refl
      where
        none : (r : ClientRow) → row_under p id ≡ Some r → is_bind_row r ≡ false
        none r e = false_by (is_bind_row r) (λ k. sym h.2 ∙ under_any p id r e is_bind_row k)

        row : (r : ClientRow) (f d x : Bool) → d ≡ false → BindSays s F (by_row r f d x) None
        row r false d x k = h
        row r true true x k = absurd (let bad : true ≡ false = k in cc)
        row r true false x k = says_later s F went p (ended r) None refl refl (rows_by r true false x) (λ b y t. absurd (let bad : None ≡ Some b = y in cc)) h

        by : (o : Option ClientRow) → row_under p id ≡ o → BindSays s F (state o) None
        by None e = h
        by (Some r) e = row r (is_final_for r.request rest) (is_bind_row r) (has_code 14 rest) (none r e)
    says_out (Some b) z h = by (row_under p id) refl
      where
        by : (o : Option ClientRow) → row_under p id ≡ o → BindSays s F (state o) (Some (later_operation went b))
        by None e = none_here b z h e
        by (Some r) e = some_here b z h r e (is_final_for r.request rest) (is_bind_row r) (has_code 14 rest) refl refl refl

    -- who the client is behind it
    pub out_says : BindSays s F p (last_bind c place) → BindSays s F (step_client s p marked) (last_bind c (place ++ went ∷ []))
    out_says h = subst (BindSays s F (step_client s p marked)) (sym (bind_stays c place went refl)) (other_moment s F (state (row_under p id)) (option_map (later_operation went) (last_bind c place)) (step_client s p marked) refl refl refl (says_out (last_bind c place) refl h))

  -- where the client's rows are its live operations
  module _ (timely : list_all (is_timely went) (operations c place) ≡ true) (lives : ClientLives c place p) (h : Bound s F c place p) where
    bind_found : (b : Operation) → last_bind c place ≡ Some b → has_last id b ≡ true → BindRow p id
    bind_found b z k =
        let live_one : is_live b ≡ true = implied ((id == b.request.id) && is_untaken b) (is_live b) (left (is_out_before_end b.request b.behind went) _ (last_all (is_of Bind) (is_timely went) (operations c place) b z timely)) (ap (λ x. x && is_untaken b) (eqb_sym id b.request.id) ∙ k) in
        let there : list_any (λ o. is_of Bind o && (is_live o && o.request.id == id)) (operations c place) ≡ true = last_any (is_of Bind) (λ o. is_live o && o.request.id == id) (operations c place) b z (both (is_live b) _ live_one (left (b.request.id == id) _ k)) in
        let alive : list_any (λ o. o.request.id == id && is_of Bind o) (live_operations c place) ≡ true = any-filter (λ o. o.request.id == id && is_of Bind o) is_live (operations c place) ∙ any_imply (λ o. is_of Bind o && (is_live o && o.request.id == id)) (λ o. is_live o && (o.request.id == id && is_of Bind o)) (operations c place) (λ o j. let both_of : (is_live o && o.request.id == id) ≡ true = right (is_of Bind o) _ j in both (is_live o) _ (left (is_live o) _ both_of) (both (o.request.id == id) _ (right (is_live o) _ both_of) (left (is_of Bind o) _ j))) there in
        let row = bind_under id p.rows lives.apart (bind_row_of id p.rows (live_operations c place) lives.rows alive) in
        record { row = row.0; found = row.1; bind = row.2 }

    bind_fresh : (b : Operation) → last_bind c place ≡ Some b → (r : ClientRow) → row_under p id ≡ Some r → is_bind_row r ≡ true → is_untaken b ≡ true
    bind_fresh b z r e k = (subst (IsUntaken p) z h.untaken) (under_any p id r e is_bind_row k)

    pub out_bound : WhoRight → Bound s F c (place ++ went ∷ []) (step_client s p marked)
    out_bound who =
        record {
          says = out_says timely bind_found bind_fresh who h.says;
          untaken = subst (IsUntaken (step_client s p marked)) (sym (bind_stays c place went refl)) (untaken_stays went p (step_client s p marked) (last_bind c place) (moved (out_rows_from timely bind_found bind_fresh who (row_under p id))) refl h.untaken);
        }
      where
        moved : RowsFrom p (out_state_of s at mark p rest (row_under p id)) → RowsFrom p (step_client s p marked)
        moved r = record { each = r.each; any = r.any }

  -- the notice goes to no operation
  module _ (timely : list_all (is_timely went) (operations c place) ≡ true) (zero : id ≡ 0) (h : BindSays s F p (last_bind c place)) where
    above : (b : Operation) → last_bind c place ≡ Some b → (b.request.id == id) ≡ false
    above b z = ap (λ n. b.request.id == n) zero ∙ not_true (b.request.id == 0) (right (is_out_before_end b.request b.behind went) _ (last_all (is_of Bind) (is_timely went) (operations c place) b z timely))

    none_of : {C : Type 0} (b : Operation) → last_bind c place ≡ Some b → (r : ClientRow) → row_under p id ≡ Some r → is_bind_row r ≡ true → C
    none_of b z r e k = absurd (let bad : false ≡ true = sym (above b z) ∙ eq_eqb b.request.id id (ap (λ m. m.id) (sym (under_is p id r e (IsBindOf b) (subst (BindSays s F p) z h).rows k).1) ∙ under_id p id r e) in cc)

    pub notice_says : BindSays s F (step_client s p marked) (last_bind c (place ++ went ∷ []))
    notice_says = out_says timely (λ b z k. absurd (let bad : false ≡ true = sym (above b z) ∙ left (b.request.id == id) _ k in cc)) (λ b z r e k. none_of b z r e k) (λ b z r e k n f g. none_of b z r e k) h
