-- A client's state has a row exactly for each operation that its list says is live.
use Rattle.std.proofs.Common.{◌≡◌, ℕ, suc, Bool, true, false, ◌==◌, ◌&&◌, ◌||◌, not, List, [], ◌∷◌, ◌++◌, length, refl, ap, arith, ◌∙◌, sym, subst}
use Rattle.std.specs.Prelude.{Option, Some, None, map, filter, cond, is_none, nat_le, unwrap_or, if◌then◌else◌}
use Rattle.std.specs.List.{list_any, list_all}
use Rattle.std.proofs.lemmas.List.{append-nil}
use Rattle.std.proofs.lemmas.List.Folds.{list_any-append, list_all-append}
use Rattle.std.proofs.Math.Bool.{or-false}
use Rattle.std.proofs.lemmas.Bool.{le-leb, leb-true}
use Rattle.std.proofs.lemmas.Bool.Decides.{nat_tests}
use Rattle.ldap_spec.specs.Messages.{Message}
use Rattle.ldap_spec.specs.Kinds.{kind_of, is_final, same_kind, is_abandon, is_unbind}
use Rattle.ldap_spec.specs.Responses.{has_code}
use Rattle.ldap_spec.specs.Requests.{request}
use Rattle.lload_names.specs.declared.names.Entry.{Entry}
use Rattle.lload_names.specs.declared.names.OpName.{OpName}
use Rattle.lload_names.specs.declared.names.OpKind.TheVariants.{Bind}
use Rattle.lload_names.specs.declared.names.PartName.{PartName}
use Rattle.lload_names.specs.declared.names.EndWhy.{EndWhy}
use Rattle.lload_names.specs.declared.names.Answer.{Answer}
use Rattle.lload_names.specs.declared.names.Answer.TheVariants.{Go, Busy, Unavailable}
use Rattle.lload_names.specs.declared.names.What.{What}
use Rattle.lload_names.specs.declared.names.What.TheVariants as what
use Rattle.lload_spec.specs.Lists.{passes, last_passes}
use Rattle.lload_spec.specs.Settings.{Settings}
use Rattle.lload_spec.specs.Entries.{makes_operation, operation_message}
use Rattle.lload_spec.specs.Operations.{Operation, Manner, Answered, Cancelled, Abandoned, Rebound, is_cancel_naming, tells_canceled, operations, operation_made, is_request_of, is_final_for, takes_id, is_abandon_of, is_bind_in, abandons_id, live_operations}
use Rattle.lload_spec.specs.Identity.{identity_of}
use Rattle.part_spec.specs.Marked.{Taken}
use Rattle.part_spec.specs.ClientState.{ClientState, ClientRow, client_behind, new_row, without, abandons, with_bind, with_request, with_answer, is_bind_row, row_under, row_named, who_told, forwarded, with_connection, with_choice}
use Rattle.lload_spec.proofs.Growth.{left, right, both}
use Rattle.lload_laws.specs.ClientGrowth.{later_operation, new_operation}
use Rattle.lload_laws.proofs.ClientGrowth.{count_stays, count_rises}
use Rattle.lload_laws.proofs.ListLaws.{all_imply}
use Rattle.part_laws.proofs.ListLaws.{filter-all, not_true, eqb_sym, le_same, all_kept}
use Rattle.client_laws.proofs.KindsKept.{carried_kind}
use Rattle.client_laws.proofs.Matches.{Match, Matches, matches_filter, matches_later, matches_push, ends_not, live_grow, is_apart, are_apart, is_untaken, ClientLives, left_by, out_rows}
use Rattle.client_laws.proofs.NamesNone.{request_names_none}

-- What an entry that makes no operation leaves.

apart_kept : (a : ClientRow → Bool) (rows : List ClientRow) → are_apart rows ≡ true → are_apart (filter a rows) ≡ true
apart_kept a [] h = refl
apart_kept a (r ∷ rows) h = more (a r) (apart_kept a rows (right (list_all (is_apart r) rows) _ h)) (all_kept (is_apart r) a rows (left (list_all (is_apart r) rows) _ h))
  where
    more : (b : Bool) → are_apart (filter a rows) ≡ true → list_all (is_apart r) (filter a rows) ≡ true → are_apart (cond b (r ∷ filter a rows) (filter a rows)) ≡ true
    more true k j = both (list_all (is_apart r) (filter a rows)) _ j k
    more false k j = k

always : {A : Type 0} (xs : List A) → list_all (λ x. true) xs ≡ true
always [] = refl
always (x ∷ xs) = always xs

later_untaken : (e : Entry) (os : List Operation) → list_all (λ o. not (takes_id o.request.id e)) os ≡ true → list_all is_untaken os ≡ true → list_all is_untaken (map (later_operation e) os) ≡ true
later_untaken e [] h k = refl
later_untaken e (o ∷ os) h k = both (is_untaken (later_operation e o)) _ (ap not (list_any-append (takes_id o.request.id) o.behind (e ∷ []) ∙ ap (λ b. b || (takes_id o.request.id e || false)) (not_true (list_any (takes_id o.request.id) o.behind) (left (is_untaken o) _ k)) ∙ or-false (takes_id o.request.id e)) ∙ left (not (takes_id o.request.id e)) _ h) (later_untaken e os (right (not (takes_id o.request.id e)) _ h) (right (is_untaken o) _ k))

no_takes : (e : Entry) → operation_message e.what ≡ None → (os : List Operation) → list_all (λ o. not (takes_id o.request.id e)) os ≡ true
no_takes e h [] = refl
no_takes e h (o ∷ os) = both (not (takes_id o.request.id e)) _ (ap (λ m. not (passes (λ x. x.id == o.request.id) m)) h) (no_takes e h os)

module _ (c : ℕ) (place : List Entry) (e : Entry) (p : ClientState) (h : ClientLives c place p) where
  pub stays_by : (a : ClientRow → Bool) (q : ClientState) → q.rows ≡ filter a p.rows → q.count ≡ p.count → operation_message e.what ≡ None → ((r : ClientRow) (o : Operation) → is_untaken o ≡ true → Match r o → a r ≡ ends_not e o) → ClientLives c (place ++ e ∷ []) q
  stays_by a q rows count none f =
      record {
        count = count ∙ h.count ∙ sym (count_stays c place e none);
        rows = subst (Matches q.rows) (sym grown) (subst (λ rs. Matches rs (map (later_operation e) (filter (ends_not e) (live_operations c place)))) (sym rows) (matches_later e (filter a p.rows) (filter (ends_not e) (live_operations c place)) (matches_filter a (λ r. true) (ends_not e) is_untaken (λ r o i u m. f r o u m) p.rows (live_operations c place) (always p.rows) h.untaken h.rows)));
        untaken = ap (list_all is_untaken) grown ∙ later_untaken e (filter (ends_not e) (live_operations c place)) (no_takes e none (filter (ends_not e) (live_operations c place))) (all_kept is_untaken (ends_not e) (live_operations c place) h.untaken);
        apart = ap are_apart rows ∙ apart_kept a p.rows h.apart;
        within = ap (list_all (λ r. nat_le r.k q.count)) rows ∙ ap (λ n. list_all (λ r. nat_le r.k n) (filter a p.rows)) count ∙ all_kept (λ r. nat_le r.k p.count) a p.rows h.within;
      }
    where
      grown : live_operations c (place ++ e ∷ []) ≡ map (later_operation e) (filter (ends_not e) (live_operations c place))
      grown = live_grow c place e ∙ ap (λ m. map (later_operation e) (filter (ends_not e) (live_operations c place)) ++ operation_made c (suc (length (operations c place))) place e [] m) none ∙ append-nil (map (later_operation e) (filter (ends_not e) (live_operations c place)))

-- whether a message ends an operation, by its tests
abandons_same : (a b x r : Bool) → r ≡ false → not (a && not b && x) ≡ is_none (if a && x && not b then Some Abandoned else if r then Some Rebound else None)
abandons_same a b x true h = absurd (let bad : true ≡ false = h in cc)
abandons_same true true true false h = refl
abandons_same true true false false h = refl
abandons_same true false true false h = refl
abandons_same true false false false h = refl
abandons_same false true true false h = refl
abandons_same false true false false h = refl
abandons_same false false true false h = refl
abandons_same false false false false h = refl

abbrev out_by : Bool → Bool → Bool → Bool → Option Manner
out_by i f t y = if i && not t && f && y then Some Cancelled else if i && not t && f then Some Answered else None

outs_same : (i f t y : Bool) → t ≡ false → not (i && f) ≡ is_none (out_by i f t y)
outs_same true f true y h = absurd (let bad : true ≡ false = h in cc)
outs_same true true false true h = refl
outs_same true true false false h = refl
outs_same true false false y h = refl
outs_same false f t y h = refl

-- what an Out leaves of the count
abbrev pub out_state_of : Settings → ℕ → Option Taken → ClientState → List ℕ → Option ClientRow → ClientState
out_state_of s at mark p rest o = elim o [ None ↦ p | Some r ↦ with_answer s at mark rest p r ]

pub out_count : (s : Settings) (at : ℕ) (mark : Option Taken) (p : ClientState) (rest : List ℕ) (o : Option ClientRow) → (out_state_of s at mark p rest o).count ≡ p.count
out_count s at mark p rest None = refl
out_count s at mark p rest (Some r) = by (is_final_for r.request rest) (is_bind_row r) (has_code 14 rest)
  where
    ended : ClientState
    ended = without (λ x. x.k == r.k) at p

    answered : Bool → ClientState
    answered b = elim b [ true ↦ record ended { in_exchange = true } | false ↦ record ended { hold = None; identity = if has_code 0 rest then identity_of s (who_told mark) (request r.request.rest) else [] } ]

    state : Bool → Bool → Bool → ClientState
    state f b x = elim f [ false ↦ p | true ↦ elim b [ true ↦ answered x | false ↦ ended ] ]

    by : (f b x : Bool) → (state f b x).count ≡ p.count
    by false b x = refl
    by true true true = refl
    by true true false = refl
    by true false x = refl

-- The entries that make none.
abbrev pub entry_of : PartName → ℕ → What → Entry
entry_of part at w = record { part = part; at = at; what = w }

module _ (s : Settings) (c : ℕ) (place : List Entry) (part : PartName) (at : ℕ) (mark : Option Taken) (p : ClientState) (h : ClientLives c place p) where
  pub lives_gone : (why : EndWhy) → ClientLives c (place ++ entry_of part at (what.Gone why) ∷ []) (client_behind s at mark p (what.Gone why))
  lives_gone why = stays_by c place (entry_of part at (what.Gone why)) p h (λ r. false) (client_behind s at mark p (what.Gone why)) (none p.rows) refl refl (λ r o u m. refl)
    where
      none : (rs : List ClientRow) → [] ≡ filter (λ r. false) rs
      none [] = refl
      none (r ∷ rs) = none rs

  -- an Abandon, and another message that makes no operation
  pub lives_abandon : (id : ℕ) (rest : List ℕ) → makes_operation (record { id = id; rest = rest }) ≡ false → ClientLives c (place ++ entry_of part at (what.In id rest) ∷ []) (client_behind s at mark p (what.In id rest))
  lives_abandon id rest none = stays_by c place (entry_of part at (what.In id rest)) p h (λ r. not (abandons (record { id = id; rest = rest }) r)) (client_behind s at mark p (what.In id rest)) (ap (λ q. q.rows) state) (ap (λ q. q.count) state) message (λ r o u m. ap (λ i. not (not (id == 0) && not (is_bind_row r) && abandons_id i (request rest))) m.id ∙ ap (λ k. not (not (id == 0) && not (passes (same_kind Bind) k) && abandons_id o.request.id (request rest))) m.kind ∙ abandons_same (not (id == 0)) (is_request_of Bind o.request) (abandons_id o.request.id (request rest)) (is_bind_in (entry_of part at (what.In id rest))) (ap (passes (λ x. passes (same_kind Bind) (kind_of x.rest))) message))
    where
      state : client_behind s at mark p (what.In id rest) ≡ without (abandons (record { id = id; rest = rest })) at p
      state = ap (λ b. elim b [ false ↦ without (abandons (record { id = id; rest = rest })) at p | true ↦ elim (is_request_of Bind (record { id = id; rest = rest })) [ true ↦ with_bind s (record { id = id; rest = rest }) p | false ↦ with_request s (record { id = id; rest = rest }) p ] ]) none

      message : operation_message (what.In id rest) ≡ None
      message = ap (λ b. elim b [ true ↦ Some (record { id = id; rest = rest }) | false ↦ None ]) none

  -- an Out
  pub lives_out : (id : ℕ) (rest : List ℕ) → ClientLives c (place ++ entry_of part at (what.Out id rest) ∷ []) (client_behind s at mark p (what.Out id rest))
  lives_out id rest = stays_by c place (entry_of part at (what.Out id rest)) p h (λ r. not (r.request.id == id && is_final_for r.request rest)) (client_behind s at mark p (what.Out id rest)) (state_rows (row_under p id) ∙ out_rows id (λ r. is_final_for r.request rest) p.rows h.apart) (state_count (row_under p id)) refl (λ r o u m. ap (λ i. not (i == id && is_final_for r.request rest)) m.id ∙ ap (λ b. not (b && is_final_for r.request rest)) (eqb_sym o.request.id id) ∙ ap (λ k. not (id == o.request.id && passes (λ x. is_final x rest) k)) m.kind ∙ outs_same (id == o.request.id) (is_final_for o.request rest) (list_any (takes_id o.request.id) o.behind) (tells_canceled o.request rest && last_passes (is_cancel_naming o.request) o.behind) (not_true (list_any (takes_id o.request.id) o.behind) u))
    where
      out_state : Option ClientRow → ClientState
      out_state o = elim o [ None ↦ p | Some r ↦ with_answer s at mark rest p r ]

      state_rows : (o : Option ClientRow) → (out_state o).rows ≡ left_by id (λ r. is_final_for r.request rest) o p.rows
      state_rows None = refl
      state_rows (Some r) = by (is_final_for r.request rest) (is_bind_row r) (has_code 14 rest)
        where
          ended : ClientState
          ended = without (λ x. x.k == r.k) at p

          answered : Bool → ClientState
          answered b = elim b [ true ↦ record ended { in_exchange = true } | false ↦ record ended { hold = None; identity = if has_code 0 rest then identity_of s (who_told mark) (request r.request.rest) else [] } ]

          state : Bool → Bool → Bool → ClientState
          state f b x = elim f [ false ↦ p | true ↦ elim b [ true ↦ answered x | false ↦ ended ] ]

          by : (f b x : Bool) → (state f b x).rows ≡ (elim f [ false ↦ p.rows | true ↦ filter (λ y. not (y.k == r.k)) p.rows ])
          by false b x = refl
          by true true true = refl
          by true true false = refl
          by true false x = refl

      state_count : (o : Option ClientRow) → (out_state o).count ≡ p.count
      state_count None = refl
      state_count (Some r) = by (is_final_for r.request rest) (is_bind_row r) (has_code 14 rest)
        where
          ended : ClientState
          ended = without (λ x. x.k == r.k) at p

          answered : Bool → ClientState
          answered b = elim b [ true ↦ record ended { in_exchange = true } | false ↦ record ended { hold = None; identity = if has_code 0 rest then identity_of s (who_told mark) (request r.request.rest) else [] } ]

          state : Bool → Bool → Bool → ClientState
          state f b x = elim f [ false ↦ p | true ↦ elim b [ true ↦ answered x | false ↦ ended ] ]

          by : (f b x : Bool) → (state f b x).count ≡ p.count
          by false b x = refl
          by true true true = refl
          by true true false = refl
          by true false x = refl

-- A request that makes an operation, under an identifier that no live one has.

-- identifiers of matched rows and operations
ids_free : (n : ℕ) (rs : List ClientRow) (os : List Operation) → Matches rs os → list_any (λ r. r.request.id == n) rs ≡ false → list_all (λ o. not (n == o.request.id)) os ≡ true
ids_free n [] [] m h = refl
ids_free n (r ∷ rs) (o ∷ os) m h = both (not (n == o.request.id)) _ (ap not (eqb_sym n o.request.id ∙ ap (λ i. i == n) (sym m.0.id) ∙ none_first (r.request.id == n) h)) (ids_free n rs os m.1 (none_rest (r.request.id == n) h))
  where
    none_first : (b : Bool) → (b || list_any (λ r. r.request.id == n) rs) ≡ false → b ≡ false
    none_first true k = k
    none_first false k = refl

    none_rest : (b : Bool) → (b || list_any (λ r. r.request.id == n) rs) ≡ false → list_any (λ r. r.request.id == n) rs ≡ false
    none_rest true k = absurd (let bad : true ≡ false = k in cc)
    none_rest false k = k
ids_free n [] (o ∷ os) m h = absurd m
ids_free n (r ∷ rs) [] m h = absurd m

-- a new row is apart from those up to the count
apart_new : (count n : ℕ) (q : ClientRow) (rows : List ClientRow) → q.k ≡ suc count → q.request.id ≡ n → list_all (λ r. nat_le r.k count) rows ≡ true → list_any (λ r. r.request.id == n) rows ≡ false → list_all (λ r. is_apart r q) rows ≡ true
apart_new count n q [] k i h f = refl
apart_new count n q (r ∷ rows) k i h f = both (is_apart r q) _ (both (not (r.k == q.k)) _ (ap not (ap (λ j. r.k == j) k ∙ above r.k count (left (nat_le r.k count) _ h))) (ap not (ap (λ j. r.request.id == j) i ∙ none_first (r.request.id == n) f))) (apart_new count n q rows k i (right (nat_le r.k count) _ h) (none_rest (r.request.id == n) f))
  where
    above : (a b : ℕ) → nat_le a b ≡ true → (a == suc b) ≡ false
    above a b j = grind (arith, nat_tests, j)

    none_first : (b : Bool) → (b || list_any (λ r. r.request.id == n) rows) ≡ false → b ≡ false
    none_first true j = j
    none_first false j = refl

    none_rest : (b : Bool) → (b || list_any (λ r. r.request.id == n) rows) ≡ false → list_any (λ r. r.request.id == n) rows ≡ false
    none_rest true j = absurd (let bad : true ≡ false = j in cc)
    none_rest false j = j

apart_push : (rows : List ClientRow) (q : ClientRow) → list_all (λ r. is_apart r q) rows ≡ true → are_apart rows ≡ true → are_apart (rows ++ q ∷ []) ≡ true
apart_push [] q h k = refl
apart_push (r ∷ rows) q h k = both (list_all (is_apart r) (rows ++ q ∷ [])) _ (list_all-append (is_apart r) rows (q ∷ []) ∙ both (list_all (is_apart r) rows) _ (left (list_all (is_apart r) rows) _ k) (both (is_apart r q) true (left (is_apart r q) _ h) refl)) (apart_push rows q (right (is_apart r q) _ h) (right (list_all (is_apart r) rows) _ k))

within_more : (n : ℕ) (rows : List ClientRow) → list_all (λ r. nat_le r.k n) rows ≡ true → list_all (λ r. nat_le r.k (suc n)) rows ≡ true
within_more n rows h = all_imply (λ r. nat_le r.k n) (λ r. nat_le r.k (suc n)) rows (λ r k. one r.k k) h
  where
    one : (a : ℕ) → nat_le a n ≡ true → nat_le a (suc n) ≡ true
    one a k = le-leb a (suc n) (let below = leb-true a n k in omega arith)

module _ (s : Settings) (c : ℕ) (place : List Entry) (part : PartName) (at : ℕ) (mark : Option Taken) (p : ClientState) (h : ClientLives c place p) (id : ℕ) (rest : List ℕ) (makes : makes_operation (record { id = id; rest = rest }) ≡ true) (free : list_any (λ r. r.request.id == id) p.rows ≡ false) where
  this : Message
  this = record { id = id; rest = rest }

  message_is : operation_message (what.In id rest) ≡ Some (record { id = id; rest = rest })
  message_is = ap (λ b. elim b [ true ↦ Some (record { id = id; rest = rest }) | false ↦ None ]) makes

  row_is : Match (new_row s p (record { id = id; rest = rest })) (new_operation c place (entry_of part at (what.In id rest)) (record { id = id; rest = rest }))
  row_is = record { k = ap suc h.count; id = refl; kind = carried_kind s (record { id = id; rest = rest }) p.identity }

  -- it is no Abandon
  no_abandon : (o : Operation) → is_abandon_of o.request (entry_of part at (what.In id rest)) ≡ false
  no_abandon o = ap (λ b. not (id == 0) && b && not (is_request_of Bind o.request)) (request_names_none o.request.id rest (not_true (is_abandon rest) (right (not (id == 0) && not (is_unbind rest)) _ makes))) ∙ none (not (id == 0)) (not (is_request_of Bind o.request))
    where
      none : (a b : Bool) → (a && false && b) ≡ false
      none true b = refl
      none false b = refl

  ends_by_bind : (o : Operation) → ends_not (entry_of part at (what.In id rest)) o ≡ not (is_request_of Bind (record { id = id; rest = rest }))
  ends_by_bind o = ap (λ a. is_none (if a then Some Abandoned else if passes (λ m. passes (same_kind Bind) (kind_of m.rest)) (operation_message (what.In id rest)) then Some Rebound else None)) (no_abandon o) ∙ ap (λ m. is_none (if passes (λ x. passes (same_kind Bind) (kind_of x.rest)) m then Some Rebound else None)) message_is ∙ by (is_request_of Bind (record { id = id; rest = rest }))
    where
      by : (b : Bool) → is_none (if b then Some Rebound else None) ≡ not b
      by true = refl
      by false = refl

  grown : live_operations c (place ++ entry_of part at (what.In id rest) ∷ []) ≡ map (later_operation (entry_of part at (what.In id rest))) (filter (ends_not (entry_of part at (what.In id rest))) (live_operations c place)) ++ new_operation c place (entry_of part at (what.In id rest)) (record { id = id; rest = rest }) ∷ []
  grown = live_grow c place (entry_of part at (what.In id rest)) ∙ ap (λ m. map (later_operation (entry_of part at (what.In id rest))) (filter (ends_not (entry_of part at (what.In id rest))) (live_operations c place)) ++ operation_made c (suc (length (operations c place))) place (entry_of part at (what.In id rest)) [] m) message_is

  counted : length (operations c (place ++ entry_of part at (what.In id rest) ∷ [])) ≡ suc (length (operations c place))
  counted = count_rises c place (entry_of part at (what.In id rest)) (record { id = id; rest = rest }) message_is

  untaken_by : (os : List Operation) → list_all (λ o. not (id == o.request.id)) os ≡ true → list_all (λ o. not (takes_id o.request.id (entry_of part at (what.In id rest)))) os ≡ true
  untaken_by os k = all_imply (λ o. not (id == o.request.id)) (λ o. not (takes_id o.request.id (entry_of part at (what.In id rest)))) os (λ o j. ap (λ m. not (passes (λ x. x.id == o.request.id) m)) message_is ∙ j) k

  -- a Bind
  as_bind : is_request_of Bind (record { id = id; rest = rest }) ≡ true → ClientLives c (place ++ entry_of part at (what.In id rest) ∷ []) (with_bind s (record { id = id; rest = rest }) p)
  as_bind b =
      record {
        count = ap suc h.count ∙ sym counted;
        rows = subst (Matches (new_row s p (record { id = id; rest = rest }) ∷ [])) (sym alone) (row_is, tt);
        untaken = ap (list_all is_untaken) alone;
        apart = refl;
        within = both (nat_le (suc p.count) (suc p.count)) true (le_same (suc p.count)) refl;
      }
    where
      none : (os : List Operation) → filter (ends_not (entry_of part at (what.In id rest))) os ≡ []
      none [] = refl
      none (o ∷ os) = ap (λ x. cond x (o ∷ filter (ends_not (entry_of part at (what.In id rest))) os) (filter (ends_not (entry_of part at (what.In id rest))) os)) (ends_by_bind o ∙ ap not b) ∙ none os

      alone : live_operations c (place ++ entry_of part at (what.In id rest) ∷ []) ≡ new_operation c place (entry_of part at (what.In id rest)) (record { id = id; rest = rest }) ∷ []
      alone = grown ∙ ap (λ l. map (later_operation (entry_of part at (what.In id rest))) l ++ new_operation c place (entry_of part at (what.In id rest)) (record { id = id; rest = rest }) ∷ []) (none (live_operations c place))

  -- another request
  as_other : is_request_of Bind (record { id = id; rest = rest }) ≡ false → ClientLives c (place ++ entry_of part at (what.In id rest) ∷ []) (with_request s (record { id = id; rest = rest }) p)
  as_other b =
      record {
        count = ap suc h.count ∙ sym counted;
        rows = subst (Matches (p.rows ++ new_row s p (record { id = id; rest = rest }) ∷ [])) (sym more) (matches_push p.rows (map (later_operation (entry_of part at (what.In id rest))) (live_operations c place)) (new_row s p (record { id = id; rest = rest })) (new_operation c place (entry_of part at (what.In id rest)) (record { id = id; rest = rest })) row_is (matches_later (entry_of part at (what.In id rest)) p.rows (live_operations c place) h.rows));
        untaken = ap (list_all is_untaken) more ∙ list_all-append is_untaken (map (later_operation (entry_of part at (what.In id rest))) (live_operations c place)) (new_operation c place (entry_of part at (what.In id rest)) (record { id = id; rest = rest }) ∷ []) ∙ both (list_all is_untaken (map (later_operation (entry_of part at (what.In id rest))) (live_operations c place))) true (later_untaken (entry_of part at (what.In id rest)) (live_operations c place) (untaken_by (live_operations c place) (ids_free id p.rows (live_operations c place) h.rows free)) h.untaken) refl;
        apart = apart_push p.rows (new_row s p (record { id = id; rest = rest })) (apart_new p.count id (new_row s p (record { id = id; rest = rest })) p.rows refl row_is.id h.within free) h.apart;
        within = list_all-append (λ r. nat_le r.k (suc p.count)) p.rows (new_row s p (record { id = id; rest = rest }) ∷ []) ∙ both (list_all (λ r. nat_le r.k (suc p.count)) p.rows) _ (within_more p.count p.rows h.within) (both (nat_le (suc p.count) (suc p.count)) true (le_same (suc p.count)) refl);
      }
    where
      more : live_operations c (place ++ entry_of part at (what.In id rest) ∷ []) ≡ map (later_operation (entry_of part at (what.In id rest))) (live_operations c place) ++ new_operation c place (entry_of part at (what.In id rest)) (record { id = id; rest = rest }) ∷ []
      more = grown ∙ ap (λ l. map (later_operation (entry_of part at (what.In id rest))) l ++ new_operation c place (entry_of part at (what.In id rest)) (record { id = id; rest = rest }) ∷ []) (filter-all (ends_not (entry_of part at (what.In id rest))) (live_operations c place) (λ o. ends_by_bind o ∙ ap not b))

  pub lives_request : ClientLives c (place ++ entry_of part at (what.In id rest) ∷ []) (client_behind s at mark p (what.In id rest))
  lives_request = subst (ClientLives c (place ++ entry_of part at (what.In id rest) ∷ [])) (sym state) (by (is_request_of Bind (record { id = id; rest = rest })) refl)
    where
      made_state : Bool → ClientState
      made_state b = elim b [ true ↦ with_bind s (record { id = id; rest = rest }) p | false ↦ with_request s (record { id = id; rest = rest }) p ]

      state : client_behind s at mark p (what.In id rest) ≡ made_state (is_request_of Bind (record { id = id; rest = rest }))
      state = ap (λ b. elim b [ false ↦ without (abandons (record { id = id; rest = rest })) at p | true ↦ made_state (is_request_of Bind (record { id = id; rest = rest })) ]) makes

      by : (b : Bool) → is_request_of Bind (record { id = id; rest = rest }) ≡ b → ClientLives c (place ++ entry_of part at (what.In id rest) ∷ []) (made_state b)
      by true e = as_bind e
      by false e = as_other e

-- Any entry, where a request that makes an operation is under a free identifier.

-- a row that is forwarded stays the same operation's
forwarded_rows : (k u : ℕ) (rs : List ClientRow) (os : List Operation) → Matches rs os → Matches (map (forwarded k u) rs) os
forwarded_rows k u [] [] m = tt
forwarded_rows k u (r ∷ rs) (o ∷ os) m = (by (r.k == k), forwarded_rows k u rs os m.1)
  where
    by : (b : Bool) → Match (if b then record r { connection = Some (unwrap_or r.connection u) } else r) o
    by true = record { k = m.0.k; id = m.0.id; kind = m.0.kind }
    by false = m.0
forwarded_rows k u [] (o ∷ os) m = absurd m
forwarded_rows k u (r ∷ rs) [] m = absurd m

pub forwarded_all : (t : ClientRow → Bool) (k u : ℕ) (rs : List ClientRow) → ((r : ClientRow) (v : Option ℕ) → t (record r { connection = v }) ≡ t r) → list_all t (map (forwarded k u) rs) ≡ list_all t rs
forwarded_all t k u [] f = refl
forwarded_all t k u (r ∷ rs) f = ap (λ b. b && list_all t (map (forwarded k u) rs)) (by (r.k == k)) ∙ ap (λ b. t r && b) (forwarded_all t k u rs f)
  where
    by : (b : Bool) → t (if b then record r { connection = Some (unwrap_or r.connection u) } else r) ≡ t r
    by true = f r (Some (unwrap_or r.connection u))
    by false = refl

forwarded_apart : (k u : ℕ) (rs : List ClientRow) → are_apart (map (forwarded k u) rs) ≡ are_apart rs
forwarded_apart k u [] = refl
forwarded_apart k u (r ∷ rs) = ap (λ b. b && are_apart (map (forwarded k u) rs)) (by (r.k == k)) ∙ ap (λ b. list_all (is_apart r) rs && b) (forwarded_apart k u rs)
  where
    by : (b : Bool) → list_all (is_apart (if b then record r { connection = Some (unwrap_or r.connection u) } else r)) (map (forwarded k u) rs) ≡ list_all (is_apart r) rs
    by true = forwarded_all (is_apart r) k u rs (λ x v. refl)
    by false = forwarded_all (is_apart r) k u rs (λ x v. refl)

lives_forwarded : (c u b : ℕ) (place : List Entry) (p : ClientState) (r : ClientRow) → ClientLives c place p → ClientLives c place (with_connection u b p r)
lives_forwarded c u b place p r h = record { count = h.count; rows = forwarded_rows r.k u p.rows (live_operations c place) h.rows; untaken = h.untaken; apart = forwarded_apart r.k u p.rows ∙ h.apart; within = forwarded_all (λ x. nat_le x.k p.count) r.k u p.rows (λ x v. refl) ∙ h.within }

abbrev pub is_free_id : ClientState → What → Bool
is_free_id p w = elim (operation_message w) [ None ↦ true | Some m ↦ not (list_any (λ r. r.request.id == m.id) p.rows) ]

module _ (s : Settings) (c : ℕ) (place : List Entry) (part : PartName) (at : ℕ) (mark : Option Taken) (p : ClientState) (h : ClientLives c place p) where
  -- an entry that ends nothing and makes nothing
  quiet : (w : What) (q : ClientState) → q.rows ≡ p.rows → q.count ≡ p.count → operation_message w ≡ None → ((o : Operation) → ends_not (entry_of part at w) o ≡ true) → ClientLives c (place ++ entry_of part at w ∷ []) q
  quiet w q rows count none f = stays_by c place (entry_of part at w) p h (λ r. true) q (rows ∙ sym (filter-all (λ r. true) p.rows (λ r. refl))) count none (λ r o u m. sym (f o))

  chosen : (op : OpName) (answer : Answer) → ClientLives c (place ++ entry_of part at (what.Chosen op answer) ∷ []) (with_choice op answer p)
  chosen op (Go u b) = by (row_named p op)
    where
      by : (o : Option ClientRow) → ClientLives c (place ++ entry_of part at (what.Chosen op (Go u b)) ∷ []) (elim o [ None ↦ p | Some r ↦ with_connection u b p r ])
      by None = quiet (what.Chosen op (Go u b)) p refl refl refl (λ o. refl)
      by (Some r) = lives_forwarded c u b (place ++ entry_of part at (what.Chosen op (Go u b)) ∷ []) p r (quiet (what.Chosen op (Go u b)) p refl refl refl (λ o. refl))
  chosen op Busy = quiet (what.Chosen op Busy) p refl refl refl (λ o. refl)
  chosen op Unavailable = quiet (what.Chosen op Unavailable) p refl refl refl (λ o. refl)

  pub lives_more : (w : What) → is_free_id p w ≡ true → ClientLives c (place ++ entry_of part at w ∷ []) (client_behind s at mark p w)
  lives_more (what.In id rest) f = by (makes_operation (record { id = id; rest = rest })) refl
    where
      made_if : Bool → Option Message
      made_if b = elim b [ true ↦ Some (record { id = id; rest = rest }) | false ↦ None ]

      by : (b : Bool) → makes_operation (record { id = id; rest = rest }) ≡ b → ClientLives c (place ++ entry_of part at (what.In id rest) ∷ []) (client_behind s at mark p (what.In id rest))
      by false e = lives_abandon s c place part at mark p h id rest e
      by true e = lives_request s c place part at mark p h id rest e (not_true (list_any (λ r. r.request.id == id) p.rows) (sym (ap (λ m. elim m [ None ↦ true | Some x ↦ not (list_any (λ r. r.request.id == x.id) p.rows) ]) (ap made_if e)) ∙ f))
  lives_more (what.Out id rest) f = lives_out s c place part at mark p h id rest
  lives_more (what.Gone why) f = lives_gone s c place part at mark p h why
  lives_more (what.Chosen op answer) f = chosen op answer
  lives_more (what.Arrived) f = quiet (what.Arrived) (client_behind s at mark p (what.Arrived)) refl refl refl (λ o. refl)
  lives_more (what.Late op) f = quiet (what.Late op) (client_behind s at mark p (what.Late op)) refl refl refl (λ o. refl)
  lives_more (what.Linked) f = quiet (what.Linked) (client_behind s at mark p (what.Linked)) refl refl refl (λ o. refl)
  lives_more (what.Up) f = quiet (what.Up) (client_behind s at mark p (what.Up)) refl refl refl (λ o. refl)
  lives_more (what.Retired) f = quiet (what.Retired) (client_behind s at mark p (what.Retired)) refl refl refl (λ o. refl)
  lives_more (what.Sent id op rest) f = quiet (what.Sent id op rest) (client_behind s at mark p (what.Sent id op rest)) refl refl refl (λ o. refl)
  lives_more (what.Own id rest) f = quiet (what.Own id rest) (client_behind s at mark p (what.Own id rest)) refl refl refl (λ o. refl)
  lives_more (what.Got id rest) f = quiet (what.Got id rest) (client_behind s at mark p (what.Got id rest)) refl refl refl (λ o. refl)
  lives_more (what.Expired op) f = quiet (what.Expired op) (client_behind s at mark p (what.Expired op)) refl refl refl (λ o. refl)
  lives_more (what.Missed op) f = quiet (what.Missed op) (client_behind s at mark p (what.Missed op)) refl refl refl (λ o. refl)
  lives_more (what.Idle op) f = quiet (what.Idle op) (client_behind s at mark p (what.Idle op)) refl refl refl (λ o. refl)
  lives_more (what.Down why) f = quiet (what.Down why) (client_behind s at mark p (what.Down why)) refl refl refl (λ o. refl)
  lives_more (what.Asked op want) f = quiet (what.Asked op want) (client_behind s at mark p (what.Asked op want)) refl refl refl (λ o. refl)
  lives_more (what.Chose op answer word) f = quiet (what.Chose op answer word) (client_behind s at mark p (what.Chose op answer word)) refl refl refl (λ o. refl)
  lives_more (what.Heard x) f = quiet (what.Heard x) (client_behind s at mark p (what.Heard x)) refl refl refl (λ o. refl)
  lives_more (what.Stalled) f = quiet (what.Stalled) (client_behind s at mark p (what.Stalled)) refl refl refl (λ o. refl)
  lives_more (what.Flowing) f = quiet (what.Flowing) (client_behind s at mark p (what.Flowing)) refl refl refl (λ o. refl)
  lives_more (what.Paused client) f = quiet (what.Paused client) (client_behind s at mark p (what.Paused client)) refl refl refl (λ o. refl)
  lives_more (what.Resumed client) f = quiet (what.Resumed client) (client_behind s at mark p (what.Resumed client)) refl refl refl (λ o. refl)
  lives_more (what.Replanned number base) f = quiet (what.Replanned number base) (client_behind s at mark p (what.Replanned number base)) refl refl refl (λ o. refl)
