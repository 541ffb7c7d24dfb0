-- A row of a client that was forwarded is of an operation that is live, or that its client ended: at each place of its list,
-- also in the midst of a turn that ends it.
use Rattle.std.proofs.Common.{◌≡◌, ◌⊎◌, inl, inr, ℕ, suc, ◌+◌, Bool, true, false, ◌==◌, ◌&&◌, ◌||◌, not, if◌then◌else◌, List, [], ◌∷◌, ◌++◌, length, refl, ap, ◌∙◌, sym, subst}
use Rattle.std.specs.Prelude.{Option, Some, None, filter, is_none, is_some, nat_lt}
use Rattle.std.specs.List.{list_any, list_all}
use Rattle.std.proofs.lemmas.List.Folds.{list_all-append}
use Rattle.ldap_spec.specs.Kinds.{same_kind}
use Rattle.ldap_spec.specs.Messages.{Message}
use Rattle.ldap_spec.specs.Bodies.{protocol_error_notice}
use Rattle.ldap_spec.specs.Requests.{request}
use Rattle.ldap_spec.specs.Responses.{has_code}
use Rattle.lload_names.specs.declared.names.EndWhy.{EndWhy}
use Rattle.lload_names.specs.declared.names.Entry.{Entry}
use Rattle.lload_names.specs.declared.names.OpKind.TheVariants.{Bind}
use Rattle.lload_names.specs.declared.names.What.{What}
use Rattle.lload_names.specs.declared.names.What.TheVariants as what
use Rattle.lload_spec.specs.Caused.{begin_with_notice, is_followed_up}
use Rattle.lload_spec.specs.Entries.{gone_why, in_message, is_gone, is_gone_by, is_notice, same_why, is_this, makes_operation, operation_message, out_message}
use Rattle.lload_spec.specs.FirstCheck.{Check, Ends, lets_go_on}
use Rattle.lload_spec.specs.Identity.{identity_of}
use Rattle.lload_spec.specs.Journal.{same_op}
use Rattle.lload_spec.specs.Lists.{first_passes, last_passes, passes}
use Rattle.lload_spec.specs.Operations.{Abandoned, Answered, Cancelled, made as made_of, Manner, Operation, Rebound, is_abandon_of, is_bind_in, is_cancel_naming, is_final_for, is_live, is_request_of, live_operations, manner_of, operation_in, operation_made, operations, operations_from, takes_id, tells_canceled}
use Rattle.lload_spec.specs.Settings.{Settings}
use Rattle.lload_spec.proofs.Growth.{left, right, both}
use Rattle.lload_laws.specs.ClientGrowth.{is_named_within}
use Rattle.lload_laws.proofs.ClientGrowth.{own_names}
use Rattle.lload_laws.proofs.ListLaws.{found}
use Rattle.part_laws.proofs.ListLaws.{eqb_sym, not_true, or_elim, or_left, or_right, same_number}
use Rattle.part_spec.specs.ClientState.{ClientRow, ClientState, abandons, check_at, client_behind, held_connection, is_bind_row, new_row, row_under, step_client, who_told, without}
use Rattle.part_spec.specs.Marked.{Marked, entries}
use Rattle.part_spec.specs.Share.{is_checked}
use Rattle.client_laws.proofs.ClientGives.{in_state}
use Rattle.client_laws.proofs.ClientLives.{is_free_id, lives_more, out_state_of}
use Rattle.client_laws.proofs.ClientTurns.{free_by, is_end, lives_ended}
use Rattle.client_laws.proofs.KindsKept.{carried_kind}
use Rattle.client_laws.proofs.Matches.{ClientLives, Match, is_untaken}
use Rattle.client_answer_laws.proofs.Each.{Each, each_append, each_both, each_filter, each_imply}
use Rattle.forward_laws.proofs.Ops.{own_found}
use Rattle.forward_laws.proofs.Outs.{each_of, matched}
use Rattle.joined_laws.proofs.Begun.{gone_is}
use Rattle.leave_laws.proofs.Manners.{is_clients, is_clients_own, is_ours, ours_stay}

-- no operation is under identifier 0
none_under_zero : (c k : ℕ) (before es : List Entry) → list_all (λ o. not (o.request.id == 0)) (operations_from c k before es) ≡ true
none_under_zero c k before [] = refl
none_under_zero c k before (e ∷ es) = list_all-append (λ o. not (o.request.id == 0)) (operation_made c (suc k) before e es (operation_message e.what)) _ ∙ both (list_all (λ o. not (o.request.id == 0)) (operation_made c (suc k) before e es (operation_message e.what))) _ (here e.what) (none_under_zero c (k + made_of (operation_message e.what)) (before ++ e ∷ []) es)
  where
    made : (m : Message) (b : Bool) → makes_operation m ≡ b → list_all (λ o. not (o.request.id == 0)) (operation_made c (suc k) before e es (elim b [ true ↦ Some m | false ↦ None ])) ≡ true
    made m true h = both (not (m.id == 0)) true (left (not (m.id == 0)) _ (left (not (m.id == 0) && _) _ h)) refl
    made m false h = refl

    here : (w : What) → list_all (λ o. not (o.request.id == 0)) (operation_made c (suc k) before e es (operation_message w)) ≡ true
    here (what.In id rest) = made (record { id = id; rest = rest }) (makes_operation (record { id = id; rest = rest })) refl
    here _ = refl

-- An entry by which a client's operations end by it alone.

abbrev is_ending : Option Manner → Bool
is_ending m = is_none m || is_clients m

in_ending : (r : Message) (since : List Entry) (e : Entry) (id : ℕ) (rest : List ℕ) → e.what ≡ what.In id rest → is_ending (manner_of r since e) ≡ true
in_ending r since e id rest z = subst (λ w. is_ending (manner_of r since (record { part = e.part; at = e.at; what = w })) ≡ true) (sym z) (by (is_abandon_of r (record { part = e.part; at = e.at; what = what.In id rest })) (is_bind_in (record { part = e.part; at = e.at; what = what.In id rest })))
  where
    by : (a b : Bool) → is_ending (if a then Some Abandoned else if b then Some Rebound else None) ≡ true
    by true b = refl
    by false true = refl
    by false false = refl

pub gone_ending : (r : Message) (since : List Entry) (e : Entry) (why : EndWhy) → e.what ≡ what.Gone why → is_clients (manner_of r since e) ≡ true
gone_ending r since e why z = subst (λ w. is_clients (manner_of r since (record { part = e.part; at = e.at; what = w })) ≡ true) (sym z) refl

notice_ending : (r : Message) (since : List Entry) (e : Entry) → (r.id == 0) ≡ false → is_notice e ≡ true → is_ending (manner_of r since e) ≡ true
notice_ending r since e zero h = by e.what refl h
  where
    text : Bool → Bool → Bool → Bool → Option Manner
    text b t f y = if ((b && t) && f) && y then Some Cancelled else if (b && t) && f then Some Answered else None

    by : (w : What) → e.what ≡ w → passes (is_this 0 protocol_error_notice) (out_message w) ≡ true → is_ending (manner_of r since e) ≡ true
    by (what.Out id rest) z k =
        let other : (id == r.id) ≡ false = ap (λ n. n == r.id) (same_number id 0 (left (id == 0) _ k)) ∙ eqb_sym 0 r.id ∙ zero in
        subst (λ w. is_ending (manner_of r since (record { part = e.part; at = e.at; what = w })) ≡ true) (sym z)
        (ap (λ b. is_ending (text b (not (list_any (takes_id r.id) since)) (is_final_for r rest) (tells_canceled r rest && last_passes (is_cancel_naming r) since))) other)
    by _ z k = absurd (let bad : false ≡ true = k in cc)

-- A row that is live.
abbrev pub LiveRow : ℕ → List Entry → ClientRow → Type 0
LiveRow c place r = (o : Operation) × (Match r o × ((operation_in c place (record { client = c; k = r.k }) ≡ Some o) × ((is_live o ≡ true) × (is_untaken o ≡ true))))

module _ (c : ℕ) (place : List Entry) where
  abbrev Found : Operation → Type 0
  Found o = (operation_in c place o.name ≡ Some o) × (is_named_within c (length (operations c place)) o ≡ true)

  pub live_rows : (p : ClientState) → ClientLives c place p → Each (LiveRow c place) p.rows
  live_rows p h = each_imply (λ r. (o : Operation) × (Match r o × ((Found o × (is_live o ≡ true)) × (is_untaken o ≡ true)))) (LiveRow c place) p.rows one (matched (λ o. (Found o × (is_live o ≡ true)) × (is_untaken o ≡ true)) p.rows (live_operations c place) h.rows (each_both (λ o. Found o × (is_live o ≡ true)) (λ o. is_untaken o ≡ true) (live_operations c place) (each_filter Found (λ o. Found o × (is_live o ≡ true)) is_live (operations c place) (λ o j f. (f, j)) finds) (each_of is_untaken (live_operations c place) h.untaken)))
    where
      finds : Each Found (operations c place)
      finds = each_both (λ o. operation_in c place o.name ≡ Some o) (λ o. is_named_within c (length (operations c place)) o ≡ true) (operations c place) (own_found c place) (each_of (is_named_within c (length (operations c place))) (operations c place) (own_names c place))

      one : (r : ClientRow) → (o : Operation) × (Match r o × ((Found o × (is_live o ≡ true)) × (is_untaken o ≡ true))) → LiveRow c place r
      one r x =
          let o : Operation = x.0 in
          let client : o.name.client ≡ c = same_number o.name.client c (left (o.name.client == c) _ (left (o.name.client == c && nat_lt 0 o.name.k) _ x.1.1.0.0.1)) in
          let name : o.name ≡ record { client = c; k = r.k } = (let k : o.name.k ≡ r.k = sym x.1.0.k in λ i. record { client = client i; k = k i }) in
          (o, (x.1.0, (subst (λ n. operation_in c place n ≡ Some o) name x.1.1.0.0.0, (x.1.1.0.1, x.1.1.1))))

-- whether a row is of a request other than a Bind that was forwarded
abbrev pub is_sent_row : ClientRow → Bool
is_sent_row r = not (is_bind_row r) && is_some r.connection

abbrev pub IsOurs : ℕ → List Entry → ClientRow → Type 0
IsOurs c place r = is_sent_row r ≡ true → is_ours c r.k place ≡ true

-- whether the client ends with the next entry, or behind the notice
abbrev pub ends_soon : List Entry → Bool
ends_soon [] = false
ends_soon (e ∷ es) = is_gone e || (is_notice e && first_passes is_gone es)

-- the rows are the live operations; or the client is about to end
abbrev pub Alive : ℕ → List Entry → ClientState → List Marked → Type 0
Alive c place p ms = ClientLives c place p ⊎ (Each (IsOurs c place) p.rows × (ends_soon (entries ms) ≡ true))

module _ (s : Settings) (c : ℕ) (place : List Entry) (p : ClientState) where
  pub rows_ours : (ms : List Marked) → Alive c place p ms → Each (IsOurs c place) p.rows
  rows_ours ms (inl h) = each_imply (LiveRow c place) (IsOurs c place) p.rows (λ r x k. ap (passes is_clients_own) x.1.1.0 ∙ or_left (is_live x.0) _ x.1.1.1.0) (live_rows c place p h)
  rows_ours ms (inr h) = h.0

  module _ (m : Marked) (ms : List Marked) where
    abbrev later : List Entry
    later = place ++ m.entry ∷ []

    lives_one : ClientLives c place p → is_free_id p m.entry.what ≡ true → ClientLives c later (step_client s p m)
    lives_one h f =
        let more : ClientLives c (place ++ m.entry ∷ []) (client_behind s m.entry.at m.mark p m.entry.what) = lives_more s c place m.entry.part m.entry.at m.mark p h m.entry.what f in
        record { count = more.count; rows = more.rows; untaken = more.untaken; apart = more.apart; within = more.within }

    -- where the entry ends operations by their client alone
    ours_behind : ((o : Operation) → is_ending (manner_of o.request o.behind m.entry) ≡ true) → Each (IsOurs c place) p.rows → Each (IsOurs c later) p.rows
    ours_behind f h = each_imply (IsOurs c place) (IsOurs c later) p.rows (λ r x k. ours_stay c r.k place m.entry (λ o e. f o) (x k)) h

    in_rows : (x : Message) (a b : Bool) → is_request_of Bind x ≡ b → Each (IsOurs c later) p.rows → Each (IsOurs c later) (in_state s m.entry.at p x a b).rows
    in_rows x false b e h = each_filter (IsOurs c later) (IsOurs c later) (λ r. not (abandons x r)) p.rows (λ r k q. q) h
    in_rows x true true e h = (λ k. absurd (let bad : false ≡ true = sym (ap not (ap (passes (same_kind Bind)) (carried_kind s x p.identity) ∙ e)) ∙ left (not (is_bind_row (new_row s p x))) _ k in cc), tt)
    in_rows x true false e h = each_append (IsOurs c later) p.rows (new_row s p x ∷ []) h (λ k. absurd (let bad : false ≡ true = sym (ap (λ b. is_some (elim (b && p.in_exchange && lets_go_on (check_at s p x)) [ true ↦ held_connection p | false ↦ None ])) e) ∙ right (not (is_bind_row (new_row s p x))) _ k in cc), tt)

    out_rows : (rest : List ℕ) (o : Option ClientRow) → Each (IsOurs c later) p.rows → Each (IsOurs c later) (out_state_of s m.entry.at m.mark p rest o).rows
    out_rows rest None h = h
    out_rows rest (Some r) h = by (is_final_for r.request rest) (is_bind_row r) (has_code 14 rest)
      where
        ended : ClientState
        ended = without (λ x. x.k == r.k) m.entry.at p

        answered : Bool → ClientState
        answered x = elim x [ true ↦ record ended { in_exchange = true } | false ↦ record ended { hold = None; identity = if has_code 0 rest then identity_of s (who_told m.mark) (request r.request.rest) else [] } ]

        state : Bool → Bool → Bool → ClientState
        state g b x = elim g [ false ↦ p | true ↦ elim b [ true ↦ answered x | false ↦ ended ] ]

        less : Each (IsOurs c later) (filter (λ x. not (x.k == r.k)) p.rows)
        less = each_filter (IsOurs c later) (IsOurs c later) (λ x. not (x.k == r.k)) p.rows (λ x k q. q) h

        by : (g b x : Bool) → Each (IsOurs c later) (state g b x).rows
        by false b x = h
        by true true true = less
        by true true false = less
        by true false x = less

    -- a message
    of_message : (id : ℕ) (rest : List ℕ) → m.entry.what ≡ what.In id rest → ClientLives c place p → is_checked s p m ms ≡ true → Alive c later (step_client s p m) ms
    of_message id rest e h k = by (check_at s p x) refl (sym (ap (λ w. elim (in_message w) [ None ↦ true | Some y ↦ is_followed_up y (entries ms) (check_at s p y) ]) e) ∙ k)
      where
        x : Message
        x = record { id = id; rest = rest }

        soon : (why : EndWhy) (es : List Entry) → begin_with_notice why es ≡ true → ends_soon es ≡ true
        soon why [] j = j
        soon why (y ∷ es) j = or_right (is_gone y) _ (both (is_notice y) _ (left (is_notice y) _ j) (first es (right (is_notice y) _ j)))
          where
            first : (zs : List Entry) → first_passes (is_gone_by why) zs ≡ true → first_passes is_gone zs ≡ true
            first [] i = i
            first (z ∷ zs) i = one (gone_why z.what) i
              where
                one : (o : Option EndWhy) → passes (same_why why) o ≡ true → passes (λ _. true) o ≡ true
                one None q = q
                one (Some v) q = refl

        others : is_end (check_at s p (record { id = id; rest = rest })) ≡ false → Alive c later (step_client s p m) ms
        others j = inl (lives_one h (ap (is_free_id p) e ∙ free_by s p x j))

        rows : Each (IsOurs c later) (step_client s p m).rows
        rows = subst (λ w. Each (IsOurs c later) (client_behind s m.entry.at m.mark p w).rows) (sym e) (in_rows x (makes_operation x) (is_request_of Bind x) refl (ours_behind (λ o. in_ending o.request o.behind m.entry id rest e) (rows_ours (m ∷ ms) (inl h))))

        by : (y : Check) → check_at s p (record { id = id; rest = rest }) ≡ y → is_followed_up (record { id = id; rest = rest }) (entries ms) y ≡ true → Alive c later (step_client s p m) ms
        by (Ends why) z j = inr (rows, soon why (entries ms) j)
        by y z j = others (ap is_end z)

    pub alive_next : p.count ≡ length (operations c place) → is_checked s p m ms ≡ true → Alive c place p (m ∷ ms) → Alive c later (step_client s p m) ms
    alive_next count k (inl h) = by m.entry.what refl
      where
        other : operation_message m.entry.what ≡ None → Alive c later (step_client s p m) ms
        other none = inl (lives_one h (ap (λ o. elim o [ None ↦ true | Some y ↦ not (list_any (λ r. r.request.id == y.id) p.rows) ]) none))

        by : (w : What) → m.entry.what ≡ w → Alive c later (step_client s p m) ms
        by (what.In id rest) e = of_message id rest e h k
        by w e = other (ap operation_message e)
    alive_next count k (inr h) = or_elim (is_gone m.entry) (is_notice m.entry && first_passes is_gone (entries ms)) gone noticed h.1
      where
        gone : is_gone m.entry ≡ true → Alive c later (step_client s p m) ms
        gone g = let why = gone_is m.entry.what g in inl (lives_ended s c place m.entry why.0 m.mark p why.1 count)

        soon : (es : List Entry) → first_passes is_gone es ≡ true → ends_soon es ≡ true
        soon [] j = j
        soon (y ∷ es) j = or_left (is_gone y) _ j

        rows : is_notice m.entry ≡ true → Each (IsOurs c later) (step_client s p m).rows
        rows g = by m.entry.what refl g
          where
            here : Each (IsOurs c later) p.rows
            here = each_imply (IsOurs c place) (IsOurs c later) p.rows (λ r x i. ours_stay c r.k place m.entry (λ o e. notice_ending o.request o.behind m.entry (not_true (o.request.id == 0) (found (λ y. not (y.request.id == 0)) (λ y. same_op (record { client = c; k = r.k }) y.name) (operations c place) o e (none_under_zero c 0 [] place))) g) (x i)) h.0

            by : (w : What) → m.entry.what ≡ w → passes (is_this 0 protocol_error_notice) (out_message w) ≡ true → Each (IsOurs c later) (step_client s p m).rows
            by (what.Out id rest) e i = subst (λ w. Each (IsOurs c later) (client_behind s m.entry.at m.mark p w).rows) (sym e) (out_rows rest (row_under p id) here)
            by _ e i = absurd (let bad : false ≡ true = i in cc)

        noticed : (is_notice m.entry && first_passes is_gone (entries ms)) ≡ true → Alive c later (step_client s p m) ms
        noticed g = inr (rows (left (is_notice m.entry) _ g), soon (entries ms) (right (is_notice m.entry) _ g))
