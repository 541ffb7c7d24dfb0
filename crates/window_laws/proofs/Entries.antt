-- What binds a client, behind each entry of its list.
use Rattle.std.proofs.Common.{◌≡◌, ℕ, suc, ◌+◌, ◌≤◌, Bool, true, false, ◌==◌, ◌&&◌, ◌||◌, not, List, [], ◌∷◌, ◌++◌, length, refl, ap, ◌∙◌, sym, subst, arith}
use Rattle.std.specs.Prelude.{Option, Some, None, filter, is_none, is_some, map, nat_le, nat_lt, if◌then◌else◌}
use Rattle.std.specs.List.{list_any, list_all}
use Rattle.std.proofs.lemmas.Bool.{leb-true, lt-ltb}
use Rattle.std.proofs.lemmas.List.{append-nil}
use Rattle.std.proofs.lemmas.List.Folds.{list_all-append}
use Rattle.ldap_spec.specs.Kinds.{is_abandon, is_unbind, kind_of, same_kind}
use Rattle.ldap_spec.specs.Messages.{Message}
use Rattle.ldap_spec.specs.Responses.{has_code}
use Rattle.ldap_spec.specs.Requests.{request}
use Rattle.lload_names.specs.declared.names.Answer.{Answer}
use Rattle.lload_names.specs.declared.names.Entry.{Entry}
use Rattle.lload_names.specs.declared.names.OpKind.TheVariants.{Bind}
use Rattle.lload_names.specs.declared.names.PartName.{PartName}
use Rattle.lload_names.specs.declared.names.What.TheVariants as what
use Rattle.lload_spec.specs.Binding.{action, choices, choice_made, is_action, is_behind, standing_by}
use Rattle.lload_spec.specs.ClientCalls.{new_choices}
use Rattle.lload_spec.specs.Entries.{Named, chosen, makes_operation, operation_message}
use Rattle.lload_spec.specs.FirstCheck.{lets_go_on}
use Rattle.lload_spec.specs.Identity.{identity_of}
use Rattle.lload_spec.specs.Lists.{agrees, passes}
use Rattle.lload_spec.specs.Operations.{Abandoned, Operation, Rebound, is_abandon_of, is_bind_in, is_of, is_request_of, is_final_for, last_bind, operations}
use Rattle.lload_spec.specs.Settings.{Settings, Write}
use Rattle.lload_spec.proofs.Growth.{right, both}
use Rattle.lload_laws.specs.ClientGrowth.{is_named_within}
use Rattle.lload_laws.proofs.ClientChoices.{bind_ends_choices, choices_grow}
use Rattle.lload_laws.proofs.ClientGrowth.{own_names}
use Rattle.lload_laws.proofs.ClientSums.{later_choice}
use Rattle.part_laws.proofs.ListLaws.{all_kept, filter-all, not_true, or_left, or_right}
use Rattle.part_spec.specs.ClientState.{ClientRow, ClientState, abandons, client_behind, facts_of, check_at, held_connection, is_bind_row, is_written, new_row, row_under, who_told, with_bind, with_request, without}
use Rattle.part_spec.specs.Marked.{Taken}
use Rattle.client_laws.proofs.ClientLives.{entry_of, out_state_of}
use Rattle.client_laws.proofs.KindsKept.{carried_kind}
use Rattle.client_laws.proofs.Matches.{ClientLives, ends_not, filter_agree}
use Rattle.client_laws.proofs.ClientGives.{in_state}
use Rattle.client_laws.proofs.NamesNone.{request_names_none}
use Rattle.forward_laws.proofs.Ops.{bind_number, number_later, number_of}
use Rattle.identity_laws.proofs.Finals.{last_all}
use Rattle.window_laws.proofs.Counts.{any_number, bump, number, number_both, number_kept, number_one}
use Rattle.window_laws.proofs.Ended.{choices_all, has_row, is_kept_so, operations_kept, rows_kept}
use Rattle.window_laws.proofs.Windows.{ended_window, live_writes, window_later, window_of, window_stays, writes_later, writes_stay}
use Rattle.window_laws.proofs.Binds.{bind_ignored}

-- how many rows are of writes that were forwarded and have such a number
abbrev pub written_rows : (ℕ → Bool) → List ClientRow → ℕ
written_rows test rows = number (λ r. r.k) is_written test rows

-- whether a row is a Bind's or came behind the last Bind
abbrev pub is_behind_bind : ℕ → ClientRow → Bool
is_behind_bind n r = is_bind_row r || nat_lt n r.k

-- What binds a client: its window is that of its choices, as many rows as choices are of live writes, whatever their numbers,
-- and each row came behind the last Bind.
pub record Bound (s : Settings) (c : ℕ) (place : List Entry) (p : ClientState) : Type 0 where
  pub window : p.window ≡ window_of (standing_by s (choices c place))
  pub writes : (test : ℕ → Bool) → written_rows test p.rows ≡ live_writes s test (choices c place)
  pub behind : list_all (is_behind_bind (bind_number c place)) p.rows ≡ true

-- the same in a state whose window and rows are the same
pub bound_by : (s : Settings) (c : ℕ) (place : List Entry) (p q : ClientState) → q.window ≡ p.window → q.rows ≡ p.rows → Bound s c place p → Bound s c place q
bound_by s c place p q w r h = record { window = w ∙ h.window; writes = λ test. ap (written_rows test) r ∙ h.writes test; behind = ap (list_all (is_behind_bind (bind_number c place))) r ∙ h.behind }

module _ (s : Settings) (c : ℕ) (place : List Entry) (p : ClientState) (lives : ClientLives c place p) (h : Bound s c place p) where
  -- what is no choice chooses nothing
  pub unchosen : (e : Entry) → chosen e.what ≡ None → new_choices c place e ≡ []
  unchosen e k = ap (λ (o : Option (Named Answer)). filter (λ x. is_behind (last_bind c place) x.operation) (choice_made c place place o)) k

  -- An entry that makes no operation and chooses nothing: what it ends is what the state has no row of behind it.
  module _ (e : Entry) (none : operation_message e.what ≡ None) (nothing_new : new_choices c place e ≡ []) where
    no_bind : is_bind_in e ≡ false
    no_bind = ap (passes (λ m. passes (same_kind Bind) (kind_of m.rest))) none

    grown : choices c (place ++ e ∷ []) ≡ map (later_choice e) (choices c place)
    grown = choices_grow c place e no_bind ∙ ap (λ l. map (later_choice e) (choices c place ++ l)) nothing_new ∙ ap (map (later_choice e)) (append-nil (choices c place))

    pub ends : (test : ClientRow → Bool) (q : ClientState) → q.rows ≡ filter (λ r. not (test r)) p.rows → q.window ≡ (without test e.at p).window → ClientLives c (place ++ e ∷ []) q → Bound s c (place ++ e ∷ []) q
    ends test q rows window next =
        record {
          window = window ∙ ap (λ b. ended_window e.at b p.window) some_ended ∙ ap (ended_window e.at (nat_lt 0 (live_writes s (λ k. not (has_row q.rows k)) (choices c place)))) h.window ∙ sym (ap (λ l. window_of (standing_by s l)) grown ∙ window_later s e (has_row q.rows) (choices c place) so);
          writes = λ t. ap (written_rows t) rows ∙ number_kept (λ r. r.k) is_written (λ r. not (test r)) (has_row q.rows) t p.rows stay ∙ h.writes (λ k. has_row q.rows k && t k) ∙ sym (ap (live_writes s t) grown ∙ writes_later s e (has_row q.rows) (choices c place) so t);
          behind = ap (λ n. list_all (is_behind_bind n) q.rows) (number_later c place e no_bind) ∙ ap (list_all (is_behind_bind (bind_number c place))) rows ∙ all_kept (is_behind_bind (bind_number c place)) (λ r. not (test r)) p.rows h.behind;
        }
      where
        stay : list_all (λ r. agrees (not (test r)) (has_row q.rows r.k)) p.rows ≡ true
        stay = rows_kept c place e p q lives (λ r. not (test r)) rows

        so : list_all (λ x. is_kept_so e (has_row q.rows) x.operation) (choices c place) ≡ true
        so = subst (λ l. list_all (λ x. is_kept_so e (has_row q.rows) x.operation) l ≡ true) (ap (λ l. choices c place ++ l) nothing_new ∙ append-nil (choices c place)) (choices_all (is_kept_so e (has_row q.rows)) c place (operations_kept c place e p q lives none next) e)

        ended_row : (a w k : Bool) → agrees (not a) k ≡ true → (a && w) ≡ (w && not k)
        ended_row true true false j = refl
        ended_row true false false j = refl
        ended_row false true true j = refl
        ended_row false false true j = refl
        ended_row true w true j = absurd (let bad : false ≡ true = j in cc)
        ended_row false w false j = absurd (let bad : false ≡ true = j in cc)

        some_ended : list_any (λ r. test r && is_written r) p.rows ≡ nat_lt 0 (live_writes s (λ k. not (has_row q.rows k)) (choices c place))
        some_ended = any_number (λ r. test r && is_written r) p.rows ∙ ap (λ l. nat_lt 0 (length l)) (filter_agree (λ r. agrees (not (test r)) (has_row q.rows r.k)) (λ r. test r && is_written r) (λ r. is_written r && not (has_row q.rows r.k)) p.rows (λ r j. ended_row (test r) (is_written r) (has_row q.rows r.k) j) stay) ∙ ap (nat_lt 0) (h.writes (λ k. not (has_row q.rows k)))

    none_pass : (rows : List ClientRow) → list_any (λ r. false && is_written r) rows ≡ false
    none_pass [] = refl
    none_pass (r ∷ rows) = none_pass rows

    -- one that ends nothing
    pub quiet : (q : ClientState) → q.rows ≡ p.rows → q.window ≡ p.window → ClientLives c (place ++ e ∷ []) q → Bound s c (place ++ e ∷ []) q
    quiet q rows window next = ends (λ r. false) q (rows ∙ sym (filter-all (λ r. true) p.rows (λ r. refl))) (window ∙ ap (λ b. ended_window e.at b p.window) (sym (none_pass p.rows))) next

  -- An Out.
  module _ (part : PartName) (at : ℕ) (mark : Option Taken) (id : ℕ) (rest : List ℕ) where
    abbrev out : Entry
    out = entry_of part at (what.Out id rest)

    out_by : (o : Option ClientRow) → ClientLives c (place ++ out ∷ []) (out_state_of s at mark p rest o) → Bound s c (place ++ out ∷ []) (out_state_of s at mark p rest o)
    out_by None next = quiet out refl (unchosen out refl) p refl refl next
    out_by (Some r) next = by (is_final_for r.request rest) (is_bind_row r) (has_code 14 rest) next
      where
        ended : ClientState
        ended = without (λ x. x.k == r.k) at p

        answered : Bool → ClientState
        answered b = elim b [ true ↦ record ended { in_exchange = true } | false ↦ record ended { hold = None; identity = if has_code 0 rest then identity_of s (who_told mark) (request r.request.rest) else [] } ]

        state : Bool → Bool → Bool → ClientState
        state f b x = elim f [ false ↦ p | true ↦ elim b [ true ↦ answered x | false ↦ ended ] ]

        by : (f b x : Bool) → ClientLives c (place ++ out ∷ []) (state f b x) → Bound s c (place ++ out ∷ []) (state f b x)
        by false b x n = quiet out refl (unchosen out refl) p refl refl n
        by true true true n = ends out refl (unchosen out refl) (λ y. y.k == r.k) (state true true true) refl refl n
        by true true false n = ends out refl (unchosen out refl) (λ y. y.k == r.k) (state true true false) refl refl n
        by true false x n = ends out refl (unchosen out refl) (λ y. y.k == r.k) (state true false x) refl refl n

    pub out_bound : ClientLives c (place ++ out ∷ []) (client_behind s at mark p (what.Out id rest)) → Bound s c (place ++ out ∷ []) (client_behind s at mark p (what.Out id rest))
    out_bound next = out_by (row_under p id) next

  -- A message.
  module _ (part : PartName) (at : ℕ) (mark : Option Taken) (m : Message) where
    abbrev came : Entry
    came = entry_of part at (what.In m.id m.rest)

    abbrev put : Bool → Option Message
    put b = elim b [ true ↦ Some (record { id = m.id; rest = m.rest }) | false ↦ None ]

    abandon_bound : makes_operation m ≡ false → ClientLives c (place ++ came ∷ []) (without (abandons m) at p) → Bound s c (place ++ came ∷ []) (without (abandons m) at p)
    abandon_bound e next = ends came (ap put e) (unchosen came refl) (abandons m) (without (abandons m) at p) refl refl next

    message : makes_operation m ≡ true → operation_message came.what ≡ Some m
    message e = ap put e

    binds : makes_operation m ≡ true → is_bind_in came ≡ is_request_of Bind m
    binds e = ap (passes (λ x. passes (same_kind Bind) (kind_of x.rest))) (message e)

    -- a Bind, behind which nothing binds
    bind_bound : makes_operation m ≡ true → is_request_of Bind m ≡ true → Bound s c (place ++ came ∷ []) (with_bind s m p)
    bind_bound e b =
        record {
          window = sym (ap (λ l. window_of (standing_by s l)) anew);
          writes = λ test. number_one (λ r. r.k) is_written test (new_row s p m) ∙ ap (λ a. bump ((is_action Write a && is_some (new_row s p m).connection) && test (suc p.count))) (bind_ignored s m.rest b) ∙ sym (ap (live_writes s test) anew);
          behind = both (is_behind_bind (bind_number c (place ++ came ∷ [])) (new_row s p m)) true (or_left (is_bind_row (new_row s p m)) _ (ap (passes (same_kind Bind)) (carried_kind s m p.identity) ∙ b)) refl;
        }
      where
        anew : choices c (place ++ came ∷ []) ≡ []
        anew = bind_ends_choices c place came (binds e ∙ b)

    -- another request
    module _ (e : makes_operation m ≡ true) (other : is_request_of Bind m ≡ false) where
      no_abandon : (o : Operation) → is_abandon_of o.request came ≡ false
      no_abandon o = ap (λ b. not (m.id == 0) && b && not (is_request_of Bind o.request)) (request_names_none o.request.id m.rest (not_true (is_abandon m.rest) (right (not (m.id == 0) && not (is_unbind m.rest)) _ e))) ∙ none (not (m.id == 0)) (not (is_request_of Bind o.request))
        where
          none : (a b : Bool) → (a && false && b) ≡ false
          none true b = refl
          none false b = refl

      ends_none : (o : Operation) → ends_not came o ≡ true
      ends_none o = ap (λ a. is_none (if a then Some Abandoned else if is_bind_in came then Some Rebound else None)) (no_abandon o) ∙ ap (λ b. is_none (if b then Some Rebound else None)) (binds e ∙ other)

      grown_in : choices c (place ++ came ∷ []) ≡ map (later_choice came) (choices c place)
      grown_in = choices_grow c place came (binds e ∙ other) ∙ ap (map (later_choice came)) (append-nil (choices c place))

      unwritten : is_written (new_row s p m) ≡ false
      unwritten = ap (λ b. is_action Write (action s m.rest) && is_some (elim (b && (facts_of p).in_exchange && lets_go_on (check_at s p m)) [ true ↦ held_connection p | false ↦ None ])) other ∙ and_none (is_action Write (action s m.rest))
        where
          and_none : (b : Bool) → (b && false) ≡ false
          and_none true = refl
          and_none false = refl

      -- the last Bind came before it
      bind_within : nat_lt (bind_number c place) (suc p.count) ≡ true
      bind_within = by (last_bind c place) refl
        where
          by : (o : Option Operation) → last_bind c place ≡ o → nat_lt (number_of o) (suc p.count) ≡ true
          by None k = lt-ltb 0 (suc p.count) (omega arith)
          by (Some b) k =
              let named : is_named_within c (length (operations c place)) b ≡ true = last_all (is_of Bind) (is_named_within c (length (operations c place))) (operations c place) b k (own_names c place) in
              let top : nat_le b.name.k (length (operations c place)) ≡ true = right (b.name.client == c && nat_lt 0 b.name.k) _ named in
              let count = lives.count in
              lt-ltb b.name.k (suc p.count) (let low : b.name.k ≤ length (operations c place) = leb-true b.name.k (length (operations c place)) top in omega (arith, low, count))

      other_bound : Bound s c (place ++ came ∷ []) (with_request s m p)
      other_bound =
          record {
            window = h.window ∙ sym (ap (λ l. window_of (standing_by s l)) grown_in ∙ window_stays s came ends_none (choices c place));
            writes = λ test. number_both (λ r. r.k) is_written test p.rows (new_row s p m ∷ []) ∙ ap (λ n. written_rows test p.rows + n) (number_one (λ r. r.k) is_written test (new_row s p m) ∙ ap (λ b. bump (b && test (suc p.count))) unwritten) ∙ plus_zero (written_rows test p.rows) ∙ h.writes test ∙ sym (ap (live_writes s test) grown_in ∙ writes_stay s came ends_none (choices c place) test);
            behind = ap (λ n. list_all (is_behind_bind n) (p.rows ++ new_row s p m ∷ [])) (number_later c place came (binds e ∙ other)) ∙ list_all-append (is_behind_bind (bind_number c place)) p.rows (new_row s p m ∷ []) ∙ both (list_all (is_behind_bind (bind_number c place)) p.rows) _ h.behind (both (is_behind_bind (bind_number c place) (new_row s p m)) true (or_right (is_bind_row (new_row s p m)) _ bind_within) refl);
          }
        where
          plus_zero : (n : ℕ) → n + 0 ≡ n
          plus_zero n = omega arith

    in_by : (b d : Bool) → makes_operation m ≡ b → is_request_of Bind m ≡ d → ClientLives c (place ++ came ∷ []) (in_state s at p m b d) → Bound s c (place ++ came ∷ []) (in_state s at p m b d)
    in_by false d e f next = abandon_bound e next
    in_by true true e f next = bind_bound e f
    in_by true false e f next = other_bound e f

    pub in_bound : ClientLives c (place ++ came ∷ []) (client_behind s at mark p (what.In m.id m.rest)) → Bound s c (place ++ came ∷ []) (client_behind s at mark p (what.In m.id m.rest))
    in_bound next = in_by (makes_operation m) (is_request_of Bind m) refl refl next
