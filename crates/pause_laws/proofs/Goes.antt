-- Where a client's operations went: the connection of each row that isn't of a Bind is that of the first choice of one for its
-- operation, and so is what the list says of a live operation.
use Rattle.std.proofs.Common.{◌≡◌, ℕ, suc, ◌<◌, Bool, true, false, ◌==◌, ◌&&◌, not, if◌then◌else◌, List, [], ◌∷◌, ◌++◌, length, append_assoc, refl, ap, ◌∙◌, sym, subst, arith}
use Rattle.std.specs.Prelude.{Option, Some, None, cond, find, flat_map, is_none, is_some, unwrap_or}
use Rattle.std.specs.List.{list_any}
use Rattle.std.specs.Option.{option_or}
use Rattle.ldap_spec.specs.Kinds.{same_kind}
use Rattle.ldap_spec.specs.Messages.{Message}
use Rattle.lload_names.specs.declared.names.Answer.{Answer}
use Rattle.lload_names.specs.declared.names.Answer.TheVariants.{Go, Busy, Unavailable}
use Rattle.lload_names.specs.declared.names.Entry.{Entry}
use Rattle.lload_names.specs.declared.names.OpKind.TheVariants.{Bind}
use Rattle.lload_names.specs.declared.names.OpName.{OpName}
use Rattle.lload_names.specs.declared.names.What.{What}
use Rattle.lload_names.specs.declared.names.What.TheVariants as what
use Rattle.lload_spec.specs.Entries.{Named, chosen, operation_message}
use Rattle.lload_spec.specs.FirstCheck.{lets_go_on}
use Rattle.lload_spec.specs.Journal.{same_op}
use Rattle.lload_spec.specs.Lists.{passes, where_there}
use Rattle.lload_spec.specs.Operations.{Ending, Operation, chosen_connection, chosen_from, ending_from, go_for, is_live, is_of, is_request_of, live_operations, operation_in, operations}
use Rattle.lload_spec.specs.Pauses.{regular_connection}
use Rattle.lload_spec.specs.Pauses as pauses
use Rattle.lload_spec.specs.Settings.{Settings}
use Rattle.lload_spec.specs.Strict.{is_choice_for, is_chosen_once}
use Rattle.lload_spec.proofs.Growth.{end_stays, left, right}
use Rattle.lload_laws.specs.ClientGrowth.{later_operation, new_operation}
use Rattle.lload_laws.proofs.ListLaws.{found_passes}
use Rattle.part_laws.proofs.ListLaws.{false_by, same_number, same_op_eq}
use Rattle.part_spec.specs.ClientState.{ClientRow, ClientState, check_at, client_behind, facts_of, forwarded, held_connection, is_bind_row, new_row, regular_connections, row_named, step_client, with_choice, with_connection}
use Rattle.part_spec.specs.Marked.{Marked}
use Rattle.client_laws.proofs.KindsKept.{carried_kind}
use Rattle.client_laws.proofs.Matches.{ClientLives, Matches}
use Rattle.client_answer_laws.proofs.Each.{Each, each_both, each_filter, each_imply, each_map}
use Rattle.client_answer_laws.proofs.Rows.{rows_behind}
use Rattle.client_answer_laws.proofs.Waits.{each_grows, more_operations}
use Rattle.forward_laws.proofs.Ops.{number_within}

-- the connection of the first choice of one for an operation among these entries
abbrev pub first_go : OpName → List Entry → Option ℕ
first_go op [] = None
first_go op (e ∷ es) = option_or (go_for op (chosen e.what)) (first_go op es)

or_one : (x : Option ℕ) → option_or x None ≡ x
or_one None = refl
or_one (Some u) = refl

first_one : (op : OpName) (es : List Entry) (e : Entry) → first_go op (es ++ e ∷ []) ≡ option_or (first_go op es) (go_for op (chosen e.what))
first_one op [] e = or_one (go_for op (chosen e.what))
first_one op (x ∷ es) e = by (go_for op (chosen x.what)) (first_one op es e)
  where
    by : (o : Option ℕ) → first_go op (es ++ e ∷ []) ≡ option_or (first_go op es) (go_for op (chosen e.what)) → option_or o (first_go op (es ++ e ∷ [])) ≡ option_or (option_or o (first_go op es)) (go_for op (chosen e.what))
    by None ih = ih
    by (Some u) ih = refl

-- what is chosen for a live operation
pub live_goes : (o : Operation) → is_live o ≡ true → chosen_connection o ≡ first_go o.name o.behind
live_goes o live = from [] o.behind refl
  where
    open_so : (since es : List Entry) → since ++ es ≡ o.behind → is_none (ending_from o.request [] since) ≡ true
    open_so since es e = by (ending_from o.request [] since) refl
      where
        by : (x : Option Ending) → ending_from o.request [] since ≡ x → is_none x ≡ true
        by None k = refl
        by (Some y) k = absurd (let bad : false ≡ true = sym (ap is_none (ap (ending_from o.request []) (sym e) ∙ end_stays o.request [] since es y k)) ∙ live in cc)

    from : (since es : List Entry) → since ++ es ≡ o.behind → chosen_from o since es ≡ first_go o.name es
    from since [] e = refl
    from since (x ∷ es) e = by (go_for o.name (chosen x.what)) (from (since ++ x ∷ []) es (append_assoc since (x ∷ []) es ∙ e))
      where
        by : (g : Option ℕ) → chosen_from o (since ++ x ∷ []) es ≡ first_go o.name es → (elim g [ None ↦ chosen_from o (since ++ x ∷ []) es | Some u ↦ if is_none (ending_from o.request [] since) then Some u else None ]) ≡ option_or g (first_go o.name es)
        by None ih = ih
        by (Some u) ih = ap (λ b. if b then Some u else None) (open_so since (x ∷ es) e)

-- a row went where the first choice says, and so did an operation
abbrev pub RowGoes : ℕ → List Entry → ClientRow → Type 0
RowGoes c place r = is_bind_row r ≡ false → r.connection ≡ first_go (record { client = c; k = r.k }) place

abbrev pub OpGoes : List Entry → Operation → Type 0
OpGoes place o = first_go o.name o.behind ≡ first_go o.name place

-- what is known of where operations went at a place: no choice is of one that didn't come in yet
pub record Goes (c : ℕ) (place : List Entry) (p : ClientState) : Type 0 where
  pub fresh : (k : ℕ) → length (operations c place) < k → first_go (record { client = c; k = k }) place ≡ None
  pub ops : Each (OpGoes place) (operations c place)
  pub rows : Each (RowGoes c place) p.rows

-- an entry with a choice says what was chosen
chosen_is : (w : What) (x : Named Answer) → chosen w ≡ Some x → w ≡ what.Chosen x.op x.value
chosen_is (what.Chosen op a) x e = let same : record { op = op; value = a } ≡ x = cc in ap (λ (y : Named Answer). what.Chosen y.op y.value) same
chosen_is _ x e = absurd (let bad : None ≡ Some x = e in cc)

-- each fails the test where none is found
none_passes : {A : Type 0} (t : A → Bool) (xs : List A) → find t xs ≡ None → Each (λ x. t x ≡ false) xs
none_passes t [] e = tt
none_passes t (x ∷ xs) e = by (t x) refl e (none_passes t xs)
  where
    by : (b : Bool) → t x ≡ b → cond b (Some x) (find t xs) ≡ None → (find t xs ≡ None → Each (λ y. t y ≡ false) xs) → (t x ≡ false) × Each (λ y. t y ≡ false) xs
    by true h k ih = absurd (let bad : Some x ≡ None = k in cc)
    by false h k ih = (h, ih k)

module _ (s : Settings) (c : ℕ) (place : List Entry) (p : ClientState) (number : p.number ≡ c) (count : p.count ≡ length (operations c place)) (h : Goes c place p) (m : Marked) (once : is_chosen_once c place m.entry ≡ true) where
  abbrev next : List Entry
  next = place ++ m.entry ∷ []

  abbrev named : ℕ → OpName
  named k = record { client = c; k = k }

  -- no choice is of an operation that doesn't stand there
  go_late : (k : ℕ) → length (operations c place) < k → go_for (record { client = c; k = k }) (chosen m.entry.what) ≡ None
  go_late k l = by (chosen m.entry.what) once
    where
      Own : Named Answer → Bool
      Own x = x.op.client == c && is_some (operation_in c place x.op) && not (list_any (is_choice_for x.op) place)

      other : (x : Named Answer) → Own x ≡ true → same_op (record { client = c; k = k }) x.op ≡ false
      other x j = false_by (same_op (record { client = c; k = k }) x.op) (λ i. absurd (there (operation_in c place (named k)) refl (subst (λ n. is_some (operation_in c place n) ≡ true) (sym (same_op_eq (record { client = c; k = k }) x.op i)) (right (x.op.client == c) _ (left (x.op.client == c && is_some (operation_in c place x.op)) _ j)))))
        where
          there : (o : Option Operation) → operation_in c place (record { client = c; k = k }) ≡ o → is_some o ≡ true → ⊥
          there None e i = let bad : false ≡ true = i in cc
          there (Some o) e i = let within = number_within c k place o e in omega (arith, within, l)

      goes_to : Answer → Bool → Option ℕ
      goes_to a b = elim a [ Go u n ↦ if b then Some u else None | Busy ↦ None | Unavailable ↦ None ]

      goes_none : (a : Answer) → goes_to a false ≡ None
      goes_none (Go u n) = refl
      goes_none Busy = refl
      goes_none Unavailable = refl

      by : (o : Option (Named Answer)) → where_there Own o ≡ true → go_for (record { client = c; k = k }) o ≡ None
      by None j = refl
      by (Some x) j = ap (goes_to x.value) (other x j) ∙ goes_none x.value

  fresh_later : (k : ℕ) → length (operations c place) < k → first_go (record { client = c; k = k }) (place ++ m.entry ∷ []) ≡ None
  fresh_later k l = first_one (named k) place m.entry ∙ ap (λ x. option_or x (go_for (named k) (chosen m.entry.what))) (h.fresh k l) ∙ go_late k l

  fresh_next : (k : ℕ) → length (operations c (place ++ m.entry ∷ [])) < k → first_go (record { client = c; k = k }) (place ++ m.entry ∷ []) ≡ None
  fresh_next k l = fresh_later k (let more = more_operations c place m.entry in omega (arith, more, l))

  ops_next : Each (OpGoes (place ++ m.entry ∷ [])) (operations c (place ++ m.entry ∷ []))
  ops_next = each_grows (OpGoes next) c place m.entry (each_imply (OpGoes place) (λ o. OpGoes next (later_operation m.entry o)) (operations c place) old h.ops) new
    where
      old : (o : Operation) → OpGoes place o → OpGoes (place ++ m.entry ∷ []) (later_operation m.entry o)
      old o k = first_one o.name o.behind m.entry ∙ ap (λ x. option_or x (go_for o.name (chosen m.entry.what))) k ∙ sym (first_one o.name place m.entry)

      new : (x : Message) → operation_message m.entry.what ≡ Some x → OpGoes (place ++ m.entry ∷ []) (new_operation c place m.entry x)
      new x e = sym (fresh_later (suc (length (operations c place))) (omega arith))

  -- The rows.

  -- where nothing is chosen of a connection for it
  row_stays : (r : ClientRow) → go_for (record { client = c; k = r.k }) (chosen m.entry.what) ≡ None → RowGoes c place r → RowGoes c (place ++ m.entry ∷ []) r
  row_stays r none k b = k b ∙ sym (first_one (named r.k) place m.entry ∙ ap (option_or (first_go (named r.k) place)) none ∙ or_one (first_go (named r.k) place))

  new_goes : (x : Message) → RowGoes c (place ++ m.entry ∷ []) (new_row s p x)
  new_goes x b =
      ap (λ d. elim (d && (facts_of p).in_exchange && lets_go_on (check_at s p x)) [ true ↦ held_connection p | false ↦ None ]) plain
      ∙ sym (ap (λ n. first_go (named (suc n)) next) count ∙ fresh_later (suc (length (operations c place))) (omega arith))
    where
      plain : is_request_of Bind x ≡ false
      plain = sym (ap (passes (same_kind Bind)) (carried_kind s x p.identity)) ∙ b

  quiet : (w : What) → m.entry.what ≡ w → chosen w ≡ None → Each (RowGoes c (place ++ m.entry ∷ [])) (client_behind s m.entry.at m.mark p w).rows
  quiet w e none =
      rows_behind s m.entry.at m.mark p (RowGoes c next)
      (each_imply (RowGoes c place) (RowGoes c next) p.rows (λ r. row_stays r (ap (go_for (named r.k)) (ap chosen e ∙ none))) h.rows) w
      (λ x i k. new_goes x)
      (λ op u b q r i k j. absurd (let bad : None ≡ Some (record { op = op; value = Go u b }) = sym none ∙ ap chosen i in cc))

  -- a choice of a connection
  module _ (op : OpName) (v b : ℕ) (e : m.entry.what ≡ what.Chosen op (Go v b)) where
    gone_to : (k : ℕ) → first_go (record { client = c; k = k }) (place ++ m.entry ∷ []) ≡ option_or (first_go (record { client = c; k = k }) place) (if c == op.client && k == op.k then Some v else None)
    gone_to k = first_one (named k) place m.entry ∙ ap (λ w. option_or (first_go (named k) place) (go_for (named k) (chosen w))) e

    not_its : (r : ClientRow) → (c == op.client && r.k == op.k) ≡ false → RowGoes c place r → RowGoes c (place ++ m.entry ∷ []) r
    not_its r other k d = k d ∙ sym (gone_to r.k ∙ ap (λ t. option_or (first_go (named r.k) place) (if t then Some v else None)) other ∙ or_one (first_go (named r.k) place))

    its : (r : ClientRow) → (c == op.client && r.k == op.k) ≡ true → RowGoes c place r → RowGoes c (place ++ m.entry ∷ []) (record r { connection = Some (unwrap_or r.connection v) })
    its r this k d = some_or r.connection ∙ ap (λ x. option_or x (Some v)) (k d) ∙ sym (gone_to r.k ∙ ap (λ t. option_or (first_go (named r.k) place) (if t then Some v else None)) this)
      where
        some_or : (x : Option ℕ) → Some (unwrap_or x v) ≡ option_or x (Some v)
        some_or None = refl
        some_or (Some u) = refl

    abbrev is_its : ClientRow → Bool
    is_its r = p.number == op.client && r.k == op.k

    same_its : (r : ClientRow) → (c == op.client && r.k == op.k) ≡ (p.number == op.client && r.k == op.k)
    same_its r = ap (λ n. n == op.client && r.k == op.k) (sym number)

    went : (q : ClientRow) → find (λ r. p.number == op.client && r.k == op.k) p.rows ≡ Some q → (r : ClientRow) → RowGoes c place r → RowGoes c (place ++ m.entry ∷ []) (forwarded q.k v r)
    went q f r k = by (r.k == q.k) refl
      where
        passed : (p.number == op.client && q.k == op.k) ≡ true
        passed = found_passes is_its p.rows q f

        test : (r.k == q.k) ≡ (r.k == op.k)
        test = ap (λ n. r.k == n) (same_number q.k op.k (right (p.number == op.client) _ passed))

        is_this : (d : Bool) → (r.k == q.k) ≡ d → (c == op.client && r.k == op.k) ≡ d
        is_this d i = same_its r ∙ ap (λ t. t && r.k == op.k) (left (p.number == op.client) _ passed) ∙ sym test ∙ i

        by : (d : Bool) → (r.k == q.k) ≡ d → RowGoes c (place ++ m.entry ∷ []) (if d then record r { connection = Some (unwrap_or r.connection v) } else r)
        by true i = its r (is_this true i) k
        by false i = not_its r (is_this false i) k

    chosen_rows : Each (RowGoes c (place ++ m.entry ∷ [])) (with_choice op (Go v b) p).rows
    chosen_rows = by (row_named p op) refl
      where
        state : Option ClientRow → ClientState
        state o = elim o [ None ↦ p | Some r ↦ with_connection v b p r ]

        by : (o : Option ClientRow) → row_named p op ≡ o → Each (RowGoes c (place ++ m.entry ∷ [])) (state o).rows
        by None f = each_imply (λ r. RowGoes c place r × (is_its r ≡ false)) (RowGoes c next) p.rows (λ r k. not_its r (same_its r ∙ k.1) k.0) (each_both (RowGoes c place) (λ r. is_its r ≡ false) p.rows h.rows (none_passes is_its p.rows f))
        by (Some q) f = each_map (RowGoes c next) (forwarded q.k v) p.rows (each_imply (RowGoes c place) (λ r. RowGoes c next (forwarded q.k v r)) p.rows (went q f) h.rows)

  chosen_any : (op : OpName) (a : Answer) → m.entry.what ≡ what.Chosen op a → Each (RowGoes c (place ++ m.entry ∷ [])) (with_choice op a p).rows
  chosen_any op (Go v b) e = chosen_rows op v b e
  chosen_any op Busy e = each_imply (RowGoes c place) (RowGoes c next) p.rows (λ r. row_stays r (ap (λ w. go_for (named r.k) (chosen w)) e)) h.rows
  chosen_any op Unavailable e = each_imply (RowGoes c place) (RowGoes c next) p.rows (λ r. row_stays r (ap (λ w. go_for (named r.k) (chosen w)) e)) h.rows

  rows_next : Each (RowGoes c (place ++ m.entry ∷ [])) (step_client s p m).rows
  rows_next = by (chosen m.entry.what) refl
    where
      by : (o : Option (Named Answer)) → chosen m.entry.what ≡ o → Each (RowGoes c (place ++ m.entry ∷ [])) (client_behind s m.entry.at m.mark p m.entry.what).rows
      by None e = quiet m.entry.what refl e
      by (Some x) e = subst (λ w. Each (RowGoes c next) (client_behind s m.entry.at m.mark p w).rows) (sym (chosen_is m.entry.what x e)) (chosen_any x.op x.value (chosen_is m.entry.what x e))

  pub goes_more : Goes c (place ++ m.entry ∷ []) (step_client s p m)
  goes_more = record { fresh = fresh_next; ops = ops_next; rows = rows_next }

pub goes_first : (c : ℕ) (p : ClientState) → p.rows ≡ [] → Goes c [] p
goes_first c p e = record { fresh = λ k l. refl; ops = tt; rows = subst (Each (RowGoes c [])) (sym e) tt }

-- So the regular connections of the rows are those of the live operations.
abbrev row_connection : ClientRow → List ℕ
row_connection r = elim (is_bind_row r) [ true ↦ [] | false ↦ elim r.connection [ None ↦ [] | Some u ↦ u ∷ [] ] ]

abbrev LiveGoes : ℕ → List Entry → Operation → Type 0
LiveGoes c place o = chosen_connection o ≡ first_go (record { client = c; k = o.name.k }) place

same_connections : (c : ℕ) (place : List Entry) (rows : List ClientRow) (os : List Operation) → Matches rows os → Each (RowGoes c place) rows → Each (LiveGoes c place) os → flat_map row_connection rows ≡ flat_map regular_connection os
same_connections c place [] [] m h k = refl
same_connections c place (r ∷ rows) (o ∷ os) m h k = ap (λ l. l ++ flat_map row_connection rows) (by (is_bind_row r) refl) ∙ ap (λ l. regular_connection o ++ l) (same_connections c place rows os m.1 h.1 k.1)
  where
    bind_same : is_bind_row r ≡ is_of Bind o
    bind_same = ap (passes (same_kind Bind)) m.0.kind

    by : (b : Bool) → is_bind_row r ≡ b → row_connection r ≡ regular_connection o
    by true e = ap (λ b. elim b [ true ↦ [] | false ↦ elim r.connection [ None ↦ [] | Some u ↦ u ∷ [] ] ]) e ∙ sym (ap (λ b. elim b [ true ↦ [] | false ↦ elim (chosen_connection o) [ None ↦ [] | Some u ↦ u ∷ [] ] ]) (sym bind_same ∙ e))
    by false e =
        ap (λ b. elim b [ true ↦ [] | false ↦ elim r.connection [ None ↦ [] | Some u ↦ u ∷ [] ] ]) e
        ∙ ap (λ x. elim x [ None ↦ [] | Some u ↦ u ∷ [] ]) (h.0 e ∙ ap (λ n. first_go (record { client = c; k = n }) place) m.0.k ∙ sym k.0)
        ∙ sym (ap (λ b. elim b [ true ↦ [] | false ↦ elim (chosen_connection o) [ None ↦ [] | Some u ↦ u ∷ [] ] ]) (sym bind_same ∙ e))
same_connections c place [] (o ∷ os) m h k = absurd m
same_connections c place (r ∷ rows) [] m h k = absurd m

pub regular_same : (c : ℕ) (place : List Entry) (p : ClientState) → ClientLives c place p → Goes c place p → Each (λ o. o.name.client ≡ c) (operations c place) → regular_connections p ≡ pauses.regular_connections c place
regular_same c place p lives h own = same_connections c place p.rows (live_operations c place) lives.rows h.rows (each_filter (λ o. OpGoes place o × (o.name.client ≡ c)) (LiveGoes c place) is_live (operations c place) live (each_both (OpGoes place) (λ o. o.name.client ≡ c) (operations c place) h.ops own))
  where
    live : (o : Operation) → is_live o ≡ true → OpGoes place o × (o.name.client ≡ c) → LiveGoes c place o
    live o k j = live_goes o k ∙ j.0 ∙ ap (λ n. first_go n place) (λ i. record { client = j.1 i; k = o.name.k })
