-- What a client asked the desk for wasn't forwarded yet: so it is behind each entry of each list.
use Rattle.std.proofs.Common.{◌≡◌, ℕ, suc, Bool, true, false, ◌==◌, ◌&&◌, ◌||◌, not, List, [], ◌∷◌, ◌++◌, length, refl, ap, arith, ◌∙◌, sym, subst}
use Rattle.std.specs.Prelude.{Option, Some, None, nat_le, nat_lt, unwrap_or, if◌then◌else◌}
use Rattle.std.specs.List.{list_any}
use Rattle.std.proofs.lemmas.Bool.{lt-ltb}
use Rattle.std.proofs.lemmas.Bool.Decides.{nat_tests}
use Rattle.ldap_spec.specs.Messages.{Message}
use Rattle.lload_names.specs.declared.names.Answer.TheVariants.{Go}
use Rattle.lload_names.specs.declared.names.Entry.{Entry}
use Rattle.lload_names.specs.declared.names.OpName.{OpName}
use Rattle.lload_names.specs.declared.names.PartName.{PartName}
use Rattle.lload_names.specs.declared.names.What.{What}
use Rattle.lload_names.specs.declared.names.What.TheVariants as what
use Rattle.lload_spec.specs.Binding.{kind_wanted}
use Rattle.lload_spec.specs.Entries.{makes_operation}
use Rattle.lload_spec.specs.FirstCheck.{lets_go_on}
use Rattle.lload_spec.specs.Journal.{same_op}
use Rattle.lload_spec.specs.Operations.{operations}
use Rattle.lload_spec.specs.Settings.{Settings}
use Rattle.lload_spec.proofs.Growth.{left, right, both}
use Rattle.lload_laws.proofs.ClientGrowth.{count_rises}
use Rattle.lload_laws.proofs.ListLaws.{found_passes}
use Rattle.part_laws.proofs.ListLaws.{any_filtered, any_split, eq_eqb, false_by, le_same, none_filtered, not_both, or_elim, same_number, same_op_eq}
use Rattle.part_spec.specs.ClientState.{AskedFor, ClientRow, ClientState, asked_behind, check_at, client_behind, empty_client, forwarded, held_connection, is_pinned, new_row, next_name, row_named, step_client, step_clients}
use Rattle.part_spec.specs.Marked.{Marked, Taken}
use Rattle.client_laws.proofs.ClientClauses.{Says, nothing_kept, says_more}
use Rattle.client_laws.proofs.ClientLives.{entry_of}
use Rattle.client_laws.proofs.ClientTurns.{count_more}
use Rattle.client_answer_laws.proofs.Asks.{going_makes}
use Rattle.client_answer_laws.proofs.Each.{Each, each_append, each_filter, each_found, each_imply}
use Rattle.client_answer_laws.proofs.Rows.{rows_behind}
use Rattle.client_answer_laws.proofs.Waits.{is_within, le_more, more_operations, within_more}
use Rattle.due_laws.specs.Laws.{AskedWait, forwarded_to, is_asked}

-- whether the desk was asked for the operation of a client with this number
abbrev is_asked_in : ℕ → ℕ → List AskedFor → Bool
is_asked_in c k asked = list_any (λ a. same_op (record { client = c; k = k }) a.op) asked

-- an operation that was asked for is one of the client's, of which there are n
abbrev AskedWithin : ℕ → ℕ → AskedFor → Type 0
AskedWithin c n a = is_within c n a.op ≡ true

-- a row is of one of these operations, and wasn't forwarded where the desk was asked for it
record RowWaits (c n : ℕ) (asked : List AskedFor) (r : ClientRow) : Type 0 where
  within : nat_le r.k n ≡ true
  waits : is_asked_in c r.k asked ≡ true → r.connection ≡ None

-- what is known behind a list
record Stands (c : ℕ) (place : List Entry) (p : ClientState) : Type 0 where
  says : Says c place p
  count : p.count ≡ length (operations c place)
  asks : Each (AskedWithin c (length (operations c place))) p.asked
  rows : Each (RowWaits c (length (operations c place)) p.asked) p.rows

-- the next number wasn't asked for
next_unasked : (c n : ℕ) (asked : List AskedFor) → Each (AskedWithin c n) asked → is_asked_in c (suc n) asked ≡ false
next_unasked c n [] h = refl
next_unasked c n (a ∷ asked) h = false_by (same_op (record { client = c; k = suc n }) a.op || is_asked_in c (suc n) asked) (or_elim (same_op (record { client = c; k = suc n }) a.op) (is_asked_in c (suc n) asked) here (λ j. sym (next_unasked c n asked h.1) ∙ j))
  where
    here : same_op (record { client = c; k = suc n }) a.op ≡ true → false ≡ true
    here j = let low : nat_le a.op.k n ≡ true = right (a.op.client == c && nat_lt 0 a.op.k) _ h.0 in let same : (suc n == a.op.k) ≡ true = right (c == a.op.client) _ j in absurd (grind (arith, nat_tests, low, same))

-- An entry.
module _ (s : Settings) (c at : ℕ) (part : PartName) (mark : Option Taken) (place : List Entry) (p : ClientState) (number : p.number ≡ c) (count : p.count ≡ length (operations c place)) (asks : Each (AskedWithin c (length (operations c place))) p.asked) where
  -- how many operations there are before the entry, and behind it
  abbrev before : ℕ
  before = length (operations c place)

  abbrev later : What → ℕ
  later w = length (operations c (place ++ entry_of part at w ∷ []))

  olders : (w : What) → Each (AskedWithin c (later w)) p.asked
  olders w = each_imply (AskedWithin c before) (AskedWithin c (later w)) p.asked (λ a h. within_more c before (later w) a.op (more_operations c place (entry_of part at w)) h) asks

  -- one operation more behind a message that makes one
  rises : (m : Message) → makes_operation m ≡ true → later (what.In m.id m.rest) ≡ suc before
  rises m makes = count_rises c place (entry_of part at (what.In m.id m.rest)) m (ap put makes)
    where
      put : Bool → Option Message
      put b = elim b [ true ↦ Some (record { id = m.id; rest = m.rest }) | false ↦ None ]

  next_within : (m : Message) → makes_operation m ≡ true → nat_le (suc p.count) (later (what.In m.id m.rest)) ≡ true
  next_within m makes = ap (λ n. nat_le (suc n) (later (what.In m.id m.rest))) count ∙ ap (nat_le (suc before)) (rises m makes) ∙ le_same (suc before)

  abbrev asked_in : Message → Bool → List AskedFor
  asked_in m b = if b then p.asked ++ record { op = next_name p; kind = kind_wanted m } ∷ [] else p.asked

  asks_in : (m : Message) → Each (AskedWithin c (later (what.In m.id m.rest))) (asked_behind s p (what.In m.id m.rest))
  asks_in m = by (lets_go_on (check_at s p m)) (not (is_pinned s p m)) (going_makes s p m)
    where
      by : (a b : Bool) → (a ≡ true → makes_operation m ≡ true) → Each (AskedWithin c (later (what.In m.id m.rest))) (asked_in m (a && b))
      by true true f =
          each_append (AskedWithin c (later (what.In m.id m.rest))) p.asked (record { op = next_name p; kind = kind_wanted m } ∷ []) (olders (what.In m.id m.rest))
          (both (p.number == c && nat_lt 0 (suc p.count)) _ (both (p.number == c) (nat_lt 0 (suc p.count)) (eq_eqb p.number c number) (lt-ltb 0 (suc p.count) (omega arith))) (next_within m (f refl)), tt)
      by true false f = olders (what.In m.id m.rest)
      by false b f = olders (what.In m.id m.rest)

  asks_more : (w : What) → Each (AskedWithin c (later w)) (asked_behind s p w)
  asks_more (what.In id rest) = asks_in (record { id = id; rest = rest })
  asks_more (what.Chosen op a) = each_filter (AskedWithin c (later (what.Chosen op a))) (AskedWithin c (later (what.Chosen op a))) (λ x. not (same_op op x.op)) p.asked (λ x j q. q) (olders (what.Chosen op a))
  asks_more _ = olders _

  -- of the numbers so far, nothing more is asked for
  asked_before : (w : What) (k : ℕ) → nat_le k before ≡ true → is_asked_in c k (asked_behind s p w) ≡ true → is_asked_in c k p.asked ≡ true
  asked_before (what.In id rest) k low h = by (lets_go_on (check_at s p (record { id = id; rest = rest })) && not (is_pinned s p (record { id = id; rest = rest }))) h
    where
      next : (same_op (record { client = c; k = k }) (next_name p) || false) ≡ true → is_asked_in c k p.asked ≡ true
      next j = or_elim (same_op (record { client = c; k = k }) (next_name p)) false (λ i. let same : k ≡ suc before = same_number k (suc p.count) (right (c == p.number) _ i) ∙ ap suc count in absurd (grind (arith, nat_tests, low, same))) (λ i. absurd (let bad : false ≡ true = i in cc)) j

      by : (b : Bool) → is_asked_in c k (asked_in (record { id = id; rest = rest }) b) ≡ true → is_asked_in c k p.asked ≡ true
      by true j = any_split (λ a. same_op (record { client = c; k = k }) a.op) p.asked (record { op = next_name p; kind = kind_wanted (record { id = id; rest = rest }) } ∷ []) (λ i. i) next j
      by false j = j
  asked_before (what.Chosen op a) k low h = any_filtered (λ x. same_op (record { client = c; k = k }) x.op) (λ x. not (same_op op x.op)) p.asked h
  asked_before _ k low h = h

  abbrev Waits : What → ClientRow → Type 0
  Waits w r = RowWaits c (later w) (asked_behind s p w) r

  row_older : (w : What) (r : ClientRow) → RowWaits c before p.asked r → Waits w r
  row_older w r h = record { within = le_more r.k before (later w) h.within (more_operations c place (entry_of part at w)); waits = λ k. h.waits (asked_before w r.k h.within k) }

  row_new : (m : Message) → makes_operation m ≡ true → Waits (what.In m.id m.rest) (new_row s p m)
  row_new m makes = record { within = next_within m makes; waits = by (lets_go_on (check_at s p m)) (is_pinned s p m) }
    where
      unasked : is_asked_in c (suc p.count) p.asked ≡ false
      unasked = ap (λ n. is_asked_in c (suc n) p.asked) count ∙ next_unasked c before p.asked asks

      goes_to : Bool → Option ℕ
      goes_to i = elim i [ true ↦ held_connection p | false ↦ None ]

      by : (a i : Bool) → is_asked_in c (suc p.count) (asked_in m (a && not i)) ≡ true → goes_to i ≡ None
      by a false h = refl
      by true true h = not_both (is_asked_in c (suc p.count) p.asked) h unasked
      by false true h = not_both (is_asked_in c (suc p.count) p.asked) h unasked

  row_forwarded : (op : OpName) (u b : ℕ) (q r : ClientRow) → row_named p op ≡ Some q → Waits (what.Chosen op (Go u b)) r → Waits (what.Chosen op (Go u b)) (forwarded q.k u r)
  row_forwarded op u b q r f h = by (r.k == q.k) refl
    where
      named : (p.number == op.client && q.k == op.k) ≡ true
      named = found_passes (λ x. p.number == op.client && x.k == op.k) p.rows q f

      by : (d : Bool) → (r.k == q.k) ≡ d → Waits (what.Chosen op (Go u b)) (if d then record r { connection = Some (unwrap_or r.connection u) } else r)
      by false j = h
      by true j =
          let k : r.k ≡ op.k = same_number r.k q.k j ∙ same_number q.k op.k (right (p.number == op.client) _ named) in
          let client : c ≡ op.client = sym number ∙ same_number p.number op.client (left (p.number == op.client) _ named) in
          let same : record { client = c; k = r.k } ≡ op = same_op_eq (record { client = c; k = r.k }) op (both (c == op.client) _ (eq_eqb c op.client client) (eq_eqb r.k op.k k)) in
          let none : is_asked_in c r.k (asked_behind s p (what.Chosen op (Go u b))) ≡ false = none_filtered (λ x. same_op (record { client = c; k = r.k }) x.op) (λ x. not (same_op op x.op)) p.asked (λ x i. ap not (ap (λ o. same_op o x.op) (sym same) ∙ i)) in
          record { within = h.within; waits = λ i. not_both (is_asked_in c r.k (asked_behind s p (what.Chosen op (Go u b)))) i none }

  rows_more : (w : What) → Each (RowWaits c before p.asked) p.rows → Each (Waits w) (client_behind s at mark p w).rows
  rows_more w h =
      rows_behind s at mark p (Waits w) (each_imply (RowWaits c before p.asked) (Waits w) p.rows (row_older w) h) w
      (λ m e makes. subst (λ v. Waits v (new_row s p m)) (sym e) (row_new m makes))
      (λ op u b q r e f k. subst (λ v. Waits v (forwarded q.k u r)) (sym e) (row_forwarded op u b q r f (subst (λ v. Waits v r) e k)))

-- A list.
module _ (s : Settings) (c : ℕ) where
  stands_more : (place : List Entry) (p : ClientState) (m : Marked) → Stands c place p → Stands c (place ++ m.entry ∷ []) (step_client s p m)
  stands_more place p m h =
      record {
        says = says_more s c place p m h.says;
        count = count_more s c place m.entry m.mark p h.count;
        asks = asks_more s c m.entry.at m.entry.part m.mark place p h.says.number h.count h.asks m.entry.what;
        rows = rows_more s c m.entry.at m.entry.part m.mark place p h.says.number h.count h.asks m.entry.what h.rows;
      }

  nothing_yet : Stands c [] (empty_client c)
  nothing_yet = record { says = (nothing_kept s c).says; count = refl; asks = tt; rows = tt }

  -- what is asked for waits
  waits_there : (place : List Entry) (p : ClientState) → Stands c place p → (op : OpName) → is_asked p op ≡ true → forwarded_to p op ≡ None
  waits_there place p h op asked = by (row_named p op) refl
    where
      unforwarded : (r : ClientRow) → row_named p op ≡ Some r → r.connection ≡ None
      unforwarded r e =
          let named : (p.number == op.client && r.k == op.k) ≡ true = found_passes (λ x. p.number == op.client && x.k == op.k) p.rows r e in
          let client : c ≡ op.client = sym h.says.number ∙ same_number p.number op.client (left (p.number == op.client) _ named) in
          let k : r.k ≡ op.k = same_number r.k op.k (right (p.number == op.client) _ named) in
          let row : RowWaits c (length (operations c place)) p.asked r = each_found (RowWaits c (length (operations c place)) p.asked) (λ x. p.number == op.client && x.k == op.k) p.rows r e h.rows in
          let same : record { client = c; k = r.k } ≡ op = same_op_eq (record { client = c; k = r.k }) op (both (c == op.client) _ (eq_eqb c op.client client) (eq_eqb r.k op.k k)) in
          row.waits (ap (λ o. list_any (λ a. same_op o a.op) p.asked) same ∙ asked)

      goes_to : Option ClientRow → Option ℕ
      goes_to o = elim o [ None ↦ None | Some r ↦ r.connection ]

      by : (o : Option ClientRow) → row_named p op ≡ o → goes_to o ≡ None
      by None e = refl
      by (Some r) e = unforwarded r e

  stands_behind : (place : List Entry) (p : ClientState) (ms : List Marked) → Stands c place p → (op : OpName) → is_asked (step_clients s p ms) op ≡ true → forwarded_to (step_clients s p ms) op ≡ None
  stands_behind place p [] h = waits_there place p h
  stands_behind place p (m ∷ ms) h = stands_behind (place ++ m.entry ∷ []) (step_client s p m) ms (stands_more place p m h)

pub asked_wait : AskedWait
asked_wait s c list op asked = stands_behind s c [] (empty_client c) list (nothing_yet s c) op asked
