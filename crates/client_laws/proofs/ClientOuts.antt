-- No Out of an operation stands behind its end: an Out goes under the identifier of a live operation, which is the last that
-- took it, or is the notice, under 0.
use Rattle.std.proofs.Common.{◌≡◌, ℕ, suc, ◌+◌, ◌≤◌, Bool, true, false, ◌==◌, ◌&&◌, ◌||◌, not, List, [], ◌∷◌, ◌++◌, length, refl, ap, arith, ◌∙◌, sym, subst}
use Rattle.std.specs.Prelude.{Option, Some, None, map, filter, cond}
use Rattle.std.specs.List.{list_any, list_all}
use Rattle.std.proofs.lemmas.List.{length-append, length-map}
use Rattle.std.proofs.lemmas.List.Elements.{filter-append}
use Rattle.std.proofs.lemmas.List.Folds.{list_any-append, list_all-append, list_all-map}
use Rattle.std.proofs.Math.Bool.{or-false}
use Rattle.ldap_spec.specs.Messages.{Message}
use Rattle.ldap_spec.specs.Kinds.{is_unbind}
use Rattle.lload_names.specs.declared.names.Entry.{Entry}
use Rattle.lload_names.specs.declared.names.What.{What}
use Rattle.lload_names.specs.declared.names.What.TheVariants as what
use Rattle.lload_spec.specs.Lists.{passes, implies}
use Rattle.lload_spec.specs.Entries.{makes_operation, operation_message, out_message}
use Rattle.lload_spec.specs.Operations.{Operation, operations, operation_made, takes_id, is_live, live_operations}
use Rattle.lload_spec.specs.Fifo.{is_ended_once, is_out_before_end}
use Rattle.part_spec.specs.ClientState.{ClientState, ClientRow}
use Rattle.lload_spec.proofs.Growth.{left, right, both, looks_back}
use Rattle.lload_laws.specs.ClientGrowth.{later_operation, new_operation}
use Rattle.lload_laws.proofs.ClientGrowth.{operations_grow}
use Rattle.lload_laws.proofs.ListLaws.{filter-map, filter-ext, all_imply, all_both, all_always}
use Rattle.part_laws.proofs.ListLaws.{not_true, same_number, eqb_sym, or_elim, or_left, or_right}
use Rattle.client_laws.proofs.Matches.{ClientLives, Matches, is_untaken}

-- whether an operation is the last that took an identifier
abbrev pub has_last : ℕ → Operation → Bool
has_last n o = o.request.id == n && is_untaken o

-- there is one at most
pub untaken_later : (e : Entry) (o : Operation) → is_untaken (later_operation e o) ≡ (is_untaken o && not (takes_id o.request.id e))
untaken_later e o = ap not (list_any-append (takes_id o.request.id) o.behind (e ∷ []) ∙ ap (λ b. list_any (takes_id o.request.id) o.behind || b) (or-false (takes_id o.request.id e))) ∙ by (list_any (takes_id o.request.id) o.behind) (takes_id o.request.id e)
  where
    by : (a b : Bool) → not (a || b) ≡ (not a && not b)
    by true b = refl
    by false b = refl

-- where an entry takes an identifier, none before it has it last; else as before
last_later : (n : ℕ) (e : Entry) (t : Bool) → takes_id n e ≡ t → (o : Operation) → has_last n (later_operation e o) ≡ (has_last n o && not t)
last_later n e t h o = ap (λ b. o.request.id == n && b) (untaken_later e o) ∙ by (o.request.id == n) refl
  where
    by : (b : Bool) → (o.request.id == n) ≡ b → (b && (is_untaken o && not (takes_id o.request.id e))) ≡ ((b && is_untaken o) && not t)
    by true k = ap (λ x. is_untaken o && not x) (ap (λ i. takes_id i e) (same_number o.request.id n k) ∙ h)
    by false k = refl

one_last_more : (c n : ℕ) (L : List Entry) (e : Entry) → length (filter (has_last n) (operations c L)) ≤ 1 → length (filter (has_last n) (operations c (L ++ e ∷ []))) ≤ 1
one_last_more c n L e h = subst (λ k. k ≤ 1) (sym grown) (by (operation_message e.what) refl)
  where
    made : Option Message → List Operation
    made m = operation_made c (suc (length (operations c L))) L e [] m

    grown : length (filter (has_last n) (operations c (L ++ e ∷ []))) ≡ length (filter (λ o. has_last n o && not (takes_id n e)) (operations c L)) + length (filter (has_last n) (operation_made c (suc (length (operations c L))) L e [] (operation_message e.what)))
    grown = ap (λ os. length (filter (has_last n) os)) (operations_grow c L e) ∙ ap length (filter-append (has_last n) (map (later_operation e) (operations c L)) (made (operation_message e.what))) ∙ length-append (filter (has_last n) (map (later_operation e) (operations c L))) (filter (has_last n) (made (operation_message e.what))) ∙ ap (λ k. k + length (filter (has_last n) (made (operation_message e.what)))) (ap length (filter-map (has_last n) (later_operation e) (operations c L)) ∙ length-map (filter (λ o. has_last n (later_operation e o)) (operations c L)) (later_operation e) ∙ ap length (filter-ext (λ o. has_last n (later_operation e o)) (λ o. has_last n o && not (takes_id n e)) (operations c L) (last_later n e (takes_id n e) refl)))

    none : (os : List Operation) → filter (λ o. has_last n o && false) os ≡ []
    none [] = refl
    none (o ∷ os) = ap (λ b. cond b (o ∷ filter (λ x. has_last n x && false) os) (filter (λ x. has_last n x && false) os)) (never (has_last n o)) ∙ none os
      where
        never : (b : Bool) → (b && false) ≡ false
        never true = refl
        never false = refl

    same : filter (λ o. has_last n o && true) (operations c L) ≡ filter (has_last n) (operations c L)
    same = filter-ext (λ o. has_last n o && true) (has_last n) (operations c L) (λ o. always (has_last n o))
      where
        always : (b : Bool) → (b && true) ≡ b
        always true = refl
        always false = refl

    one : (m : Message) (b : Bool) → (m.id == n) ≡ b → length (filter (λ o. has_last n o && not b) (operations c L)) + length (filter (has_last n) (made (Some m))) ≤ 1
    one m true k = subst (λ xs. length xs + length (filter (has_last n) (made (Some m))) ≤ 1) (sym (none (operations c L))) (subst (λ b. 0 + length (cond b (new_operation c L e m ∷ []) []) ≤ 1) (sym (ap (λ z. z && true) k)) (omega arith))
    one m false k = subst (λ xs. length xs + length (filter (has_last n) (made (Some m))) ≤ 1) (sym same) (subst (λ b. length (filter (has_last n) (operations c L)) + length (cond b (new_operation c L e m ∷ []) []) ≤ 1) (sym (ap (λ z. z && true) k)) (omega arith))

    by : (m : Option Message) → operation_message e.what ≡ m → length (filter (λ o. has_last n o && not (takes_id n e)) (operations c L)) + length (filter (has_last n) (made (operation_message e.what))) ≤ 1
    by None k = subst (λ x. length (filter (λ o. has_last n o && not (passes (λ y. y.id == n) x)) (operations c L)) + length (filter (has_last n) (made x)) ≤ 1) (sym k) (subst (λ xs. length xs + 0 ≤ 1) (sym same) (omega arith))
    by (Some m) k = subst (λ x. length (filter (λ o. has_last n o && not (passes (λ y. y.id == n) x)) (operations c L)) + length (filter (has_last n) (made x)) ≤ 1) (sym k) (one m (m.id == n) refl)

-- where one that passes is among some, and one passes at most, each that passes is among them
only_these : (t live : Operation → Bool) (xs : List Operation) → list_any t (filter live xs) ≡ true → length (filter t xs) ≤ 1 → list_all (λ x. implies (t x) (live x)) xs ≡ true
only_these t live [] h k = refl
only_these t live (x ∷ xs) h k = more (t x) (live x) refl refl (only_these t live xs) h k
  where
    none_left : (ys : List Operation) → length (filter t ys) ≤ 0 → list_any t (filter live ys) ≡ true → false ≡ true
    none_left [] j i = i
    none_left (y ∷ ys) j i = by (t y) (live y) refl j i (none_left ys)
      where
        by : (a b : Bool) → t y ≡ a → length (cond a (y ∷ filter t ys) (filter t ys)) ≤ 0 → list_any t (cond b (y ∷ filter live ys) (filter live ys)) ≡ true → (length (filter t ys) ≤ 0 → list_any t (filter live ys) ≡ true → false ≡ true) → false ≡ true
        by true b e p q g = absurd (omega (arith, p))
        by false true e p q g = g p (ap (λ z. z || list_any t (filter live ys)) (sym e) ∙ q)
        by false false e p q g = g p q

    rest : (ys : List Operation) → length (filter t ys) ≤ 0 → list_all (λ y. implies (t y) (live y)) ys ≡ true
    rest [] j = refl
    rest (y ∷ ys) j = by (t y) j (rest ys)
      where
        by : (a : Bool) → length (cond a (y ∷ filter t ys) (filter t ys)) ≤ 0 → (length (filter t ys) ≤ 0 → list_all (λ z. implies (t z) (live z)) ys ≡ true) → (implies a (live y) && list_all (λ z. implies (t z) (live z)) ys) ≡ true
        by true p g = absurd (omega (arith, p))
        by false p g = g p

    more : (a b : Bool) → t x ≡ a → live x ≡ b → (list_any t (filter live xs) ≡ true → length (filter t xs) ≤ 1 → list_all (λ y. implies (t y) (live y)) xs ≡ true) → list_any t (cond b (x ∷ filter live xs) (filter live xs)) ≡ true → length (cond a (x ∷ filter t xs) (filter t xs)) ≤ 1 → (implies a b && list_all (λ y. implies (t y) (live y)) xs) ≡ true
    more true true e d ih j i = rest xs (omega (arith, i))
    more true false e d ih j i = absurd (let bad : false ≡ true = none_left xs (omega (arith, i)) j in cc)
    more false true e d ih j i = ih (ap (λ z. z || list_any t (filter live xs)) (sym e) ∙ j) i
    more false false e d ih j i = ih j i

-- the operation of a live identifier is live
pub row_has_last : (n : ℕ) (rs : List ClientRow) (os : List Operation) → Matches rs os → list_all is_untaken os ≡ true → list_any (λ r. r.request.id == n) rs ≡ true → list_any (has_last n) os ≡ true
row_has_last n [] [] m h k = k
row_has_last n (r ∷ rs) (o ∷ os) m h k = or_elim (r.request.id == n) (list_any (λ q. q.request.id == n) rs) (λ j. or_left (has_last n o) _ (both (o.request.id == n) _ (ap (λ i. i == n) (sym m.0.id) ∙ j) (left (is_untaken o) _ h))) (λ j. or_right (has_last n o) _ (row_has_last n rs os m.1 (right (is_untaken o) _ h) j)) k
row_has_last n [] (o ∷ os) m h k = absurd m
row_has_last n (r ∷ rs) [] m h k = absurd m

-- What is kept: one operation at most has an identifier last, none has identifier 0, and each is ended once.
pub record EndsOnce (c : ℕ) (place : List Entry) : Type 0 where
  pub one_last : (n : ℕ) → length (filter (has_last n) (operations c place)) ≤ 1
  pub no_zero : list_all (λ o. not (o.request.id == 0)) (operations c place) ≡ true
  pub ended_once : list_all is_ended_once (operations c place) ≡ true

-- an Out under the identifier of a row, or under 0
abbrev pub is_owed : ClientState → What → Bool
is_owed p w = elim (out_message w) [ None ↦ true | Some m ↦ m.id == 0 || list_any (λ r. r.request.id == m.id) p.rows ]

all_grow : (t : Operation → Bool) (c : ℕ) (L : List Entry) (e : Entry) → list_all (λ o. t (later_operation e o)) (operations c L) ≡ true → list_all t (operation_made c (suc (length (operations c L))) L e [] (operation_message e.what)) ≡ true → list_all t (operations c (L ++ e ∷ [])) ≡ true
all_grow t c L e h k = ap (list_all t) (operations_grow c L e) ∙ list_all-append t (map (later_operation e) (operations c L)) (operation_made c (suc (length (operations c L))) L e [] (operation_message e.what)) ∙ both (list_all t (map (later_operation e) (operations c L))) _ (list_all-map t (later_operation e) (operations c L) ∙ h) k

pub live_known : (c : ℕ) (place : List Entry) (p : ClientState) → ClientLives c place p → EndsOnce c place → (n : ℕ) → list_any (λ r. r.request.id == n) p.rows ≡ true → list_all (λ o. implies (has_last n o) (is_live o)) (operations c place) ≡ true
live_known c place p h k n z = only_these (has_last n) is_live (operations c place) (row_has_last n p.rows (live_operations c place) h.rows h.untaken z) (k.one_last n)

pub ends_once_more : (c : ℕ) (place : List Entry) (e : Entry) (p : ClientState) → ((n : ℕ) → list_any (λ r. r.request.id == n) p.rows ≡ true → list_all (λ o. implies (has_last n o) (is_live o)) (operations c place) ≡ true) → EndsOnce c place → is_owed p e.what ≡ true → EndsOnce c (place ++ e ∷ [])
ends_once_more c place e p h k owed =
    record {
      one_last = λ n. one_last_more c n place e (k.one_last n);
      no_zero = all_grow (λ o. not (o.request.id == 0)) c place e k.no_zero (new_id e.what);
      ended_once = all_grow is_ended_once c place e (all_imply (λ o. is_ended_once o && is_out_before_end o.request o.behind e) (λ o. is_ended_once (later_operation e o)) (operations c place) (λ o j. looks_back (is_out_before_end o.request) o.behind e ∙ j) (all_both is_ended_once (λ o. is_out_before_end o.request o.behind e) (operations c place) k.ended_once (in_time (out_message e.what) refl owed))) (new_once (operation_message e.what));
    }
  where
    new_once : (m : Option Message) → list_all is_ended_once (operation_made c (suc (length (operations c place))) place e [] m) ≡ true
    new_once None = refl
    new_once (Some m) = refl

    new_id : (w : What) → list_all (λ o. not (o.request.id == 0)) (operation_made c (suc (length (operations c place))) place e [] (operation_message w)) ≡ true
    new_id (what.In id rest) = by (makes_operation (record { id = id; rest = rest })) refl
      where
        if_made : Bool → Option Message
        if_made b = elim b [ true ↦ Some (record { id = id; rest = rest }) | false ↦ None ]

        by : (b : Bool) → makes_operation (record { id = id; rest = rest }) ≡ b → list_all (λ o. not (o.request.id == 0)) (operation_made c (suc (length (operations c place))) place e [] (if_made b)) ≡ true
        by false j = refl
        by true j = both (not (id == 0)) true (left (not (id == 0)) _ (left (not (id == 0) && not (is_unbind rest)) _ j)) refl
    new_id _ = refl

    -- an Out is for a live operation
    in_time : (m : Option Message) → out_message e.what ≡ m → (elim m [ None ↦ true | Some x ↦ x.id == 0 || list_any (λ r. r.request.id == x.id) p.rows ]) ≡ true → list_all (λ o. is_out_before_end o.request o.behind e) (operations c place) ≡ true
    in_time None j i = all_always (λ o. is_out_before_end o.request o.behind e) (operations c place) (λ o. ap (λ x. implies (passes (λ y. y.id == o.request.id) x && is_untaken o) (is_live o)) j)
    in_time (Some m) j i = or_elim (m.id == 0) (list_any (λ r. r.request.id == m.id) p.rows) (λ z. all_imply (λ o. not (o.request.id == 0)) (λ o. is_out_before_end o.request o.behind e) (operations c place) (λ o q. ap (λ x. implies (passes (λ y. y.id == o.request.id) x && is_untaken o) (is_live o)) j ∙ ap (λ b. implies (b && is_untaken o) (is_live o)) (eqb_sym m.id o.request.id ∙ ap (λ y. o.request.id == y) (same_number m.id 0 z) ∙ not_true (o.request.id == 0) q)) k.no_zero) (λ z. all_imply (λ o. implies (has_last m.id o) (is_live o)) (λ o. is_out_before_end o.request o.behind e) (operations c place) (λ o q. ap (λ x. implies (passes (λ y. y.id == o.request.id) x && is_untaken o) (is_live o)) j ∙ ap (λ b. implies (b && is_untaken o) (is_live o)) (eqb_sym m.id o.request.id) ∙ q) (h m.id z)) i
