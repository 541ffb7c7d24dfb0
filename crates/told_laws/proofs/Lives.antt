-- The live operations of a client's list, and its rows: what may be told under an identifier.
use Rattle.std.proofs.Common.{◌≡◌, ℕ, suc, ◌+◌, Bool, true, false, ◌==◌, ◌&&◌, ◌||◌, not, List, [], ◌∷◌, ◌++◌, length, refl, ap, ◌∙◌, sym, subst}
use Rattle.std.specs.Prelude.{Some, None, cond, filter, find, map}
use Rattle.std.specs.List.{list_all, list_any}
use Rattle.std.proofs.lemmas.List.Folds.{list_all-append}
use Rattle.lload_names.specs.declared.names.Entry.{Entry}
use Rattle.lload_names.specs.declared.names.OpName.{OpName}
use Rattle.lload_names.specs.declared.names.What.{What}
use Rattle.lload_names.specs.declared.names.What.TheVariants as what
use Rattle.lload_spec.specs.Entries.{makes_operation, operation_message}
use Rattle.lload_spec.specs.FirstCheck.{live_request, may_be_canceled}
use Rattle.lload_spec.specs.Journal.{Family}
use Rattle.lload_spec.specs.Lists.{implies, last_passes, passes}
use Rattle.lload_spec.specs.Operations.{Operation, is_cancel_of, is_live, live_operations, made, operation_in, operation_made, operations, operations_from}
use Rattle.lload_spec.specs.Settings.{Settings}
use Rattle.lload_spec.specs.Strict.{is_choice_for, is_to_ask, may_be_told}
use Rattle.lload_spec.proofs.Growth.{left, right, both}
use Rattle.lload_laws.specs.ClientGrowth.{is_named_within, later_operation}
use Rattle.lload_laws.proofs.ClientGrowth.{own_names}
use Rattle.lload_laws.proofs.ListLaws.{all-map, all_both, all_imply, found, found_passes, implied, implies_by}
use Rattle.part_laws.proofs.ListLaws.{all_kept, eq_eqb, eqb_sym, not_true, or_elim, or_left, or_right, same_number, same_op_eq}
use Rattle.part_spec.specs.ClientState.{ClientRow, ClientState, is_bind_row, row_named}
use Rattle.client_laws.proofs.Matches.{ClientLives, Match, Matches, are_apart, ends_not, is_apart, live_grow}
use Rattle.client_answer_laws.proofs.Each.{Each, each_both, each_filter, each_imply}
use Rattle.forward_laws.proofs.Ops.{own_found}
use Rattle.forward_laws.proofs.Outs.{each_of, one_row}
use Rattle.told_laws.proofs.Expecting.{may_expect}

all_each : {A : Type 0} (t : A → Bool) (xs : List A) → Each (λ x. t x ≡ true) xs → list_all t xs ≡ true
all_each t [] h = refl
all_each t (x ∷ xs) h = both (t x) _ h.0 (all_each t xs h.1)

-- what is so of each row is so of its operation
pub matched_all : (t : ClientRow → Bool) (q : Operation → Bool) (rows : List ClientRow) (os : List Operation) → ((r : ClientRow) (o : Operation) → Match r o → t r ≡ true → q o ≡ true) → Matches rows os → list_all t rows ≡ true → list_all q os ≡ true
matched_all t q [] [] f m h = refl
matched_all t q (r ∷ rows) (o ∷ os) f m h = both (q o) _ (f r o m.0 (left (t r) _ h)) (matched_all t q rows os f m.1 (right (t r) _ h))
matched_all t q [] (o ∷ os) f m h = absurd m
matched_all t q (r ∷ rows) [] f m h = absurd m

-- behind an entry more
pub grown_all : (q t : Operation → Bool) (c : ℕ) (L : List Entry) (e : Entry) → ((o : Operation) → q o ≡ true → t (later_operation e o) ≡ true) → list_all q (live_operations c L) ≡ true → list_all t (operation_made c (suc (length (operations c L))) L e [] (operation_message e.what)) ≡ true → list_all t (live_operations c (L ++ e ∷ [])) ≡ true
grown_all q t c L e f h k = ap (list_all t) (live_grow c L e) ∙ list_all-append t (map (later_operation e) (filter (ends_not e) (live_operations c L))) (operation_made c (suc (length (operations c L))) L e [] (operation_message e.what)) ∙ both (list_all t (map (later_operation e) (filter (ends_not e) (live_operations c L)))) _ (all-map q t (later_operation e) (filter (ends_not e) (live_operations c L)) f (all_kept q (ends_not e) (live_operations c L) h)) k

-- No operation is under identifier 0.
abbrev is_above : Operation → Bool
is_above o = not (o.request.id == 0)

above_from : (c k : ℕ) (before es : List Entry) → list_all is_above (operations_from c k before es) ≡ true
above_from c k before [] = refl
above_from c k before (e ∷ es) = list_all-append is_above (operation_made c (suc k) before e es (operation_message e.what)) (operations_from c (k + made (operation_message e.what)) (before ++ e ∷ []) es) ∙ both (list_all is_above (operation_made c (suc k) before e es (operation_message e.what))) _ (one e.what) (above_from c (k + made (operation_message e.what)) (before ++ e ∷ []) es)
  where
    one : (w : What) → list_all is_above (operation_made c (suc k) before e es (operation_message w)) ≡ true
    one (what.In id rest) = by (makes_operation (record { id = id; rest = rest })) refl
      where
        by : (b : Bool) → makes_operation (record { id = id; rest = rest }) ≡ b → list_all is_above (operation_made c (suc k) before e es (elim b [ true ↦ Some (record { id = id; rest = rest }) | false ↦ None ])) ≡ true
        by true h = both (not (id == 0)) true (left (not (id == 0)) _ (left (not (id == 0) && _) _ h)) refl
        by false h = refl
    one _ = refl

pub zero_told : (q : Operation → Bool) (c : ℕ) (place : List Entry) → list_all (λ o. implies (o.request.id == 0) (q o)) (live_operations c place) ≡ true
zero_told q c place = all_imply is_above (λ o. implies (o.request.id == 0) (q o)) (live_operations c place) (λ o k. ap (λ b. implies b (q o)) (not_true (o.request.id == 0) k)) (all_kept is_above is_live (operations c place) (above_from c 0 [] place))

-- The operation of a row.
module _ (s : Settings) (F : Family) (c : ℕ) (place : List Entry) (p : ClientState) (lives : ClientLives c place p) (number : p.number ≡ c) where
  abbrev same_one : ClientRow → Operation → Bool
  same_one r o = implies (o.request.id == r.request.id) (o.name.k == r.k)

  abbrev same_and_own : ClientRow → Operation → Bool
  same_and_own r o = implies (o.request.id == r.request.id) (o.name.k == r.k) && is_named_within c (length (operations c place)) o

  -- its client may be told what is expected
  pub row_told : (op : OpName) (r : ClientRow) → row_named p op ≡ Some r → may_expect s F c place op ≡ true → list_all (λ o. implies (o.request.id == r.request.id) (may_be_told s F place o)) (live_operations c place) ≡ true
  row_told op r e h = all_each (λ o. implies (o.request.id == r.request.id) (may_be_told s F place o)) (live_operations c place) (each_imply (λ o. (same_and_own r o ≡ true) × (operation_in c place o.name ≡ Some o)) (λ o. implies (o.request.id == r.request.id) (may_be_told s F place o) ≡ true) (live_operations c place) (λ o k. implies_by (o.request.id == r.request.id) _ (λ j. told o (name o k.0 j) k.1)) (each_both (λ o. same_and_own r o ≡ true) (λ o. operation_in c place o.name ≡ Some o) (live_operations c place) (each_of (same_and_own r) (live_operations c place) known) (each_filter (λ o. operation_in c place o.name ≡ Some o) (λ o. operation_in c place o.name ≡ Some o) is_live (operations c place) (λ o z k. k) (own_found c place))))
    where
      named : (p.number == op.client && r.k == op.k) ≡ true
      named = found_passes (λ x. p.number == op.client && x.k == op.k) p.rows r e

      known : list_all (same_and_own r) (live_operations c place) ≡ true
      known =
          all_both (same_one r) (is_named_within c (length (operations c place))) (live_operations c place)
          (matched_all (λ x. implies (x.request.id == r.request.id) (x.k == r.k)) (same_one r) p.rows (live_operations c place) (λ x o m k. subst (λ n. implies (n == r.request.id) (o.name.k == r.k) ≡ true) m.id (subst (λ n. implies (x.request.id == r.request.id) (n == r.k) ≡ true) m.k k)) lives.rows (one_row (λ x. p.number == op.client && x.k == op.k) r p.rows lives.apart e))
          (all_kept (is_named_within c (length (operations c place))) is_live (operations c place) (own_names c place))

      name : (o : Operation) → same_and_own r o ≡ true → (o.request.id == r.request.id) ≡ true → o.name ≡ op
      name o k j =
          let within : is_named_within c (length (operations c place)) o ≡ true = right (same_one r o) _ k in
          let client : o.name.client ≡ op.client = same_number o.name.client c (left (o.name.client == c) _ (left (o.name.client == c && _) _ within)) ∙ sym number ∙ same_number p.number op.client (left (p.number == op.client) _ named) in
          let k_is : o.name.k ≡ op.k = same_number o.name.k r.k (implied (o.request.id == r.request.id) _ (left (same_one r o) _ k) j) ∙ same_number r.k op.k (right (p.number == op.client) _ named) in
          same_op_eq o.name op (both (o.name.client == op.client) _ (eq_eqb o.name.client op.client client) (eq_eqb o.name.k op.k k_is))

      told : (o : Operation) → o.name ≡ op → operation_in c place o.name ≡ Some o → may_be_told s F place o ≡ true
      told o z k =
          or_elim (list_any (is_choice_for op) place) (passes (λ x. not (is_to_ask s F x)) (operation_in c place op))
          (λ j. or_left (list_any (is_choice_for o.name) place || last_passes (is_cancel_of o.request) place) _ (or_left (list_any (is_choice_for o.name) place) _ (subst (λ n. list_any (is_choice_for n) place ≡ true) (sym z) j)))
          (λ j. or_right (list_any (is_choice_for o.name) place || last_passes (is_cancel_of o.request) place) _ (sym (ap (passes (λ x. not (is_to_ask s F x))) (ap (operation_in c place) (sym z) ∙ k)) ∙ j)) h

  -- no row, and so no live operation, has an identifier that isn't in use
  pub none_under : (id : ℕ) → not (list_any (λ r. r.request.id == id) p.rows) ≡ true → list_all (λ o. not (o.request.id == id)) (live_operations c place) ≡ true
  none_under id h = matched_all (λ r. not (r.request.id == id)) (λ o. not (o.request.id == id)) p.rows (live_operations c place) (λ r o m k. subst (λ n. not (n == id) ≡ true) m.id k) lives.rows (none p.rows (not_true (list_any (λ r. r.request.id == id) p.rows) h))
    where
      none : (rows : List ClientRow) → list_any (λ r. r.request.id == id) rows ≡ false → list_all (λ r. not (r.request.id == id)) rows ≡ true
      none [] k = refl
      none (r ∷ rows) k = by (r.request.id == id) refl k (none rows)
        where
          by : (b : Bool) → (r.request.id == id) ≡ b → (b || list_any (λ x. x.request.id == id) rows) ≡ false → (list_any (λ x. x.request.id == id) rows ≡ false → list_all (λ x. not (x.request.id == id)) rows ≡ true) → list_all (λ x. not (x.request.id == id)) (r ∷ rows) ≡ true
          by true z j ih = absurd (let bad : true ≡ false = j in cc)
          by false z j ih = both (not (r.request.id == id)) _ (ap not z) (ih j)

  -- the one that a Cancel may end is no Bind
  pub one_no_bind : (id : ℕ) (rows : List ClientRow) (r : ClientRow) → are_apart rows ≡ true → find (λ x. may_be_canceled id (live_request x.request)) rows ≡ Some r → list_all (λ x. implies (x.request.id == id) (not (is_bind_row x))) rows ≡ true
  one_no_bind id [] r a e = refl
  one_no_bind id (x ∷ rows) r a e = by (x.request.id == id) (is_bind_row x) refl refl e (one_no_bind id rows r (right (list_all (is_apart x) rows) _ a))
    where
      others : list_all (is_apart x) rows ≡ true
      others = left (list_all (is_apart x) rows) _ a

      unlike : (y : ClientRow) → (x.request.id == id) ≡ true → is_apart x y ≡ true → (y.request.id == id) ≡ false
      unlike y z k = eqb_sym y.request.id id ∙ ap (λ n. n == y.request.id) (sym (same_number x.request.id id z)) ∙ not_true (x.request.id == y.request.id) (right (not (x.k == y.k)) _ k)

      by : (b d : Bool) → (x.request.id == id) ≡ b → is_bind_row x ≡ d → cond (b && not d) (Some x) (find (λ y. may_be_canceled id (live_request y.request)) rows) ≡ Some r → (find (λ y. may_be_canceled id (live_request y.request)) rows ≡ Some r → list_all (λ y. implies (y.request.id == id) (not (is_bind_row y))) rows ≡ true) → list_all (λ y. implies (y.request.id == id) (not (is_bind_row y))) (x ∷ rows) ≡ true
      by false d z w k ih = both (implies (x.request.id == id) (not (is_bind_row x))) _ (ap (λ b. implies b (not (is_bind_row x))) z) (ih k)
      by true false z w k ih = both (implies (x.request.id == id) (not (is_bind_row x))) _ (implies_by (x.request.id == id) _ (λ j. ap not w)) (all_imply (is_apart x) (λ y. implies (y.request.id == id) (not (is_bind_row y))) rows (λ y j. ap (λ b. implies b (not (is_bind_row y))) (unlike y z j)) others)
      by true true z w k ih =
          let clash : (r.request.id == id) ≡ false = unlike r z (found (is_apart x) (λ y. may_be_canceled id (live_request y.request)) rows r k others) in
          let same : (r.request.id == id) ≡ true = left (r.request.id == id) _ (found_passes (λ y. may_be_canceled id (live_request y.request)) rows r k) in
          absurd (let bad : false ≡ true = sym clash ∙ same in cc)
