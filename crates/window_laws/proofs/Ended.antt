-- What an entry ends: by the rows that a client's state has behind it, by its live operations, and by its choices.
use Rattle.std.proofs.Common.{◌≡◌, ℕ, suc, Bool, true, false, ◌==◌, ◌||◌, not, List, [], ◌∷◌, ◌++◌, length, refl, ap, ◌∙◌, sym, subst}
use Rattle.std.specs.Prelude.{Option, Some, None, cond, filter, map}
use Rattle.std.specs.List.{list_any, list_all}
use Rattle.std.proofs.lemmas.List.{append-nil}
use Rattle.std.proofs.lemmas.List.Folds.{list_all-append}
use Rattle.lload_names.specs.declared.names.Answer.{Answer}
use Rattle.lload_names.specs.declared.names.Answer.TheVariants.{Go, Busy, Unavailable}
use Rattle.lload_names.specs.declared.names.Entry.{Entry}
use Rattle.lload_spec.specs.Binding.{Choice, choice_made, choice_of, choices, choices_from, is_behind}
use Rattle.lload_spec.specs.ClientCalls.{new_choices}
use Rattle.lload_spec.specs.Entries.{Named, chosen, operation_message}
use Rattle.lload_spec.specs.Lists.{agrees, implies}
use Rattle.lload_spec.specs.Operations.{Operation, is_live, is_live_at, last_bind, live_operations, operation_in, operation_made, operations}
use Rattle.lload_spec.proofs.Growth.{left, right, both}
use Rattle.lload_laws.specs.ClientGrowth.{later_operation}
use Rattle.lload_laws.proofs.ClientGrowth.{holds_of_named}
use Rattle.lload_laws.proofs.ListLaws.{all-filter, all_imply, any-map}
use Rattle.part_laws.proofs.ListLaws.{all_kept}
use Rattle.part_spec.specs.ClientState.{ClientRow, ClientState}
use Rattle.client_laws.proofs.Matches.{ClientLives, Matches, are_apart, ends_not, is_apart, live_grow}
use Rattle.window_laws.proofs.Counts.{are_apart_by, kept_by_key}

-- whether an operation of this number has a row
abbrev pub has_row : List ClientRow → ℕ → Bool
has_row rows k = list_any (λ r. r.k == k) rows

rows_apart : (rows : List ClientRow) → are_apart rows ≡ true → are_apart_by (λ r. r.k) rows ≡ true
rows_apart [] h = refl
rows_apart (r ∷ rows) h = both (list_all (λ y. not (r.k == y.k)) rows) _ (all_imply (is_apart r) (λ y. not (r.k == y.k)) rows (λ y k. left (not (r.k == y.k)) _ k) (left (list_all (is_apart r) rows) _ h)) (rows_apart rows (right (list_all (is_apart r) rows) _ h))

-- rows and operations that match have the same numbers
same_keys : (k : ℕ) (rows : List ClientRow) (os : List Operation) → Matches rows os → has_row rows k ≡ list_any (λ o. o.name.k == k) os
same_keys k [] [] m = refl
same_keys k (r ∷ rows) (o ∷ os) m = ap (λ n. n == k || has_row rows k) m.0.k ∙ ap (λ b. o.name.k == k || b) (same_keys k rows os m.1)
same_keys k [] (o ∷ os) m = absurd m
same_keys k (r ∷ rows) [] m = absurd m

others_apart : (n : ℕ) (rows : List ClientRow) (os : List Operation) → Matches rows os → list_all (λ r. not (n == r.k)) rows ≡ true → list_all (λ o. not (n == o.name.k)) os ≡ true
others_apart n [] [] m h = refl
others_apart n (r ∷ rows) (o ∷ os) m h = both (not (n == o.name.k)) _ (ap (λ k. not (n == k)) (sym m.0.k) ∙ left (not (n == r.k)) _ h) (others_apart n rows os m.1 (right (not (n == r.k)) _ h))
others_apart n [] (o ∷ os) m h = absurd m
others_apart n (r ∷ rows) [] m h = absurd m

operations_apart : (rows : List ClientRow) (os : List Operation) → Matches rows os → are_apart_by (λ r. r.k) rows ≡ true → are_apart_by (λ o. o.name.k) os ≡ true
operations_apart [] [] m h = refl
operations_apart (r ∷ rows) (o ∷ os) m h = both (list_all (λ q. not (o.name.k == q.name.k)) os) _ (others_apart o.name.k rows os m.1 (ap (λ k. list_all (λ y. not (k == y.k)) rows) (sym m.0.k) ∙ left (list_all (λ y. not (r.k == y.k)) rows) _ h)) (operations_apart rows os m.1 (right (list_all (λ y. not (r.k == y.k)) rows) _ h))
operations_apart [] (o ∷ os) m h = absurd m
operations_apart (r ∷ rows) [] m h = absurd m

-- whether an operation, where it is live, goes on behind an entry exactly where its number is kept
abbrev pub is_kept_so : Entry → (ℕ → Bool) → Operation → Bool
is_kept_so e kept o = implies (is_live o) (agrees (ends_not e o) (kept o.name.k))

module _ (c : ℕ) (place : List Entry) (e : Entry) (p q : ClientState) (lives : ClientLives c place p) where
  -- which rows stay
  pub rows_kept : (stays : ClientRow → Bool) → q.rows ≡ filter stays p.rows → list_all (λ r. agrees (stays r) (has_row q.rows r.k)) p.rows ≡ true
  rows_kept stays same = subst (λ rows. list_all (λ r. agrees (stays r) (has_row rows r.k)) p.rows ≡ true) (sym same) (kept_by_key (λ r. r.k) stays p.rows (rows_apart p.rows lives.apart))

  -- which operations go on
  pub operations_kept : operation_message e.what ≡ None → ClientLives c (place ++ e ∷ []) q → list_all (is_kept_so e (has_row q.rows)) (operations c place) ≡ true
  operations_kept none next = sym (all-filter (λ o. agrees (ends_not e o) (has_row q.rows o.name.k)) is_live (operations c place)) ∙ all_imply (λ o. agrees (ends_not e o) (list_any (λ y. y.name.k == o.name.k) stay)) (λ o. agrees (ends_not e o) (has_row q.rows o.name.k)) (live_operations c place) (λ o h. ap (agrees (ends_not e o)) (keys o.name.k) ∙ h) (kept_by_key (λ o. o.name.k) (ends_not e) (live_operations c place) (operations_apart p.rows (live_operations c place) lives.rows (rows_apart p.rows lives.apart)))
    where
      stay : List Operation
      stay = filter (ends_not e) (live_operations c place)

      grown : live_operations c (place ++ e ∷ []) ≡ map (later_operation e) (filter (ends_not e) (live_operations c place))
      grown = live_grow c place e ∙ ap (λ m. map (later_operation e) (filter (ends_not e) (live_operations c place)) ++ operation_made c (suc (length (operations c place))) place e [] m) none ∙ append-nil (map (later_operation e) (filter (ends_not e) (live_operations c place)))

      keys : (k : ℕ) → has_row q.rows k ≡ list_any (λ y. y.name.k == k) (filter (ends_not e) (live_operations c place))
      keys k = same_keys k q.rows (live_operations c (place ++ e ∷ [])) next.rows ∙ ap (list_any (λ y. y.name.k == k)) grown ∙ any-map (λ y. y.name.k == k) (later_operation e) (filter (ends_not e) (live_operations c place))

-- What holds of a client's operations holds of those that were chosen a connection.
module _ (test : Operation → Bool) (c : ℕ) (place : List Entry) (h : list_all test (operations c place) ≡ true) where
  picked : (o : Operation) (a : Answer) → test o ≡ true → list_all (λ (x : Choice). test x.operation) (choice_of o a) ≡ true
  picked o (Go n b) k = both (test o) true k refl
  picked o Busy k = refl
  picked o Unavailable k = refl

  made_all : (before : List Entry) (q : Option (Named Answer)) → list_all (λ (x : Choice). test x.operation) (choice_made c place before q) ≡ true
  made_all before None = refl
  made_all before (Some q) = by (is_live_at c before q.op) (operation_in c place q.op) refl
    where
      by : (b : Bool) (r : Option Operation) → operation_in c place q.op ≡ r → list_all (λ (x : Choice). test x.operation) (cond b (elim r [ None ↦ [] | Some o ↦ choice_of o q.value ]) []) ≡ true
      by false r e = refl
      by true None e = refl
      by true (Some o) e = picked o q.value (holds_of_named test c place q.op o e h)

  all_from : (before es : List Entry) → list_all (λ (x : Choice). test x.operation) (choices_from c place before es) ≡ true
  all_from before [] = refl
  all_from before (e ∷ es) = list_all-append (λ (x : Choice). test x.operation) (choice_made c place before (chosen e.what)) (choices_from c place (before ++ e ∷ []) es) ∙ both (list_all (λ (x : Choice). test x.operation) (choice_made c place before (chosen e.what))) _ (made_all before (chosen e.what)) (all_from (before ++ e ∷ []) es)

  pub choices_all : (e : Entry) → list_all (λ (x : Choice). test x.operation) (choices c place ++ new_choices c place e) ≡ true
  choices_all e =
      list_all-append (λ (x : Choice). test x.operation) (choices c place) (new_choices c place e)
      ∙ both (list_all (λ (x : Choice). test x.operation) (choices c place)) _
      (all_kept (λ (x : Choice). test x.operation) (λ (x : Choice). is_behind (last_bind c place) x.operation) (choices_from c place [] place) (all_from [] place))
      (all_kept (λ (x : Choice). test x.operation) (λ (x : Choice). is_behind (last_bind c place) x.operation) (choice_made c place place (chosen e.what)) (made_all place (chosen e.what)))
