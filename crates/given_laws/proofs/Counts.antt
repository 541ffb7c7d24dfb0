-- How many letters answer or refuse an operation, among those that a connection gives.
use Rattle.std.proofs.Common.{◌≡◌, ℕ, suc, ◌+◌, ◌≤◌, Bool, true, false, not, List, [], ◌∷◌, ◌++◌, length, arith, refl, ap, ◌∙◌}
use Rattle.std.specs.Prelude.{Option, Some, None, cond, filter, flat_map, if◌then◌else◌}
use Rattle.std.specs.List.{list_all}
use Rattle.std.proofs.lemmas.List.{length-append}
use Rattle.std.proofs.lemmas.List.Elements.{filter-append}
use Rattle.std.proofs.lemmas.List.Folds.{list_all-append}
use Rattle.lload_names.specs.declared.names.Letter.{Letter}
use Rattle.lload_names.specs.declared.names.Letter.TheVariants.{Failed, IsDown, Reply}
use Rattle.lload_names.specs.declared.names.OpName.{OpName}
use Rattle.lload_names.specs.declared.names.PartName.TheVariants.{Client, Desk}
use Rattle.lload_names.specs.declared.names.Posted.{Posted}
use Rattle.lload_names.specs.declared.names.Refusal.TheVariants.{C4}
use Rattle.lload_spec.specs.Journal.{same_op, same_part}
use Rattle.lload_spec.proofs.Growth.{left, right, both}
use Rattle.lload_laws.proofs.ListLaws.{all_imply}
use Rattle.part_laws.proofs.ListLaws.{not_true, same_op_eq}
use Rattle.part_spec.specs.ConnectionState.{ConnectionState, UpRow, is_bind}
use Rattle.part_spec.specs.ConnectionTurn.{down_letters, ended, holder_ended, loss, row_ended}
use Rattle.part_spec.specs.Inputs.{failed, to}
use Rattle.part_spec.specs.Marked.{letters_to}
use Rattle.connection_laws.proofs.Apart.{are_apart, is_apart}
use Rattle.joined_laws.proofs.Taken.{letters_to_both}
use Rattle.fifo_laws.proofs.Quiet.{is_other}
use Rattle.answer_laws.proofs.Rests.{rests, told}
use Rattle.told_laws.proofs.Letters.{of_operation}
use Rattle.given_laws.specs.Laws.{is_letter_for}

-- how many of these letters answer or refuse the operation
abbrev pub count : OpName → List Posted → ℕ
count op xs = length (filter (is_letter_for op) (letters_to (Client op.client) xs))

-- whether a letter is none of these
abbrev pub is_silent : OpName → Letter → Bool
is_silent op x = not (of_operation op x)

abbrev pub are_silent : OpName → List Posted → Bool
are_silent op xs = list_all (λ (x : Posted). is_silent op x.letter) xs

-- whether a letter refuses the operation
abbrev pub is_refusal : OpName → Letter → Bool
is_refusal op (Failed o which) = same_op op o
is_refusal op _ = false

pub same_letters : (op : OpName) (x : Letter) → is_letter_for op x ≡ of_operation op x
same_letters op (Reply o rest is_last who) = refl
same_letters op (Failed o which) = refl
same_letters op _ = refl

module _ (op : OpName) where
  pub count_both : (xs ys : List Posted) → count op (xs ++ ys) ≡ count op xs + count op ys
  count_both xs ys = ap (λ l. length (filter (is_letter_for op) l)) (letters_to_both (Client op.client) xs ys) ∙ ap length (filter-append (is_letter_for op) (letters_to (Client op.client) xs) (letters_to (Client op.client) ys)) ∙ length-append (filter (is_letter_for op) (letters_to (Client op.client) xs)) (filter (is_letter_for op) (letters_to (Client op.client) ys))

  pub silent_none : (xs : List Posted) → are_silent op xs ≡ true → count op xs ≡ 0
  silent_none [] h = refl
  silent_none (x ∷ xs) h = by (same_part (Client op.client) x.to) (same_letters op x.letter ∙ not_true (of_operation op x.letter) (left (is_silent op x.letter) _ h)) (silent_none xs (right (is_silent op x.letter) _ h))
    where
      by : (b : Bool) → is_letter_for op x.letter ≡ false → count op xs ≡ 0 → length (filter (is_letter_for op) ((elim b [ true ↦ x.letter ∷ [] | false ↦ [] ]) ++ letters_to (Client op.client) xs)) ≡ 0
      by true e k = ap (λ c. length (cond c (x.letter ∷ filter (is_letter_for op) (letters_to (Client op.client) xs)) (filter (is_letter_for op) (letters_to (Client op.client) xs)))) e ∙ k
      by false e k = k

  -- no more than there are
  pub count_few : (x : Posted) → count op (x ∷ []) ≤ 1
  count_few x = by (same_part (Client op.client) x.to) (is_letter_for op x.letter)
    where
      one : (c : Bool) → length (cond c (x.letter ∷ []) []) ≤ 1
      one true = omega arith
      one false = omega arith

      by : (a b : Bool) → length (filter (is_letter_for op) ((elim a [ true ↦ x.letter ∷ [] | false ↦ [] ]) ++ [])) ≤ 1
      by true b = one (is_letter_for op x.letter)
      by false b = omega arith

  -- where none refuses it they are its answers
  pub count_answers : (xs : List Posted) → list_all (λ (x : Posted). not (is_refusal op x.letter)) xs ≡ true → count op xs ≡ length (told op xs)
  count_answers [] h = refl
  count_answers (x ∷ xs) h = by (same_part (Client op.client) x.to) (count_answers xs (right (not (is_refusal op x.letter)) _ h))
    where
      one : (y : Letter) → not (is_refusal op y) ≡ true → count op xs ≡ length (told op xs) → length (cond (is_letter_for op y) (y ∷ filter (is_letter_for op) (letters_to (Client op.client) xs)) (filter (is_letter_for op) (letters_to (Client op.client) xs))) ≡ length (rests op (y ∷ letters_to (Client op.client) xs))
      one (Reply o rest is_last who) j k = on (same_op op o)
        where
          on : (c : Bool) → length (cond c (Reply o rest is_last who ∷ filter (is_letter_for op) (letters_to (Client op.client) xs)) (filter (is_letter_for op) (letters_to (Client op.client) xs))) ≡ length ((if c then rest ∷ [] else []) ++ rests op (letters_to (Client op.client) xs))
          on true = ap suc k
          on false = k
      one (Failed o which) j k = ap (λ c. length (cond c (Failed o which ∷ filter (is_letter_for op) (letters_to (Client op.client) xs)) (filter (is_letter_for op) (letters_to (Client op.client) xs)))) (not_true (same_op op o) j) ∙ k
      one _ j k = k

      by : (b : Bool) → count op xs ≡ length (told op xs) → length (filter (is_letter_for op) ((elim b [ true ↦ x.letter ∷ [] | false ↦ [] ]) ++ letters_to (Client op.client) xs)) ≡ length (rests op ((elim b [ true ↦ x.letter ∷ [] | false ↦ [] ]) ++ letters_to (Client op.client) xs))
      by true k = one x.letter (left (not (is_refusal op x.letter)) _ h) k
      by false k = k

  -- The end of a connection.

  pub holder_silent : (p : ConnectionState) → are_silent op (holder_ended p) ≡ true
  holder_silent p = by p.holder
    where
      by : (o : Option OpName) → are_silent op (elim o [ None ↦ [] | Some x ↦ ended p x None ]) ≡ true
      by None = refl
      by (Some x) = refl

  row_silent : (p : ConnectionState) (r : UpRow) → are_silent op (row_ended p r None) ≡ true
  row_silent p r = by (is_bind p)
    where
      by : (b : Bool) → are_silent op (elim b [ true ↦ [] | false ↦ ended p r.op None ]) ≡ true
      by true = refl
      by false = refl

  loss_few : (p : ConnectionState) (r : UpRow) → count op (loss p r) ≤ 1
  loss_few p r =
      let all : count op (loss p r) ≡ count op (failed r.op C4) + count op (row_ended p r None) = count_both (failed r.op C4) (row_ended p r None) in
      let none : count op (row_ended p r None) ≡ 0 = silent_none (row_ended p r None) (row_silent p r) in
      let few : count op (failed r.op C4) ≤ 1 = count_few (record { to = Client r.op.client; letter = Failed r.op C4 }) in
      omega (arith, all, none, few)

  losses_silent : (p : ConnectionState) (rows : List UpRow) → list_all (is_other op) rows ≡ true → are_silent op (flat_map (loss p) rows) ≡ true
  losses_silent p [] h = refl
  losses_silent p (r ∷ rows) h =
      list_all-append (λ (x : Posted). is_silent op x.letter) (loss p r) (flat_map (loss p) rows)
      ∙ both (are_silent op (loss p r)) _ (both (is_silent op (Failed r.op C4)) _ (left (is_other op r) _ h) (row_silent p r)) (losses_silent p rows (right (is_other op r) _ h))

  losses_few : (p : ConnectionState) (rows : List UpRow) → are_apart rows ≡ true → count op (flat_map (loss p) rows) ≤ 1
  losses_few p [] h = omega arith
  losses_few p (r ∷ rows) h = by (same_op op r.op) refl (losses_few p rows (right (list_all (is_apart r) rows) _ h))
    where
      all : count op (flat_map (loss p) (r ∷ rows)) ≡ count op (loss p r) + count op (flat_map (loss p) rows)
      all = count_both (loss p r) (flat_map (loss p) rows)

      by : (b : Bool) → same_op op r.op ≡ b → count op (flat_map (loss p) rows) ≤ 1 → count op (flat_map (loss p) (r ∷ rows)) ≤ 1
      by true e k =
          let none : count op (flat_map (loss p) rows) ≡ 0 = silent_none (flat_map (loss p) rows) (losses_silent p rows (all_imply (is_apart r) (is_other op) rows (λ q j. ap (λ o. not (same_op o q.op)) (same_op_eq op r.op e) ∙ left (not (same_op r.op q.op)) _ j) (left (list_all (is_apart r) rows) _ h))) in
          let few : count op (loss p r) ≤ 1 = loss_few p r in
          omega (arith, all, none, few)
      by false e k =
          let none : count op (loss p r) ≡ 0 = silent_none (loss p r) (both (is_silent op (Failed r.op C4)) _ (ap not e) (row_silent p r)) in
          omega (arith, all, none, k)

  -- each operation is lost once
  pub down_few : (p : ConnectionState) → are_apart p.rows ≡ true → count op (down_letters p) ≤ 1
  down_few p h =
      let all : count op (down_letters p) ≡ count op (flat_map (loss p) p.rows) + count op (holder_ended p ++ to Desk (IsDown p.number)) = count_both (flat_map (loss p) p.rows) (holder_ended p ++ to Desk (IsDown p.number)) in
      let none : count op (holder_ended p ++ to Desk (IsDown p.number)) ≡ 0 = silent_none (holder_ended p ++ to Desk (IsDown p.number)) (list_all-append (λ (x : Posted). is_silent op x.letter) (holder_ended p) (to Desk (IsDown p.number)) ∙ both (are_silent op (holder_ended p)) _ (holder_silent p) refl) in
      let few : count op (flat_map (loss p) p.rows) ≤ 1 = losses_few p p.rows h in
      omega (arith, all, none, few)
