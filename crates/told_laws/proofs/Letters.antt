-- The letters that a client takes for an operation: answers, and refusals of a connection.
use Rattle.std.proofs.Common.{◌≡◌, ℕ, Bool, true, false, ◌&&◌, List, [], ◌∷◌, ◌++◌, refl, ap, ◌∙◌, sym}
use Rattle.std.specs.Prelude.{Option, Some, None, cond, filter, if◌then◌else◌}
use Rattle.std.specs.List.{list_all}
use Rattle.std.proofs.lemmas.List.Elements.{filter-append}
use Rattle.lload_names.specs.declared.names.Letter.{Letter}
use Rattle.lload_names.specs.declared.names.Letter.TheVariants.{Failed, Reply}
use Rattle.lload_names.specs.declared.names.OpName.{OpName}
use Rattle.lload_names.specs.declared.names.PartName.TheVariants.{Up as Connection}
use Rattle.lload_spec.specs.Journal.{same_op, same_part}
use Rattle.lload_spec.specs.Lists.{implies, passes}
use Rattle.lload_spec.proofs.Growth.{left, right}
use Rattle.part_spec.specs.Marked.{Marked, Taken, letter_from, taken_from}
use Rattle.part_spec.specs.Share.{answer_told, replies, reply_rest}
use Rattle.joined_laws.proofs.Taken.{is_mark_from}
use Rattle.answer_laws.proofs.Rests.{rests, rests_both}

-- whether a letter answers or refuses this operation
abbrev pub of_operation : OpName → Letter → Bool
of_operation op (Reply o rest is_last who) = same_op op o
of_operation op (Failed o which) = same_op op o
of_operation op _ = false

abbrev pub is_mark_of : OpName → Option Taken → Bool
is_mark_of op mark = passes (λ t. of_operation op t.letter) mark

-- whether a mark of such a letter is from this connection
abbrev pub is_from : ℕ → OpName → Option Taken → Bool
is_from u op mark = implies (is_mark_of op mark) (is_mark_from (Connection u) (of_operation op) mark)

-- those of a list, in order
abbrev pub letter_for : OpName → Option Taken → List Letter
letter_for op None = []
letter_for op (Some t) = if of_operation op t.letter then t.letter ∷ [] else []

abbrev pub letters_for : OpName → List Marked → List Letter
letters_for op [] = []
letters_for op (m ∷ ms) = letter_for op m.mark ++ letters_for op ms

module _ (op : OpName) where
  -- they are those that were taken of the one connection
  pub letters_are : (u : ℕ) (ms : List Marked) → list_all (λ m. is_from u op m.mark) ms ≡ true → letters_for op ms ≡ filter (of_operation op) (taken_from (Connection u) ms)
  letters_are u [] h = refl
  letters_are u (m ∷ ms) h = ap (λ l. l ++ letters_for op ms) (one m.mark (left (is_from u op m.mark) _ h)) ∙ ap (λ l. filter (of_operation op) (letter_from (Connection u) m.mark) ++ l) (letters_are u ms (right (is_from u op m.mark) _ h)) ∙ sym (filter-append (of_operation op) (letter_from (Connection u) m.mark) (taken_from (Connection u) ms))
    where
      one : (mark : Option Taken) → is_from u op mark ≡ true → letter_for op mark ≡ filter (of_operation op) (letter_from (Connection u) mark)
      one None k = refl
      one (Some t) k = by (same_part (Connection u) t.sender) (of_operation op t.letter) refl k
        where
          by : (a b : Bool) → of_operation op t.letter ≡ b → implies b (a && b) ≡ true → (if b then t.letter ∷ [] else []) ≡ filter (of_operation op) (elim a [ true ↦ t.letter ∷ [] | false ↦ [] ])
          by true b e j = ap (λ x. cond x (t.letter ∷ []) []) (sym e)
          by false true e j = absurd (let bad : false ≡ true = j in cc)
          by false false e j = refl

  -- the rests of the answers among letters are those of the letters for the operation
  pub rests_for : (xs : List Letter) → rests op (filter (of_operation op) xs) ≡ rests op xs
  rests_for [] = refl
  rests_for (x ∷ xs) = by (of_operation op x) refl (rests_for xs)
    where
      none : (y : Letter) → of_operation op y ≡ false → answer_told op y ≡ []
      none (Reply o rest is_last who) e = ap (λ b. if b then rest ∷ [] else []) e
      none _ e = refl

      by : (b : Bool) → of_operation op x ≡ b → rests op (filter (of_operation op) xs) ≡ rests op xs → rests op (cond b (x ∷ filter (of_operation op) xs) (filter (of_operation op) xs)) ≡ answer_told op x ++ rests op xs
      by true e ih = ap (λ l. answer_told op x ++ l) ih
      by false e ih = ih ∙ ap (λ l. l ++ rests op xs) (sym (none x e))

  pub replies_are : (ms : List Marked) → replies ms op ≡ rests op (letters_for op ms)
  replies_are [] = refl
  replies_are (m ∷ ms) = ap (λ l. l ++ replies ms op) (one m.mark) ∙ ap (λ l. rests op (letter_for op m.mark) ++ l) (replies_are ms) ∙ sym (rests_both op (letter_for op m.mark) (letters_for op ms))
    where
      nothing : (xs : List (List ℕ)) → xs ≡ xs ++ []
      nothing [] = refl
      nothing (x ∷ xs) = ap (λ l. x ∷ l) (nothing xs)

      one : (mark : Option Taken) → reply_rest op mark ≡ rests op (letter_for op mark)
      one None = refl
      one (Some t) = by (of_operation op t.letter) refl
        where
          none : (y : Letter) → of_operation op y ≡ false → answer_told op y ≡ []
          none (Reply o rest is_last who) e = ap (λ b. if b then rest ∷ [] else []) e
          none _ e = refl

          by : (b : Bool) → of_operation op t.letter ≡ b → answer_told op t.letter ≡ rests op (if b then t.letter ∷ [] else [])
          by true e = nothing (answer_told op t.letter)
          by false e = none t.letter e
