-- Lists of which at most one element passes a test.
use Rattle.std.proofs.Common.{◌≡◌, Bool, true, false, ◌&&◌, ◌||◌, not, List, [], ◌∷◌, ◌++◌, refl, ap, ◌∙◌, sym, Option, Some, None}
use Rattle.std.specs.List.{list_any}
use Rattle.lload_names.specs.declared.names.Letter.{Letter}
use Rattle.lload_names.specs.declared.names.PartName.{PartName}
use Rattle.lload_names.specs.declared.names.Posted.{Posted}
use Rattle.lload_spec.specs.Journal.{same_part}
use Rattle.lload_spec.specs.Lists.{implies}
use Rattle.lload_spec.proofs.Growth.{both, left, right}
use Rattle.part_spec.specs.Marked.{Marked, Taken, letter_from, letters_to, taken_from}
use Rattle.lload_laws.proofs.ListLaws.{any_imply, implied, implies_by}
use Rattle.part_laws.proofs.ListLaws.{any_before, any_behind, false_by, none_of_both, not_true, or_elim, or_left, or_right}
use Rattle.joined_laws.proofs.Taken.{is_mark_from, was_taken}
use Rattle.forward_laws.proofs.Sendings.{given_to}
use Rattle.idle_laws.specs.Laws.{is_once}

pub none_once : {A : Type 0} (t : A → Bool) (xs : List A) → list_any t xs ≡ false → is_once t xs ≡ true
none_once t [] h = refl
none_once t (x ∷ xs) h = by (t x) h (none_once t xs)
  where
    by : (b : Bool) → (b || list_any t xs) ≡ false → (list_any t xs ≡ false → is_once t xs ≡ true) → (implies b (not (list_any t xs)) && is_once t xs) ≡ true
    by true k ih = absurd (let bad : true ≡ false = k in cc)
    by false k ih = ih k

-- two lists, of which one alone has some
pub once_both : {A : Type 0} (t : A → Bool) (xs ys : List A) → is_once t xs ≡ true → is_once t ys ≡ true → (list_any t xs ≡ true → list_any t ys ≡ false) → is_once t (xs ++ ys) ≡ true
once_both t [] ys h k f = k
once_both t (x ∷ xs) ys h k f =
    both (implies (t x) (not (list_any t (xs ++ ys)))) (is_once t (xs ++ ys))
    (implies_by (t x) (not (list_any t (xs ++ ys))) (λ j. ap not (none_of_both t xs ys (not_true (list_any t xs) (implied (t x) (not (list_any t xs)) (left (implies (t x) (not (list_any t xs))) _ h) j)) (f (or_left (t x) (list_any t xs) j)))))
    (once_both t xs ys (right (implies (t x) (not (list_any t xs))) _ h) k (λ j. f (or_right (t x) (list_any t xs) j)))

pub once_first : {A : Type 0} (t : A → Bool) (xs ys : List A) → is_once t (xs ++ ys) ≡ true → is_once t xs ≡ true
once_first t [] ys h = refl
once_first t (x ∷ xs) ys h =
    both (implies (t x) (not (list_any t xs))) (is_once t xs)
    (implies_by (t x) (not (list_any t xs)) (λ j. ap not (false_by (list_any t xs) (λ i. sym (not_true (list_any t (xs ++ ys)) (implied (t x) (not (list_any t (xs ++ ys))) (left (implies (t x) (not (list_any t (xs ++ ys)))) _ h) j)) ∙ any_before t xs ys i))))
    (once_first t xs ys (right (implies (t x) (not (list_any t (xs ++ ys)))) _ h))

-- where the first has some, the second has none
pub once_apart : {A : Type 0} (t : A → Bool) (xs ys : List A) → is_once t (xs ++ ys) ≡ true → list_any t xs ≡ true → list_any t ys ≡ false
once_apart t [] ys h k = absurd (let bad : false ≡ true = k in cc)
once_apart t (x ∷ xs) ys h k =
    or_elim (t x) (list_any t xs)
    (λ j. false_by (list_any t ys) (λ i. sym (not_true (list_any t (xs ++ ys)) (implied (t x) (not (list_any t (xs ++ ys))) (left (implies (t x) (not (list_any t (xs ++ ys)))) _ h) j)) ∙ any_behind t xs ys i))
    (once_apart t xs ys (right (implies (t x) (not (list_any t (xs ++ ys)))) _ h)) k

-- of what goes to a part, and of what was taken from it
pub once_to : (q : PartName) (t : Letter → Bool) (xs : List Posted) → is_once (λ x. t x.letter && same_part q x.to) xs ≡ true → is_once t (letters_to q xs) ≡ true
once_to q t [] h = refl
once_to q t (x ∷ xs) h = by (same_part q x.to) refl (once_to q t xs (right (implies (t x.letter && same_part q x.to) (not (list_any (λ y. t y.letter && same_part q y.to) xs))) _ h))
  where
    by : (b : Bool) → same_part q x.to ≡ b → is_once t (letters_to q xs) ≡ true → is_once t ((elim b [ true ↦ x.letter ∷ [] | false ↦ [] ]) ++ letters_to q xs) ≡ true
    by true e ih =
        both (implies (t x.letter) (not (list_any t (letters_to q xs)))) (is_once t (letters_to q xs))
        (implies_by (t x.letter) (not (list_any t (letters_to q xs))) (λ j. ap not (false_by (list_any t (letters_to q xs)) (λ i. sym (not_true (list_any (λ y. t y.letter && same_part q y.to) xs) (implied (t x.letter && same_part q x.to) (not (list_any (λ y. t y.letter && same_part q y.to) xs)) (left (implies (t x.letter && same_part q x.to) (not (list_any (λ y. t y.letter && same_part q y.to) xs))) _ h) (both (t x.letter) (same_part q x.to) j e))) ∙ any_imply (λ y. same_part q y.to && t y.letter) (λ y. t y.letter && same_part q y.to) xs (λ y k. both (t y.letter) (same_part q y.to) (right (same_part q y.to) _ k) (left (same_part q y.to) _ k)) (given_to q t xs i)))))
        ih
    by false e ih = ih

pub once_marked : (p : PartName) (t : Letter → Bool) (ms : List Marked) → is_once t (taken_from p ms) ≡ true → is_once (λ m. is_mark_from p t m.mark) ms ≡ true
once_marked p t [] h = refl
once_marked p t (m ∷ ms) h =
    both (implies (is_mark_from p t m.mark) (not (list_any (λ x. is_mark_from p t x.mark) ms))) (is_once (λ x. is_mark_from p t x.mark) ms)
    (implies_by (is_mark_from p t m.mark) (not (list_any (λ x. is_mark_from p t x.mark) ms)) (λ j. ap not (false_by (list_any (λ x. is_mark_from p t x.mark) ms) (λ i. sym (once_apart t (letter_from p m.mark) (taken_from p ms) h (here m.mark j)) ∙ was_taken p t ms i))))
    (once_marked p t ms (rest (letter_from p m.mark) h))
  where
    here : (o : Option Taken) → is_mark_from p t o ≡ true → list_any t (letter_from p o) ≡ true
    here None k = absurd (let bad : false ≡ true = k in cc)
    here (Some y) k = by (same_part p y.sender) k
      where
        by : (b : Bool) → (b && t y.letter) ≡ true → list_any t (elim b [ true ↦ y.letter ∷ [] | false ↦ [] ]) ≡ true
        by true i = or_left (t y.letter) false i
        by false i = absurd (let bad : false ≡ true = i in cc)

    rest : (xs : List Letter) → is_once t (xs ++ taken_from p ms) ≡ true → is_once t (taken_from p ms) ≡ true
    rest [] k = k
    rest (x ∷ xs) k = rest xs (right (implies (t x) (not (list_any t (xs ++ taken_from p ms)))) _ k)
