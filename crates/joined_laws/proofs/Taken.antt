-- What was taken was given: a letter that a mark carries is among those that the sender's list gives, and is given there
-- at one of its entries.
use Rattle.std.proofs.Common.{◌≡◌, Bool, true, false, ◌&&◌, not, List, [], ◌∷◌, ◌++◌, refl, ap, sym, subst}
use Rattle.std.specs.Prelude.{Option, Some, None}
use Rattle.std.specs.List.{list_any}
use Rattle.lload_names.specs.declared.names.Letter.{Letter}
use Rattle.lload_names.specs.declared.names.PartName.{PartName}
use Rattle.lload_names.specs.declared.names.Posted.{Posted}
use Rattle.lload_spec.specs.Lists.{passes}
use Rattle.lload_spec.specs.Settings.{Settings}
use Rattle.lload_spec.specs.Journal.{Family, same_part}
use Rattle.lload_spec.proofs.Growth.{left}
use Rattle.part_spec.specs.Fit.{is_unfit}
use Rattle.part_spec.specs.Gives.{gives, gives_from}
use Rattle.part_spec.specs.Linked.{Linked}
use Rattle.part_spec.specs.Marked.{Marked, Taken, taken_from, letter_from, letters_to}
use Rattle.part_laws.proofs.ListLaws.{any_before, any_behind, any_split, or_elim, or_left, or_right}

-- whether a mark is of such a letter of this sender
abbrev pub is_mark_from : PartName → (Letter → Bool) → Option Taken → Bool
is_mark_from p test mark = passes (λ t. same_part p t.sender && test t.letter) mark

mark_taken : (p : PartName) (test : Letter → Bool) (mark : Option Taken) → is_mark_from p test mark ≡ true → list_any test (letter_from p mark) ≡ true
mark_taken p test None h = absurd (let bad : false ≡ true = h in cc)
mark_taken p test (Some t) h = by (same_part p t.sender) h
  where
    by : (b : Bool) → (b && test t.letter) ≡ true → list_any test (elim b [ true ↦ t.letter ∷ [] | false ↦ [] ]) ≡ true
    by true k = or_left (test t.letter) false k
    by false k = absurd (let bad : false ≡ true = k in cc)

-- the letter of a mark was taken
pub was_taken : (p : PartName) (test : Letter → Bool) (ms : List Marked) → list_any (λ m. is_mark_from p test m.mark) ms ≡ true → list_any test (taken_from p ms) ≡ true
was_taken p test [] h = absurd (let bad : false ≡ true = h in cc)
was_taken p test (m ∷ ms) h =
    or_elim (is_mark_from p test m.mark) (list_any (λ x. is_mark_from p test x.mark) ms)
    (λ k. any_before test (letter_from p m.mark) (taken_from p ms) (mark_taken p test m.mark k))
    (λ k. any_behind test (letter_from p m.mark) (taken_from p ms) (was_taken p test ms k)) h

-- what was taken was given
pub was_given : (s : Settings) (F : Family) (marked : PartName → List Marked) → Linked s F marked → (p q : PartName) (test : Letter → Bool) → list_any (λ m. is_mark_from p test m.mark) (marked q) ≡ true → list_any test (letters_to q (gives s p (marked p))) ≡ true
was_given s F marked linked p q test h =
    let begun = linked.in_order p q in
    subst (λ l. list_any test l ≡ true) (sym begun.1) (any_before test (taken_from p (marked q)) begun.0 (was_taken p test (marked q) h))

-- the letters of two lists to a part
pub letters_to_both : (q : PartName) (xs ys : List Posted) → letters_to q (xs ++ ys) ≡ letters_to q xs ++ letters_to q ys
letters_to_both q [] ys = refl
letters_to_both q (x ∷ xs) ys = by (same_part q x.to) (letters_to_both q xs ys)
  where
    by : (b : Bool) → letters_to q (xs ++ ys) ≡ letters_to q xs ++ letters_to q ys → (elim b [ true ↦ x.letter ∷ [] | false ↦ [] ]) ++ letters_to q (xs ++ ys) ≡ ((elim b [ true ↦ x.letter ∷ [] | false ↦ [] ]) ++ letters_to q xs) ++ letters_to q ys
    by true e = ap (λ l. x.letter ∷ l) e
    by false e = e

-- such a letter is given at an entry, where each that gives one is of this sort
pub given_at : {A : Type 0} (step : A → Marked → A) (letters : A → Marked → List Posted) (q : PartName) (test : Letter → Bool) (sort : Marked → Bool) → ((state : A) (m : Marked) → list_any test (letters_to q (letters state m)) ≡ true → sort m ≡ true) → (state : A) (ms : List Marked) → list_any test (letters_to q (gives_from step letters state ms)) ≡ true → list_any sort ms ≡ true
given_at step letters q test sort says state [] h = absurd (let bad : false ≡ true = h in cc)
given_at step letters q test sort says state (m ∷ ms) h =
    any_split test (letters_to q (letters state m)) (letters_to q (gives_from step letters (step state m) ms))
    (λ k. or_left (sort m) (list_any sort ms) (says state m k))
    (λ k. or_right (sort m) (list_any sort ms) (given_at step letters q test sort says (step state m) ms k))
    (subst (λ l. list_any test l ≡ true) (letters_to_both q (letters state m) (gives_from step letters (step state m) ms)) h)

-- the letter of a mark is fit, where all are
pub is_fit_there : {A : Type 0} (fits : A → PartName → Letter → Bool) (ledger : A) (t : Taken) (rest : Bool) → (not (is_unfit fits ledger (Some t)) && rest) ≡ true → fits ledger t.sender t.letter ≡ true
is_fit_there fits ledger t rest h = by (fits ledger t.sender t.letter) (left (not (is_unfit fits ledger (Some t))) rest h)
  where
    by : (b : Bool) → not (not b) ≡ true → b ≡ true
    by true k = refl
    by false k = k
