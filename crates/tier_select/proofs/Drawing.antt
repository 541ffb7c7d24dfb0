-- A weighted order, one draw after the other.
use Rattle.std.proofs.Common.{◌≡◌, ◌≢◌, ℕ, zero, suc, ◌+◌, ◌-◌, ◌/◌, ◌%◌, ◌<◌, true, false, ◌==◌, nat_lt, List, [], ◌∷◌, ◌++◌, length, take, drop, get_or, refl, sym, ap, ◌∙◌, arith, append_assoc, length-append}
use Rattle.std.proofs.lemmas.Bool.Decides.{nat_tests}
use Rattle.std.proofs.lemmas.List.{append-nil, take_more, length-take-le, drop_at, take_at}
use Rattle.lload_spec.specs.Picks.{total_weight, drawn_first, draws, weighted, keep_first}

module _ {A : Type 0} (weight : A → ℕ) where
  pub total-append : (xs ys : List A) → total_weight weight (xs ++ ys) ≡ total_weight weight xs + total_weight weight ys
  total-append [] ys = omega arith
  total-append (x ∷ xs) ys = let e = total-append xs ys in omega arith

  -- a draw changes the order alone
  pub total-drawn : (x : ℕ) (before xs : List A) → total_weight weight (drawn_first weight x before xs) ≡ total_weight weight (before ++ xs)
  total-drawn x before [] = rw append-nil refl
  total-drawn x before (y ∷ ys) =
      elim (nat_lt x (weight y)) as (λ b. total_weight weight (elim b [ true ↦ y ∷ (before ++ ys) | false ↦ drawn_first weight (x - weight y) (before ++ y ∷ []) ys ]) ≡ total_weight weight (before ++ y ∷ ys)) [
        | true ↦ omega (arith, total-append before ys, total-append before (y ∷ ys))
        | false ↦ total-drawn (x - weight y) (before ++ y ∷ []) ys ∙ ap (total_weight weight) (append_assoc before (y ∷ []) ys)
      ]

  pub length-drawn : (x : ℕ) (before xs : List A) → length (drawn_first weight x before xs) ≡ length (before ++ xs)
  length-drawn x before [] = rw append-nil refl
  length-drawn x before (y ∷ ys) =
      elim (nat_lt x (weight y)) as (λ b. length {A = A} (elim b [ true ↦ y ∷ (before ++ ys) | false ↦ drawn_first weight (x - weight y) (before ++ y ∷ []) ys ]) ≡ length (before ++ y ∷ ys)) [
        | true ↦ omega (arith, length-append before ys, length-append before (y ∷ ys))
        | false ↦ length-drawn (x - weight y) (before ++ y ∷ []) ys ∙ ap (length {A = A}) (append_assoc before (y ∷ []) ys)
      ]

  -- without weight the order stays
  pub draws-none : (k w : ℕ) (xs : List A) → total_weight weight xs ≡ 0 → draws weight k w xs ≡ xs
  draws-none zero w xs e = refl
  draws-none (suc k) w xs e = let none : (total_weight weight xs == 0) ≡ true = grind (arith, nat_tests, e) in rw (none, draws) refl

  -- the first of a weighted order, and the weighted order of the others
  pub weighted-none : (w : ℕ) (xs : List A) → total_weight weight xs ≡ 0 → weighted weight w xs ≡ keep_first (weighted weight w) xs
  weighted-none w [] e = refl
  weighted-none w (x ∷ xs) e =
      draws-none (length (x ∷ xs)) w (x ∷ xs) e ∙ sym (ap (λ ys. x ∷ ys) (draws-none (length xs) w xs (omega arith)))

  keep_first-draws : (k w : ℕ) (xs : List A) → length xs ≡ suc k → keep_first (draws weight k w) xs ≡ keep_first (weighted weight w) xs
  keep_first-draws k w [] e = refl
  keep_first-draws k w (x ∷ xs) e = let same : k ≡ length xs = omega arith in ap (λ n. x ∷ draws weight n w xs) same

  pub weighted-drawn : (w : ℕ) (xs : List A) → total_weight weight xs ≢ 0 → weighted weight w xs ≡ keep_first (weighted weight (w / total_weight weight xs)) (drawn_first weight (w % total_weight weight xs) [] xs)
  weighted-drawn w [] h = refl
  weighted-drawn w (x ∷ xs) h =
      let total = total_weight weight (x ∷ xs) in
      let some : (total == 0) ≡ false = grind (arith, nat_tests, h) in
      rw (some, draws) (keep_first-draws (length xs) (w / total) (drawn_first weight (w % total) [] (x ∷ xs)) (length-drawn (w % total) [] (x ∷ xs)))

module _ {A : Type 0} where
  -- turning the front of a list by one, up to an index, brings the element there to the front
  pub rotated : (xs ys : List A) (i : ℕ) (d : A) → i < length xs → ys ≡ drop (length (take (i + 1) xs) - 1) (take (i + 1) xs) ++ take (length (take (i + 1) xs) - 1) (take (i + 1) xs) → ys ++ drop (i + 1) xs ≡ get_or xs i d ∷ (take i xs ++ drop (i + 1) xs)
  rotated xs ys i d h e =
      let front = take_more xs i d h in
      let long = length-take-le i xs (omega arith) in
      let last : length (take (i + 1) xs) - 1 ≡ i = omega (arith, length-take-le (i + 1) xs (omega arith)) in
      let turned : ys ≡ get_or xs i d ∷ take i xs = e ∙ rw (last, front, drop_at (take i xs) (get_or xs i d ∷ []) i long, take_at (take i xs) (get_or xs i d ∷ []) i long) refl in
      ap (λ zs. zs ++ drop (i + 1) xs) turned
