-- How many elements of a list are of one sort and have a key that passes a test.
use Rattle.std.proofs.Common.{◌≡◌, ℕ, suc, ◌+◌, Bool, true, false, ◌==◌, ◌&&◌, ◌||◌, not, List, [], ◌∷◌, ◌++◌, length, refl, ap, ◌∙◌, sym, arith}
use Rattle.std.specs.Prelude.{cond, filter, nat_lt}
use Rattle.std.specs.List.{list_any, list_all}
use Rattle.std.proofs.lemmas.Bool.{lt-ltb}
use Rattle.std.proofs.lemmas.List.{length-append}
use Rattle.std.proofs.lemmas.List.Elements.{filter-append}
use Rattle.lload_spec.specs.Lists.{agrees}
use Rattle.lload_spec.proofs.Growth.{left, right, both}
use Rattle.lload_laws.proofs.ListLaws.{all_both, all_imply}
use Rattle.part_laws.proofs.ListLaws.{any_filtered, eqb_same, eqb_sym, false_by, filter-filter, not_true, or_left}
use Rattle.client_laws.proofs.Matches.{filter_agree}

abbrev pub number : {A : Type 0} → (A → ℕ) → (A → Bool) → (ℕ → Bool) → List A → ℕ
number key sort test xs = length (filter (λ x. sort x && test (key x)) xs)

-- of those whose keys are kept
pub number_kept : {A : Type 0} (key : A → ℕ) (sort stays : A → Bool) (kept test : ℕ → Bool) (xs : List A) → list_all (λ x. agrees (stays x) (kept (key x))) xs ≡ true → number key sort test (filter stays xs) ≡ number key sort (λ k. kept k && test k) xs
number_kept key sort stays kept test xs h = ap length (filter-filter (λ x. sort x && test (key x)) stays xs ∙ filter_agree (λ x. agrees (stays x) (kept (key x))) (λ x. (sort x && test (key x)) && stays x) (λ x. sort x && (kept (key x) && test (key x))) xs (λ x k. same (sort x) (test (key x)) (stays x) (kept (key x)) k) h)
  where
    same : (q t a d : Bool) → agrees a d ≡ true → ((q && t) && a) ≡ (q && (d && t))
    same true true true true h = refl
    same true true false false h = refl
    same true false true true h = refl
    same true false false false h = refl
    same q t true false h = absurd (let bad : false ≡ true = h in cc)
    same q t false true h = absurd (let bad : false ≡ true = h in cc)
    same false t true true h = refl
    same false t false false h = refl

-- of two lists, and of one more
pub number_both : {A : Type 0} (key : A → ℕ) (sort : A → Bool) (test : ℕ → Bool) (xs ys : List A) → number key sort test (xs ++ ys) ≡ number key sort test xs + number key sort test ys
number_both key sort test xs ys = ap length (filter-append (λ x. sort x && test (key x)) xs ys) ∙ length-append (filter (λ x. sort x && test (key x)) xs) (filter (λ x. sort x && test (key x)) ys)

abbrev pub bump : Bool → ℕ
bump b = cond b 1 0

pub number_one : {A : Type 0} (key : A → ℕ) (sort : A → Bool) (test : ℕ → Bool) (x : A) → number key sort test (x ∷ []) ≡ bump (sort x && test (key x))
number_one key sort test x = by (sort x && test (key x))
  where
    by : (b : Bool) → length (cond b (x ∷ []) []) ≡ bump b
    by true = refl
    by false = refl

-- where no key passes
pub number_never : {A : Type 0} (key : A → ℕ) (sort : A → Bool) (xs : List A) → number key sort (λ k. false) xs ≡ 0
number_never key sort [] = refl
number_never key sort (x ∷ xs) = by (sort x) (number_never key sort xs)
  where
    by : (b : Bool) → number key sort (λ k. false) xs ≡ 0 → length (cond (b && false) (x ∷ filter (λ y. sort y && false) xs) (filter (λ y. sort y && false) xs)) ≡ 0
    by true h = h
    by false h = h

-- some pass where there are more than none
pub any_number : {A : Type 0} (test : A → Bool) (xs : List A) → list_any test xs ≡ nat_lt 0 (length (filter test xs))
any_number test [] = refl
any_number test (x ∷ xs) = by (test x) (any_number test xs)
  where
    by : (b : Bool) → list_any test xs ≡ nat_lt 0 (length (filter test xs)) → (b || list_any test xs) ≡ nat_lt 0 (length (cond b (x ∷ filter test xs) (filter test xs)))
    by true h = sym (lt-ltb 0 (suc (length (filter test xs))) (omega arith))
    by false h = h

-- Elements whose keys are apart.
abbrev pub are_apart_by : {A : Type 0} → (A → ℕ) → List A → Bool
are_apart_by key [] = true
are_apart_by key (x ∷ xs) = list_all (λ y. not (key x == key y)) xs && are_apart_by key xs

none_with : {A : Type 0} (key : A → ℕ) (k : ℕ) (ys : List A) → list_all (λ y. not (k == key y)) ys ≡ true → list_any (λ y. key y == k) ys ≡ false
none_with key k [] h = refl
none_with key k (y ∷ ys) h = ap (λ b. b || list_any (λ z. key z == k) ys) (eqb_sym (key y) k ∙ not_true (k == key y) (left (not (k == key y)) _ h)) ∙ none_with key k ys (right (not (k == key y)) _ h)

other_kept : {A : Type 0} (key : A → ℕ) (stays : A → Bool) (x y : A) (xs : List A) (b : Bool) → not (key x == key y) ≡ true → agrees (stays y) (list_any (λ z. key z == key y) xs) ≡ true → agrees (stays y) (list_any (λ z. key z == key y) (cond b (x ∷ xs) xs)) ≡ true
other_kept key stays x y xs true n k = ap (λ d. agrees (stays y) (d || list_any (λ z. key z == key y) xs)) (not_true (key x == key y) n) ∙ k
other_kept key stays x y xs false n k = k

-- an element stays in a filtered list exactly where its key is there
pub kept_by_key : {A : Type 0} (key : A → ℕ) (stays : A → Bool) (xs : List A) → are_apart_by key xs ≡ true → list_all (λ x. agrees (stays x) (list_any (λ y. key y == key x) (filter stays xs))) xs ≡ true
kept_by_key key stays [] h = refl
kept_by_key key stays (x ∷ xs) h =
    both (agrees (stays x) (has (key x) (stays x))) _ (first (stays x))
    (all_imply (λ y. not (key x == key y) && agrees (stays y) (list_any (λ z. key z == key y) (filter stays xs))) (λ y. agrees (stays y) (has (key y) (stays x))) xs
    (λ y k. other_kept key stays x y (filter stays xs) (stays x) (left (not (key x == key y)) _ k) (right (not (key x == key y)) _ k))
    (all_both (λ y. not (key x == key y)) (λ y. agrees (stays y) (list_any (λ z. key z == key y) (filter stays xs))) xs others (kept_by_key key stays xs (right (list_all (λ y. not (key x == key y)) xs) _ h))))
  where
    has : ℕ → Bool → Bool
    has k b = list_any (λ y. key y == k) (cond b (x ∷ filter stays xs) (filter stays xs))

    others : list_all (λ y. not (key x == key y)) xs ≡ true
    others = left (list_all (λ y. not (key x == key y)) xs) _ h

    gone : list_any (λ y. key y == key x) (filter stays xs) ≡ false
    gone = false_by (list_any (λ y. key y == key x) (filter stays xs)) (λ k. sym (none_with key (key x) xs others) ∙ any_filtered (λ y. key y == key x) stays xs k)

    first : (b : Bool) → agrees b (has (key x) b) ≡ true
    first true = or_left (key x == key x) _ (eqb_same (key x))
    first false = ap not gone
