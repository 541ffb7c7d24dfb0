-- Numbers among others.
use Rattle.std.proofs.Common.{◌≡◌, ℕ, Bool, true, false, ◌==◌, ◌&&◌, List, [], ◌∷◌, filter, refl, arith}
use Rattle.std.proofs.lemmas.Bool.{or_right}
use Rattle.std.proofs.lemmas.Bool.Decides.{nat_tests}
use Rattle.ready_set.specs.Keys.{is_in}

pub in-filter : (test : ℕ → Bool) (n : ℕ) (ns : List ℕ) → is_in n (filter test ns) ≡ (test n && is_in n ns)
in-filter test n [] = grind arith
in-filter test n (m ∷ ns) = grind (arith, nat_tests, in-filter test n ns)

pub in-head : (x : ℕ) (xs : List ℕ) → is_in x (x ∷ xs) ≡ true
in-head x xs = grind (arith, nat_tests)

pub in-tail : (n x : ℕ) (xs : List ℕ) → is_in n xs ≡ true → is_in n (x ∷ xs) ≡ true
in-tail n x xs e = or_right (x == n) (is_in n xs) e

pub filter-none : (test : ℕ → Bool) (xs : List ℕ) → ((n : ℕ) → is_in n xs ≡ true → test n ≡ false) → filter test xs ≡ []
filter-none test [] none = refl
filter-none test (x ∷ xs) none = grind (arith, none x (in-head x xs), filter-none test xs (λ n e. none n (in-tail n x xs e)))
