-- Numbers that rise, where one comes or goes.
use Rattle.std.proofs.Common.{◌≡◌, ℕ, ◌+◌, ◌≤◌, ◌<◌, Bool, true, false, ◌==◌, not, cond, List, [], ◌∷◌, filter, arith, refl, ap, ◌∙◌, sym}
use Rattle.std.proofs.lemmas.Bool.Decides.{nat_tests}
use Rattle.std.specs.Prelude.{nat_lt}
use Rattle.std.specs.BTreeMap.{is_at}
use Rattle.std.specs.BTreeSet.{insert_key}
use Rattle.std.specs.Set.{remove_key}
use Rattle.std.specs.Ordering.{nat_cmp, match_ordering}
use Rattle.std.specs.declared.cmp.Ordering.{Ordering}
use Rattle.std.specs.declared.cmp.Ordering.TheVariants.{Less, Equal, Greater}
use Rattle.lload_spec.specs.Lists.{put_number}
use Rattle.upstream_conn.specs.Waits.{RisesFrom}

pub put-same : (n : ℕ) (ms : List ℕ) → insert_key nat_cmp ms n ≡ put_number n ms
put-same n [] = refl
put-same n (m ∷ ms) = by (nat_cmp n m) refl (n == m) refl (nat_lt n m) refl (put-same n ms)
  where
    by : (o : Ordering) → o ≡ nat_cmp n m → (b : Bool) → (n == m) ≡ b → (c : Bool) → nat_lt n m ≡ c → insert_key nat_cmp ms n ≡ put_number n ms → match_ordering o (n ∷ m ∷ ms) (m ∷ ms) (m ∷ insert_key nat_cmp ms n) ≡ elim b [ true ↦ m ∷ ms | false ↦ elim c [ true ↦ n ∷ m ∷ ms | false ↦ m ∷ put_number n ms ] ]
    by Less o false e true f ih = refl
    by Equal o true e c f ih = refl
    by Greater o false e false f ih = ap (λ l. m ∷ l) ih
    by Less o true e c f ih = absurd (grind (arith, nat_tests, o, e))
    by Less o false e false f ih = absurd (grind (arith, nat_tests, o, f))
    by Equal o false e c f ih = absurd (grind (arith, nat_tests, o, e))
    by Greater o true e c f ih = absurd (grind (arith, nat_tests, o, e))
    by Greater o false e true f ih = absurd (grind (arith, nat_tests, o, f))

pub rises-put : (low n : ℕ) (ms : List ℕ) → low ≤ n → RisesFrom low ms → RisesFrom low (put_number n ms)
rises-put low n [] l h = (l, tt)
rises-put low n (m ∷ ms) l h = by (n == m) refl (nat_lt n m) refl (λ k. rises-put (m + 1) n ms k h.1)
  where
    by : (b : Bool) → (n == m) ≡ b → (c : Bool) → nat_lt n m ≡ c → (m + 1 ≤ n → RisesFrom (m + 1) (put_number n ms)) → RisesFrom low (elim b [ true ↦ m ∷ ms | false ↦ elim c [ true ↦ n ∷ m ∷ ms | false ↦ m ∷ put_number n ms ] ])
    by true e c f ih = h
    by false e true f ih = (l, (grind (arith, nat_tests, f), h.1))
    by false e false f ih = (h.0, ih (grind (arith, nat_tests, e, f)))

keeps-above : (low n : ℕ) (ms : List ℕ) → n < low → RisesFrom low ms → filter (λ d. not (d == n)) ms ≡ ms
keeps-above low n [] l h = refl
keeps-above low n (m ∷ ms) l h =
    let other : (m == n) ≡ false = grind (arith, nat_tests, l, h.0) in
    ap (λ b. cond (not b) (m ∷ filter (λ d. not (d == n)) ms) (filter (λ d. not (d == n)) ms)) other
    ∙ ap (λ l. m ∷ l) (keeps-above (m + 1) n ms (omega (arith, l, h.0)) h.1)

at-key : (n k : ℕ) → is_at (nat_cmp n) k ≡ (k == n)
at-key n k = grind (arith, nat_tests)

pub remove-same : (low n : ℕ) (ms : List ℕ) → RisesFrom low ms → remove_key (is_at (nat_cmp n)) ms ≡ filter (λ d. not (d == n)) ms
remove-same low n [] h = refl
remove-same low n (m ∷ ms) h = by (is_at (nat_cmp n) m) (m == n) refl (at-key n m) (remove-same (m + 1) n ms h.1)
  where
    by : (a b : Bool) → (m == n) ≡ b → a ≡ b → remove_key (is_at (nat_cmp n)) ms ≡ filter (λ d. not (d == n)) ms → cond a ms (m ∷ remove_key (is_at (nat_cmp n)) ms) ≡ cond (not b) (m ∷ filter (λ d. not (d == n)) ms) (filter (λ d. not (d == n)) ms)
    by true true e f ih = sym (keeps-above (m + 1) n ms (grind (arith, nat_tests, e)) h.1)
    by false false e f ih = ap (λ l. m ∷ l) ih
    by true false e f ih = absurd (let bad : true ≡ false = f in cc)
    by false true e f ih = absurd (let bad : false ≡ true = f in cc)

rises-further : (low high : ℕ) (ms : List ℕ) → low ≤ high → RisesFrom high ms → RisesFrom low ms
rises-further low high [] l h = tt
rises-further low high (m ∷ ms) l h = (omega (arith, l, h.0), h.1)

pub rises-remove : (low n : ℕ) (ms : List ℕ) → RisesFrom low ms → RisesFrom low (filter (λ d. not (d == n)) ms)
rises-remove low n [] h = tt
rises-remove low n (m ∷ ms) h = by (m == n) (rises-remove (m + 1) n ms h.1)
  where
    by : (b : Bool) → RisesFrom (m + 1) (filter (λ d. not (d == n)) ms) → RisesFrom low (cond (not b) (m ∷ filter (λ d. not (d == n)) ms) (filter (λ d. not (d == n)) ms))
    by true k = rises-further low (m + 1) _ (omega (arith, h.0)) k
    by false k = (h.0, k)
