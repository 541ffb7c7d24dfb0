-- The connections that a stalled client pauses.
use Rattle.std.proofs.Common.{◌≡◌, ◌≤◌, ◌<◌, ◌+◌, ℕ, Bool, true, false, ◌==◌, List, [], ◌∷◌, ◌++◌, length, Option, Some, None, arith, refl, ap, subst, sym, ◌∙◌, append_assoc}
use Rattle.std.proofs.lemmas.Bool.Decides.{nat_tests}
use Rattle.std.specs.Prelude.{nat_lt, flat_map}
use Rattle.std.specs.BTreeSet.{insert_key}
use Rattle.std.specs.Ordering.{nat_cmp, match_ordering}
use Rattle.std.specs.declared.cmp.Ordering.{Ordering}
use Rattle.std.specs.declared.cmp.Ordering.TheVariants.{Less, Equal, Greater}
use Rattle.lload_spec.specs.Lists.{put_number, rising_once}
use Rattle.client_rows.specs.Rows.{is_bind, went_to}
use Rattle.client_rows.specs.declared.row.Row.{Row}
use Rattle.client_session.specs.Flow.{connection_of, connections, put_all}

pub keys-put : (n : ℕ) (ms : List ℕ) → insert_key nat_cmp ms n ≡ put_number n ms
keys-put n [] = refl
keys-put n (m ∷ ms) = by (nat_cmp n m) refl (n == m) refl (nat_lt n m) refl (keys-put n ms)
  where
    by : (o : Ordering) → o ≡ nat_cmp n m → (b : Bool) → (n == m) ≡ b → (c : Bool) → nat_lt n m ≡ c → insert_key nat_cmp ms n ≡ put_number n ms → match_ordering o (n ∷ m ∷ ms) (m ∷ ms) (m ∷ insert_key nat_cmp ms n) ≡ elim b [ true ↦ m ∷ ms | false ↦ elim c [ true ↦ n ∷ m ∷ ms | false ↦ m ∷ put_number n ms ] ]
    by Less o false e true f ih = refl
    by Equal o true e c f ih = refl
    by Greater o false e false f ih = ap (λ l. m ∷ l) ih
    by Less o true e c f ih = absurd (grind (arith, nat_tests, o, e))
    by Less o false e false f ih = absurd (grind (arith, nat_tests, o, f))
    by Equal o false e c f ih = absurd (grind (arith, nat_tests, o, e))
    by Greater o true e c f ih = absurd (grind (arith, nat_tests, o, e))
    by Greater o false e true f ih = absurd (grind (arith, nat_tests, o, f))

-- the number is one more at most
pub length-put : (n : ℕ) (ms : List ℕ) → length (put_number n ms) ≤ length ms + 1
length-put n [] = omega arith
length-put n (m ∷ ms) = by (n == m) (nat_lt n m) (length-put n ms)
  where
    by : (b c : Bool) → length (put_number n ms) ≤ length ms + 1 → length {A = ℕ} (elim b [ true ↦ m ∷ ms | false ↦ elim c [ true ↦ n ∷ m ∷ ms | false ↦ m ∷ put_number n ms ] ]) ≤ length (m ∷ ms) + 1
    by true c ih = omega arith
    by false true ih = omega arith
    by false false ih = omega (arith, ih)

-- two numbers are put in either order

abbrev placed : ℕ → ℕ → List ℕ → List ℕ → Bool → Bool → List ℕ
placed n m ms more b c = elim b [ true ↦ m ∷ ms | false ↦ elim c [ true ↦ n ∷ m ∷ ms | false ↦ m ∷ more ] ]

put-at : (n m : ℕ) (ms : List ℕ) (b c : Bool) → (n == m) ≡ b → nat_lt n m ≡ c → put_number n (m ∷ ms) ≡ placed n m ms (put_number n ms) b c
put-at n m ms b c e f = ap (λ x. placed n m ms (put_number n ms) x (nat_lt n m)) e ∙ ap (placed n m ms (put_number n ms) b) f

-- below the first, at it, and behind it
put-below : (n m : ℕ) (ms : List ℕ) → n < m → put_number n (m ∷ ms) ≡ n ∷ m ∷ ms
put-below n m ms l = put-at n m ms false true (grind (arith, nat_tests, l)) (grind (arith, nat_tests, l))

put-here : (n m : ℕ) (ms : List ℕ) → n ≡ m → put_number n (m ∷ ms) ≡ m ∷ ms
put-here n m ms e = put-at n m ms true (nat_lt n m) (grind (arith, nat_tests, e)) refl

put-above : (n m : ℕ) (ms : List ℕ) → m < n → put_number n (m ∷ ms) ≡ m ∷ put_number n ms
put-above n m ms l = put-at n m ms false false (grind (arith, nat_tests, l)) (grind (arith, nat_tests, l))

pub data Compared (a b : ℕ) : Type 0 where
  Below : a < b → Compared a b
  Same : a ≡ b → Compared a b
  Above : b < a → Compared a b

compared : (a b : ℕ) → Compared a b
compared a b = by (a == b) refl (nat_lt a b) refl
  where
    by : (x : Bool) → (a == b) ≡ x → (y : Bool) → nat_lt a b ≡ y → Compared a b
    by true e y f = Same (grind (arith, nat_tests, e))
    by false e true f = Below (grind (arith, nat_tests, f))
    by false e false f = Above (grind (arith, nat_tests, e, f))

swap-below : (a b : ℕ) → a < b → (ms : List ℕ) → put_number a (put_number b ms) ≡ put_number b (put_number a ms)
swap-below a b l [] = put-below a b [] l ∙ sym (put-above b a [] l)
swap-below a b l (m ∷ ms) = by (compared a m) (compared b m) (swap-below a b l ms)
  where
    by : Compared a m → Compared b m → put_number a (put_number b ms) ≡ put_number b (put_number a ms) → put_number a (put_number b (m ∷ ms)) ≡ put_number b (put_number a (m ∷ ms))
    by (Below p) (Below q) ih = ap (put_number a) (put-below b m ms q) ∙ put-below a b (m ∷ ms) l ∙ ap (λ x. a ∷ x) (sym (put-below b m ms q)) ∙ sym (ap (put_number b) (put-below a m ms p) ∙ put-above b a (m ∷ ms) l)
    by (Below p) (Same q) ih = ap (put_number a) (put-here b m ms q) ∙ put-below a m ms p ∙ ap (λ x. a ∷ x) (sym (put-here b m ms q)) ∙ sym (ap (put_number b) (put-below a m ms p) ∙ put-above b a (m ∷ ms) l)
    by (Below p) (Above q) ih = ap (put_number a) (put-above b m ms q) ∙ put-below a m (put_number b ms) p ∙ ap (λ x. a ∷ x) (sym (put-above b m ms q)) ∙ sym (ap (put_number b) (put-below a m ms p) ∙ put-above b a (m ∷ ms) l)
    by (Same p) (Above q) ih = ap (put_number a) (put-above b m ms q) ∙ put-here a m (put_number b ms) p ∙ sym (ap (put_number b) (put-here a m ms p) ∙ put-above b m ms q)
    by (Above p) (Above q) ih = ap (put_number a) (put-above b m ms q) ∙ put-above a m (put_number b ms) p ∙ ap (λ x. m ∷ x) ih ∙ sym (ap (put_number b) (put-above a m ms p) ∙ put-above b m (put_number a ms) q)
    by (Same p) (Below q) ih = absurd (omega (arith, p, q, l))
    by (Same p) (Same q) ih = absurd (omega (arith, p, q, l))
    by (Above p) (Below q) ih = absurd (omega (arith, p, q, l))
    by (Above p) (Same q) ih = absurd (omega (arith, p, q, l))

swap : (a b : ℕ) (ms : List ℕ) → put_number a (put_number b ms) ≡ put_number b (put_number a ms)
swap a b ms = by (compared a b)
  where
    by : Compared a b → put_number a (put_number b ms) ≡ put_number b (put_number a ms)
    by (Below l) = swap-below a b l ms
    by (Same e) = ap (λ x. put_number x (put_number b ms)) e ∙ ap (λ x. put_number b (put_number x ms)) (sym e)
    by (Above l) = sym (swap-below b a l ms)

put-through : (n : ℕ) (ns us : List ℕ) → put_all ns (put_number n us) ≡ put_number n (put_all ns us)
put-through n [] us = refl
put-through n (m ∷ ns) us = ap (put_number m) (put-through n ns us) ∙ swap m n (put_all ns us)

put-both : (xs ys us : List ℕ) → put_all ys (put_all xs us) ≡ put_all (xs ++ ys) us
put-both [] ys us = refl
put-both (x ∷ xs) ys us = put-through x ys (put_all xs us) ∙ ap (put_number x) (put-both xs ys us)

-- one that was forwarded, and is no Bind
pub forwarded-to : (r : Row) (u : ℕ) → is_bind r ≡ false → went_to r.way ≡ Some u → connection_of r ≡ u ∷ []
forwarded-to r u b e = ap (λ t. elim t [ true ↦ [] | false ↦ elim (went_to r.way) [ None ↦ [] | Some n ↦ n ∷ [] ] ]) b ∙ ap (λ o. elim o [ None ↦ [] | Some n ↦ n ∷ [] ]) e

-- an operation more
pub put-row : (r : Row) (rs : List Row) (us : List ℕ) → put_all (connections rs) (put_all (connection_of r) us) ≡ put_all (connections (r ∷ rs)) us
put-row r rs us = put-both (connection_of r) (connections rs) us

pub put-rising : (ns : List ℕ) → put_all ns [] ≡ rising_once ns
put-rising [] = refl
put-rising (n ∷ ns) = ap (put_number n) (put-rising ns)
