-- Truth values that are kept as the bits of words.
use Rattle.std.proofs.Common.{◌≡◌, ◌≢◌, ℕ, zero, suc, ◌+◌, ◌-◌, ◌*◌, ◌/◌, ◌%◌, ◌^◌, ◌<◌, ◌≤◌, Bool, true, false, ◌==◌, List, [], ◌∷◌, length, map, filter, replicate, get_or, set, slice_get, unwrap_or, Some, None, refl, ap, ◌∙◌, sym, arith, get_or-set_same, get_or-set_other}
use Rattle.std.specs.Prelude.{nat_lt, bit_and}
use Rattle.std.specs.Int.{bit_at, w64, trailing_zeros}
use Rattle.std.proofs.lemmas.Bool.Decides.{nat_tests}
use Rattle.std.proofs.lemmas.Bool.{eqb-true}
use Rattle.std.proofs.lemmas.Nat.Bits.{bit_at-zero, bit_at-lt, bit_at_and, bit_at_mask_inside, bit_at_mask_below, bit_at-trailing_zeros, ones_shl}
use Rattle.std.proofs.lemmas.Option.{slice_get_past}
use Rattle.lload_spec.specs.Lists.{first}
use Rattle.lload_spec.specs.Picks.{rising}
use Rattle.tier_select.specs.Flags.{is_set, word_bit, bits_of, IsFirstBit}

length-bits_from : (f : ℕ → Bool) (i n : ℕ) → length (map f (rising i n)) ≡ n
length-bits_from f i zero = refl
length-bits_from f i (suc n) = ap suc (length-bits_from f (suc i) n)

pub length-bits : (words : List ℕ) → length (bits_of words) ≡ 64 * length words
length-bits words = length-bits_from (word_bit words) 0 (64 * length words)

get-from : (f : ℕ → Bool) (i n k : ℕ) → k < n → slice_get (map f (rising i n)) k ≡ Some (f (i + k))
get-from f i zero k h = absurd (omega (arith, h))
get-from f i (suc n) zero h = ap (λ x. Some (f x)) (omega arith)
get-from f i (suc n) (suc k) h = get-from f (suc i) n k (omega (arith, h)) ∙ ap (λ x. Some (f x)) (omega arith)

pub past : (words : List ℕ) (q : ℕ) → length words ≤ q → get_or words q 0 ≡ 0
past [] q h = refl
past (w ∷ ws) zero h = absurd (omega (arith, h))
past (w ∷ ws) (suc q) h = past ws q (omega (arith, h))

-- a place is set where its bit is, and beyond the words nothing is
pub is_set-bits : (words : List ℕ) (i : ℕ) → is_set (bits_of words) i ≡ word_bit words i
is_set-bits words i = by (nat_lt i (64 * length words)) refl
  where
    by : (b : Bool) → nat_lt i (64 * length words) ≡ b → is_set (bits_of words) i ≡ word_bit words i
    by true e =
        let within : i < 64 * length words = grind (arith, nat_tests, e) in
        ap (λ o. unwrap_or o false) (get-from (word_bit words) 0 (64 * length words) i within) ∙ ap (word_bit words) (omega arith)
    by false e =
        let beyond : 64 * length words ≤ i = grind (arith, nat_tests, e) in
        let length' = length-bits words in
        let none = past words (i / 64) (omega (arith, beyond)) in
        ap (λ o. unwrap_or o false) (slice_get_past (bits_of words) i (omega (arith, beyond, length')))
        ∙ sym (ap (λ w. bit_at w (i % 64) == 1) none ∙ ap (λ n. n == 1) (bit_at-zero (i % 64)))

pub same-default : (words : List ℕ) (q d e : ℕ) → q < length words → get_or words q d ≡ get_or words q e
same-default [] q d e h = absurd (omega (arith, h))
same-default (w ∷ ws) zero d e h = refl
same-default (w ∷ ws) (suc q) d e h = same-default ws q d e (omega (arith, h))

get-replicate : (n q : ℕ) → ◌≡◌ {A = ℕ} (get_or (replicate n 0) q 0) 0
get-replicate zero q = refl
get-replicate (suc n) zero = refl
get-replicate (suc n) (suc q) = get-replicate n q

-- words of zeros have no place set
pub none-set : (n i : ℕ) → is_set (bits_of (replicate n 0)) i ≡ false
none-set n i = is_set-bits (replicate n 0) i ∙ ap (λ w. bit_at w (i % 64) == 1) (get-replicate n (i / 64)) ∙ ap (λ m. m == 1) (bit_at-zero (i % 64))

-- a word in place of another changes what its own bits say
pub set-here : (words : List ℕ) (i word : ℕ) (on : Bool) → i / 64 < length words → (bit_at word (i % 64) == 1) ≡ on → is_set (bits_of (set words (i / 64) word)) i ≡ on
set-here words i word on within here =
    is_set-bits (set words (i / 64) word) i
    ∙ ap (λ w. bit_at w (i % 64) == 1) (get_or-set_same words (i / 64) word 0 within) ∙ here

pub set-other : (words : List ℕ) (i k word : ℕ) → i / 64 < length words → ((j : ℕ) → j < 64 → j ≢ i % 64 → bit_at word j ≡ bit_at (get_or words (i / 64) 0) j) → k ≢ i → is_set (bits_of (set words (i / 64) word)) k ≡ is_set (bits_of words) k
set-other words i k word within same differ = is_set-bits (set words (i / 64) word) k ∙ by (k / 64 == i / 64) refl ∙ sym (is_set-bits words k)
  where
    by : (b : Bool) → (k / 64 == i / 64) ≡ b → word_bit (set words (i / 64) word) k ≡ word_bit words k
    by true e =
        let at : k / 64 ≡ i / 64 = eqb-true (k / 64) (i / 64) e in
        let apart : k % 64 ≢ i % 64 = λ r. differ (omega (arith, at, r)) in
        ap (λ q. bit_at (get_or (set words (i / 64) word) q 0) (k % 64) == 1) at
        ∙ ap (λ w. bit_at w (k % 64) == 1) (get_or-set_same words (i / 64) word 0 within)
        ∙ ap (λ n. n == 1) (same (k % 64) (omega arith) apart)
        ∙ ap (λ q. bit_at (get_or words q 0) (k % 64) == 1) (sym at)
    by false e =
        let apart : k / 64 ≢ i / 64 = grind (arith, nat_tests, e) in
        ap (λ w. bit_at w (k % 64) == 1) (get_or-set_other words (i / 64) (k / 64) word 0 apart)

-- a word without the bits below a place
abbrev pub from_place : ℕ → ℕ → ℕ
from_place w at = bit_and w ((2 ^ 64 - 1) * 2 ^ at % 2 ^ 64)

pub bit-inside : (w at k : ℕ) → at < 64 → at ≤ k → k < 64 → bit_at (from_place w at) k ≡ bit_at w k
bit-inside w at k small low high =
    ap (λ mask. bit_at (bit_and w mask) k) (ones_shl 64 at (omega (arith, small)))
    ∙ bit_at_and w (2 ^ 64 - 2 ^ at) k
    ∙ (let one = bit_at_mask_inside at 64 k low high in let lt = bit_at-lt w k in omega (arith, one, lt))

pub bit-below : (w at k : ℕ) → at < 64 → k < at → bit_at (from_place w at) k ≡ 0
bit-below w at k small low =
    ap (λ mask. bit_at (bit_and w mask) k) (ones_shl 64 at (omega (arith, small)))
    ∙ bit_at_and w (2 ^ 64 - 2 ^ at) k
    ∙ (let none = bit_at_mask_below at 64 k low in omega (arith, none))

pub no-bit : (w at : ℕ) → at < 64 → from_place w at ≡ 0 → (k : ℕ) → at ≤ k → k < 64 → bit_at w k ≡ 0
no-bit w at small none k low high = sym (bit-inside w at k small low high) ∙ ap (λ n. bit_at n k) none ∙ bit_at-zero k

pub lowest-bit : (w at : ℕ) → at < 64 → 0 < from_place w at → from_place w at < 2 ^ 64 → IsFirstBit w at (trailing_zeros w64 (from_place w at))
lowest-bit w at small some fits =
    let lowest = bit_at-trailing_zeros w64 (from_place w at) some fits in
    let place = trailing_zeros w64 (from_place w at) in
    let least : at ≤ place = by (nat_lt place at) refl lowest in
    record {
      least = least;
      small = lowest.0;
      here = sym (bit-inside w at place small least lowest.0) ∙ lowest.1;
      before = λ k low high. sym (bit-inside w at k small low (let below = lowest.0 in omega (arith, high, below))) ∙ lowest.2 k high;
    }
  where
    by : (b : Bool) → nat_lt (trailing_zeros w64 (from_place w at)) at ≡ b → (trailing_zeros w64 (from_place w at) < 64) × (bit_at (from_place w at) (trailing_zeros w64 (from_place w at)) ≡ 1) × ((i : ℕ) → i < trailing_zeros w64 (from_place w at) → bit_at (from_place w at) i ≡ 0) → at ≤ trailing_zeros w64 (from_place w at)
    by true e l =
        let below : trailing_zeros w64 (from_place w at) < at = grind (arith, nat_tests, e) in
        let none = bit-below w at (trailing_zeros w64 (from_place w at)) small below in
        absurd (let bad : 0 ≡ 1 = sym none ∙ l.1 in omega (arith, bad))
    by false e l = grind (arith, nat_tests, e)

-- the first of numbers that rise by one that passes a test
first-none-from : (p : ℕ → Bool) (i n : ℕ) → ((k : ℕ) → i ≤ k → k < i + n → p k ≡ false) → first (filter p (rising i n)) ≡ None
first-none-from p i zero h = refl
first-none-from p i (suc n) h = rw (h i (omega arith) (omega arith)) (first-none-from p (suc i) n (λ k low high. h k (omega (arith, low)) (omega (arith, high))))

pub first-none : (p : ℕ → Bool) (from to : ℕ) → ((k : ℕ) → from ≤ k → k < to → p k ≡ false) → first (filter p (rising from (to - from))) ≡ None
first-none p from to h = first-none-from p from (to - from) (λ k low high. h k low (omega (arith, low, high)))

first-some-from : (p : ℕ → Bool) (i n x : ℕ) → i ≤ x → x < i + n → p x ≡ true → ((k : ℕ) → i ≤ k → k < x → p k ≡ false) → first (filter p (rising i n)) ≡ Some x
first-some-from p i zero x low high here before = absurd (omega (arith, low, high))
first-some-from p i (suc n) x low high here before = by (i == x) refl (λ more. first-some-from p (suc i) n x more (omega (arith, high)) here (λ k l g. before k (omega (arith, l)) g))
  where
    by : (b : Bool) → (i == x) ≡ b → (suc i ≤ x → first (filter p (rising (suc i) n)) ≡ Some x) → first (filter p (rising i (suc n))) ≡ Some x
    by true e later = let same = eqb-true i x e in rw (ap p same ∙ here) (ap (λ y. Some y) same)
    by false e later =
        let differ : i ≢ x = grind (arith, nat_tests, e) in
        let more : suc i ≤ x = omega (arith, low, differ) in
        rw (before i (omega arith) more) (later more)

pub first-some : (p : ℕ → Bool) (from to x : ℕ) → from ≤ x → x < to → p x ≡ true → ((k : ℕ) → from ≤ k → k < x → p k ≡ false) → first (filter p (rising from (to - from))) ≡ Some x
first-some p from to x low high here before = first-some-from p from (to - from) x low (omega (arith, low, high)) here before

-- the bits of a word say which of its places are set
at-place : (words : List ℕ) (q r : ℕ) → r < 64 → word_bit words (q * 64 + r) ≡ (bit_at (get_or words q 0) r == 1)
at-place words q r small =
    ap (λ n. bit_at (get_or words n 0) ((q * 64 + r) % 64) == 1) (omega (arith, small))
    ∙ ap (λ n. bit_at (get_or words q 0) n == 1) (omega (arith, small))

in-word : (words : List ℕ) (next k : ℕ) → next / 64 * 64 ≤ k → k < next / 64 * 64 + 64 → word_bit words k ≡ (bit_at (get_or words (next / 64) 0) (k % 64) == 1)
in-word words next k low high = ap (word_bit words) (omega (arith, low, high)) ∙ at-place words (next / 64) (k % 64) (omega arith)

unset : (n : ℕ) → n ≡ 0 → (n == 1) ≡ false
unset n e = ap (λ m. m == 1) e

-- where a word has no bit from a place on, none of its places from there on is set
pub step-none : (words : List ℕ) (from next : ℕ) → ((k : ℕ) → from ≤ k → k < next → word_bit words k ≡ false) → ((k : ℕ) → next % 64 ≤ k → k < 64 → bit_at (get_or words (next / 64) 0) k ≡ 0) → (k : ℕ) → from ≤ k → k < next / 64 * 64 + 64 → word_bit words k ≡ false
step-none words from next before none k low high = by (nat_lt k next) refl
  where
    by : (b : Bool) → nat_lt k next ≡ b → word_bit words k ≡ false
    by true e = before k low (grind (arith, nat_tests, e))
    by false e =
        let later : next ≤ k = grind (arith, nat_tests, e) in
        in-word words next k (omega (arith, later)) high ∙ unset _ (none (k % 64) (omega (arith, later, high)) (omega arith))

-- the place of the first bit from a place on is the first that is set
pub step-first : (words : List ℕ) (from next bit : ℕ) → ((k : ℕ) → from ≤ k → k < next → word_bit words k ≡ false) → IsFirstBit (get_or words (next / 64) 0) (next % 64) bit → (word_bit words (next / 64 * 64 + bit) ≡ true) × ((k : ℕ) → from ≤ k → k < next / 64 * 64 + bit → word_bit words k ≡ false)
step-first words from next bit before found =
    let small = found.small in
    (at-place words (next / 64) bit small ∙ ap (λ m. m == 1) found.here, λ k low high. by k low high (nat_lt k next) refl)
  where
    by : (k : ℕ) → from ≤ k → k < next / 64 * 64 + bit → (b : Bool) → nat_lt k next ≡ b → word_bit words k ≡ false
    by k low high true e = before k low (grind (arith, nat_tests, e))
    by k low high false e =
        let later : next ≤ k = grind (arith, nat_tests, e) in
        let small = found.small in
        in-word words next k (omega (arith, later)) (omega (arith, high, small)) ∙ unset _ (found.before (k % 64) (omega (arith, later, high, small)) (omega (arith, later, high, small)))

-- the places that are set, by truth values and by bits
pub same-first : (words : List ℕ) (from n : ℕ) → first (filter (word_bit words) (rising from n)) ≡ first (filter (is_set (bits_of words)) (rising from n))
same-first words from n = sym (ap (λ p. first (filter p (rising from n))) (λ i k. is_set-bits words k i))
