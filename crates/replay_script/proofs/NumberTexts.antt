-- Decimal texts: the number that one says, and that it has neither a space nor a dot.
use Rattle.std.proofs.Common.{◌≡◌, ℕ, zero, suc, ◌^◌, ◌<◌, ◌≤◌, ◌==◌, ◌&&◌, Bool, true, false, nat_le, nat_lt, List, [], ◌∷◌, length, get_or, refl, ap, ◌∙◌, arith}
use Rattle.std.specs.Prelude.{not, Some}
use Rattle.std.specs.Fmt.{decimal}
use Rattle.std.specs.List.{list_all}
use Rattle.std.proofs.lemmas.Bool.Decides.{nat_tests}
use Rattle.std.proofs.lemmas.Fmt.{decimal_nonempty, decimal_digit, first_decimal, digits_decimal, digits_value-decimal}
use Rattle.std.proofs.lemmas.Str.Parse.{IsDigitsTest, IsNumeralModel, numerals_by_fold}
use Rattle.lload_spec.specs.Script.{is_digit, is_decimal, digits_value, number_of}

-- both of two tests that pass together
pub both_pass : (a b : Bool) → a && b ≡ true → (a ≡ true) × (b ≡ true)
both_pass true b passes = (refl, passes)
both_pass false b passes = cc

abbrev pub are_digits : List ℕ → Bool
are_digits ds = list_all is_digit ds

digit_range : (c : ℕ) → is_digit c ≡ true → (48 ≤ c) × (c ≤ 57)
digit_range c digit = grind (arith, nat_tests, digit)

digit_test : (c : ℕ) → 48 ≤ c → c ≤ 57 → is_digit c ≡ true
digit_test c low high = grind (arith, nat_tests, low, high)

digits_more : (c : ℕ) (cs : List ℕ) → is_digit c ≡ true → are_digits cs ≡ true → are_digits (c ∷ cs) ≡ true
digits_more c cs digit digits = rw (digit, digits) refl

tells_digits : IsDigitsTest (λ ds. are_digits ds ≡ true)
tells_digits = record {
  empty = refl;
  parts = λ c cs digits. let (one, more) = both_pass (is_digit c) (are_digits cs) digits in let range = digit_range c one in ((range.0, range.1), more);
  more = λ c cs range digits. digits_more c cs (digit_test c range.0 range.1) digits;
}

numerals : IsNumeralModel (λ ds. are_digits ds ≡ true) (digits_value 0)
numerals = numerals_by_fold (λ ds. are_digits ds ≡ true) tells_digits digits_value (record {
  empty = λ n. refl;
  more = λ n c cs range. ap (λ k. digits_value k cs) (omega arith);
})

-- digits that a zero begins only alone are a decimal
first_digit : (ds : List ℕ) (n : ℕ) → are_digits ds ≡ true → 0 < length ds → (0 < n → 48 < get_or ds 0 0) → (n ≡ 0 → ds ≡ 48 ∷ []) → is_decimal ds ≡ true
first_digit [] n digits some first only = absurd (omega arith)
first_digit (c ∷ []) n digits some first only = (both_pass (is_digit c) true digits).0
first_digit (c ∷ d ∷ ds) n digits some first only = at n first only where
  at : (n : ℕ) → (0 < n → 48 < c) → (n ≡ 0 → c ∷ d ∷ ds ≡ 48 ∷ []) → is_decimal (c ∷ d ∷ ds) ≡ true
  at zero first only = cc (only refl)
  at (suc k) first only = let large : 48 < c = first (omega arith) in let other : (c == 48) ≡ false = grind (arith, nat_tests, large) in rw (other, digits) refl

decimal_is : (n : ℕ) → n < 2 ^ 64 → is_decimal (decimal n) ≡ true
decimal_is n small = first_digit (decimal n) n (digits_decimal numerals n small) (decimal_nonempty n small) (λ some. first_decimal n some small) (λ none. ap decimal none ∙ decimal_digit 0 (omega arith))

-- a number below the limit is read of its text
pub number_of-decimal : (limit n : ℕ) → n < limit → limit ≤ 2 ^ 64 → number_of 0 limit (decimal n) ≡ Some n
number_of-decimal limit n below within =
    let small : n < 2 ^ 64 = omega arith in
    let value = digits_value-decimal numerals n small in
    let is = decimal_is n small in
    let low : nat_le 0 n ≡ true = grind (arith, nat_tests) in
    let high : nat_lt n limit ≡ true = grind (arith, nat_tests, below) in
    rw (is, value, low, high) refl

-- texts without a byte
abbrev pub is_without : ℕ → List ℕ → Bool
is_without c text = list_all (λ b. not (b == c)) text

pub is_without-cons : (c b : ℕ) (text : List ℕ) → (b == c) ≡ false → is_without c text ≡ true → is_without c (b ∷ text) ≡ true
is_without-cons c b text other rest = rw (other, rest) refl

pub decimal_digits : (n : ℕ) → n < 2 ^ 64 → are_digits (decimal n) ≡ true
decimal_digits n small = digits_decimal numerals n small

digits_without : (c : ℕ) → c < 48 → (ds : List ℕ) → are_digits ds ≡ true → is_without c ds ≡ true
digits_without c low [] digits = refl
digits_without c low (d ∷ ds) digits =
    let (digit, more) = both_pass (is_digit d) (are_digits ds) digits in
    let range = digit_range d digit in
    let other : (d == c) ≡ false = grind (arith, nat_tests, low, range.0) in
    is_without-cons c d ds other (digits_without c low ds more)

pub decimal_without : (c n : ℕ) → c < 48 → n < 2 ^ 64 → is_without c (decimal n) ≡ true
decimal_without c n low small = digits_without c low (decimal n) (digits_decimal numerals n small)
