-- Numbers in decimal digits, and texts without a slash at their end.
use Rattle.std.proofs.Common.{◌≡◌, ℕ, suc, ◌+◌, ◌-◌, ◌^◌, ◌<◌, ◌≤◌, ◌==◌, ◌&&◌, not, Bool, true, false, cond, nat_le, List, [], ◌∷◌, ◌++◌, length, take, refl, ap, sym, ◌∙◌, arith, rules}
use Rattle.std.specs.Prelude.{Option, Some, None, Result, Ok, Err, ◌≢◌, unwrap_or}
use Rattle.std.specs.Borrow.{Bor}
use Rattle.std.specs.Char.{is_ascii_digit}
use Rattle.std.specs.List.{list_all}
use Rattle.std.specs.Option.{MatchOption}
use Rattle.std.specs.Str.Parse.{ParsesUnsigned, digits_value}
use Rattle.std.specs.Str.Pattern.{FindsCharSuffix}
use Rattle.std.proofs.lemmas.Bool.Decides.{nat_tests}
use Rattle.std.proofs.lemmas.Str.Parse.{IsDigitsTest, IsNumeralModel, numerals_by_value, parse_digits}
use Rattle.std.proofs.lemmas.Str.Pattern.{strip_suffix_char}
use Rattle.lload_conf.specs.Values.{is_decimal, number, without_last_slash}
use Rattle.lload_conf.specs.declared.table.Number.{Number}

-- the test of digits is that of std
digits_test : IsDigitsTest (λ ds. list_all is_ascii_digit ds ≡ true)
digits_test = search rules

digits : IsNumeralModel (λ ds. list_all is_ascii_digit ds ≡ true) (digits_value 10)
digits = numerals_by_value _ digits_test

-- both parts of a test that holds
both : (a b : Bool) → a && b ≡ true → (a ≡ true) × (b ≡ true)
both true true holds = (refl, refl)
both true false holds = (refl, holds)
both false b holds = (holds, cc)

-- a number behind a test that fails
none_where_false : (a b : Bool) (value : ℕ) → b ≡ false → cond (a && b) (Some value) None ≡ None
none_where_false true b value fails = rw fails refl
none_where_false false b value fails = refl

-- a number above the range
number-above : (range : Number) (text : List ℕ) → range.high < digits_value 10 text → number range text ≡ None
number-above range text above = none_where_false (is_decimal text && nat_le range.low (digits_value 10 text)) (nat_le (digits_value 10 text) range.high) (digits_value 10 text) (grind (arith, nat_tests, above))

-- a number that isn't below a limit
not-below : (n : ℕ) → ¬ (n < 2 ^ 32) → 2 ^ 32 ≤ n
not-below n large = omega (arith, large)

-- what isn't a number of 32 bits is in no range of such numbers
refused : {E : Type 0} (range : Number) (text : List ℕ) (e : E) → ParsesUnsigned 32 10 text (Err e) → is_decimal text ≡ true → range.high < 2 ^ 32 → number range text ≡ None
refused range text e unparsed decimal small =
    let parts = both (not (length text == 0)) (list_all is_ascii_digit text) decimal in
    let some : 0 < length text = grind (arith, nat_tests, parts.0) in
    let large : 2 ^ 32 ≤ digits_value 10 text = not-below (digits_value 10 text) (λ below. parse_digits digits 32 text (Err e) unparsed parts.1 (some, below)) in
    number-above range text (omega (arith, large, small))

pub number-unparsed : {E : Type 0} (range : Number) (text : List ℕ) (r : Result ℕ E) (e : E) → ParsesUnsigned 32 10 text r → r ≡ Err e → is_decimal text ≡ true → range.high < 2 ^ 32 → number range text ≡ None
number-unparsed range text (Ok n) e unparsed is decimal small = cc
number-unparsed range text (Err d) e unparsed is decimal small = refused range text d unparsed decimal small

-- a test that fails
not-alone : (c : ℕ) (cs rest : List ℕ) (b : Bool) → (length cs == 0) ≡ false → cond (b && (length cs == 0)) [] rest ≡ rest
not-alone c cs rest true more = rw more refl
not-alone c cs rest false more = refl

-- a text of two bytes or more
slash-later : (c d : ℕ) (ds : List ℕ) → without_last_slash (c ∷ (d ∷ ds)) ≡ c ∷ without_last_slash (d ∷ ds)
slash-later c d ds = not-alone c (d ∷ ds) (c ∷ without_last_slash (d ∷ ds)) (c == 47) (some (length ds))
  where
    some : (n : ℕ) → (suc n == 0) ≡ false
    some n = grind (arith, nat_tests)

-- a slash behind a text
without_last_slash-append : (front : List ℕ) → without_last_slash (front ++ 47 ∷ []) ≡ front
without_last_slash-append [] = refl
without_last_slash-append (c ∷ []) = slash-later c 47 []
without_last_slash-append (c ∷ (d ∷ ds)) = slash-later c d (ds ++ 47 ∷ []) ∙ ap (λ rest. c ∷ rest) (without_last_slash-append (d ∷ ds))

-- one byte that is no slash
alone : (c : ℕ) (b : Bool) → (c == 47) ≡ b → c ≢ 47 → cond (b && true) [] (c ∷ []) ≡ c ∷ []
alone c true is other = absurd (other (grind (arith, nat_tests, is)))
alone c false is other = refl

-- a text with no slash at its end
without_last_slash-none : (text : List ℕ) → ((front : List ℕ) → text ≢ front ++ 47 ∷ []) → without_last_slash text ≡ text
without_last_slash-none [] none = refl
without_last_slash-none (c ∷ []) none = alone c (c == 47) refl (λ e. none [] (ap (λ x. x ∷ []) e))
without_last_slash-none (c ∷ (d ∷ ds)) none = slash-later c d ds ∙ ap (λ rest. c ∷ rest) (without_last_slash-none (d ∷ ds) (λ front e. none (c ∷ front) (ap (λ rest. c ∷ rest) e)))

-- what a text without its last slash is, where it may have none
left : (text : List ℕ) (r : Option (Bor (List ℕ))) (otherwise : Bor (List ℕ)) → MatchOption r ((front : List ℕ) → text ≢ front ++ 47 ∷ []) (λ x. text ≡ x.now ++ 47 ∷ []) → otherwise.now ≡ text → (unwrap_or r otherwise).now ≡ without_last_slash text
left text None otherwise none same = same ∙ sym (without_last_slash-none text none)
left text (Some x) otherwise is same = sym (ap without_last_slash is ∙ without_last_slash-append x.now)

-- what `strip_suffix` leaves
pub stripped : (text : List ℕ) (r : Option (Bor (List ℕ))) (otherwise : Bor (List ℕ)) → MatchOption r (FindsCharSuffix 47 text None) (λ x. (n : ℕ) × FindsCharSuffix 47 text (Some n) × (x.now ≡ take (length text - n) text) × (length x.now + n ≡ length text)) → otherwise.now ≡ text → (unwrap_or r otherwise).now ≡ without_last_slash text
stripped text r otherwise found same = left text r otherwise (strip_suffix_char 47 text r found (omega arith)) same
