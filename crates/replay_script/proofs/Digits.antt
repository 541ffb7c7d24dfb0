-- Numbers of decimal digits.
use Rattle.std.proofs.Common.{◌≡◌, ℕ, ◌+◌, ◌-◌, ◌*◌, ◌<◌, ◌≤◌, ◌&&◌, Bool, true, false, nat_lt, cond, List, [], ◌∷◌, refl, ◌∙◌, arith}
use Rattle.std.specs.Prelude.{Some, None}
use Rattle.std.specs.List.{list_all}
use Rattle.std.proofs.lemmas.Bool.Decides.{nat_tests}
use Rattle.lload_spec.specs.Script.{is_digit, digits_value}
use Rattle.replay_script.specs.Digits.{digits_behind}

-- one digit more
pub digits_behind-digit : (limit n d : ℕ) (ds : List ℕ) → is_digit d ≡ true → digits_behind limit n (d ∷ ds) ≡ digits_behind limit (10 * n + (d - 48)) ds
digits_behind-digit limit n d ds digit = rw digit refl

-- a byte that isn't a digit
pub digits_behind-other : (limit n d : ℕ) (ds : List ℕ) → is_digit d ≡ false → digits_behind limit n (d ∷ ds) ≡ None
digits_behind-other limit n d ds other = rw other refl

-- more digits don't make a number smaller
le-digits_value : (n : ℕ) (ds : List ℕ) → n ≤ digits_value n ds
le-digits_value n [] = omega arith
le-digits_value n (d ∷ ds) = omega (arith, le-digits_value (10 * n + (d - 48)) ds)

-- a test that fails
none_where_false : (a b : Bool) (value : ℕ) → b ≡ false → cond (a && b) (Some value) None ≡ None
none_where_false true b value e = rw e refl
none_where_false false b value e = refl

-- a number that passed the limit
pub digits_behind-large : (limit n : ℕ) (ds : List ℕ) → limit ≤ n → digits_behind limit n ds ≡ None
digits_behind-large limit n ds large = none_where_false (list_all is_digit ds) (nat_lt (digits_value n ds) limit) (digits_value n ds) (grind (arith, nat_tests, large, le-digits_value n ds))

-- a digit with which a number passes the limit
pub digits_behind-full : (limit n d : ℕ) (ds : List ℕ) → is_digit d ≡ true → limit ≤ 10 * n + (d - 48) → digits_behind limit n (d ∷ ds) ≡ None
digits_behind-full limit n d ds digit large = digits_behind-digit limit n d ds digit ∙ digits_behind-large limit (10 * n + (d - 48)) ds large

-- no more digits
pub digits_behind-end : (limit n : ℕ) → n < limit → digits_behind limit n [] ≡ Some n
digits_behind-end limit n small = let test : nat_lt n limit ≡ true = grind (arith, nat_tests, small) in rw test refl
