-- Numbers of some octets, most significant first.
use Rattle.std.proofs.Common.{◌≡◌, ℕ, zero, suc, ◌+◌, ◌*◌, ◌^◌, ◌<◌, ◌≤◌, List, length, drop, get_or, arith, add-one}
use Rattle.std.proofs.Math.Nat.{pow-suc}
use Rattle.std.proofs.lemmas.List.{at_drop_more}
use Rattle.ldap_spec.specs.Elements.{number_from}

-- one more octet stays below the next power
pub below_power : (n i x : ℕ) → n < 256 ^ i → x < 256 → 256 * n + x < 256 ^ (i + 1)
below_power n i x h l = rw (add-one, pow-suc) (omega arith)

-- the powers of at most three octets
three : (i : ℕ) → i < 4 → 256 ^ i ≤ 16777216
three zero h = omega arith
three (suc zero) h = omega arith
three (suc (suc zero)) h = omega arith
three (suc (suc (suc zero))) h = omega arith
three (suc (suc (suc (suc i)))) h = absurd (omega arith)

-- three octets and one more fit a word
pub fits_word : (n i x : ℕ) → n < 256 ^ i → i < 4 → x < 256 → 256 * n + x < 2 ^ 32
fits_word n i x h l k = omega (arith, three i l)

-- one octet less to read
pub number_more : (n i : ℕ) (xs : List ℕ) → i < length xs → number_from n (drop i xs) ≡ number_from (256 * n + get_or xs i 0) (drop (i + 1) xs)
number_more n i xs h = at_drop_more (number_from n) xs i 0 h
