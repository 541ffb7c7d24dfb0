-- Words that are hexadecimal.
use Rattle.std.proofs.Common.{◌≡◌, ℕ, ◌-◌, ◌%◌, ◌==◌, ◌&&◌, ◌||◌, Bool, true, false, nat_le, List, [], ◌∷◌, length, refl, sym, ◌∙◌, subst, arith}
use Rattle.std.specs.Prelude.{Option, Some, None, IsSome, is_some, Result, Ok, Err, if◌then◌else◌}
use Rattle.std.specs.Char.{is_ascii_hexdigit}
use Rattle.std.specs.List.{list_all}
use Rattle.std.proofs.lemmas.Bool.Decides.{nat_tests}
use Rattle.std.proofs.lemmas.List.Sums.{AllPass-from_list_all, list_all-from_AllPass}
use Rattle.hex.specs.Hex.{decode_of, is_hex_digit}
use Rattle.hex.specs.declared.error.FromHexError.{FromHexError}
use Rattle.hex.proofs.HexLemmas.{decode_of-digits, decode_of-ok}
use Rattle.lload_spec.specs.Script.{bytes_of}
use Rattle.replay_script.specs.Read.{hex_test}

-- the three ranges of digits in the one order and in the other
ranges : (upper lower decimal : Bool) (a b c : ℕ) → is_some (if upper then Some a else if lower then Some b else if decimal then Some c else None) ≡ ((decimal || upper) || lower)
ranges true true true a b c = refl
ranges true true false a b c = refl
ranges true false true a b c = refl
ranges true false false a b c = refl
ranges false true true a b c = refl
ranges false true false a b c = refl
ranges false false true a b c = refl
ranges false false false a b c = refl

is_hex_digit-ascii : (c : ℕ) → is_hex_digit c ≡ is_ascii_hexdigit c
is_hex_digit-ascii c = ranges (nat_le 65 c && nat_le c 70) (nat_le 97 c && nat_le c 102) (nat_le 48 c && nat_le c 57) (c - 55) (c - 87) (c - 48)

all_digits : (text : List ℕ) → list_all is_hex_digit text ≡ list_all is_ascii_hexdigit text
all_digits [] = refl
all_digits (c ∷ cs) = simp (is_hex_digit-ascii, all_digits cs)

-- both of two tests that pass together
both : (a b : Bool) → a && b ≡ true → (a ≡ true) × (b ≡ true)
both true b passes = (refl, passes)
both false b passes = cc

-- what a result has
abbrev pub ok_of : Result (List ℕ) FromHexError → Option (List ℕ)
ok_of r = elim r [ Ok bytes ↦ Some bytes | Err e ↦ None ]

-- a word that passes the test says some bytes
pub bytes_of-hex : (text : List ℕ) → hex_test text ≡ true → IsSome (bytes_of text)
bytes_of-hex text passes =
    let (even, digits) = both (length text % 2 == 0) (list_all is_ascii_hexdigit text) passes in
    let found = decode_of-digits text (grind (arith, nat_tests, even)) (AllPass-from_list_all is_hex_digit text (all_digits text ∙ digits)) in
    subst (λ (r : Result (List ℕ) FromHexError). IsSome (ok_of r)) (sym found.1) refl

-- a word that fails it says none
pub bytes_of-other : (text : List ℕ) → hex_test text ≡ false → bytes_of text ≡ None
bytes_of-other text fails = elim (decode_of text) as (λ r. decode_of text ≡ r → ok_of r ≡ None) [
  | Ok bytes ↦ λ found. absurd (passed bytes found)
  | Err e ↦ λ found. refl
] refl where
  passed : (bytes : List ℕ) → decode_of text ≡ Ok bytes → ⊥
  passed bytes found =
      let facts = decode_of-ok text bytes found in
      let even : (length text % 2 == 0) ≡ true = grind (arith, nat_tests, facts.0) in
      let digits : list_all is_ascii_hexdigit text ≡ true = sym (all_digits text) ∙ list_all-from_AllPass is_hex_digit text facts.1 in
      cc (rw (even, digits) at fails)
