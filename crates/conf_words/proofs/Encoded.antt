-- The bytes of a character: itself where it is ASCII, and bytes from 128 on where it isn't.
use Rattle.std.proofs.Common.{◌≡◌, ℕ, suc, ◌<◌, ◌≤◌, ◌==◌, ◌⊎◌, inl, inr, Bool, false, List, [], ◌∷◌, length, get_or, sym, arith, append-nil, refl}
use Rattle.std.specs.Prelude.{encode_utf8}
use Rattle.std.proofs.lemmas.Bool.{cases_lt}
use Rattle.std.proofs.lemmas.Bool.Decides.{nat_tests}
use Rattle.std.proofs.lemmas.Str.{encode_ascii, inside_one, length-encode, len_utf8_bounds}
use Rattle.conf_words.specs.Quoting.{is_space, is_escaped}
use Rattle.conf_words.proofs.WordSteps.{AllOfWord, IsOfWord, KeepsBackslash}

-- each byte is 128 or more
abbrev pub AllWide : List ℕ → Type 0
AllWide [] = Unit {0}
AllWide (b ∷ bs) = (128 ≤ b) × AllWide bs

-- by index
wide_at_each : (bs : List ℕ) → ((k : ℕ) → k < length bs → 128 ≤ get_or bs k 0) → AllWide bs
wide_at_each [] each = tt
wide_at_each (b ∷ bs) each = (each 0 (omega arith), wide_at_each bs (λ k inside. each (suc k) (omega arith)))

-- the bytes of a character that isn't ASCII
encode-wide : (c : ℕ) → 128 ≤ c → AllWide (encode_utf8 c)
encode-wide c wide = wide_at_each (encode_utf8 c) (λ k inside. from_cases k inside (cases_lt (get_or (encode_utf8 c) k 0) 128)) where
  from_cases : (k : ℕ) → k < length (encode_utf8 c) → ((get_or (encode_utf8 c) k 0 < 128) ⊎ (128 ≤ get_or (encode_utf8 c) k 0)) → 128 ≤ get_or (encode_utf8 c) k 0
  from_cases k inside (inl below) = let same : c ≡ get_or (encode_utf8 c) k 0 = inside_one c [] (encode_utf8 c) k (sym (append-nil (encode_utf8 c))) inside below in absurd (omega arith)
  from_cases k inside (inr above) = above

-- a character has a byte
pub encode-some : (c : ℕ) → 0 < length (encode_utf8 c)
encode-some c = omega (arith, length-encode c, len_utf8_bounds c)

-- bytes that aren't ASCII are of a word
wide_of_word : (quoted : Bool) (bs : List ℕ) → AllWide bs → AllOfWord quoted bs
wide_of_word quoted [] wide = tt
wide_of_word quoted (b ∷ bs) wide = (of_word b quoted wide.0, wide_of_word quoted bs wide.1) where
  of_word : (b : ℕ) (quoted : Bool) → 128 ≤ b → IsOfWord quoted b
  of_word b quoted wide =
      let no_space : is_space b ≡ false = grind (arith, nat_tests) in
      record { no_backslash = grind (arith, nat_tests); no_quote = grind (arith, nat_tests); no_gap = rw no_space refl }

-- before them a backslash stays
wide_keeps : (bs : List ℕ) → AllWide bs → 0 < length bs → KeepsBackslash bs
wide_keeps [] wide some = absurd (omega arith)
wide_keeps (b ∷ bs) wide some = of_first b wide.0 where
  of_first : (b : ℕ) → 128 ≤ b → ((b == 92) ≡ false) × ((b == 34) ≡ false)
  of_first b wide = (grind (arith, nat_tests), grind (arith, nat_tests))

-- the bytes of a character of a word
pub encode-of_word : (quoted : Bool) (c : ℕ) → IsOfWord quoted c → AllOfWord quoted (encode_utf8 c)
encode-of_word quoted c is = from_cases (cases_lt c 128) where
  from_cases : ((c < 128) ⊎ (128 ≤ c)) → AllOfWord quoted (encode_utf8 c)
  from_cases (inl below) = rw (encode_ascii c below) (is, tt)
  from_cases (inr above) = wide_of_word quoted (encode_utf8 c) (encode-wide c above)

-- the bytes of a character before which a backslash stays
pub encode-keeps : (c : ℕ) → is_escaped c ≡ false → KeepsBackslash (encode_utf8 c)
encode-keeps c is = from_cases (cases_lt c 128) where
  from_cases : ((c < 128) ⊎ (128 ≤ c)) → KeepsBackslash (encode_utf8 c)
  from_cases (inl below) = rw (encode_ascii c below) (grind (arith, nat_tests), grind (arith, nat_tests))
  from_cases (inr above) = wide_keeps (encode_utf8 c) (encode-wide c above) (encode-some c)
