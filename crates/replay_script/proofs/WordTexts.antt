-- The words of texts that are put together, and the first dot of one.
use Rattle.std.proofs.Common.{◌≡◌, ℕ, suc, ◌+◌, ◌-◌, ◌==◌, ◌&&◌, Bool, true, false, nat_lt, List, [], ◌∷◌, ◌++◌, length, take, drop, refl, ap, ◌∙◌, arith, length-append}
use Rattle.std.specs.Prelude.{not, Some}
use Rattle.std.specs.List.{position, position_or_len}
use Rattle.std.proofs.lemmas.Bool.Decides.{nat_tests}
use Rattle.lload_spec.specs.Script.{words}
use Rattle.replay_script.specs.EntryFields.{is_dot}
use Rattle.replay_script.proofs.NumberTexts.{is_without}

other_byte : (b c : ℕ) (rest : List ℕ) → is_without c (b ∷ rest) ≡ true → ((b == c) ≡ false) × (is_without c rest ≡ true)
other_byte b c rest h = at (b == c) h where
  at : (t : Bool) → not t && is_without c rest ≡ true → (t ≡ false) × (is_without c rest ≡ true)
  at true h = cc
  at false h = (refl, h)

-- a text without spaces is the first word where a space is behind it
pub words-more : (text more : List ℕ) → is_without 32 text ≡ true → words (text ++ (32 ∷ more)) ≡ text ∷ words more
words-more [] more plain = refl
words-more (b ∷ text) more plain = let (other, rest) = other_byte b 32 text plain in rw (other, words-more text more rest) refl

-- and else the only one
pub words-only : (text : List ℕ) → is_without 32 text ≡ true → words text ≡ text ∷ []
words-only [] plain = refl
words-only (b ∷ text) plain = let (other, rest) = other_byte b 32 text plain in rw (other, words-only text rest) refl

-- two texts without a byte have none together
pub is_without-append : (c : ℕ) (a b : List ℕ) → is_without c a ≡ true → is_without c b ≡ true → is_without c (a ++ b) ≡ true
is_without-append c [] b first second = second
is_without-append c (x ∷ a) b first second = let (other, rest) = other_byte x c a first in rw (other, is_without-append c a b rest second) refl

dot_place : (text more : List ℕ) → is_without 46 text ≡ true → position_or_len is_dot (text ++ (46 ∷ more)) ≡ length text
dot_place [] more plain = refl
dot_place (b ∷ text) more plain = let (other, rest) = other_byte b 46 text plain in rw (other, dot_place text more rest) (omega arith)

-- the first dot stands behind a text without dots
pub position-dot : (text more : List ℕ) → is_without 46 text ≡ true → position is_dot (text ++ (46 ∷ more)) ≡ Some (length text)
position-dot text more plain =
    let inside : nat_lt (length text) (length (text ++ (46 ∷ more))) ≡ true = grind (arith, nat_tests, length-append text (46 ∷ more)) in
    rw (dot_place text more plain, inside) refl

-- what is in front of it, and behind it
pub take-text : (text more : List ℕ) → take (length text) (text ++ more) ≡ text
take-text [] more = refl
take-text (b ∷ text) more = ap (λ (l : List ℕ). b ∷ l) (take-text text more)

pub drop-text : (text more : List ℕ) (c : ℕ) → drop (length text + 1) (text ++ (c ∷ more)) ≡ more
drop-text [] more c = refl
drop-text (b ∷ text) more c =
    let e : suc (length text) + 1 ≡ suc (length text + 1) = omega arith in
    rw e (drop-text text more c)

-- a line without its last byte
pub front-line : (text : List ℕ) (c : ℕ) → take (length (text ++ (c ∷ [])) - 1) (text ++ (c ∷ [])) ≡ text
front-line text c =
    let e : length (text ++ (c ∷ [])) - 1 ≡ length text = omega (arith, length-append text (c ∷ [])) in
    ap (λ n. take n (text ++ (c ∷ []))) e ∙ take-text text (c ∷ [])
