-- Words and the places of spaces.
use Rattle.std.proofs.Common.{◌≡◌, ℕ, ◌+◌, ◌<◌, ◌≤◌, ◌==◌, Bool, true, false, suc, List, [], ◌∷◌, cond, nat_lt, length, take, drop, refl, subst, arith}
use Rattle.std.specs.Prelude.{Some, None}
use Rattle.std.specs.List.{position, position_or_len}
use Rattle.std.proofs.lemmas.Bool.Decides.{nat_tests}
use Rattle.lload_spec.specs.Script.{words, onto_first}

-- whether a byte is a space
abbrev pub is_space : ℕ → Bool
is_space c = c == 32

-- a byte in front of a line whose first space is at n
onto_first-words : (c n : ℕ) (cs : List ℕ) → words cs ≡ take n cs ∷ words (drop (n + 1) cs) → onto_first c (words cs) ≡ take (1 + n) (c ∷ cs) ∷ words (drop (1 + n + 1) (c ∷ cs))
onto_first-words c n cs h =
    let one : 1 + n ≡ suc n = omega arith in
    let two : suc n + 1 ≡ suc (n + 1) = omega arith in
    rw (h, one, two)

-- a line whose first space is at this place
pub words-at : (line : List ℕ) → position_or_len is_space line < length line → words line ≡ take (position_or_len is_space line) line ∷ words (drop (position_or_len is_space line + 1) line)
words-at [] inside = absurd (omega arith)
words-at (c ∷ cs) inside = first c cs (c == 32) refl (words-at cs) inside where
  first : (c : ℕ) (cs : List ℕ) (b : Bool) → (c == 32) ≡ b → (position_or_len is_space cs < length cs → words cs ≡ take (position_or_len is_space cs) cs ∷ words (drop (position_or_len is_space cs + 1) cs)) → position_or_len is_space (c ∷ cs) < length (c ∷ cs) → words (c ∷ cs) ≡ take (position_or_len is_space (c ∷ cs)) (c ∷ cs) ∷ words (drop (position_or_len is_space (c ∷ cs) + 1) (c ∷ cs))
  first c cs true here later inside = rw here refl
  first c cs false here later inside = rw here (onto_first-words c (position_or_len is_space cs) cs (later (let fewer : 1 + position_or_len is_space cs < suc (length cs) = rw here at inside in omega arith)))

-- a line without a space
pub words-whole : (line : List ℕ) → length line ≤ position_or_len is_space line → words line ≡ line ∷ []
words-whole [] outside = refl
words-whole (c ∷ cs) outside = first c cs (c == 32) refl (words-whole cs) outside where
  first : (c : ℕ) (cs : List ℕ) (b : Bool) → (c == 32) ≡ b → (length cs ≤ position_or_len is_space cs → words cs ≡ cs ∷ []) → length (c ∷ cs) ≤ position_or_len is_space (c ∷ cs) → words (c ∷ cs) ≡ (c ∷ cs) ∷ []
  first c cs true here later outside = absurd (let none : suc (length cs) ≤ 0 = rw here at outside in omega arith)
  first c cs false here later outside = rw (here, later (let more : suc (length cs) ≤ 1 + position_or_len is_space cs = rw here at outside in omega arith)) refl

-- a place that was found below an end
found_below : (place end n : ℕ) (t : Bool) → nat_lt place end ≡ t → cond t (Some place) None ≡ Some n → (place < end) × (place ≡ n)
found_below place end n true below found = (grind (arith, nat_tests, below), cc)
found_below place end n false below found = cc

-- no place was found below an end
none_below : (place end : ℕ) (t : Bool) → nat_lt place end ≡ t → cond t (Some place) None ≡ None → end ≤ place
none_below place end true below found = cc
none_below place end false below found = grind (arith, nat_tests, below)

-- a line in which a space was found
pub words-Some : (line : List ℕ) (n : ℕ) → position is_space line ≡ Some n → words line ≡ take n line ∷ words (drop (n + 1) line)
words-Some line n found =
    let (inside, same) = found_below (position_or_len is_space line) (length line) n (nat_lt (position_or_len is_space line) (length line)) refl found in
    subst (λ (k : ℕ). words line ≡ take k line ∷ words (drop (k + 1) line)) same (words-at line inside)

-- a line in which no space was found
pub words-None : (line : List ℕ) → position is_space line ≡ None → words line ≡ line ∷ []
words-None line found = words-whole line (none_below (position_or_len is_space line) (length line) (nat_lt (position_or_len is_space line) (length line)) refl found)
