-- The first physical line of a text, by the place of the first line feed.
use Rattle.std.proofs.Common.{◌≡◌, ℕ, ◌+◌, ◌<◌, ◌≤◌, ◌==◌, ◌∙◌, Bool, true, false, List, [], ◌∷◌, cond, nat_lt, length, take, drop, refl, subst, ap, arith, ne_eqb, ◌-◌}
use Rattle.std.specs.Prelude.{Some, None}
use Rattle.std.specs.List.{position, position_or_len, slice_split, before_first, after_first}
use Rattle.std.specs.Str.Lines.{lines, lines_of_parts, strip_carriage_return}
use Rattle.std.proofs.lemmas.Bool.Decides.{nat_tests}
use Rattle.std.proofs.lemmas.Grind.{common_steps}
use Rattle.std.proofs.lemmas.List.Splits.{slice_split_none, slice_split_first, length-slice_split}
use Rattle.std.proofs.lemmas.List.Sums.{fails_before_first}

-- whether a byte is a line feed
abbrev pub is_line_feed : ℕ → Bool
is_line_feed b = b == 10

-- a place that was found below an end
found_below : (place end n : ℕ) (t : Bool) → nat_lt place end ≡ t → cond t (Some place) None ≡ Some n → (place < end) × (place ≡ n)
found_below place end n true below found = (grind (arith, nat_tests, below), cc)
found_below place end n false below found = cc

-- no place was found below an end
none_below : (place end : ℕ) (t : Bool) → nat_lt place end ≡ t → cond t (Some place) None ≡ None → end ≤ place
none_below place end true below found = cc
none_below place end false below found = grind (arith, nat_tests, below)

-- a part in front of other parts is a line
parts_before : (part : List ℕ) (parts : List (List ℕ)) → 0 < length parts → lines_of_parts (part ∷ parts) ≡ strip_carriage_return part ∷ lines_of_parts parts
parts_before part [] some = absurd (omega arith)
parts_before part (next ∷ more) some = refl

-- what follows a place, up to the end
rest_of : (text : List ℕ) (n : ℕ) → take (length text - n) (drop n text) ≡ drop n text
rest_of text n = grind (arith, common_steps)

-- the first line of a text with its first line feed at this place
lines-Some : (text : List ℕ) (n : ℕ) → position is_line_feed text ≡ Some n → lines text ≡ strip_carriage_return (take n text) ∷ lines (drop (n + 1) text)
lines-Some text n found =
    let (inside, same) = found_below (position_or_len is_line_feed text) (length text) n (nat_lt (position_or_len is_line_feed text) (length text)) refl found in
    let split : slice_split is_line_feed text ≡ before_first is_line_feed text ∷ slice_split is_line_feed (after_first is_line_feed text) = slice_split_first is_line_feed text 0 inside in
    subst (λ (k : ℕ). lines text ≡ strip_carriage_return (take k text) ∷ lines (drop (k + 1) text)) same
    (ap lines_of_parts split ∙ parts_before (before_first is_line_feed text) (slice_split is_line_feed (after_first is_line_feed text)) (omega (arith, length-slice_split is_line_feed (after_first is_line_feed text))))

-- a text with no line feed is one line, unless it is empty
lines-None : (text : List ℕ) → position is_line_feed text ≡ None → 0 < length text → lines text ≡ text ∷ []
lines-None text found some =
    let outside : length text ≤ position_or_len is_line_feed text = none_below (position_or_len is_line_feed text) (length text) (nat_lt (position_or_len is_line_feed text) (length text)) refl found in
    ap lines_of_parts (slice_split_none is_line_feed text (λ k d inside. fails_before_first is_line_feed text k d (omega arith)))
    ∙ ap (λ t. cond t [] (text ∷ [])) (ne_eqb (length text) 0 (λ none. omega arith))

-- the same, in the words of the code
pub lines-cut : (text line : List ℕ) (n : ℕ) → position is_line_feed text ≡ Some n → line ≡ strip_carriage_return (take n text) → lines text ≡ line ∷ lines (take (length text - (n + 1)) (drop (n + 1) text))
lines-cut text line n found is = rw (rest_of, is) (lines-Some text n found)

pub lines-whole : (text : List ℕ) → position is_line_feed text ≡ None → 0 < length text → lines text ≡ text ∷ lines (take (length text - length text) (drop (length text) text))
lines-whole text found some =
    let none : take (length text - length text) (drop (length text) text) ≡ [] = grind (arith, common_steps) in
    rw none (lines-None text found some)
