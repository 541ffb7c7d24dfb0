-- The first group of some physical lines, and what is behind it.
use Rattle.std.proofs.Common.{◌≡◌, ◌≢◌, ℕ, suc, ◌+◌, ◌&&◌, ◌∙◌, Bool, true, false, not, List, [], ◌∷◌, ◌++◌, map, length, refl, ap, sym, arith, append_assoc, add-zero, if◌then◌else◌, Bor}
use Rattle.std.specs.Prelude.{drop, filter}
use Rattle.std.specs.List.{join_with_byte}
use Rattle.conf_words.specs.Quoting.{is_space}
use Rattle.conf_words.specs.Lines.{ConfLine, begins, is_blank, continues, is_number_sign, onto_first_group, groups_from, is_kept, line_of, lines_from, unindented, joined, content_of}
use Rattle.conf_words.specs.Reading.{BeginsWith, Cuts, Passes, behind, continuations, lines_at, physical}
use Rattle.conf_words.specs.declared.joining.First.{First}
use Rattle.conf_words.specs.declared.place.Place.{Place}

-- a continuation isn't blank
not_blank_if_continues : (line : List ℕ) → continues line ≡ true → is_blank line ≡ false
not_blank_if_continues line is = from_tests (begins is_space line) (is_blank line) refl is where
  from_tests : (a b : Bool) → is_blank line ≡ b → (a && not b) ≡ true → is_blank line ≡ false
  from_tests true false same is = same
  from_tests true true same is = cc
  from_tests false b same is = cc

-- a physical line that isn't blank, with those that continue it, is the first group
groups_from-first : (n : ℕ) (line : List ℕ) (more : List (List ℕ)) → is_blank line ≡ false → groups_from n (line ∷ more) ≡ record { number = n; pieces = line ∷ continuations more } ∷ groups_from (n + 1 + length (continuations more)) (behind more)
groups_from-first n line [] not_blank = rw not_blank refl
groups_from-first n line (next ∷ more) not_blank = from_test (continues next) refl (groups_from-first (n + 1) next more) where
  from_test : (t : Bool) → continues next ≡ t → (is_blank next ≡ false → groups_from (n + 1) (next ∷ more) ≡ record { number = n + 1; pieces = next ∷ continuations more } ∷ groups_from (n + 1 + 1 + length (continuations more)) (behind more)) → groups_from n (line ∷ next ∷ more) ≡ record { number = n; pieces = line ∷ continuations (next ∷ more) } ∷ groups_from (n + 1 + length (continuations (next ∷ more))) (behind (next ∷ more))
  from_test true is later =
      let count : n + 1 + 1 + length (continuations more) ≡ n + 1 + suc (length (continuations more)) = omega arith in
      let here : groups_from n (line ∷ next ∷ more) ≡ onto_first_group n line (groups_from (n + 1) (next ∷ more)) = rw (not_blank, is) refl in
      here ∙ ap (onto_first_group n line) (later (not_blank_if_continues next is)) ∙ (rw is (ap (λ (k : ℕ). record { number = n; pieces = line ∷ next ∷ continuations more } ∷ groups_from k (behind more)) count))
  from_test false is later = rw (not_blank, is, add-zero) refl

-- a blank line is left out
lines_from-blank : (n : ℕ) (line : List ℕ) (more : List (List ℕ)) → is_blank line ≡ true → lines_from n (line ∷ more) ≡ lines_from (n + 1) more
lines_from-blank n line more blank = rw blank refl

-- a comment is left out with its continuations
lines_from-comment : (n : ℕ) (line : List ℕ) (more : List (List ℕ)) → is_blank line ≡ false → begins is_number_sign line ≡ true → lines_from n (line ∷ more) ≡ lines_from (n + 1 + length (continuations more)) (behind more)
lines_from-comment n line more not_blank comment = ap (λ gs. map line_of (filter is_kept gs)) (groups_from-first n line more not_blank) ∙ rw comment refl

-- another line is kept
pub lines_from-kept : (n : ℕ) (line : List ℕ) (more : List (List ℕ)) → is_blank line ≡ false → begins is_number_sign line ≡ false → lines_from n (line ∷ more) ≡ record { number = n; content = content_of (joined (line ∷ continuations more)) } ∷ lines_from (n + 1 + length (continuations more)) (behind more)
lines_from-kept n line more not_blank no_comment = ap (λ gs. map line_of (filter is_kept gs)) (groups_from-first n line more not_blank) ∙ rw no_comment refl

-- a blank line at a place is passed
pub lines_at-blank : (place after : Place) (line : List ℕ) → Cuts place line after → is_blank line ≡ true → lines_at place ≡ lines_at after
lines_at-blank place after line cuts blank =
    ap (lines_from place.number) cuts.lines ∙ lines_from-blank place.number line (physical after) blank ∙ (λ i. lines_from (sym cuts.number i) (physical after))

-- a comment at a place is passed, with its continuations
pub lines_at-comment : (place after passed : Place) (line : List ℕ) → Cuts place line after → is_blank line ≡ false → begins is_number_sign line ≡ true → Passes after passed → lines_at place ≡ lines_at passed
lines_at-comment place after passed line cuts not_blank comment passes =
    ap (lines_from place.number) cuts.lines ∙ lines_from-comment place.number line (physical after) not_blank comment
    ∙ (λ i. lines_from (sym cuts.number i + length (continuations (physical after))) (behind (physical after)))
    ∙ (λ i. lines_from (sym passes.number i) (sym passes.lines i))

-- what begins with a line is something
begun_is_some : (first : ConfLine) (later lines : List ConfLine) → lines ≡ first ∷ later → lines ≢ []
begun_is_some first later lines begun none = let bad : [] ≡ first ∷ later = sym none ∙ begun in cc

-- another line at a place is the first that is left there
pub begins_with_line : (place after : Place) (line : Bor (List ℕ)) → Cuts place line.now after → is_blank line.now ≡ false → begins is_number_sign line.now ≡ false → BeginsWith place (record { number = place.number; line = line; after = after })
begins_with_line place after line cuts not_blank no_comment = record {
  some = begun_is_some _ _ (lines_at place) (ap (lines_from place.number) cuts.lines ∙ lines_from-kept place.number line.now (physical after) not_blank no_comment);
  lines = ap (lines_from place.number) cuts.lines;
  not_blank = not_blank;
  no_comment = no_comment;
  number = cuts.number;
}

-- where nothing is left, no line is
pub lines_at-end : (place : Place) → physical place ≡ [] → lines_at place ≡ []
lines_at-end place none = ap (lines_from place.number) none

-- a continuation at a place is passed
pub continuations-cut : (place after : Place) (line : List ℕ) → Cuts place line after → continues line ≡ true → continuations (physical place) ≡ line ∷ continuations (physical after)
continuations-cut place after line cuts is = ap continuations cuts.lines ∙ rw is refl

pub behind-cut : (place after : Place) (line : List ℕ) → Cuts place line after → continues line ≡ true → behind (physical place) ≡ behind (physical after)
behind-cut place after line cuts is = ap behind cuts.lines ∙ rw is refl

-- where no continuation is in front, all physical lines are behind
pub behind-none : (more : List (List ℕ)) → continuations more ≡ [] → behind more ≡ more
behind-none [] none = refl
behind-none (line ∷ more) none = from_test (continues line) refl none where
  from_test : (t : Bool) → continues line ≡ t → (if t then line ∷ continuations more else []) ≡ [] → behind (line ∷ more) ≡ line ∷ more
  from_test true is other = cc
  from_test false is other = rw is refl

-- where the first line doesn't continue, no continuation is in front
pub continuations-none : (place after : Place) (line : List ℕ) → Cuts place line after → continues line ≡ false → continuations (physical place) ≡ []
continuations-none place after line cuts is = ap continuations cuts.lines ∙ rw is refl

-- a text to which continuations are added, each behind a space
abbrev pub extended : List ℕ → List (List ℕ) → List ℕ
extended text [] = text
extended text (line ∷ more) = extended (text ++ 32 ∷ unindented line) more

-- a first part of the first piece stays in front
join_with_byte-front : (text more : List ℕ) (pieces : List (List ℕ)) → join_with_byte 32 ((text ++ more) ∷ pieces) ≡ text ++ join_with_byte 32 (more ∷ pieces)
join_with_byte-front text more [] = refl
join_with_byte-front text more (piece ∷ pieces) = append_assoc text more (32 ∷ join_with_byte 32 (piece ∷ pieces))

-- a byte in front of the first piece stays in front
join_with_byte-cons : (byte : ℕ) (text : List ℕ) (pieces : List (List ℕ)) → join_with_byte 32 ((byte ∷ text) ∷ pieces) ≡ byte ∷ join_with_byte 32 (text ∷ pieces)
join_with_byte-cons byte text [] = refl
join_with_byte-cons byte text (piece ∷ pieces) = refl

-- pieces are joined one by one
pub joined-extended : (line : List ℕ) (more : List (List ℕ)) → joined (line ∷ more) ≡ extended line more
joined-extended line [] = refl
joined-extended line (next ∷ more) =
    ap (λ v. line ++ v) (sym (join_with_byte-cons 32 (unindented next) (map unindented more))) ∙ sym (join_with_byte-front line (32 ∷ unindented next) (map unindented more)) ∙ joined-extended (line ++ 32 ∷ unindented next) more

-- a line whose pieces were joined, and what is behind it
pub lines_from-joined : (first : First) (place : Place) (text : List ℕ) → is_blank first.line.now ≡ false → begins is_number_sign first.line.now ≡ false → first.after.number ≡ first.number + 1
    → text ≡ joined (first.line.now ∷ continuations (physical first.after)) → physical place ≡ behind (physical first.after) → place.number ≡ first.after.number + length (continuations (physical first.after))
    → lines_from first.number (first.line.now ∷ physical first.after) ≡ record { number = first.number; content = content_of text } ∷ lines_at place
lines_from-joined first place text not_blank no_comment next text_is lines_are number_is =
    lines_from-kept first.number first.line.now (physical first.after) not_blank no_comment
    ∙ (λ i. record { number = first.number; content = content_of (sym text_is i) } ∷ lines_from (sym next i + length (continuations (physical first.after))) (behind (physical first.after)))
    ∙ (λ i. record { number = first.number; content = content_of text } ∷ lines_from (sym number_is i) (sym lines_are i))

-- the first line at a place is dropped where it is passed
pub lines_at-passed : (place passed : Place) (first : First) → BeginsWith place first → Passes first.after passed → lines_at passed ≡ drop 1 (lines_at place)
lines_at-passed place passed first starts passes =
    (λ i. lines_from (passes.number i) (passes.lines i))
    ∙ ((λ i. lines_from (starts.number i + length (continuations (physical first.after))) (behind (physical first.after)))
    ∙ sym (ap (drop 1) (starts.lines ∙ lines_from-kept first.number first.line.now (physical first.after) starts.not_blank starts.no_comment)))
