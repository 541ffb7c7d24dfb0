-- Arguments that set a key again.
use Rattle.std.proofs.Common.{◌≡◌, ℕ, suc, ◌+◌, ◌<◌, ◌||◌, not, Bool, true, false, cond, List, [], ◌∷◌, ◌++◌, length, take, drop, get_or, refl, ap, sym, ◌∙◌, add-one, append-nil, append_assoc, arith, length-take-le}
use Rattle.std.specs.Prelude.{Some, is_some}
use Rattle.std.proofs.Math.Seq.{drop-cons}
use Rattle.std.specs.List.{list_any}
use Rattle.std.specs.Str.{bytes_eq, str_eq_ignore_ascii_case, str_to_ascii_lowercase}
use Rattle.std.proofs.lemmas.List.{take_more}
use Rattle.std.proofs.lemmas.List.Folds.{list_any-append}
use Rattle.lload_conf.specs.Faults.{first_repeat, repeat_behind, repeats_key}
use Rattle.lload_conf.specs.Line.{Words, key_of}

-- whether an argument has this key, which is given in lower case
abbrev pub has_lower : List ℕ → List ℕ → Bool
has_lower q word = bytes_eq (str_to_ascii_lowercase (key_of word)) q

-- the key of an argument in lower case
abbrev pub lower_key : List ℕ → List ℕ
lower_key word = str_to_ascii_lowercase (key_of word)

-- four tests in another order
turned : (a b c d : Bool) → ((a || (b || false)) || (c || d)) ≡ ((a || c) || (b || d))
turned true b c d = refl
turned false true true d = refl
turned false true false d = refl
turned false false c d = refl

-- one more argument
repeats-more : (words : Words) (word : List ℕ) → repeats_key (words ++ word ∷ []) ≡ (repeats_key words || list_any (has_lower (lower_key word)) words)
repeats-more [] word = refl
repeats-more (w ∷ ws) word = ap (λ t. t || repeats_key (ws ++ word ∷ [])) (list_any-append (λ later. str_eq_ignore_ascii_case (key_of w) (key_of later)) ws (word ∷ [])) ∙ (ap (λ t. (list_any (λ later. str_eq_ignore_ascii_case (key_of w) (key_of later)) ws || (str_eq_ignore_ascii_case (key_of w) (key_of word) || false)) || t) (repeats-more ws word) ∙ turned (list_any (λ later. str_eq_ignore_ascii_case (key_of w) (key_of later)) ws) (str_eq_ignore_ascii_case (key_of w) (key_of word)) (repeats_key ws) (list_any (has_lower (lower_key word)) ws))

-- a test that holds of a part
either_true : (a b : Bool) → b ≡ true → (a || b) ≡ true
either_true true b h = refl
either_true false b h = h

-- a test that held of a part still holds
either_more : (a b c d : Bool) → (a || b) ≡ true → (b ≡ true → d ≡ true) → ((a || c) || d) ≡ true
either_more true b c d held more = refl
either_more false b true d held more = refl
either_more false b false d held more = more held

-- what repeats a key does so with further arguments
repeats-append : (words later : Words) → repeats_key words ≡ true → repeats_key (words ++ later) ≡ true
repeats-append [] later h = cc
repeats-append (w ∷ ws) later h =
    let test : List ℕ → Bool = λ v. str_eq_ignore_ascii_case (key_of w) (key_of v) in
    ap (λ t. t || repeats_key (ws ++ later)) (list_any-append test ws later) ∙ either_more (list_any test ws) (repeats_key ws) (list_any test later) (repeats_key (ws ++ later)) h (repeats-append ws later)

-- what a set told of a key that was put in
pub told-old : (told had : Bool) → told ≡ not had → told ≡ false → had ≡ true
told-old told true is refused = refl
told-old told false is refused = cc

pub told-new : (told had : Bool) → told ≡ not had → told ≡ true → had ≡ false
told-new told false is added = refl
told-new told true is added = cc

-- the arguments up to a place and the one there
up_to : (words : Words) (i : ℕ) (word : List ℕ) → i < length words → word ≡ get_or words i word → take (i + 1) words ≡ take i words ++ word ∷ []
up_to words i word inside is = take_more words i word inside ∙ ap (λ w. take i words ++ w ∷ []) (sym is)

-- what is left at a place
left_at : (words : Words) (i : ℕ) (word : List ℕ) → i < length words → word ≡ get_or words i word → drop i words ≡ word ∷ drop (i + 1) words
left_at words i word inside is = drop-cons words i word inside ∙ ((λ j. sym is j ∷ drop (suc i) words) ∙ ap (λ n. word ∷ drop n words) (sym (add-one i)))

-- the key of the argument at the place stood before it
pub repeats-here : (words : Words) (i at : ℕ) (word : List ℕ) → i < length words → word ≡ get_or words i word → at ≡ i → list_any (has_lower (lower_key word)) (take i words) ≡ true → repeat_behind (take i words) (drop i words) ≡ first_repeat words → Some at ≡ first_repeat words
repeats-here words i at word inside is count stood rest =
    ap (λ n. Some n) (count ∙ sym (length-take-le i words (omega arith)))
    ∙ (sym (ap (repeat_behind (take i words)) (left_at words i word inside is) ∙ rw stood refl) ∙ rest)

-- and it didn't
pub repeats-past : (words : Words) (i : ℕ) (word : List ℕ) → i < length words → word ≡ get_or words i word → list_any (has_lower (lower_key word)) (take i words) ≡ false → repeat_behind (take (i + 1) words) (drop (i + 1) words) ≡ repeat_behind (take i words) (drop i words)
repeats-past words i word inside is new =
    ap (λ front. repeat_behind front (drop (i + 1) words)) (up_to words i word inside is)
    ∙ sym (ap (repeat_behind (take i words)) (left_at words i word inside is) ∙ rw new refl)

-- whether a key repeats, by the first that does
repeats-behind : (before words : Words) → repeats_key before ≡ false → is_some (repeat_behind before words) ≡ repeats_key (before ++ words)
repeats-behind before [] none = sym (ap repeats_key (append-nil before) ∙ none)
repeats-behind before (word ∷ words) none = from_test (list_any (has_lower (lower_key word)) before) refl (repeats-behind (before ++ word ∷ []) words) where
  from_test : (t : Bool) → list_any (has_lower (lower_key word)) before ≡ t → (repeats_key (before ++ word ∷ []) ≡ false → is_some (repeat_behind (before ++ word ∷ []) words) ≡ repeats_key ((before ++ word ∷ []) ++ words)) → is_some (repeat_behind before (word ∷ words)) ≡ repeats_key (before ++ word ∷ words)
  from_test true stood later =
      let front = repeats-more before word ∙ either_true (repeats_key before) (list_any (has_lower (lower_key word)) before) stood in
      rw stood (sym (ap repeats_key (sym (append_assoc before (word ∷ []) words)) ∙ repeats-append (before ++ word ∷ []) words front))
  from_test false new later = rw new (later (repeats-more before word ∙ rw (none, new) refl) ∙ ap repeats_key (append_assoc before (word ∷ []) words))

pub repeats-first : (words : Words) → is_some (first_repeat words) ≡ repeats_key words
repeats-first words = repeats-behind [] words refl

-- the test of one more argument
either-cond : (a b : Bool) → cond b true a ≡ (a || (b || false))
either-cond true true = refl
either-cond true false = refl
either-cond false true = refl
either-cond false false = refl

-- the keys up to a place and the one there
pub any-past : (words : Words) (i : ℕ) (word : List ℕ) (q : List ℕ) → i < length words → word ≡ get_or words i word → cond (has_lower q word) true (list_any (has_lower q) (take i words)) ≡ list_any (has_lower q) (take (i + 1) words)
any-past words i word q inside is = either-cond (list_any (has_lower q) (take i words)) (has_lower q word) ∙ (sym (list_any-append (has_lower q) (take i words) (word ∷ [])) ∙ ap (list_any (has_lower q)) (sym (up_to words i word inside is)))
