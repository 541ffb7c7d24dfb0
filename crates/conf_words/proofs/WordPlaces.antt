-- A word is looked for piece by piece.
use Rattle.std.proofs.Common.{◌≡◌, ℕ, ◌+◌, ◌∙◌, true, false, List, [], ◌∷◌, ◌++◌, refl, ap, sym, arith, append_assoc, append-nil, length}
use Rattle.std.specs.Prelude.{None, nat_le, nat_lt}
use Rattle.std.specs.Str.{is_utf8}
use Rattle.std.proofs.lemmas.Bool.Decides.{nat_tests}
use Rattle.conf_words.specs.Lines.{unindented}
use Rattle.conf_words.specs.Locating.{piece_of_word, words_begun}
use Rattle.conf_words.specs.Quoting.{words_of}
use Rattle.conf_words.specs.WordMaking.{Goes, makes}
use Rattle.conf_words.proofs.Contents.{makes_all}
use Rattle.conf_words.specs.declared.words.WordMaker.{WordMaker}

-- a maker makes of what is left what is to be made of all that stands behind a text
abbrev pub MakesBehind : List ℕ → WordMaker → Type 0
MakesBehind before m = (rest : List ℕ) → makes m rest ≡ words_of (before ++ rest)

-- a new maker makes all words
pub makes_first : (m : WordMaker) → m.words ≡ [] → m.word ≡ None → m.quoted ≡ false → m.escaped ≡ false → MakesBehind [] m
makes_first m words word quoted escaped rest = makes_all m rest words word quoted escaped

-- and does so behind more bytes
pub makes_more : (before bytes : List ℕ) (old new : WordMaker) → MakesBehind before old → Goes old new bytes → MakesBehind (before ++ bytes) new
makes_more before bytes old new makes_old goes rest = sym (goes.words rest) ∙ (makes_old (bytes ++ rest) ∙ ap words_of (sym (append_assoc before bytes rest)))

-- how many words it has begun
pub begun_behind : (before : List ℕ) (m : WordMaker) (word : ℕ) → MakesBehind before m → nat_lt word (length (makes m [])) ≡ nat_lt word (words_begun before)
begun_behind before m word makes_rest = ap (λ words. nat_lt word (length words)) (makes_rest [] ∙ ap words_of (append-nil before))

-- a piece is passed
pub piece-passed : (word : ℕ) (before : List ℕ) (number : ℕ) (piece : List ℕ) (next after : ℕ) (line : List ℕ) (more left : List (List ℕ)) → left ≡ line ∷ more → after ≡ next + 1 → is_utf8 piece ≡ true → nat_lt word (words_begun (before ++ piece)) ≡ false
    → piece_of_word word ((before ++ piece) ++ 32 ∷ []) next (unindented line) after more ≡ piece_of_word word before number piece next left
piece-passed word before number piece next after line more left cut later utf8 not_yet =
    let passed : nat_le (words_begun (before ++ piece)) word ≡ true = grind (arith, nat_tests) in
    (λ i. piece_of_word word (append_assoc before piece (32 ∷ []) i) next (unindented line) (later i) more)
    ∙ sym (ap (piece_of_word word before number piece next) cut ∙ rw (utf8, passed) refl)

-- the word has begun in this piece
pub piece-found : (word : ℕ) (before : List ℕ) (number : ℕ) (piece : List ℕ) (next : ℕ) (line : List ℕ) (more left : List (List ℕ)) → left ≡ line ∷ more → is_utf8 piece ≡ true → nat_lt word (words_begun (before ++ piece)) ≡ true → number ≡ piece_of_word word before number piece next left
piece-found word before number piece next line more left cut utf8 there =
    let here : nat_le (words_begun (before ++ piece)) word ≡ false = grind (arith, nat_tests) in
    sym (ap (piece_of_word word before number piece next) cut ∙ rw (utf8, here) refl)

-- this piece isn't UTF-8
pub piece-other : (word : ℕ) (before : List ℕ) (number : ℕ) (piece : List ℕ) (next : ℕ) (line : List ℕ) (more left : List (List ℕ)) → left ≡ line ∷ more → is_utf8 piece ≡ false → number ≡ piece_of_word word before number piece next left
piece-other word before number piece next line more left cut other = sym (ap (piece_of_word word before number piece next) cut ∙ rw other refl)

-- this piece is the last
pub piece-last : (word : ℕ) (before : List ℕ) (number : ℕ) (piece : List ℕ) (next : ℕ) (left : List (List ℕ)) → left ≡ [] → number ≡ piece_of_word word before number piece next left
piece-last word before number piece next left none = sym (ap (piece_of_word word before number piece next) none)
