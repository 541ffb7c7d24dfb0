-- What a joined line holds, by the tests that its reader makes, and what a reader makes of it.
use Rattle.std.proofs.Common.{◌≡◌, ℕ, ◌∙◌, Bool, true, false, List, [], ◌∷◌, length, refl, ap, sym, arith, append-nil, string_bytes}
use Rattle.std.specs.Prelude.{None, Result, Ok, Err, option_map}
use Rattle.std.specs.Str.{IsUtf8, is_utf8}
use Rattle.std.proofs.lemmas.Str.{IsUtf8-from_is_utf8, is_utf8-from_IsUtf8}
use Rattle.conf_words.specs.Lines.{Worded, Faulty, content_of}
use Rattle.conf_words.specs.Quoting.{signs, signs_behind, stays_open, words_of}
use Rattle.conf_words.specs.WordMaking.{Finishes, Goes, Reads, leaves_open, makes}
use Rattle.conf_words.specs.declared.words.WordMaker.{WordMaker}
use Rattle.conf_words.specs.declared.words.Wordless.{Wordless}
use Rattle.conf_words.specs.declared.words.Wordless.TheVariants.{NotUtf8, OpenQuote, NoMemory}
use Rattle.conf_words.proofs.WordSteps.{made}

-- bytes that aren't UTF-8
pub not_utf8 : (line : List ℕ) → ¬ (IsUtf8 line) → is_utf8 line ≡ false
not_utf8 line other = from_test (is_utf8 line) refl where
  from_test : (t : Bool) → is_utf8 line ≡ t → is_utf8 line ≡ false
  from_test true is = absurd (other (IsUtf8-from_is_utf8 line is))
  from_test false is = is

-- a line that isn't UTF-8
pub content_of-other : (line : List ℕ) → ¬ (IsUtf8 line) → content_of line ≡ Faulty 1
content_of-other line other = rw (not_utf8 line other) refl

-- a line with an open quote
pub content_of-open : (line : List ℕ) → IsUtf8 line → stays_open false (signs line) ≡ true → content_of line ≡ Faulty 2
content_of-open line utf8 open_quote = rw (is_utf8-from_IsUtf8 line utf8, open_quote) refl

-- a line whose quotes are closed
pub content_of-words : (line : List ℕ) → IsUtf8 line → stays_open false (signs line) ≡ false → content_of line ≡ Worded (words_of line)
content_of-words line utf8 closed = rw (is_utf8-from_IsUtf8 line utf8, closed) refl

-- a new maker makes all words of a line
pub makes_all : (m : WordMaker) (line : List ℕ) → m.words ≡ [] → m.word ≡ None → m.quoted ≡ false → m.escaped ≡ false → makes m line ≡ words_of line
makes_all m line words word quoted escaped = λ i. made (words i) (option_map (λ text. string_bytes text) (word i)) (quoted i) (escaped i) line

-- what a finished maker answers, where nothing is left of the line
pub reads_finished : (r : Result (List (List ℕ)) Wordless) (m : WordMaker) (line rest : List ℕ) → IsUtf8 line → length rest ≡ 0 → makes m rest ≡ words_of line → leaves_open m rest ≡ stays_open false (signs line) → Finishes r m → Reads r line
reads_finished r m line (c ∷ cs) utf8 ended words open_quote finishes = absurd (omega arith)
reads_finished (Ok ws) m line [] utf8 ended words open_quote finishes = content_of-words line utf8 (sym open_quote ∙ finishes.0) ∙ ap (λ ws. Worded ws) (sym words ∙ sym finishes.1)
reads_finished (Err OpenQuote) m line [] utf8 ended words open_quote finishes = content_of-open line utf8 (sym open_quote ∙ finishes)
reads_finished (Err NotUtf8) m line [] utf8 ended words open_quote finishes = absurd finishes
reads_finished (Err NoMemory) m line [] utf8 ended words open_quote finishes = is_utf8-from_IsUtf8 line utf8

-- what a maker that took a whole line answers where it is finished
pub reads_all : (r : Result (List (List ℕ)) Wordless) (new taken : WordMaker) (line : List ℕ) → IsUtf8 line → new.words ≡ [] → new.word ≡ None → new.quoted ≡ false → new.escaped ≡ false → Goes new taken line → Finishes r taken → Reads r line
reads_all r new taken line utf8 words word quoted escaped goes finishes =
    reads_finished r taken line [] utf8 refl
    (sym (goes.words []) ∙ (ap (makes new) (append-nil line) ∙ makes_all new line words word quoted escaped))
    (sym (goes.open_quote []) ∙ (ap (leaves_open new) (append-nil line) ∙ (λ i. stays_open (quoted i) (signs_behind (escaped i) line))))
    finishes
