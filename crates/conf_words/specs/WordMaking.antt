-- What a word maker stands for: the words of the whole line, by what was read of it and what is left.
use Rattle.std.specs.Prelude.{◌≡◌, ℕ, Bool, true, false, List, [], ◌∷◌, ◌++◌, Option, Some, None, Result, Ok, Err, string_bytes, option_map, option_to_list, unwrap_or, not}
use Rattle.std.specs.Str.{is_utf8}
use Rattle.conf_words.specs.Lines.{Worded, Faulty, content_of}
use Rattle.conf_words.specs.Quoting.{signs_behind, stays_open, parts, words_of_parts}
use Rattle.conf_words.specs.declared.words.WordMaker.{WordMaker}
use Rattle.conf_words.specs.declared.words.Wordless.{Wordless}
use Rattle.conf_words.specs.declared.words.Wordless.TheVariants.{NotUtf8, OpenQuote, NoMemory}

-- a word that was begun, or none, in front of parts
abbrev pub onto_word : Option (List ℕ) → List (Option (List ℕ)) → List (Option (List ℕ))
onto_word None ps = ps
onto_word (Some w) ps = Some w ∷ ps

-- the word that a maker has begun
abbrev pub begun : WordMaker → Option (List ℕ)
begun m = option_map (λ word. string_bytes word) m.word

-- the words that a maker makes of what is left of the line
abbrev pub makes : WordMaker → List ℕ → List (List ℕ)
makes m rest = m.words ++ words_of_parts (onto_word (begun m) (parts m.quoted (signs_behind m.escaped rest)))

-- whether a quote is open behind what is left of the line
abbrev pub leaves_open : WordMaker → List ℕ → Bool
leaves_open m rest = stays_open m.quoted (signs_behind m.escaped rest)

-- behind the first bytes of what is left, the maker makes the same of the rest
pub record Goes (old new : WordMaker) (bytes : List ℕ) : Type 0 where
  pub words : (rest : List ℕ) → makes old (bytes ++ rest) ≡ makes new rest
  pub open_quote : (rest : List ℕ) → leaves_open old (bytes ++ rest) ≡ leaves_open new rest

-- these bytes were added to the word that was begun, or began one
pub record Adds (old new : WordMaker) (bytes : List ℕ) : Type 0 where
  pub word : begun new ≡ Some (unwrap_or (begun old) [] ++ bytes)
  pub words : new.words ≡ old.words
  pub quoted : new.quoted ≡ old.quoted
  pub escaped : new.escaped ≡ old.escaped

-- the word that was begun, if any, was put behind the others
pub record EndsWord (old new : WordMaker) : Type 0 where
  pub word : begun new ≡ None
  pub words : new.words ≡ old.words ++ option_to_list (begun old)
  pub quoted : new.quoted ≡ old.quoted
  pub escaped : new.escaped ≡ old.escaped

-- a word was begun, if none was, and quotes were turned
pub record TurnsQuote (old new : WordMaker) : Type 0 where
  pub word : begun new ≡ Some (unwrap_or (begun old) [])
  pub words : new.words ≡ old.words
  pub quoted : new.quoted ≡ not old.quoted
  pub escaped : new.escaped ≡ old.escaped

-- what a finished maker answers; memory wants only where no quote is open
abbrev pub Finishes : Result (List (List ℕ)) Wordless → WordMaker → Type 0
Finishes (Ok words) m = (leaves_open m [] ≡ false) × (words ≡ makes m [])
Finishes (Err OpenQuote) m = leaves_open m [] ≡ true
Finishes (Err NotUtf8) m = ⊥
Finishes (Err NoMemory) m = leaves_open m [] ≡ false

-- what is answered for a joined line; memory wants only where it is UTF-8
abbrev pub Reads : Result (List (List ℕ)) Wordless → List ℕ → Type 0
Reads (Ok words) line = content_of line ≡ Worded words
Reads (Err OpenQuote) line = content_of line ≡ Faulty 2
Reads (Err NotUtf8) line = content_of line ≡ Faulty 1
Reads (Err NoMemory) line = is_utf8 line ≡ true
