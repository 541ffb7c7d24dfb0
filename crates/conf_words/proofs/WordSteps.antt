-- What a word maker makes of the rest behind each step.
use Rattle.std.proofs.Common.{◌≡◌, ℕ, ◌<◌, ◌==◌, ◌&&◌, ◌∙◌, Bool, true, false, not, List, [], ◌∷◌, ◌++◌, map, length, refl, subst, ap, sym, arith, append_assoc, append-nil}
use Rattle.std.specs.Prelude.{Option, Some, None, Result, Ok, Err, IfOk, unwrap_or, is_none, filter, encode_utf8}
use Rattle.std.proofs.lemmas.Str.{encode_ascii}
use Rattle.std.specs.List.{slice_split, onto_first}
use Rattle.std.proofs.lemmas.Bool.Decides.{nat_tests}
use Rattle.conf_words.specs.Quoting.{Byte, is_space, is_escaped, signs_behind, stays_open, parts, has_part, word_of, words_of_parts}
use Rattle.conf_words.specs.WordMaking.{Adds, Goes, TurnsQuote, begun, leaves_open, makes, onto_word}
use Rattle.conf_words.specs.declared.words.WordMaker.{WordMaker}

-- two parts of a word in front of the words that are split off
merged : (w xs : List ℕ) (split : List (List (Option (List ℕ)))) → map word_of (filter has_part (onto_first (Some w) (onto_first (Some xs) split))) ≡ map word_of (filter has_part (onto_first (Some (w ++ xs)) split))
merged w xs [] = rw (append-nil, append-nil) refl
merged w xs (ps ∷ split) = rw append_assoc refl

-- two parts side by side are of one word
words_of_parts-merged : (w xs : List ℕ) (ps : List (Option (List ℕ))) → words_of_parts (Some w ∷ Some xs ∷ ps) ≡ words_of_parts (Some (w ++ xs) ∷ ps)
words_of_parts-merged w xs ps = merged w xs (slice_split is_none ps)

-- a part behind the word that was begun, or none, is of that word
words_of_parts-added : (o : Option (List ℕ)) (xs : List ℕ) (ps : List (Option (List ℕ))) → words_of_parts (onto_word o (Some xs ∷ ps)) ≡ words_of_parts (Some (unwrap_or o [] ++ xs) ∷ ps)
words_of_parts-added None xs ps = refl
words_of_parts-added (Some w) xs ps = words_of_parts-merged w xs ps

-- a byte that is part of a word, in a quoted stretch or not: no backslash, no quote, and nothing that separates words
pub record IsOfWord (quoted : Bool) (c : ℕ) : Type 0 where
  pub no_backslash : (c == 92) ≡ false
  pub no_quote : (c == 34) ≡ false
  pub no_gap : (is_space c && not quoted) ≡ false

-- each byte is part of a word
abbrev pub AllOfWord : Bool → List ℕ → Type 0
AllOfWord quoted [] = Unit {0}
AllOfWord quoted (c ∷ cs) = IsOfWord quoted c × AllOfWord quoted cs

-- bytes of a word behind a word that was begun
words_of_parts-bytes : (quoted : Bool) (w bs rest : List ℕ) → AllOfWord quoted bs → words_of_parts (Some w ∷ parts quoted (signs_behind false (bs ++ rest))) ≡ words_of_parts (Some (w ++ bs) ∷ parts quoted (signs_behind false rest))
words_of_parts-bytes quoted w [] rest all = rw append-nil refl
words_of_parts-bytes quoted w (c ∷ cs) rest all =
    rw (all.0.no_backslash, all.0.no_quote, all.0.no_gap)
    (words_of_parts-merged w (c ∷ []) (parts quoted (signs_behind false (cs ++ rest))) ∙ words_of_parts-bytes quoted (w ++ c ∷ []) cs rest all.1 ∙ rw append_assoc refl)

-- bytes of a word open and close no quote
stays_open-bytes : (quoted : Bool) (bs rest : List ℕ) → AllOfWord quoted bs → stays_open quoted (signs_behind false (bs ++ rest)) ≡ stays_open quoted (signs_behind false rest)
stays_open-bytes quoted [] rest all = refl
stays_open-bytes quoted (c ∷ cs) rest all = rw (all.0.no_backslash, all.0.no_quote) (stays_open-bytes quoted cs rest all.1)

-- bytes of a word, of which there is one at least, behind the word that was begun, or none
words_of_parts-some_bytes : (quoted : Bool) (o : Option (List ℕ)) (bs rest : List ℕ) → AllOfWord quoted bs → 0 < length bs → words_of_parts (onto_word o (parts quoted (signs_behind false (bs ++ rest)))) ≡ words_of_parts (Some (unwrap_or o [] ++ bs) ∷ parts quoted (signs_behind false rest))
words_of_parts-some_bytes quoted (Some w) bs rest all some = words_of_parts-bytes quoted w bs rest all
words_of_parts-some_bytes quoted None [] rest all some = absurd (omega arith)
words_of_parts-some_bytes quoted None (c ∷ cs) rest all some = rw (all.0.no_backslash, all.0.no_quote, all.0.no_gap) (words_of_parts-bytes quoted (c ∷ []) cs rest all.1)

-- the words of a line, by the words before, the word that was begun, whether a quote is open, whether a backslash stands before, and what is left
abbrev pub made : List (List ℕ) → Option (List ℕ) → Bool → Bool → List ℕ → List (List ℕ)
made words o quoted escaped rest = words ++ words_of_parts (onto_word o (parts quoted (signs_behind escaped rest)))

-- bytes of a word are added to it
pub goes_added : (old new : WordMaker) (bs : List ℕ) → old.escaped ≡ false → AllOfWord old.quoted bs → 0 < length bs → Adds old new bs → Goes old new bs
goes_added old new bs plain all some adds = record {
  words = λ rest.
      (λ i. made old.words (begun old) old.quoted (plain i) (bs ++ rest))
      ∙ ap (λ v. old.words ++ v) (words_of_parts-some_bytes old.quoted (begun old) bs rest all some)
      ∙ (λ i. made (sym adds.words i) (sym adds.word i) (sym adds.quoted i) (sym (adds.escaped ∙ plain) i) rest);
  open_quote = λ rest.
      (λ i. stays_open old.quoted (signs_behind (plain i) (bs ++ rest)))
      ∙ stays_open-bytes old.quoted bs rest all
      ∙ (λ i. stays_open (sym adds.quoted i) (signs_behind (sym (adds.escaped ∙ plain) i) rest));
}

-- a quote begins or ends a stretch
pub goes_quoted : (old new : WordMaker) → old.escaped ≡ false → TurnsQuote old new → Goes old new (34 ∷ [])
goes_quoted old new plain turns = record {
  words = λ rest.
      (λ i. made old.words (begun old) old.quoted (plain i) (34 ∷ rest))
      ∙ ap (λ v. old.words ++ v) (words_of_parts-added (begun old) [] (parts (not old.quoted) (signs_behind false rest)))
      ∙ (λ i. made (sym turns.words i) (Some (append-nil (unwrap_or (begun old) []) i)) (sym turns.quoted i) (sym (turns.escaped ∙ plain) i) rest)
      ∙ (λ i. made new.words (sym turns.word i) new.quoted new.escaped rest);
  open_quote = λ rest.
      (λ i. stays_open old.quoted (signs_behind (plain i) (34 ∷ rest)))
      ∙ (λ i. stays_open (sym turns.quoted i) (signs_behind (sym (turns.escaped ∙ plain) i) rest));
}

-- a character that a backslash gives is no space
escaped_is_no_space : (c : ℕ) → is_escaped c ≡ true → is_space c ≡ false
escaped_is_no_space c is = grind (arith, nat_tests)

-- a character that the backslash before it gives
goes_given : (old new : WordMaker) (c : ℕ) → old.escaped ≡ true → is_escaped c ≡ true → Adds (record old { escaped = false }) new (c ∷ []) → Goes old new (c ∷ [])
goes_given old new c kept is adds =
    let no_space = escaped_is_no_space c is in
    record {
      words = λ rest.
          (λ i. made old.words (begun old) old.quoted (kept i) (c ∷ rest))
          ∙ (rw (is, no_space) (ap (λ v. old.words ++ v) (words_of_parts-added (begun old) (c ∷ []) (parts old.quoted (signs_behind false rest)))))
          ∙ (λ i. made (sym adds.words i) (sym adds.word i) (sym adds.quoted i) (sym adds.escaped i) rest);
      open_quote = λ rest.
          (λ i. stays_open old.quoted (signs_behind (kept i) (c ∷ rest)))
          ∙ (rw is refl)
          ∙ (λ i. stays_open (sym adds.quoted i) (signs_behind (sym adds.escaped i) rest));
    }

-- the same, with the bytes of the character
pub goes_escaped : (old new : WordMaker) (c : ℕ) → old.escaped ≡ true → is_escaped c ≡ true → Adds (record old { escaped = false }) new (encode_utf8 c) → Goes old new (encode_utf8 c)
goes_escaped old new c kept is adds =
    let same : encode_utf8 c ≡ c ∷ [] = encode_ascii c (grind (arith, nat_tests)) in
    subst (Goes old new) (sym same) (goes_given old new c kept is (subst (Adds (record old { escaped = false }) new) same adds))

-- bytes before which a backslash stays: the first is neither a quote nor a backslash
abbrev pub KeepsBackslash : List ℕ → Type 0
KeepsBackslash [] = ⊥
KeepsBackslash (c ∷ cs) = ((c == 92) ≡ false) × ((c == 34) ≡ false)

-- a backslash that stays
signs_behind-kept : (bs rest : List ℕ) → KeepsBackslash bs → signs_behind true (bs ++ rest) ≡ Byte 92 ∷ signs_behind false (bs ++ rest)
signs_behind-kept [] rest keeps = absurd keeps
signs_behind-kept (c ∷ cs) rest keeps = rw (keeps.0, keeps.1) refl

-- a backslash before another character stays, and then the character is taken
pub goes_behind : (old mid new : WordMaker) (bs : List ℕ) → old.escaped ≡ true → KeepsBackslash bs → Adds (record old { escaped = false }) mid (92 ∷ []) → Goes mid new bs → Goes old new bs
goes_behind old mid new bs kept keeps adds goes = record {
  words = λ rest.
      (λ i. made old.words (begun old) old.quoted (kept i) (bs ++ rest))
      ∙ ap (λ ss. old.words ++ words_of_parts (onto_word (begun old) (parts old.quoted ss))) (signs_behind-kept bs rest keeps)
      ∙ ap (λ v. old.words ++ v) (words_of_parts-added (begun old) (92 ∷ []) (parts old.quoted (signs_behind false (bs ++ rest))))
      ∙ (λ i. made (sym adds.words i) (sym adds.word i) (sym adds.quoted i) (sym adds.escaped i) (bs ++ rest))
      ∙ goes.words rest;
  open_quote = λ rest.
      (λ i. stays_open old.quoted (signs_behind (kept i) (bs ++ rest)))
      ∙ ap (stays_open old.quoted) (signs_behind-kept bs rest keeps)
      ∙ (λ i. stays_open (sym adds.quoted i) (signs_behind (sym adds.escaped i) (bs ++ rest)))
      ∙ goes.open_quote rest;
}

-- what follows from a fact at an answer follows from it there
pub when_ok : {A E P Q : Type 0} (r : Result A E) → (P → Q) → IfOk r (λ _. P) → IfOk r (λ _. Q)
when_ok (Ok x) follows is = follows is
when_ok (Err e) follows is = tt

-- a maker that makes of nothing what another makes of a text
pub nothing_left : (old new : WordMaker) (text left : List ℕ) → length left ≡ 0 → ((rest : List ℕ) → makes old (text ++ rest) ≡ makes new (left ++ rest)) → ((rest : List ℕ) → leaves_open old (text ++ rest) ≡ leaves_open new (left ++ rest)) → Goes old new text
nothing_left old new text (c ∷ cs) ended words open_quote = absurd (omega arith)
nothing_left old new text [] ended words open_quote = record { words = words; open_quote = open_quote }
