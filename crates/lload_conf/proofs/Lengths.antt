-- No word of a text is longer than the text.
use Rattle.std.proofs.Common.{◌≡◌, ℕ, ◌+◌, ◌-◌, ◌≤◌, ◌==◌, ◌&&◌, not, Bool, true, false, cond, nat_lt, List, [], ◌∷◌, length, take, map, length-append, refl, ap, ◌∙◌, arith}
use Rattle.std.specs.Prelude.{Option, Some, None, is_none, is_some, unwrap_or, filter, codes, IfSome}
use Rattle.std.specs.List.{after_first, before_first, join_with_byte, onto_first, position_or_len, slice_split}
use Rattle.std.specs.Option.{option_and_then, option_or}
use Rattle.std.specs.Str.{is_utf8, str_eq_ignore_ascii_case}
use Rattle.std.specs.Str.Lines.{lines, lines_of_parts, strip_carriage_return}
use Rattle.std.proofs.lemmas.List.{length-drop, length-take}
use Rattle.conf_words.specs.Lines.{ConfLine, Content, Worded, Faulty, Group, conf_lines, line_count, groups_from, is_blank, is_continued, is_kept, joined, line_of, onto_first_group, unindented}
use Rattle.lload_conf.specs.Answers.{IsOwnBind}
use Rattle.lload_conf.specs.Line.{arguments_of, value_of, value_under}
use Rattle.lload_conf.specs.Settings.{own_bind_of}
use Rattle.lload_conf.specs.declared.config.OwnBind.{OwnBind}
use Rattle.conf_words.specs.Quoting.{Sign, Byte, Quote, has_part, is_escaped, is_space, parts, sign, signs, signs_behind, stays_open, word_of, words_of}

-- how much room byte lists take, with one byte behind each
abbrev pub spread : List (List ℕ) → ℕ
spread [] = 0
spread (l ∷ ls) = (length l + 1) + spread ls

onto_first-spread : (c : ℕ) (ls : List (List ℕ)) (room : ℕ) → spread ls ≤ room + 1 → spread (onto_first c ls) ≤ (room + 1) + 1
onto_first-spread c [] room within = omega arith
onto_first-spread c (l ∷ ls) room within = omega (arith, within)

cut-spread : (b : Bool) (c : ℕ) (ls : List (List ℕ)) (room : ℕ) → spread ls ≤ room + 1 → spread (cond b ([] ∷ ls) (onto_first c ls)) ≤ (room + 1) + 1
cut-spread true c ls room within = omega (arith, within)
cut-spread false c ls room within = onto_first-spread c ls room within

split-spread : (test : ℕ → Bool) (text : List ℕ) → spread (slice_split test text) ≤ length text + 1
split-spread test [] = omega arith
split-spread test (c ∷ cs) = omega (arith, cut-spread (test c) c (slice_split test cs) (length cs) (split-spread test cs))

-- the physical lines of a text
shorter : (b : Bool) (a l : List ℕ) → length a ≤ length l → length (cond b a l) ≤ length l
shorter true a l less = less
shorter false a l less = omega arith

stripped-length : (l : List ℕ) → length (strip_carriage_return l) ≤ length l
stripped-length l = shorter _ (take (length l - 1) l) l (omega (arith, length-take (length l - 1) l))

last-spread : (b : Bool) (l : List ℕ) → spread (cond b [] (l ∷ [])) ≤ spread (l ∷ [])
last-spread true l = omega arith
last-spread false l = omega arith

lines-spread : (ls : List (List ℕ)) → spread (lines_of_parts ls) ≤ spread ls
lines-spread [] = omega arith
lines-spread (l ∷ []) = last-spread (length l == 0) l
lines-spread (l ∷ (m ∷ ms)) = omega (arith, stripped-length l, lines-spread (m ∷ ms))

text-spread : (text : List ℕ) → spread (lines text) ≤ length text + 1
text-spread text = omega (arith, lines-spread (slice_split (λ b. b == 10) text), split-spread (λ b. b == 10) text)

-- the groups of physical lines
abbrev pub room_of : List Group → ℕ
room_of [] = 0
room_of (g ∷ gs) = spread g.pieces + room_of gs

onto-room : (n : ℕ) (l : List ℕ) (gs : List Group) → room_of (onto_first_group n l gs) ≤ (length l + 1) + room_of gs
onto-room n l [] = omega arith
onto-room n l (g ∷ gs) = omega arith

group-room : (a b : Bool) (n : ℕ) (l : List ℕ) (gs : List Group) (room : ℕ) → room_of gs ≤ room → room_of (cond a gs (cond b (onto_first_group n l gs) (record { number = n; pieces = l ∷ [] } ∷ gs))) ≤ (length l + 1) + room
group-room true b n l gs room within = omega (arith, within)
group-room false true n l gs room within = omega (arith, within, onto-room n l gs)
group-room false false n l gs room within = omega (arith, within)

groups-room : (n : ℕ) (ls : List (List ℕ)) → room_of (groups_from n ls) ≤ spread ls
groups-room n [] = omega arith
groups-room n (l ∷ ls) = group-room (is_blank l) (is_continued ls) n l (groups_from (n + 1) ls) (spread ls) (groups-room (n + 1) ls)

-- the line of a group
unindented-by : (b : Bool) (c : ℕ) (cs u : List ℕ) → length u ≤ length cs → length (cond b u (c ∷ cs)) ≤ length (c ∷ cs)
unindented-by true c cs u less = omega (arith, less)
unindented-by false c cs u less = omega arith

unindented-length : (l : List ℕ) → length (unindented l) ≤ length l
unindented-length [] = omega arith
unindented-length (c ∷ cs) = unindented-by (is_space c) c cs (unindented cs) (unindented-length cs)

unindented-spread : (ls : List (List ℕ)) → spread (map unindented ls) ≤ spread ls
unindented-spread [] = omega arith
unindented-spread (l ∷ ls) = omega (arith, unindented-length l, unindented-spread ls)

join-length : (ls : List (List ℕ)) → length (join_with_byte 32 ls) ≤ spread ls - 1
join-length [] = omega arith
join-length (l ∷ []) = omega arith
join-length (l ∷ (m ∷ ms)) = omega (arith, length-append l (32 ∷ join_with_byte 32 (m ∷ ms)), join-length (m ∷ ms))

joined-length : (pieces : List (List ℕ)) → length (joined pieces) ≤ spread pieces - 1
joined-length [] = omega arith
joined-length (l ∷ ls) = omega (arith, join-length (l ∷ map unindented ls), unindented-spread ls)

-- the signs and parts of a line
signs-more : (b : Bool) (s : Sign) (xs ys : List Sign) (n : ℕ) → length xs ≤ n + 1 → length ys ≤ n → length (cond b xs (s ∷ ys)) ≤ n + 1
signs-more true s xs ys n left right = left
signs-more false s xs ys n left right = omega (arith, right)

signs-escaped : (b : Bool) (c : ℕ) (ys : List Sign) (n : ℕ) → length ys ≤ n → length (cond b (Byte c ∷ ys) (Byte 92 ∷ (Byte c ∷ ys))) ≤ (n + 1) + 1
signs-escaped true c ys n within = omega (arith, within)
signs-escaped false c ys n within = omega (arith, within)

signs-length : (b : Bool) (cs : List ℕ) → length (signs_behind b cs) ≤ length cs + cond b 1 0
signs-length false [] = omega arith
signs-length true [] = omega arith
signs-length false (c ∷ cs) = omega (arith, signs-more (c == 92) (sign c) (signs_behind true cs) (signs_behind false cs) (length cs) (signs-length true cs) (omega (arith, signs-length false cs)))
signs-length true (c ∷ cs) = omega (arith, signs-escaped (is_escaped c) c (signs_behind false cs) (length cs) (omega (arith, signs-length false cs)))

abbrev pub weight : List (Option (List ℕ)) → ℕ
weight [] = 0
weight (p ∷ ps) = length (unwrap_or p []) + weight ps

byte-weight : (b : Bool) (c : ℕ) → length (unwrap_or (cond b None (Some (c ∷ []))) []) ≤ 1
byte-weight true c = omega arith
byte-weight false c = omega arith

parts-weight : (quoted : Bool) (ss : List Sign) → weight (parts quoted ss) ≤ length ss
parts-weight quoted [] = omega arith
parts-weight quoted (Byte c ∷ ss) = omega (arith, byte-weight (is_space c && not quoted) c, parts-weight quoted ss)
parts-weight quoted (Quote ∷ ss) = omega (arith, parts-weight (not quoted) ss)

-- the words of a line
abbrev pub load : List (List (Option (List ℕ))) → ℕ
load [] = 0
load (ps ∷ pss) = weight ps + load pss

onto_first-load : (p : Option (List ℕ)) (pss : List (List (Option (List ℕ)))) → load (onto_first p pss) ≤ length (unwrap_or p []) + load pss
onto_first-load p [] = omega arith
onto_first-load p (ps ∷ pss) = omega arith

cut-load : (b : Bool) (p : Option (List ℕ)) (pss : List (List (Option (List ℕ)))) (room : ℕ) → load pss ≤ room → load (cond b ([] ∷ pss) (onto_first p pss)) ≤ length (unwrap_or p []) + room
cut-load true p pss room within = omega (arith, within)
cut-load false p pss room within = omega (arith, within, onto_first-load p pss)

split-load : (test : Option (List ℕ) → Bool) (ps : List (Option (List ℕ))) → load (slice_split test ps) ≤ weight ps
split-load test [] = omega arith
split-load test (p ∷ ps) = cut-load (test p) p (slice_split test ps) (weight ps) (split-load test ps)

word-length : (ps : List (Option (List ℕ))) → length (word_of ps) ≡ weight ps
word-length [] = refl
word-length (p ∷ ps) = length-append (unwrap_or p []) (word_of ps) ∙ ap (λ n. length (unwrap_or p []) + n) (word-length ps)

-- no word is longer than a limit
abbrev pub HasShortWords : ℕ → List (List ℕ) → Type 0
HasShortWords limit [] = Unit {0}
HasShortWords limit (w ∷ ws) = (length w ≤ limit) × HasShortWords limit ws

kept-words : (b : Bool) (limit : ℕ) (ps : List (Option (List ℕ))) (rest : List (List (Option (List ℕ)))) → length (word_of ps) ≤ limit → HasShortWords limit (map word_of rest) → HasShortWords limit (map word_of (cond b (ps ∷ rest) rest))
kept-words true limit ps rest short shorts = (short, shorts)
kept-words false limit ps rest short shorts = shorts

parts-short : (limit : ℕ) (pss : List (List (Option (List ℕ)))) → load pss ≤ limit → HasShortWords limit (map word_of (filter has_part pss))
parts-short limit [] within = tt
parts-short limit (ps ∷ pss) within = kept-words (has_part ps) limit ps (filter has_part pss) (omega (arith, within, word-length ps)) (parts-short limit pss (omega (arith, within)))

words-short : (limit : ℕ) (line : List ℕ) → length line ≤ limit → HasShortWords limit (words_of line)
words-short limit line within = parts-short limit (slice_split is_none (parts false (signs line))) (omega (arith, within, split-load is_none (parts false (signs line)), parts-weight false (signs line), signs-length false line))

abbrev pub IsShort : ℕ → Content → Type 0
IsShort limit (Worded words) = HasShortWords limit words
IsShort limit (Faulty kind) = Unit {0}

content-short : (a b : Bool) (limit : ℕ) (line : List ℕ) → length line ≤ limit → IsShort limit (cond a (Faulty 1) (cond b (Faulty 2) (Worded (words_of line))))
content-short true b limit line within = tt
content-short false true limit line within = tt
content-short false false limit line within = words-short limit line within

abbrev pub AreShort : ℕ → List ConfLine → Type 0
AreShort limit [] = Unit {0}
AreShort limit (l ∷ ls) = IsShort limit l.content × AreShort limit ls

kept-lines : (b : Bool) (limit : ℕ) (g : Group) (rest : List Group) → IsShort limit (line_of g).content → AreShort limit (map line_of rest) → AreShort limit (map line_of (cond b (g ∷ rest) rest))
kept-lines true limit g rest short shorts = (short, shorts)
kept-lines false limit g rest short shorts = shorts

groups-short : (limit : ℕ) (gs : List Group) → room_of gs ≤ limit + 1 → AreShort limit (map line_of (filter is_kept gs))
groups-short limit [] within = tt
groups-short limit (g ∷ gs) within = kept-lines (is_kept g) limit g (filter is_kept gs) (content-short (not (is_utf8 (joined g.pieces))) (stays_open false (signs (joined g.pieces))) limit (joined g.pieces) (omega (arith, within, joined-length g.pieces))) (groups-short limit gs (omega (arith, within)))

-- no word of a text is longer than the text
pub text-short : (limit : ℕ) (text : List ℕ) → length text ≤ limit → AreShort limit (conf_lines text)
text-short limit text within = groups-short limit (groups_from 1 (lines text)) (omega (arith, within, groups-room 1 (lines text), text-spread text))

-- nor has a text more lines than bytes and one
lines-few : (ls : List (List ℕ)) → length ls ≤ spread ls
lines-few [] = omega arith
lines-few (l ∷ ls) = omega (arith, lines-few ls)

pub line_count-le : (text : List ℕ) → line_count text ≤ length text + 1
line_count-le text = omega (arith, lines-few (lines text), text-spread text)

-- the value of an argument is no longer than the argument
value-by : (a : Bool) (word name before after : List ℕ) → length after ≤ length word → length (unwrap_or (option_and_then (λ (pair : List ℕ × List ℕ). cond (str_eq_ignore_ascii_case pair.0 name) (Some pair.1) None) (cond a (Some (before, after)) None)) []) ≤ length word
value-by true word name before after less = by-name (str_eq_ignore_ascii_case before name)
  where
    by-name : (b : Bool) → length (unwrap_or (cond b (Some after) None) []) ≤ length word
    by-name true = less
    by-name false = omega arith
value-by false word name before after less = omega arith

value-length : (name word : List ℕ) → length (unwrap_or (value_under name word) []) ≤ length word
value-length name word = value-by (nat_lt (position_or_len (λ b. b == 61) word) (length word)) word name (before_first (λ b. b == 61) word) (after_first (λ b. b == 61) word) (omega (arith, length-drop (position_or_len (λ b. b == 61) word + 1) word))

or-length : (o r : Option (List ℕ)) (limit : ℕ) → length (unwrap_or o []) ≤ limit → length (unwrap_or r []) ≤ limit → length (unwrap_or (option_or o r) []) ≤ limit
or-length None r limit left right = right
or-length (Some v) r limit left right = left

value-short : (name : List ℕ) (limit : ℕ) (words : List (List ℕ)) → HasShortWords limit words → length (unwrap_or (value_of name words) []) ≤ limit
value-short name limit [] short = omega arith
value-short name limit (w ∷ ws) short = or-length (value_under name w) (value_of name ws) limit (omega (arith, short.0, value-length name w)) (value-short name limit ws short.1)

bind-by : (b : Bool) (bind : OwnBind) → IsOwnBind bind → IfSome (cond b (Some bind) None) IsOwnBind
bind-by true bind short = short
bind-by false bind short = tt

pub bind-short : (words : List (List ℕ)) → HasShortWords 1048576 words → IfSome (own_bind_of words) IsOwnBind
bind-short words short = bind-by (is_some (value_of (codes "bindmethod") words)) (record { dn = unwrap_or (value_of (codes "binddn") words) []; credentials = unwrap_or (value_of (codes "credentials") words) [] }) (record { short_dn = value-short (codes "binddn") 1048576 words short; short_credentials = value-short (codes "credentials") 1048576 words short })

-- the arguments of a line
pub arguments-short : (limit : ℕ) (line : List (List ℕ)) → HasShortWords limit line → HasShortWords limit (arguments_of line)
arguments-short limit [] short = tt
arguments-short limit (name ∷ words) short = short.1
