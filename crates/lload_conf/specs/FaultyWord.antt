-- Which word of a line its fault is of. Words are counted from 0, and the word 0 is the directive.
use Rattle.std.specs.Prelude.{ℕ, ◌+◌, ◌==◌, not, nat_lt, if◌then◌else◌, List, [], length, codes, slice_get, unwrap_or, Option, Some, None}
use Rattle.std.specs.List.{position}
use Rattle.std.specs.Option.{option_and_then, option_map_or}
use Rattle.lload_conf.specs.Faults.{first_repeat, has_key, is_left_out_argument, is_unknown_argument, is_unreadable_argument}
use Rattle.conf_words.specs.Locating.{line_of_word}
use Rattle.conf_words.specs.declared.joining.First.{First}
use Rattle.lload_conf.specs.Line.{Words, argument_read, arguments_of, entry_of, is_of}
use Rattle.lload_conf.specs.declared.table.Directive.TheVariants.{BackendServer}
use Rattle.lload_conf.specs.Table.{directive_named}
use Rattle.lload_conf.specs.declared.table.Takes.{Takes}
use Rattle.lload_conf.specs.declared.table.Arguments.{Arguments}
use Rattle.lload_conf.specs.declared.table.Arguments.TheVariants.{One, Pairs, Restriction, Unread}

-- an index among the first arguments, where there is an argument
abbrev pub argument_at : ℕ → Words → Option ℕ
argument_at index words = if nat_lt index (length words) then Some index else None

-- kind 4: the first argument too many
abbrev pub surplus : Arguments → Words → Option ℕ
surplus (One takes) words = argument_at 1 words
surplus Restriction words = argument_at 2 words
surplus _ words = None

-- kind 5: the first argument that is unreadable, the OID of a restriction
abbrev pub unreadable_at : Arguments → Words → Option ℕ
unreadable_at Restriction words = argument_at 0 words
unreadable_at arguments words = position (is_unreadable_argument arguments) words

-- kind 6: the first argument that isn't known, the action of a restriction
abbrev pub unknown_at : Arguments → Words → Option ℕ
unknown_at Restriction words = argument_at 1 words
unknown_at arguments words = position (is_unknown_argument arguments) words

-- kind 7: the first key that stood before, the OID of a restriction; none where the directive itself did
abbrev pub repeated_at : Arguments → Words → Option ℕ
repeated_at (Pairs keys) words = first_repeat words
repeated_at Restriction words = argument_at 0 words
repeated_at _ words = None

-- kind 8: the first argument that is left out, the action of a restriction; none where the directive is
abbrev pub left_out_at : Arguments → Words → Option ℕ
left_out_at Restriction words = argument_at 1 words
left_out_at Unread words = None
left_out_at arguments words = position (is_left_out_argument arguments) words

-- the argument that a fault of a kind is of, counted from 0; none where it is of the line as a whole
abbrev pub faulty_argument : ℕ → Arguments → Words → Option ℕ
faulty_argument kind arguments words =
    if kind == 4 then surplus arguments words
    else if kind == 5 then unreadable_at arguments words
    else if kind == 6 then unknown_at arguments words
    else if kind == 7 then repeated_at arguments words
    else if kind == 8 then left_out_at arguments words
    else None

-- the word of a line that its fault is of
abbrev pub faulty_word : ℕ → Words → ℕ
faulty_word kind words =
    option_map_or (λ entry. option_map_or (λ index. index + 1) (faulty_argument kind entry.1 (arguments_of words)) 0) (entry_of words) 0

-- the key that is missing: of a backend its `uri`; of `bindconf` the first of the three that stand together
abbrev pub missing_key : Words → List ℕ
missing_key words =
    if is_of BackendServer words then codes "uri"
    else if not (has_key (codes "bindmethod") (arguments_of words)) then codes "bindmethod"
    else if not (has_key (codes "binddn") (arguments_of words)) then codes "binddn"
    else codes "credentials"

-- the text that a fault is of: of kind 11 the key that is missing, and else its word
abbrev pub faulty_text : ℕ → Words → List ℕ
faulty_text kind words = if kind == 11 then missing_key words else unwrap_or (slice_get words (faulty_word kind words)) []

-- the number of the physical line in which a word of a line begins, which is `number` where no line is there
abbrev pub physical_of : ℕ → ℕ → Option First → ℕ
physical_of number word first = option_map_or (λ line. line_of_word line word) first number

-- what an argument of a directive may be, and its text
abbrev pub wanted_of : List ℕ → List ℕ → Option (Takes × List ℕ)
wanted_of directive argument = option_and_then (λ entry. argument_read entry.1 argument) (directive_named directive)
