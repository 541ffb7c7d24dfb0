-- The faults of a line of a configuration. Each kind is a test of a line and of what stood before it; of those that hold,
-- the lowest counts.
use Rattle.std.specs.Prelude.{ℕ, ◌+◌, ◌==◌, ◌&&◌, ◌||◌, not, Bool, true, false, nat_lt, nat_le, if◌then◌else◌, List, [], ◌∷◌, ◌++◌, length, codes, bytes_eq, Option, Some, None, is_some, is_none}
use Rattle.std.specs.List.{list_any}
use Rattle.std.specs.Option.{option_map_or}
use Rattle.std.specs.Str.{str_eq_ignore_ascii_case}
use Rattle.lload_conf.specs.Line.{Words, argument_of, argument_read, key_of, number_of, second_of, value_of}
use Rattle.lload_conf.specs.Table.{Entry, numconns, bindconns}
use Rattle.lload_conf.specs.Values.{action_named, number, tier_kind, is_feature, is_isolate, is_left_out_feature, is_oid, seconds, uri_target}
use Rattle.lload_conf.specs.declared.line.Before.{Before}
use Rattle.lload_conf.specs.declared.table.Arguments.{Arguments}
use Rattle.lload_conf.specs.declared.table.Arguments.TheVariants.{One, Each, Pairs, Restriction, Unread}
use Rattle.lload_conf.specs.declared.table.Directive.{Directive}
use Rattle.lload_conf.specs.declared.table.Directive.TheVariants.{BindConf, Tier, BackendServer, Feature, RestrictExop, RestrictControl, Noted, LeftOut}
use Rattle.lload_conf.specs.declared.table.Takes.{Takes}
use Rattle.lload_conf.specs.declared.table.Takes.TheVariants as takes
use Rattle.lload_conf.specs.declared.values.Target.{Target}
use Rattle.lload_conf.specs.declared.values.Target.TheVariants.{Unreadable, Elsewhere}

-- kind 4: the count of arguments is wrong
abbrev pub has_wrong_count : Arguments → Words → Bool
has_wrong_count (One t) words = not (length words == 1)
has_wrong_count (Each t) words = length words == 0
has_wrong_count (Pairs keys) words = length words == 0
has_wrong_count Restriction words = not (length words == 2)
has_wrong_count Unread words = false

abbrev pub is_unreadable_target : Target → Bool
is_unreadable_target Unreadable = true
is_unreadable_target _ = false

abbrev pub is_elsewhere : Target → Bool
is_elsewhere Elsewhere = true
is_elsewhere _ = false

-- whether a text is a number that can't be read or is out of range, a port included
abbrev pub is_unreadable : Takes → List ℕ → Bool
is_unreadable (takes.Number range) text = is_none (number range text)
is_unreadable takes.Seconds text = is_none (seconds text)
is_unreadable takes.Uri text = is_unreadable_target (uri_target text)
is_unreadable _ text = false

abbrev pub is_unreadable_argument : Arguments → List ℕ → Bool
is_unreadable_argument arguments word = option_map_or (λ read. is_unreadable read.0 read.1) (argument_read arguments word) false

-- whether an argument is there and fails a test
abbrev pub fails : (List ℕ → Bool) → Option (List ℕ) → Bool
fails test argument = option_map_or (λ text. not (test text)) argument false

-- kind 5: a number is unreadable or out of range, or an OID is unreadable
abbrev pub has_unreadable : Arguments → Words → Bool
has_unreadable Restriction words = fails is_oid (argument_of words)
has_unreadable arguments words = list_any (is_unreadable_argument arguments) words

-- whether a text is a tier type or a feature that isn't known
abbrev pub is_unknown : Takes → List ℕ → Bool
is_unknown takes.Kind text = is_none (tier_kind text)
is_unknown takes.Feature text = not (is_feature text)
is_unknown _ text = false

abbrev pub is_unknown_argument : Arguments → List ℕ → Bool
is_unknown_argument arguments word = option_map_or (λ read. is_unknown read.0 read.1) (argument_read arguments word) true

-- whether a text is an action of lloadd.conf(5)
abbrev pub is_action : List ℕ → Bool
is_action text = is_some (action_named text) || is_isolate text

-- kind 6: a key, feature, tier type or action is unknown, or an argument that is to be a key with its value has no `=`
abbrev pub has_unknown : Arguments → Words → Bool
has_unknown Restriction words = fails is_action (second_of words)
has_unknown arguments words = list_any (is_unknown_argument arguments) words

-- whether two arguments set one key
abbrev pub repeats_key : Words → Bool
repeats_key [] = false
repeats_key (word ∷ words) = list_any (λ later. str_eq_ignore_ascii_case (key_of word) (key_of later)) words || repeats_key words

-- the index of the first argument whose key an argument before it has, where `before` stands before these
abbrev pub repeat_behind : Words → Words → Option ℕ
repeat_behind before [] = None
repeat_behind before (word ∷ words) =
    if list_any (λ earlier. str_eq_ignore_ascii_case (key_of earlier) (key_of word)) before then Some (length before) else repeat_behind (before ++ word ∷ []) words

-- the same of all arguments
abbrev pub first_repeat : Words → Option ℕ
first_repeat words = repeat_behind [] words

abbrev pub repeats : Arguments → Words → Bool
repeats (Pairs keys) words = repeats_key words
repeats _ words = false

-- whether a directive may stand in several lines
abbrev pub may_stand_again : Directive → Bool
may_stand_again Tier = true
may_stand_again BackendServer = true
may_stand_again Feature = true
may_stand_again RestrictExop = true
may_stand_again RestrictControl = true
may_stand_again Noted = true
may_stand_again LeftOut = true
may_stand_again _ = false

-- kind 7: a key stands twice in the line, the directive stood before and may not stand again, or it restricted the OID
-- before
abbrev pub stands_twice : Before → Arguments → Words → Bool
stands_twice before arguments words = repeats arguments words || before.stood

-- whether a text belongs to something that this proxy doesn't have
abbrev pub is_left_out : Takes → List ℕ → Bool
is_left_out takes.LeftOut text = true
is_left_out takes.Feature text = is_left_out_feature text
is_left_out takes.Method text = not (bytes_eq text (codes "simple"))
is_left_out takes.Uri text = is_elsewhere (uri_target text)
is_left_out _ text = false

abbrev pub is_left_out_argument : Arguments → List ℕ → Bool
is_left_out_argument arguments word = option_map_or (λ read. is_left_out read.0 read.1) (argument_read arguments word) false

-- kind 8: something that this proxy doesn't have stands in the line
abbrev pub has_left_out : Arguments → Words → Bool
has_left_out Restriction words = option_map_or is_isolate (second_of words) false
has_left_out Unread words = true
has_left_out arguments words = list_any (is_left_out_argument arguments) words

-- kind 9: a backend stands before any tier
abbrev pub lacks_tier : Before → Directive → Bool
lacks_tier before BackendServer = before.tiers == 0
lacks_tier before _ = false

-- whether a key is set
abbrev pub has_key : List ℕ → Words → Bool
has_key name words = is_some (value_of name words)

-- kind 11: `uri` is missing; `bindmethod` stands without both `binddn` and `credentials`, or one of these without it
abbrev pub lacks_key : Directive → Words → Bool
lacks_key BackendServer words = not (has_key (codes "uri") words)
lacks_key BindConf words =
    if has_key (codes "bindmethod") words
    then not (has_key (codes "binddn") words && has_key (codes "credentials") words)
    else has_key (codes "binddn") words || has_key (codes "credentials") words
lacks_key _ words = false

-- how many places a backend has
abbrev pub places_of : Words → ℕ
places_of words = number_of (codes "numconns") numconns words + number_of (codes "bindconns") bindconns words

-- kind 12: the line passes 64 tiers, 64 backends or 512 places
abbrev pub passes_limit : Before → Directive → Words → Bool
passes_limit before Tier words = nat_le 64 before.tiers
passes_limit before BackendServer words = nat_le 64 before.backends || nat_lt 512 (before.places + places_of words)
passes_limit before _ words = false

-- the lowest kind that holds of a line of a known directive
abbrev pub entry_fault : Before → Entry → Words → Option ℕ
entry_fault before entry words =
    if has_wrong_count entry.1 words then Some 4
    else if has_unreadable entry.1 words then Some 5
    else if has_unknown entry.1 words then Some 6
    else if stands_twice before entry.1 words then Some 7
    else if has_left_out entry.1 words then Some 8
    else if lacks_tier before entry.0 then Some 9
    else if lacks_key entry.0 words then Some 11
    else if passes_limit before entry.0 words then Some 12
    else None
