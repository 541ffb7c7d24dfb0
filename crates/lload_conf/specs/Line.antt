-- The parts of a line of a configuration, which is given as its words.
use Rattle.std.specs.Prelude.{ℕ, ◌==◌, Bool, false, List, [], ◌∷◌, find, Option, Some, None, option_map, if◌then◌else◌}
use Rattle.std.specs.List.{before_first}
use Rattle.std.specs.Option.{option_map_or, option_and_then, option_or}
use Rattle.std.specs.Str.{str_eq_ignore_ascii_case}
use Rattle.lload_conf.specs.Table.{Entry, directive_named, key_named}
use Rattle.lload_conf.specs.Values.{number_or_default, parts}
use Rattle.lload_conf.specs.declared.table.Arguments.{Arguments}
use Rattle.lload_conf.specs.declared.table.Arguments.TheVariants.{One, Each, Pairs, Restriction, Unread}
use Rattle.lload_conf.specs.declared.table.Directive.{Directive}
use Rattle.lload_conf.specs.declared.table.Directive.TheVariants.{BindConf, Tier, BackendServer, ClientMaxPending, ClientLimit, UpstreamLimit, IoTimeout, IoThreads, Feature, WriteCoherence, RestrictExop, RestrictControl, ClientMaxUnsent, Noted, LeftOut}
use Rattle.lload_conf.specs.declared.table.Keys.{Keys}
use Rattle.lload_conf.specs.declared.table.Number.{Number}
use Rattle.lload_conf.specs.declared.table.Takes.{Takes}
use Rattle.lload_conf.specs.declared.table.Takes.TheVariants as takes

-- the words of a line: the name of its directive and then the arguments
abbrev pub Words : Type 0
Words = List (List ℕ)

-- the directive of a line and what its arguments are, where it is known
abbrev pub entry_of : Words → Option Entry
entry_of [] = None
entry_of (name ∷ words) = directive_named name

-- the arguments of a line
abbrev pub arguments_of : Words → Words
arguments_of [] = []
arguments_of (name ∷ words) = words

-- the one argument of a line
abbrev pub argument_of : Words → Option (List ℕ)
argument_of [] = None
argument_of (word ∷ words) = Some word

-- the second of two arguments
abbrev pub second_of : Words → Option (List ℕ)
second_of [] = None
second_of (word ∷ words) = argument_of words

-- a number for each directive that can be asked for, to tell them apart
abbrev pub rank : Directive → ℕ
rank BindConf = 0
rank Tier = 1
rank BackendServer = 2
rank ClientMaxPending = 3
rank ClientLimit = 4
rank UpstreamLimit = 5
rank IoTimeout = 6
rank IoThreads = 7
rank Feature = 8
rank Noted = 9
rank LeftOut = 10
rank WriteCoherence = 11
rank RestrictExop = 12
rank RestrictControl = 13
rank ClientMaxUnsent = 14

-- whether a line is of this directive
abbrev pub is_of : Directive → Words → Bool
is_of d line = option_map_or (λ e. rank e.0 == rank d) (entry_of line) false

-- the arguments of the first of some lines that is of this directive
abbrev pub arguments_under : Directive → List Words → Option Words
arguments_under d lines = option_map arguments_of (find (is_of d) lines)

-- what a pair of a key and a value may be as its value, and that value; there is nothing where the key isn't known or
-- the word has no `=`
abbrev pub value_read : Keys → List ℕ × List ℕ → Option (Takes × List ℕ)
value_read keys pair = option_map (λ t. (t, pair.1)) (key_named keys pair.0)

-- what an argument may be, and its text
abbrev pub argument_read : Arguments → List ℕ → Option (Takes × List ℕ)
argument_read (One t) word = Some (t, word)
argument_read (Each t) word = Some (t, word)
argument_read (Pairs keys) word = option_and_then (value_read keys) (parts 61 word)
argument_read Restriction word = Some (takes.Text, word)
argument_read Unread word = Some (takes.Text, word)

-- the key of an argument, which stands before its first `=`
abbrev pub key_of : List ℕ → List ℕ
key_of word = before_first (λ b. b == 61) word

-- the value of an argument, where it sets this key
abbrev pub value_under : List ℕ → List ℕ → Option (List ℕ)
value_under name word = option_and_then (λ pair. if str_eq_ignore_ascii_case pair.0 name then Some pair.1 else None) (parts 61 word)

-- the value of a key among some arguments: that of the first that sets it
abbrev pub value_of : List ℕ → Words → Option (List ℕ)
value_of name [] = None
value_of name (word ∷ words) = option_or (value_under name word) (value_of name words)

-- the number of a key among some arguments, or its default
abbrev pub number_of : List ℕ → Number → Words → ℕ
number_of name range words = number_or_default range (value_of name words)
