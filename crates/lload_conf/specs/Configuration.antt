-- The configuration of a text, or its first fault.
use Rattle.std.specs.Prelude.{ℕ, ◌+◌, ◌==◌, if◌then◌else◌, List, [], ◌∷◌, ◌++◌, length, count_by, sum_by, codes, Option, Some, None, is_some, Result, Ok, Err, Bool, false, ◌&&◌, ◌||◌, not}
use Rattle.std.specs.Fmt.{decimal}
use Rattle.std.specs.Option.{option_map_or}
use Rattle.conf_words.specs.Lines.{ConfLine, Content, Worded, Faulty, conf_lines, line_count}
use Rattle.lload_names.specs.Plans.{backends_of, place_count}
use Rattle.lload_conf.specs.Faults.{entry_fault, may_stand_again, places_of}
use Rattle.lload_conf.specs.Line.{Words, arguments_of, arguments_under, entry_of, is_of}
use Rattle.restrictions.specs.Actions.{restriction_of}
use Rattle.restrictions.specs.declared.table.Restrictions.{Restrictions}
use Rattle.lload_conf.specs.Settings.{config_of, oid_of, restricted_by}
use Rattle.lload_conf.specs.declared.config.Config.{Config}
use Rattle.lload_conf.specs.declared.line.Before.{Before}
use Rattle.lload_conf.specs.declared.table.Directive.{Directive}
use Rattle.lload_conf.specs.declared.table.Directive.TheVariants.{Tier, BackendServer, RestrictExop, RestrictControl}

-- how many of some lines are of this directive
abbrev pub count_under : Directive → List Words → ℕ
count_under d lines = count_by (is_of d) lines

-- the places that a line adds
abbrev pub places_here : Words → ℕ
places_here line = if is_of BackendServer line then places_of (arguments_of line) else 0

-- whether the arguments of a line of this directive restrict an OID that has a restriction of the same kind
abbrev pub is_restricted : Directive → Words → Restrictions → Bool
is_restricted RestrictExop words table = is_some (restriction_of (oid_of words) table.exops)
is_restricted RestrictControl words table = is_some (restriction_of (oid_of words) table.controls)
is_restricted _ words table = false

-- what stood in some lines, for a line of this directive with these arguments behind them; what may stand again counts
-- as not yet there, but for the OIDs that are restricted
abbrev pub before_of : List Words → Directive → Words → Before
before_of lines d words = record {
  stood = is_some (arguments_under d lines) && not (may_stand_again d) || is_restricted d words (restricted_by lines);
  tiers = count_under Tier lines;
  backends = count_under BackendServer lines;
  places = sum_by places_here lines;
}

-- the lowest kind that holds of a line behind these; kind 3: its directive isn't known
abbrev pub line_fault : List Words → Words → Option ℕ
line_fault before line = option_map_or (λ entry. entry_fault (before_of before entry.0 (arguments_of line)) entry (arguments_of line)) (entry_of line) (Some 3)

-- a fault: its line, counted from 1, and its kind
pub record Fault : Type 0 where
  pub line : ℕ
  pub kind : ℕ

-- the words of a line, which has some where it has no fault
abbrev pub words_in : Content → Words
words_in (Worded words) = words
words_in (Faulty kind) = []

-- the lowest kind that holds of what a line holds, behind these lines
abbrev pub content_fault : List Words → Content → Option ℕ
content_fault before (Worded words) = line_fault before words
content_fault before (Faulty kind) = Some kind

-- a fault where there is one, and else the answer
abbrev pub unless_fault : ℕ → Option ℕ → Result Config Fault → Result Config Fault
unless_fault line (Some kind) answer = Err (record { line = line; kind = kind })
unless_fault line None answer = answer

-- the answer at the end of a text; kind 10: it has no backend
abbrev pub answer_at_end : ℕ → List Words → Result Config Fault
answer_at_end count lines = if count_under BackendServer lines == 0 then Err (record { line = count + 1; kind = 10 }) else Ok (config_of lines)

-- the answer where these lines have no fault and those stand behind them, in a text of so many lines: the first fault, or
-- else the configuration of all lines
abbrev pub answer_behind : ℕ → List Words → List ConfLine → Result Config Fault
answer_behind count before [] = answer_at_end count before
answer_behind count before (line ∷ lines) = unless_fault line.number (content_fault before line.content) (answer_behind count (before ++ words_in line.content ∷ []) lines)

-- the configuration of a text, or its first fault: the first line with one, and of it the lowest kind
abbrev pub configuration : List ℕ → Result Config Fault
configuration text = answer_behind (line_count text) [] (conf_lines text)

-- what is written of a configuration that was checked
abbrev pub check_text : Config → List ℕ
check_text config =
    codes "configuration accepted: " ++ (decimal (length config.plan) ++ (codes " tiers, " ++ (decimal (length (backends_of config.plan)) ++ (codes " backends, " ++ (decimal (place_count config.plan) ++ codes " places\n")))))

-- the text of the configuration `plain`
abbrev pub plain_text : List ℕ
plain_text = codes "tier roundrobin\nbackend-server uri=ldap://127.0.0.1 numconns=1 bindconns=1\n"

-- the text of the configuration `bench`
abbrev pub bench_text : List ℕ
bench_text = codes "tier roundrobin\nbackend-server uri=ldap://127.0.0.1 numconns=2 bindconns=1\nbackend-server uri=ldap://127.0.0.1 numconns=2 bindconns=1\n"
