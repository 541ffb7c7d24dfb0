-- What the texts of arguments and of keys' values say.
use Rattle.std.specs.Prelude.{ℕ, ◌==◌, ◌&&◌, ◌||◌, not, Bool, false, nat_eq, nat_le, nat_lt, if◌then◌else◌, List, [], ◌∷◌, length, drop, codes, bytes_eq, Option, Some, None, option_map, unwrap_or, ℤ, pos, negsuc, zero, suc}
use Rattle.std.specs.Char.{is_ascii_digit}
use Rattle.std.specs.List.{list_all, starts_with, position_or_len, before_first, after_first}
use Rattle.std.specs.Option.{option_and_then, option_map_or}
use Rattle.std.specs.Str.{str_eq_ignore_ascii_case}
use Rattle.std.specs.Str.Parse.{digits_value}
use Rattle.lload_names.specs.declared.plans.TierKind.{TierKind}
use Rattle.lload_names.specs.declared.plans.TierKind.TheVariants.{RoundRobin, Weighted, BestOf}
use Rattle.lload_conf.specs.Table.{named, negative_coherence, octet, port, write_coherence}
use Rattle.restrictions.specs.declared.action.Action.{Action}
use Rattle.restrictions.specs.declared.action.Action.TheVariants as action
use Rattle.lload_conf.specs.declared.table.Number.{Number}
use Rattle.lload_conf.specs.declared.values.Target.{Target}
use Rattle.lload_conf.specs.declared.values.Target.TheVariants.{At, Unreadable, Elsewhere}

-- whether a text is decimal digits, one or more
abbrev pub is_decimal : List ℕ → Bool
is_decimal text = not (length text == 0) && list_all is_ascii_digit text

-- the number that a text says in decimal digits, where it is in the range; zeros may stand in front
abbrev pub number : Number → List ℕ → Option ℕ
number range text =
    let value = digits_value 10 text in
    if is_decimal text && nat_le range.low value && nat_le value range.high then Some value else None

-- the same, or the default where the text says none or isn't there
abbrev pub number_or_default : Number → Option (List ℕ) → ℕ
number_or_default range text = unwrap_or (option_and_then (number range) text) range.default

-- a number below zero, or zero
abbrev pub negative : ℕ → ℤ
negative zero = pos 0
negative (suc n) = negsuc n

-- the number of seconds that a text says, where it is in the range; a negative one stands behind its sign
abbrev pub seconds : List ℕ → Option ℤ
seconds text =
    if starts_with nat_eq text (codes "-") then option_map negative (number negative_coherence (drop 1 text))
    else option_map pos (number write_coherence text)

-- the same, or the default where the text says none or isn't there
abbrev pub seconds_or_default : Option (List ℕ) → ℤ
seconds_or_default text = unwrap_or (option_and_then seconds text) (pos write_coherence.default)

-- whether an OID goes on with a byte, behind a digit or not: a dot behind a digit, or a digit
abbrev pub goes_on : Bool → ℕ → Bool
goes_on behind_digit c = if c == 46 then behind_digit else is_ascii_digit c

-- the same of all bytes, the last of which is a digit
abbrev pub is_oid_behind : Bool → List ℕ → Bool
is_oid_behind behind_digit [] = behind_digit
is_oid_behind behind_digit (c ∷ cs) = goes_on behind_digit c && is_oid_behind (not (c == 46)) cs

-- whether a text is an OID: groups of digits with single dots between them
abbrev pub is_oid : List ℕ → Bool
is_oid text = is_oid_behind false text

-- what a restriction does
abbrev pub action_named : List ℕ → Option Action
action_named text =
    named
    ((codes "ignore", action.Ignore)
    ∷ (codes "write", action.Write)
    ∷ (codes "backend", action.Backend)
    ∷ (codes "connection", action.Connection)
    ∷ (codes "reject", action.Reject)
    ∷ [])
    text

-- whether a text names the action of lloadd.conf(5) that is left out
abbrev pub is_isolate : List ℕ → Bool
is_isolate text = str_eq_ignore_ascii_case text (codes "isolate")

-- how a tier picks a backend
abbrev pub tier_kind : List ℕ → Option TierKind
tier_kind text = named ((codes "roundrobin", RoundRobin) ∷ (codes "weighted", Weighted) ∷ (codes "bestof", BestOf) ∷ []) text

-- whether a text names the feature of lloadd.conf(5) that is left out
abbrev pub is_left_out_feature : List ℕ → Bool
is_left_out_feature text = str_eq_ignore_ascii_case text (codes "vc")

-- whether a text names a feature of lloadd.conf(5)
abbrev pub is_feature : List ℕ → Bool
is_feature text = str_eq_ignore_ascii_case text (codes "proxyauthz") || is_left_out_feature text

-- the two parts of a text round the first byte c
abbrev pub parts : ℕ → List ℕ → Option (List ℕ × List ℕ)
parts c text =
    if nat_lt (position_or_len (λ b. b == c) text) (length text)
    then Some (before_first (λ b. b == c) text, after_first (λ b. b == c) text) else None

-- a text without a slash at its end
abbrev pub without_last_slash : List ℕ → List ℕ
without_last_slash [] = []
without_last_slash (c ∷ cs) = if c == 47 && length cs == 0 then [] else c ∷ without_last_slash cs

-- four groups of digits with dots between them
pub record Groups : Type 0 where
  pub first : List ℕ
  pub second : List ℕ
  pub third : List ℕ
  pub fourth : List ℕ

abbrev pub are_decimal : Groups → Bool
are_decimal g = is_decimal g.first && (is_decimal g.second && (is_decimal g.third && is_decimal g.fourth))

abbrev pub decimal_groups : Groups → Option Groups
decimal_groups g = if are_decimal g then Some g else None

abbrev pub four_groups : List ℕ → Option Groups
four_groups host =
    option_and_then (λ a. option_and_then (λ b. option_and_then (λ c.
    decimal_groups (record { first = a.0; second = b.0; third = c.0; fourth = c.1 })) (parts 46 b.1)) (parts 46 a.1)) (parts 46 host)

-- the address of four groups, where none is above 255
abbrev pub ip_of : Groups → Option (List ℕ)
ip_of g =
    option_and_then (λ a. option_and_then (λ b. option_and_then (λ c. option_map (λ d. a ∷ b ∷ c ∷ d ∷ []) (number octet g.fourth)) (number octet g.third)) (number octet g.second)) (number octet g.first)

-- an address and a port, where both can be read
abbrev pub target_at : Option (List ℕ) → Option ℕ → Target
target_at (Some ip) (Some p) = At (record { ip = ip; port = p })
target_at _ _ = Unreadable

-- a host and a port, where the host is `localhost` or four groups of digits with dots
abbrev pub host_target : List ℕ → Option ℕ → Target
host_target host p =
    if bytes_eq host (codes "localhost") then target_at (Some (127 ∷ 0 ∷ 0 ∷ 1 ∷ [])) p
    else option_map_or (λ g. target_at (ip_of g) p) (four_groups host) Elsewhere

-- what stands behind `ldap://`: a host, and then nothing, a slash, or a colon and a port that a slash may follow
abbrev pub authority_target : List ℕ → Target
authority_target rest =
    option_map_or (λ p. host_target p.0 (number port (without_last_slash p.1))) (parts 58 rest) (host_target (without_last_slash rest) (Some port.default))

-- where a uri leads: to an address; or a number in it can't be read; or it is of another form
abbrev pub uri_target : List ℕ → Target
uri_target text = if starts_with nat_eq text (codes "ldap://") then authority_target (drop 7 text) else Elsewhere
