-- The configuration of the lines of a text: each setting is the value of the line that sets it, or the default.
use Rattle.std.specs.Prelude.{ℕ, ◌+◌, if◌then◌else◌, List, [], ◌∷◌, ◌++◌, length, codes, Option, Some, None, is_some, unwrap_or, option_map, ℤ, pos, fold, flat_map}
use Rattle.std.specs.List.{list_any}
use Rattle.std.specs.Option.{option_map_or, option_and_then}
use Rattle.lload_spec.specs.Settings.{Action}
use Rattle.lload_names.specs.Plans.{backends_of}
use Rattle.lload_names.specs.declared.plans.BackendPlan.{BackendPlan}
use Rattle.lload_names.specs.declared.plans.TierKind.{TierKind}
use Rattle.lload_names.specs.declared.plans.TierKind.TheVariants.{RoundRobin}
use Rattle.lload_names.specs.declared.plans.TierPlan.{TierPlan}
use Rattle.restrictions.specs.Actions.{action_view}
use Rattle.restrictions.specs.Table.{with_exop, with_control}
use Rattle.restrictions.specs.declared.action.Action.{Action as KeptAction}
use Rattle.restrictions.specs.declared.action.Action.TheVariants.{Ignore}
use Rattle.restrictions.specs.declared.table.Restrictions.{Restrictions}
use Rattle.lload_conf.specs.Line.{Words, argument_of, arguments_of, arguments_under, is_of, number_of, second_of, value_of}
use Rattle.lload_conf.specs.Table.{numconns, bindconns, retry, max_pending_ops, conn_max_pending, weight, timeout, client_max_pending, client_max_unsent, client_limit, upstream_limit, iotimeout, io_threads, write_coherence}
use Rattle.lload_conf.specs.Values.{action_named, number_or_default, seconds_or_default, tier_kind, uri_target}
use Rattle.lload_conf.specs.declared.config.Address4.{Address4}
use Rattle.lload_conf.specs.declared.config.Config.{Config}
use Rattle.lload_conf.specs.declared.config.Host.{Host}
use Rattle.lload_conf.specs.declared.config.OwnBind.{OwnBind}
use Rattle.lload_conf.specs.declared.table.Directive.{Directive}
use Rattle.lload_conf.specs.declared.table.Directive.TheVariants.{BindConf, Tier, BackendServer, ClientMaxPending, ClientLimit, UpstreamLimit, IoTimeout, IoThreads, Feature, WriteCoherence, RestrictExop, RestrictControl, ClientMaxUnsent}
use Rattle.lload_conf.specs.declared.table.Number.{Number}
use Rattle.lload_conf.specs.declared.values.Target.{Target}
use Rattle.lload_conf.specs.declared.values.Target.TheVariants.{At}

-- the number that the line of a directive sets, where one does
abbrev pub number_under : Directive → Number → List Words → Option ℕ
number_under d range lines = option_map (λ words. number_or_default range (argument_of words)) (arguments_under d lines)

-- the same, or the default
abbrev pub setting : Directive → Number → List Words → ℕ
setting d range lines = unwrap_or (number_under d range lines) range.default

-- how the proxy binds itself by the arguments of `bindconf`
abbrev pub own_bind_of : Words → Option OwnBind
own_bind_of words =
    if is_some (value_of (codes "bindmethod") words)
    then Some (record { dn = unwrap_or (value_of (codes "binddn") words) []; credentials = unwrap_or (value_of (codes "credentials") words) [] })
    else None

-- the tier type of the arguments of `tier`
abbrev pub kind_of : Words → TierKind
kind_of words = unwrap_or (option_and_then tier_kind (argument_of words)) RoundRobin

-- the backend of the arguments of `backend-server`, under this number
abbrev pub backend_of : ℕ → Words → BackendPlan
backend_of n words = record {
  number = n;
  weight = number_of (codes "weight") weight words;
  numconns = number_of (codes "numconns") numconns words;
  bindconns = number_of (codes "bindconns") bindconns words;
  max_pending = number_of (codes "max-pending-ops") max_pending_ops words;
  conn_max_pending = number_of (codes "conn-max-pending") conn_max_pending words;
}

-- no address
abbrev pub nowhere : Address4
nowhere = record { ip = 0 ∷ 0 ∷ 0 ∷ 0 ∷ []; port = 0 }

abbrev pub address_of : Target → Address4
address_of (At address) = address
address_of _ = nowhere

-- the host of the arguments of `backend-server`
abbrev pub host_of : Words → Host
host_of words = record { address = option_map_or (λ text. address_of (uri_target text)) (value_of (codes "uri") words) nowhere; retry = number_of (codes "retry") retry words }

-- tiers of which the last has one more backend
abbrev pub in_last : BackendPlan → List TierPlan → List TierPlan
in_last backend [] = []
in_last backend (tier ∷ []) = record { kind = tier.kind; backends = tier.backends ++ backend ∷ [] } ∷ []
in_last backend (tier ∷ (next ∷ tiers)) = tier ∷ in_last backend (next ∷ tiers)

-- tiers and a line behind them: a tier stands behind the others, and a backend is in the last tier, with the next number
abbrev pub with_line : List TierPlan → Words → List TierPlan
with_line tiers line =
    if is_of Tier line then tiers ++ record { kind = kind_of (arguments_of line); backends = [] } ∷ []
    else if is_of BackendServer line then in_last (backend_of (length (backends_of tiers) + 1) (arguments_of line)) tiers
    else tiers

-- the tiers of some lines
abbrev pub tiers_of : List Words → List TierPlan
tiers_of lines = fold with_line [] lines

-- the host of a line, where it is of a backend
abbrev pub hosts_here : Words → List Host
hosts_here line = if is_of BackendServer line then host_of (arguments_of line) ∷ [] else []

-- the hosts of some lines, one for each backend
abbrev pub hosts_of : List Words → List Host
hosts_of lines = flat_map hosts_here lines

-- the number of seconds that a line sets, where one does
abbrev pub seconds_under : List Words → Option ℤ
seconds_under lines = option_map (λ words. seconds_or_default (argument_of words)) (arguments_under WriteCoherence lines)

-- the OID of the arguments of a restriction
abbrev pub oid_of : Words → List ℕ
oid_of words = unwrap_or (argument_of words) []

-- the action of the arguments of a restriction, as it is kept
abbrev pub kept_action_of : Words → KeptAction
kept_action_of words = unwrap_or (option_and_then action_named (second_of words)) Ignore

-- the same, as the settings have it
abbrev pub action_of : Words → Action
action_of words = action_view (kept_action_of words)

-- no restrictions
abbrev pub unrestricted : Restrictions
unrestricted = record { exops = []; controls = [] }

-- restrictions and a line behind them
abbrev pub with_restriction : Restrictions → Words → Restrictions
with_restriction table line =
    if is_of RestrictExop line then with_exop (oid_of (arguments_of line)) (action_of (arguments_of line)) table
    else if is_of RestrictControl line then with_control (oid_of (arguments_of line)) (action_of (arguments_of line)) table
    else table

-- the restrictions of some lines
abbrev pub restricted_by : List Words → Restrictions
restricted_by lines = fold with_restriction unrestricted lines

-- the configuration of some lines
abbrev pub config_of : List Words → Config
config_of lines = record {
  proxyauthz = list_any (is_of Feature) lines;
  own_bind = option_and_then own_bind_of (arguments_under BindConf lines);
  timeout = option_map_or (number_of (codes "timeout") timeout) (arguments_under BindConf lines) timeout.default;
  plan = tiers_of lines;
  hosts = hosts_of lines;
  client_max_pending = setting ClientMaxPending client_max_pending lines;
  client_max_unsent = setting ClientMaxUnsent client_max_unsent lines;
  client_limit = setting ClientLimit client_limit lines;
  upstream_limit = setting UpstreamLimit upstream_limit lines;
  iotimeout = setting IoTimeout iotimeout lines;
  write_coherence = unwrap_or (seconds_under lines) (pos write_coherence.default);
  restrictions = restricted_by lines;
  io_threads = setting IoThreads io_threads lines;
}
