-- The configuration of the lines so far, as the reader keeps it, and what a line makes of it.
use Rattle.std.specs.Prelude.{◌≡◌, ℕ, ◌+◌, ◌==◌, ◌||◌, Bool, true, false, if◌then◌else◌, List, [], ◌∷◌, ◌++◌, length, codes, Option, Some, None, is_some, unwrap_or, pos, Result, Ok, Err}
use Rattle.std.specs.Option.{option_and_then, option_map_or}
use Rattle.lload_names.specs.declared.plans.BackendPlan.{BackendPlan}
use Rattle.lload_names.specs.declared.plans.TierPlan.{TierPlan}
use Rattle.restrictions.specs.Table.{with_exop, with_control}
use Rattle.lload_conf.specs.Configuration.{Fault, is_restricted}
use Rattle.lload_conf.specs.Faults.{entry_fault, places_of}
use Rattle.lload_conf.specs.Line.{Words, argument_of, arguments_of, entry_of, number_of, rank}
use Rattle.lload_conf.specs.Settings.{action_of, backend_of, host_of, kind_of, oid_of, own_bind_of, unrestricted}
use Rattle.lload_conf.specs.Table.{client_max_pending, client_max_unsent, write_coherence, client_limit, upstream_limit, iotimeout, io_threads, timeout}
use Rattle.lload_conf.specs.Values.{number_or_default, seconds_or_default}
use Rattle.lload_conf.specs.declared.config.Config.{Config}
use Rattle.lload_conf.specs.declared.draft.BindLine.{BindLine}
use Rattle.lload_conf.specs.declared.draft.Draft.{Draft}
use Rattle.lload_conf.specs.declared.line.Before.{Before}
use Rattle.lload_conf.specs.declared.table.Directive.{Directive}
use Rattle.lload_conf.specs.declared.table.Directive.TheVariants as directive

-- of no lines
abbrev pub empty_draft : Draft
empty_draft = record { proxyauthz = false; bind = None; client_max_pending = None; client_max_unsent = None; client_limit = None; upstream_limit = None; iotimeout = None; write_coherence = None; restrictions = unrestricted; io_threads = None; earlier = []; last = None; hosts = []; tiers = 0; places = 0 }

-- whether a directive that may stand once stood
abbrev pub stood_in : Draft → Directive → Bool
stood_in draft directive.BindConf = is_some draft.bind
stood_in draft directive.ClientMaxPending = is_some draft.client_max_pending
stood_in draft directive.ClientLimit = is_some draft.client_limit
stood_in draft directive.UpstreamLimit = is_some draft.upstream_limit
stood_in draft directive.IoTimeout = is_some draft.iotimeout
stood_in draft directive.IoThreads = is_some draft.io_threads
stood_in draft directive.WriteCoherence = is_some draft.write_coherence
stood_in draft directive.ClientMaxUnsent = is_some draft.client_max_unsent
stood_in draft _ = false

-- what stood before a line of a directive with these arguments
abbrev pub before_draft : Draft → Directive → Words → Before
before_draft draft d words = record { stood = stood_in draft d || is_restricted d words draft.restrictions; tiers = draft.tiers; backends = length draft.hosts; places = draft.places }

-- the lowest kind of fault of a line
abbrev pub draft_fault : Draft → Words → Option ℕ
draft_fault draft line = option_map_or (λ entry. entry_fault (before_draft draft entry.0 (arguments_of line)) entry (arguments_of line)) (entry_of line) (Some 3)

-- the tiers that are whole and the last one
abbrev pub whole_plan : List TierPlan → Option TierPlan → List TierPlan
whole_plan earlier None = earlier
whole_plan earlier (Some tier) = earlier ++ tier ∷ []

-- a tier with one more backend
abbrev pub with_backend : BackendPlan → Option TierPlan → Option TierPlan
with_backend backend None = None
with_backend backend (Some tier) = Some (record { kind = tier.kind; backends = tier.backends ++ backend ∷ [] })

-- what the arguments of `bindconf` set
abbrev pub bind_of : Words → BindLine
bind_of words = record { own_bind = own_bind_of words; timeout = number_of (codes "timeout") timeout words }

-- whether two directives are one
abbrev pub is : Directive → Directive → Bool
is d e = rank d == rank e

-- what a line of a directive makes of a draft
abbrev pub with_entry : Draft → Directive → Words → Draft
with_entry draft d words = record {
  proxyauthz = if is d directive.Feature then true else draft.proxyauthz;
  bind = if is d directive.BindConf then Some (bind_of words) else draft.bind;
  client_max_pending = if is d directive.ClientMaxPending then Some (number_or_default client_max_pending (argument_of words)) else draft.client_max_pending;
  client_max_unsent = if is d directive.ClientMaxUnsent then Some (number_or_default client_max_unsent (argument_of words)) else draft.client_max_unsent;
  client_limit = if is d directive.ClientLimit then Some (number_or_default client_limit (argument_of words)) else draft.client_limit;
  upstream_limit = if is d directive.UpstreamLimit then Some (number_or_default upstream_limit (argument_of words)) else draft.upstream_limit;
  iotimeout = if is d directive.IoTimeout then Some (number_or_default iotimeout (argument_of words)) else draft.iotimeout;
  write_coherence = if is d directive.WriteCoherence then Some (seconds_or_default (argument_of words)) else draft.write_coherence;
  restrictions = if is d directive.RestrictExop then with_exop (oid_of words) (action_of words) draft.restrictions else if is d directive.RestrictControl then with_control (oid_of words) (action_of words) draft.restrictions else draft.restrictions;
  io_threads = if is d directive.IoThreads then Some (number_or_default io_threads (argument_of words)) else draft.io_threads;
  earlier = if is d directive.Tier then whole_plan draft.earlier draft.last else draft.earlier;
  last = if is d directive.Tier then Some (record { kind = kind_of words; backends = [] }) else if is d directive.BackendServer then with_backend (backend_of (length draft.hosts + 1) words) draft.last else draft.last;
  hosts = if is d directive.BackendServer then draft.hosts ++ host_of words ∷ [] else draft.hosts;
  tiers = if is d directive.Tier then draft.tiers + 1 else draft.tiers;
  places = if is d directive.BackendServer then draft.places + places_of words else draft.places;
}

-- what a line makes of a draft
abbrev pub with_words : Draft → Words → Draft
with_words draft line = option_map_or (λ entry. with_entry draft entry.0 (arguments_of line)) (entry_of line) draft

-- a line's fault is this, and the draft has it where it has none, and is as it was where it has one
pub record Takes (before : Draft) (line : Words) (fault : Option ℕ) (after : Draft) : Type 0 where
  pub kind : fault ≡ draft_fault before line
  pub taken : fault ≡ None → after ≡ with_words before line
  pub left_out : (kind : ℕ) → fault ≡ Some kind → after ≡ before

-- the configuration of a draft
abbrev pub finished : Draft → Config
finished draft = record {
  proxyauthz = draft.proxyauthz;
  own_bind = option_and_then (λ bind. bind.own_bind) draft.bind;
  timeout = option_map_or (λ bind. bind.timeout) draft.bind timeout.default;
  plan = whole_plan draft.earlier draft.last;
  hosts = draft.hosts;
  client_max_pending = unwrap_or draft.client_max_pending client_max_pending.default;
  client_max_unsent = unwrap_or draft.client_max_unsent client_max_unsent.default;
  client_limit = unwrap_or draft.client_limit client_limit.default;
  upstream_limit = unwrap_or draft.upstream_limit upstream_limit.default;
  iotimeout = unwrap_or draft.iotimeout iotimeout.default;
  write_coherence = unwrap_or draft.write_coherence (pos write_coherence.default);
  restrictions = draft.restrictions;
  io_threads = unwrap_or draft.io_threads io_threads.default;
}

-- the answer of a draft at the end of a text of so many lines
abbrev pub answer_of_draft : ℕ → Draft → Result Config Fault
answer_of_draft count draft = if length draft.hosts == 0 then Err (record { line = count + 1; kind = 10 }) else Ok (finished draft)
