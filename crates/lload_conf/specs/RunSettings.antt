-- The settings that a run of the proxy has by a configuration: the one mapping between the two.
use Rattle.std.specs.Prelude.{ℕ, List, [], ◌∷◌, option_map}
use Rattle.lload_names.specs.declared.plans.TierPlan.{TierPlan}
use Rattle.lload_names.specs.declared.plans.Planned.{Planned}
use Rattle.lload_spec.specs.Settings.{Settings, OwnBind as RunBind}
use Rattle.lload_conf.specs.declared.config.Config.{Config}
use Rattle.lload_conf.specs.declared.config.OwnBind.{OwnBind}

-- the Bind that regular connections begin with
abbrev pub own_bind_of : OwnBind → RunBind
own_bind_of bind = record { dn = bind.dn; credentials = bind.credentials }

-- the plans of a run that begins with these tiers
abbrev pub first_plan : List TierPlan → List Planned
first_plan tiers = record { plan = tiers; base = 0 } ∷ []

-- the settings of a run whose connections retire at this identifier; the hosts, `iotimeout`, `client_max_unsent` and
-- `io-threads` are for the network alone
abbrev pub settings_of : ℕ → Config → Settings
settings_of limit config =
    record {
      proxies_authorization = config.proxyauthz;
      own_bind = option_map own_bind_of config.own_bind;
      timeout = config.timeout;
      client_max_pending = config.client_max_pending;
      write_coherence = config.write_coherence;
      exop_restrictions = config.restrictions.exops;
      control_restrictions = config.restrictions.controls;
      plans = first_plan config.plan;
      id_limit = limit;
      max_incoming_client = config.client_limit;
      max_incoming_upstream = config.upstream_limit;
    }
