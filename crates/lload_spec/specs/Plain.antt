-- The configuration `plain`: one tier, roundrobin, of one backend with one regular and one bind connection, and every
-- default of lloadd.conf(5). So connection 1 is regular and connection 2 is a bind connection.
use Rattle.std.specs.Prelude.{false, [], ◌∷◌, None, pos}
use Rattle.lload_names.specs.declared.plans.BackendPlan.{BackendPlan}
use Rattle.lload_names.specs.declared.plans.TierKind.TheVariants.{RoundRobin}
use Rattle.lload_spec.specs.Settings.{Settings, usual_limit}

-- the one backend
abbrev pub plain_backend : BackendPlan
plain_backend = record { number = 1; weight = 1; numconns = 1; bindconns = 1; max_pending = 0; conn_max_pending = 0 }

-- the settings
abbrev pub plain : Settings
plain =
    record {
      proxies_authorization = false;
      own_bind = None;
      timeout = 0;
      client_max_pending = 0;
      write_coherence = pos 0;
      exop_restrictions = [];
      control_restrictions = [];
      plans = record { plan = record { kind = RoundRobin; backends = plain_backend ∷ [] } ∷ []; base = 0 } ∷ [];
      id_limit = usual_limit;
      max_incoming_client = 262143;
      max_incoming_upstream = 4194303;
    }
