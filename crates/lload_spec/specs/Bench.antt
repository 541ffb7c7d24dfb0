-- The configuration `bench`, on which long scripts run: one tier, roundrobin, of two backends, each with two regular
-- connections and a bind connection, and every default of lloadd.conf(5).
use Rattle.std.specs.Prelude.{[], ◌∷◌}
use Rattle.lload_names.specs.declared.plans.BackendPlan.{BackendPlan}
use Rattle.lload_names.specs.declared.plans.TierKind.TheVariants.{RoundRobin}
use Rattle.lload_spec.specs.Settings.{Settings}
use Rattle.lload_spec.specs.Plain.{plain, plain_backend}

-- the two backends
abbrev pub bench_backend : BackendPlan
bench_backend = record plain_backend { numconns = 2 }

abbrev pub other_bench_backend : BackendPlan
other_bench_backend = record bench_backend { number = 2 }

-- the settings
abbrev pub bench : Settings
bench =
    record plain {
      plans =
          record { plan = record { kind = RoundRobin; backends = bench_backend ∷ other_bench_backend ∷ [] } ∷ []; base = 0 }
          ∷ [];
    }
