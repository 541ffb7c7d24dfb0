-- Lines behind scripts: whether each stands.
use Rattle.std.specs.Prelude.{Bool, true, false, List, [], ◌∷◌, Some, None}
use Rattle.lload_names.specs.declared.command.Command.{Command}
use Rattle.lload_names.specs.declared.command.Command.TheVariants.{ClientArrives, ClientLeaves, UpReady, UpLost, Reload}
use Rattle.lload_names.specs.declared.plans.TierPlan.{TierPlan}
use Rattle.lload_spec.specs.Settings.{Settings}
use Rattle.lload_spec.specs.Plain.{plain}
use Rattle.part_spec.specs.Play.{beginning, is_at_rest, plays, stands}
use Rattle.spec_examples.specs.Configurations.{backend, in_turn, one_plan}

-- whether a line stands behind a script, under the settings of the whole run, with another configuration or without one
abbrev pub stands_behind : Settings → Bool → List Command → Command → Bool
stands_behind s has_next script c =
    elim (plays s has_next beginning script) [ None ↦ false | Some g ↦ stands s has_next g c ]

-- whether nothing is left to be taken behind a script
abbrev pub rests_behind : Settings → List Command → Bool
rests_behind s script = elim (plays s true beginning script) [ None ↦ false | Some g ↦ is_at_rest s g ]

-- client 1 came, and left
abbrev pub one_client : List Command
one_client = ClientArrives 1 ∷ []

abbrev pub client_left : List Command
client_left = ClientArrives 1 ∷ ClientLeaves 1 ∷ []

-- connection 1 was made ready, and lost
abbrev pub one_ready : List Command
one_ready = UpReady 1 ∷ []

abbrev pub one_lost : List Command
one_lost = UpReady 1 ∷ UpLost 1 ∷ []

-- a configuration without a place
abbrev pub placeless : Settings
placeless = record plain { plans = one_plan [] }

-- one backend with one regular connection; the plan of the next configuration: two such backends
abbrev pub before_reload : Settings
before_reload = record plain { plans = one_plan (in_turn (backend 1 1 0 ∷ []) ∷ []) }

abbrev pub next_plan : List TierPlan
next_plan = in_turn (backend 1 1 0 ∷ backend 2 1 0 ∷ []) ∷ []

-- another plan behind connection 1, and behind connection 2 though connection 1 was never linked
abbrev pub reloaded : List Command
reloaded = UpReady 1 ∷ Reload ∷ []

abbrev pub reloaded_behind_2 : List Command
reloaded_behind_2 = UpReady 2 ∷ Reload ∷ []
