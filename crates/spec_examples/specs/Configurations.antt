-- The settings under which the worked journals were made, beside `plain`.
use Rattle.std.specs.Prelude.{ℕ, true, List, [], ◌∷◌, Some, pos, negsuc, codes}
use Rattle.lload_names.specs.declared.plans.BackendPlan.{BackendPlan}
use Rattle.lload_names.specs.declared.plans.Planned.{Planned}
use Rattle.lload_names.specs.declared.plans.TierKind.TheVariants.{RoundRobin, Weighted, BestOf}
use Rattle.lload_names.specs.declared.plans.TierPlan.{TierPlan}
use Rattle.lload_spec.specs.Settings.{Settings, BindBackend, BindConnection, Reject}
use Rattle.lload_spec.specs.Plain.{plain}

-- `plain` with proxied authorization
abbrev pub proxying : Settings
proxying = record plain { proxies_authorization = true }

-- a backend of weight 1 without limits, with so many regular and so many bind connections
abbrev pub backend : ℕ → ℕ → ℕ → BackendPlan
backend number regular bind = record { number = number; weight = 1; numconns = regular; bindconns = bind; max_pending = 0; conn_max_pending = 0 }

-- a tier that takes its backends in turn
abbrev pub in_turn : List BackendPlan → TierPlan
in_turn backends = record { kind = RoundRobin; backends = backends }

-- a run with one plan, of these tiers
abbrev pub one_plan : List TierPlan → List Planned
one_plan tiers = record { plan = tiers; base = 0 } ∷ []

-- two tiers of one connection each; the first takes one operation at a time
abbrev pub two_tiers : Settings
two_tiers = record plain { plans = one_plan (in_turn (record (backend 1 1 0) { conn_max_pending = 1 } ∷ []) ∷ in_turn (backend 2 1 0 ∷ []) ∷ []) }

-- a tier of two backends with one connection each; a client's writes bind it for five seconds
abbrev pub write_coherent : Settings
write_coherent = record plain { write_coherence = pos 5; plans = one_plan (in_turn (backend 1 1 0 ∷ backend 2 1 0 ∷ []) ∷ []) }

-- a backend with two regular connections and a bind connection; a request with the control 1.2.3 binds its client to its
-- connection
abbrev pub restricting : Settings
restricting =
    record plain { control_restrictions = record { oid = codes "1.2.3"; action = BindConnection } ∷ []; plans = one_plan (in_turn (backend 1 2 1 ∷ []) ∷ []) }

-- `plain`, but each connection gives two identifiers
abbrev pub two_identifiers : Settings
two_identifiers = record plain { id_limit = 2 }

-- the same with proxied authorization
abbrev pub two_proxying : Settings
two_proxying = record proxying { id_limit = 2 }

-- a backend with one regular connection, and a weight
abbrev pub weighing : ℕ → ℕ → BackendPlan
weighing number weight = record (backend number 1 0) { weight = weight }

-- three backends with these weights
abbrev pub three_backends : ℕ → ℕ → ℕ → List BackendPlan
three_backends a b c = weighing 1 a ∷ weighing 2 b ∷ weighing 3 c ∷ []

-- a tier that draws its backends by their weights, and one that picks the better of the first two drawn
abbrev pub drawn : List BackendPlan → TierPlan
drawn backends = record { kind = Weighted; backends = backends }

abbrev pub better : List BackendPlan → TierPlan
better backends = record { kind = BestOf; backends = backends }

-- two backends, the better of which is picked
abbrev pub better_of_two : Settings
better_of_two = record plain { plans = one_plan (better (weighing 1 1 ∷ weighing 2 1 ∷ []) ∷ []) }

-- three backends, the better of the first two drawn is picked
abbrev pub better_of_three : Settings
better_of_three = record plain { plans = one_plan (better (three_backends 1 1 1) ∷ []) }

-- three backends with the weights 3, 0 and 1
abbrev pub weighted : Settings
weighted = record plain { plans = one_plan (drawn (three_backends 3 0 1) ∷ []) }

-- a backend with two regular connections
abbrev pub two_connections : Settings
two_connections = record plain { plans = one_plan (in_turn (backend 1 2 0 ∷ []) ∷ []) }

-- the same, but it takes one operation at a time
abbrev pub one_at_a_time : Settings
one_at_a_time = record plain { plans = one_plan (in_turn (record (backend 1 2 0) { max_pending = 1 } ∷ []) ∷ []) }

-- two backends; each extended request binds its client to its backend
abbrev pub binding_to_backend : Settings
binding_to_backend =
    record plain { exop_restrictions = record { oid = codes "1.1"; action = BindBackend } ∷ []; plans = one_plan (in_turn (backend 1 1 0 ∷ backend 2 1 0 ∷ []) ∷ []) }

-- two backends; a client's writes bind it until its next Bind
abbrev pub write_coherent_for_ever : Settings
write_coherent_for_ever = record plain { write_coherence = negsuc 0; plans = one_plan (in_turn (backend 1 1 0 ∷ backend 2 1 0 ∷ []) ∷ []) }

-- `plain`, but a client has one operation at a time
abbrev pub one_pending : Settings
one_pending = record plain { client_max_pending = 1 }

-- `plain`, but requests with the control 1.2.3 are rejected
abbrev pub rejecting : Settings
rejecting = record plain { control_restrictions = record { oid = codes "1.2.3"; action = Reject } ∷ [] }

-- `plain`, with a timeout of thirty seconds
abbrev pub impatient : Settings
impatient = record plain { timeout = 30 }

-- `plain` with proxied authorization, where regular connections begin with a Bind as cn=p
abbrev pub proxying_itself : Settings
proxying_itself = record proxying { own_bind = Some (record { dn = codes "cn=p"; credentials = codes "s" }) }

-- one regular connection, which begins with a Bind as cn=p, and a timeout of thirty seconds
abbrev pub binding_itself : Settings
binding_itself =
    record plain { own_bind = Some (record { dn = codes "cn=p"; credentials = codes "s" }); timeout = 30; plans = one_plan (in_turn (backend 1 1 0 ∷ []) ∷ []) }

-- one backend with one regular connection, and then two such backends for the connections above the first
abbrev pub reloading : Settings
reloading = record plain { plans = record { plan = in_turn (backend 1 1 0 ∷ []) ∷ []; base = 0 } ∷ record { plan = in_turn (backend 1 1 0 ∷ backend 2 1 0 ∷ []) ∷ []; base = 1 } ∷ [] }

-- proxied authorization, and the same plan again for the connections above the second
abbrev pub proxying_anew : Settings
proxying_anew = record proxying { plans = record { plan = in_turn (backend 1 1 1 ∷ []) ∷ []; base = 0 } ∷ record { plan = in_turn (backend 1 1 1 ∷ []) ∷ []; base = 2 } ∷ [] }

-- one backend with one regular connection for the connections up to the first, and again for those above it
abbrev pub one_twice : List Planned
one_twice =
    record { plan = in_turn (backend 1 1 0 ∷ []) ∷ []; base = 0 }
    ∷ record { plan = in_turn (backend 1 1 0 ∷ []) ∷ []; base = 1 } ∷ []

-- the same, where a client's writes bind it until its next Bind, and where a request with the control 1.2.3 binds its
-- client to its connection
abbrev pub writing_anew : Settings
writing_anew = record plain { write_coherence = negsuc 0; plans = one_twice }

abbrev pub restricting_anew : Settings
restricting_anew =
    record plain {
      control_restrictions = record { oid = codes "1.2.3"; action = BindConnection } ∷ [];
      plans = one_twice;
    }

-- two backends with one regular connection each, and again for the connections above the second
abbrev pub in_turn_anew : Settings
in_turn_anew =
    record plain {
      plans =
          record { plan = in_turn (backend 1 1 0 ∷ backend 2 1 0 ∷ []) ∷ []; base = 0 }
          ∷ record { plan = in_turn (backend 1 1 0 ∷ backend 2 1 0 ∷ []) ∷ []; base = 2 } ∷ [];
    }
