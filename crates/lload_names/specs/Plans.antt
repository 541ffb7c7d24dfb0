-- Plans of the upstream: tiers of backends (`tier` and `backend-server` in lloadd.conf(5)), and the numbering of the
-- places for their connections (this project's own).
use Rattle.std.specs.Prelude.{◌≡◌, ◌≤◌, ℕ, zero, suc, ◌+◌, ◌-◌, ◌%◌, ◌/◌, ◌^◌, Bool, true, false, ◌==◌, ◌&&◌, nat_le, nat_lt, List, [], ◌∷◌, ◌++◌, length, map, replicate, slice_get, Option, Some, None}
use Rattle.lload_names.specs.declared.names.ConnKind.{ConnKind}
use Rattle.lload_names.specs.declared.names.ConnKind.TheVariants.{Regular, Bind}
use Rattle.lload_names.specs.Same.{is_kind}
use Rattle.lload_names.specs.declared.plans.BackendPlan.{BackendPlan}
use Rattle.lload_names.specs.declared.plans.Planned.{Planned}
use Rattle.lload_names.specs.declared.plans.TierKind.{TierKind}
use Rattle.lload_names.specs.declared.plans.TierKind.TheVariants.{RoundRobin, Weighted, BestOf}
use Rattle.lload_names.specs.declared.plans.TierPlan.{TierPlan}
use Rattle.lload_names.specs.declared.plans.Place.{Place}
use Rattle.lload_names.specs.declared.plans.Room.{Room}

-- the backends of all tiers, in order
abbrev pub backends_of : List TierPlan → List BackendPlan
backends_of [] = []
backends_of (t ∷ ts) = t.backends ++ backends_of ts

-- what the places of a backend are for: its regular connections, and then its bind connections
abbrev pub rooms_of_backend : BackendPlan → List Room
rooms_of_backend b =
    replicate b.numconns (record { backend = b.number; kind = Regular })
    ++ replicate b.bindconns (record { backend = b.number; kind = Bind })

-- what the places of these backends are for, in their order
abbrev pub rooms_of : List BackendPlan → List Room
rooms_of [] = []
rooms_of (b ∷ bs) = rooms_of_backend b ++ rooms_of bs

-- what the places of a plan are for: there is one place for each, numbered from 1 in this order
abbrev pub rooms : List TierPlan → List Room
rooms plan = rooms_of (backends_of plan)

-- how many places a plan has
abbrev pub place_count : List TierPlan → ℕ
place_count plan = length (rooms plan)

-- the indices of the places of a backend with a kind among these, of which the first has this index
abbrev pub places_from : ℕ → ConnKind → ℕ → List Room → List ℕ
places_from backend wanted i [] = []
places_from backend wanted i (r ∷ rs) =
    (elim (r.backend == backend && is_kind wanted r.kind) [ true ↦ i ∷ [] | false ↦ [] ])
    ++ places_from backend wanted (suc i) rs

-- those of a plan, in order
abbrev pub places_for : List TierPlan → ℕ → ConnKind → List ℕ
places_for plan backend wanted = places_from backend wanted 0 (rooms plan)

-- a connection that is the n-th, counted from 0, of those that a place may be for in turn
abbrev pub numbered : ℕ → ℕ → Option Room → Option Place
numbered n count None = None
numbered n count (Some room) =
    Some (record { place = n % count + 1; backend = room.backend; kind = room.kind; generation = n / count })

-- the place of a connection: connections are numbered from 1 through all places, and then again, a generation each
-- time; there is none for 0 and in a plan without places
abbrev pub place_of : List TierPlan → ℕ → Option Place
place_of plan zero = None
place_of plan (suc n) = numbered n (place_count plan) (slice_get (rooms plan) (n % place_count plan))

-- the numbers of these backends rise by one from this one
abbrev pub NumberedFrom : ℕ → List BackendPlan → Type 0
NumberedFrom n [] = Unit {0}
NumberedFrom n (b ∷ bs) = (b.number ≡ n) × NumberedFrom (suc n) bs

-- a tier is within the limits of the proxy (this project's own)
pub record IsTier (tier : TierPlan) : Type 0 where
  pub few_backends : length tier.backends ≤ 64
  pub few_places : length (rooms_of tier.backends) ≤ 512

-- a plan is within the limits of the proxy, and its backends are numbered from 1 in order (this project's own)
pub record IsPlan (plan : List TierPlan) : Type 0 where
  pub few_tiers : length plan ≤ 64
  pub few_backends : length (backends_of plan) ≤ 64
  pub few_places : place_count plan ≤ 512
  pub in_order : NumberedFrom 1 (backends_of plan)

-- Several plans in one run, each for the connections above its base (this project's own).

-- a backend with its number raised by this, and a tier with those of all its backends
abbrev pub raised_backend : ℕ → BackendPlan → BackendPlan
raised_backend n b = record b { number = n + b.number }

abbrev pub raised : ℕ → TierPlan → TierPlan
raised n t = record t { backends = map (raised_backend n) t.backends }

-- the same plans with backends numbered through all of them, behind so many backends
abbrev pub numbered_through : ℕ → List Planned → List Planned
numbered_through n [] = []
numbered_through n (p ∷ ps) =
    record p { plan = map (raised n) p.plan } ∷ numbered_through (n + length (backends_of p.plan)) ps

-- the last of these plans whose base is below a connection's number, or this one
abbrev pub plan_for : Option Planned → List Planned → ℕ → Option Planned
plan_for found [] n = found
plan_for found (p ∷ ps) n = plan_for (elim (nat_lt p.base n) [ true ↦ Some p | false ↦ found ]) ps n

-- the place of a connection by the plan that it belongs to
abbrev pub place_by : Option Planned → ℕ → Option Place
place_by None n = None
place_by (Some p) n = place_of p.plan (n - p.base)

-- the place of a connection among several plans: by the one with the greatest base below its number, the later one
-- where bases are equal, with its backend numbered through all plans
abbrev pub place_among : List Planned → ℕ → Option Place
place_among plans n = place_by (plan_for None (numbered_through 0 plans) n) n

-- how many backends several plans have
abbrev pub backend_count : List Planned → ℕ
backend_count [] = 0
backend_count (p ∷ ps) = length (backends_of p.plan) + backend_count ps

-- the greatest number of a connection and of a backend
abbrev pub greatest_number : ℕ
greatest_number = 2 ^ 32 - 1

-- whether a plan with its base may come behind these: the numbers of its connections' places, and of all backends, stay
-- within 32 bits
abbrev pub has_numbers_for : List Planned → Planned → Bool
has_numbers_for plans p =
    nat_le (p.base + place_count p.plan) greatest_number
    && nat_le (backend_count plans + length (backends_of p.plan)) greatest_number

-- whether two kinds of tier are one
abbrev pub same_tier_kind : TierKind → TierKind → Bool
same_tier_kind RoundRobin RoundRobin = true
same_tier_kind Weighted Weighted = true
same_tier_kind BestOf BestOf = true
same_tier_kind _ _ = false

-- whether two backends of plans are one
abbrev pub same_backend : BackendPlan → BackendPlan → Bool
same_backend a b =
    a.number == b.number && a.weight == b.weight && a.numconns == b.numconns && a.bindconns == b.bindconns
    && a.max_pending == b.max_pending && a.conn_max_pending == b.conn_max_pending

-- whether two lists of backends are one
abbrev pub same_backends : List BackendPlan → List BackendPlan → Bool
same_backends [] [] = true
same_backends (a ∷ as') (b ∷ bs) = same_backend a b && same_backends as' bs
same_backends _ _ = false

-- whether two plans are one
abbrev pub same_plan : List TierPlan → List TierPlan → Bool
same_plan [] [] = true
same_plan (t ∷ ts) (u ∷ us) = same_tier_kind t.kind u.kind && same_backends t.backends u.backends && same_plan ts us
same_plan _ _ = false

-- plans of one run: each is within the limits, the first has base 0, and bases never fall
abbrev pub ArePlansAbove : ℕ → List Planned → Type 0
ArePlansAbove base [] = Unit {0}
ArePlansAbove base (p ∷ ps) = IsPlan p.plan × (base ≤ p.base) × ArePlansAbove p.base ps

abbrev pub ArePlans : List Planned → Type 0
ArePlans [] = Unit {0}
ArePlans (p ∷ ps) = (p.base ≡ 0) × ArePlansAbove 0 (p ∷ ps)
