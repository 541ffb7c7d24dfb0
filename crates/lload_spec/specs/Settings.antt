-- The settings of the proxy, after lloadd.conf(5), and the places of its connections.
use Rattle.std.specs.Prelude.{ℕ, zero, suc, ◌-◌, Bool, false, ◌==◌, List, [], ◌∷◌, ◌++◌, Option, Some, None, ℤ, codes}
use Rattle.std.specs.Str.{bytes_eq}
use Rattle.lload_names.specs.declared.names.ConnKind.{ConnKind}
use Rattle.lload_names.specs.declared.plans.Place.{Place}
use Rattle.lload_names.specs.declared.plans.Planned.{Planned}
use Rattle.lload_names.specs.Plans.{numbered_through, place_among}
pub use Rattle.lload_names.specs.Same.{is_kind}

-- what a restriction does, from the lowest to the highest (restrict_exop, restrict_control in lloadd.conf(5))
pub data Action : Type 0 where
  Ignore : Action
  Write : Action
  BindBackend : Action
  BindConnection : Action
  Reject : Action

-- the Bind that regular connections begin with (bindconf in lloadd.conf(5))
pub record OwnBind : Type 0 where
  pub dn : List ℕ
  pub credentials : List ℕ

-- an action for an OID
pub record Restriction : Type 0 where
  pub oid : List ℕ
  pub action : Action

-- the settings; `timeout` is in seconds, each limit of pending operations that is 0 is none, and the two limits of
-- messages are in octets of contents (sockbuf_max_incoming_client and sockbuf_max_incoming_upstream in lloadd.conf(5));
-- the plans are those of the whole run in their order, each with its base: the first one's base is 0
pub record Settings : Type 0 where
  pub proxies_authorization : Bool
  pub own_bind : Option OwnBind
  pub timeout : ℕ
  pub client_max_pending : ℕ
  pub write_coherence : ℤ
  pub exop_restrictions : List Restriction
  pub control_restrictions : List Restriction
  pub plans : List Planned
  pub id_limit : ℕ
  pub max_incoming_client : ℕ
  pub max_incoming_upstream : ℕ

-- a second, in milliseconds
abbrev pub second : ℕ
second = 1000

-- the identifier at which a connection retires where nothing else is said: half of the greatest one (RFC 4511, 4.1.1.1)
abbrev pub usual_limit : ℕ
usual_limit = 1073741823

-- the place of a connection, by the plan that it belongs to
abbrev pub place_at : Settings → ℕ → Option Place
place_at s n = place_among s.plans n

-- the index of a connection's place among those of its plan, counted from 0
abbrev pub place_index : Settings → ℕ → ℕ
place_index s n = elim (place_at s n) [ None ↦ 0 | Some p ↦ p.place - 1 ]

-- whether a connection is of a kind
abbrev pub is_of_kind : Settings → ConnKind → ℕ → Bool
is_of_kind s kind n = elim (place_at s n) [ None ↦ false | Some p ↦ is_kind kind p.kind ]

-- whether a connection belongs to a backend
abbrev pub is_of_backend : Settings → ℕ → ℕ → Bool
is_of_backend s backend n = elim (place_at s n) [ None ↦ false | Some p ↦ p.backend == backend ]

-- the backend of a connection, or 0 where it has no place
abbrev pub backend_of : Settings → ℕ → ℕ
backend_of s n = elim (place_at s n) [ None ↦ 0 | Some p ↦ p.backend ]

-- the plan of this number, counted from 1, among these, whose backends are numbered through all; one without tiers
-- where there is none
abbrev pub numbered_plan : List Planned → ℕ → Planned
numbered_plan [] _ = record { plan = []; base = 0 }
numbered_plan (p ∷ ps) zero = p
numbered_plan (p ∷ ps) (suc zero) = p
numbered_plan (p ∷ ps) (suc (suc k)) = numbered_plan ps (suc k)

-- the plan in force where it has this number
abbrev pub plan_in_force : Settings → ℕ → Planned
plan_in_force s k = numbered_plan (numbered_through 0 s.plans) k

-- whether an identity is the proxy's own, for which nothing is added (RFC 4370, section 2; this project's own)
abbrev pub is_privileged : Settings → List ℕ → Bool
is_privileged s who = elim s.own_bind [ None ↦ false | Some own ↦ bytes_eq who (codes "dn:" ++ own.dn) ]
