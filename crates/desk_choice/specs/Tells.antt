-- What the tables say of the facts that a choice rests on: pointwise, one fact a table.
use Rattle.std.specs.Prelude.{◌≡◌, ◌≤◌, ◌<◌, ℕ, ◌+◌, ◌-◌, Bool, true, false, ◌==◌, ◌&&◌, List, length, filter, map, take, slice_get, Option, Some, None}
use Rattle.std.specs.List.{list_any}
use Rattle.std.specs.Option.{ForSome}
use Rattle.lload_names.specs.declared.names.ConnKind.{ConnKind}
use Rattle.lload_names.specs.declared.plans.TierPlan.{TierPlan}
use Rattle.lload_names.specs.declared.plans.BackendPlan.{BackendPlan}
use Rattle.lload_names.specs.Same.{is_kind}
use Rattle.lload_names.specs.Plans.{backends_of, places_for, NumberedFrom}
use Rattle.lload_spec.specs.Picks.{rising}
use Rattle.lload_spec.specs.Settings.{Settings, place_at, is_of_backend}
use Rattle.lload_spec.specs.Choice.{DeskFacts, viable_of, pending_on, pending_at, most_on}
use Rattle.ready_set.specs.Keys.{most_conn, is_in}
use Rattle.ready_set.specs.Readies.{has}
use Rattle.desk_tables.specs.Rows.{row_of, index_of, is_ready}
use Rattle.desk_tables.specs.Lanes.{lane_of}
use Rattle.desk_tables.specs.Turns.{Turn}
use Rattle.desk_tables.specs.Choices.{TierTells}
use Rattle.desk_tables.specs.declared.conns.Conn.{Conn}
use Rattle.desk_tables.specs.declared.servers.Lane.{Lane}
use Rattle.desk_tables.specs.declared.servers.Server.{Server}
use Rattle.desk_choice.specs.declared.tables.Tables.{Tables}

-- of a connection that has a row: its backend stands at the row's spot, among all and in its tier, its place is one of the
-- backend's for its kind, and it takes so many operations as its backend lets it
pub record InPlan (ts : List TierPlan) (r : Conn) : Type 0 where
  pub backend : BackendPlan
  pub at : slice_get (backends_of ts) r.spot.server ≡ Some backend
  pub number : backend.number ≡ r.place.backend
  pub most : (j : ℕ) (b : BackendPlan) → slice_get (backends_of ts) j ≡ Some b → b.number ≡ r.place.backend → r.most ≡ most_on b r.place.kind
  pub placed : (b : ℕ) (k : ConnKind) → is_in (index_of r) (places_for ts b k) ≡ (r.place.backend == b && is_kind k r.place.kind)
  pub tier : TierPlan
  pub tier_at : slice_get ts r.spot.tier ≡ Some tier
  pub in_tier : slice_get tier.backends r.spot.place ≡ Some backend
  pub among : r.spot.server ≡ length (backends_of (take r.spot.tier ts)) + r.spot.place

-- of a connection that has a row
pub record RowTells (s : Settings) (f : DeskFacts) (n : ℕ) (r : Conn) : Type 0 where
  pub place : place_at s n ≡ Some r.place
  pub viable_is : is_in n f.viable ≡ r.viable
  pub pending_is : pending_on f n ≡ r.pending
  pub in_plan : InPlan f.tiers r

-- whether a connection belongs to a backend of the plan in force
abbrev pub is_current : Settings → DeskFacts → ℕ → Bool
is_current s f n = list_any (λ b. is_of_backend s b.number n) (backends_of f.tiers)

-- of one that has none: it isn't viable, and where its backend is in force, nothing is pending on it
pub record NoRowTells (s : Settings) (f : DeskFacts) (n : ℕ) : Type 0 where
  pub viable_is : is_in n f.viable ≡ false
  pub pending_is : is_current s f n ≡ true → pending_on f n ≡ 0

abbrev pub RowIs : Settings → DeskFacts → ℕ → Option Conn → Type 0
RowIs s f n None = NoRowTells s f n
RowIs s f n (Some r) = RowTells s f n r

-- of the places of a backend for a kind
pub record LaneTells (s : Settings) (f : DeskFacts) (b : ℕ) (k : ConnKind) (lane : Lane) : Type 0 where
  pub forward : lane.from ≤ lane.to
  pub places : places_for f.tiers b k ≡ rising lane.from (lane.to - lane.from)
  pub viable_is : length (filter (is_of_backend s b) (viable_of s f k)) ≡ lane.viable
  pub last_is : f.last_place b k ≡ lane.last
  pub within : ForSome lane.last (λ i. (lane.from ≤ i) × (i < lane.to))

-- of a backend
pub record ServerTells (s : Settings) (f : DeskFacts) (v : Server) : Type 0 where
  pub pending_is : pending_at s f v.plan.number ≡ v.pending
  pub lanes : (k : ConnKind) → LaneTells s f v.plan.number k (lane_of k v)

abbrev pub ServerIs : Settings → DeskFacts → Option Server → Type 0
ServerIs s f None = Unit {0}
ServerIs s f (Some v) = ServerTells s f v

-- of a tier
pub record RoundTells (f : DeskFacts) (i : ℕ) (t : TierPlan) (x : Turn) : Type 0 where
  pub tells : TierTells f t x.tier
  pub first_is : x.first ≡ length (backends_of (take i f.tiers))
  pub few : length t.backends ≤ 64

abbrev pub RoundIs : DeskFacts → ℕ → Option TierPlan → Option Turn → Type 0
RoundIs f i (Some t) (Some x) = RoundTells f i t x
RoundIs f i None None = Unit {0}
RoundIs f i _ _ = true ≡ false

-- whether a row is ready at a place
abbrev pub ready_at : Option Conn → ℕ → Bool
ready_at None i = false
ready_at (Some r) i = is_ready r && index_of r == i

-- the tables stand for the facts
pub record Tells (s : Settings) (f : DeskFacts) (d : Tables) : Type 0 where
  pub backends_are : map (λ v. v.plan) d.servers.items ≡ backends_of f.tiers
  pub first : ℕ
  pub numbered : NumberedFrom first (backends_of f.tiers)
  pub rounds : (i : ℕ) → RoundIs f i (slice_get f.tiers i) (slice_get d.rounds.items i)
  pub servers : (j : ℕ) → ServerIs s f (slice_get d.servers.items j)
  pub rows : (n : ℕ) → RowIs s f n (row_of d.conns n)
  pub once : (n : ℕ) → length (filter (λ m. m == n) f.viable) ≤ 1
  pub small : (n : ℕ) → is_in n f.viable ≡ true → n ≤ most_conn
  pub ready : (i n : ℕ) → n ≤ most_conn → has d.ready i n ≡ ready_at (row_of d.conns n) i

-- a tier of the plan in force, and what the tables have of it
pub record IsTier (f : DeskFacts) (d : Tables) (i : ℕ) (t : TierPlan) (x : Turn) : Type 0 where
  pub plan : slice_get f.tiers i ≡ Some t
  pub turn : slice_get d.rounds.items i ≡ Some x
