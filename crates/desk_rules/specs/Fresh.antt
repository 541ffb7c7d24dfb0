-- What the tables are where the desk has just taken a plan.
use Rattle.std.specs.Prelude.{◌≡◌, ℕ, ◌+◌, List, [], ◌∷◌, length, slice_get, Some, None}
use Rattle.lload_names.specs.declared.names.ConnKind.{ConnKind}
use Rattle.lload_names.specs.declared.plans.BackendPlan.{BackendPlan}
use Rattle.lload_names.specs.declared.plans.TierPlan.{TierPlan}
use Rattle.lload_names.specs.Plans.{backends_of, NumberedFrom}
use Rattle.lload_spec.specs.Settings.{Settings}
use Rattle.lload_spec.specs.Choice.{DeskFacts, pending_at}
use Rattle.tier_select.specs.Calls.{standing}
use Rattle.desk_tables.specs.Turns.{Turn}
use Rattle.desk_tables.specs.declared.servers.Lane.{Lane}
use Rattle.desk_tables.specs.declared.servers.Server.{Server}

-- facts of a desk that has just taken the plan in force: its backends are numbered one after the other, no connection
-- is viable, nothing is pending on these backends, and nothing was chosen or told
pub record IsFresh (s : Settings) (f : DeskFacts) : Type 0 where
  pub first : ℕ
  pub numbered : NumberedFrom first (backends_of f.tiers)
  pub viable : f.viable ≡ []
  pub quiet : (j : ℕ) (b : BackendPlan) → slice_get (backends_of f.tiers) j ≡ Some b → pending_at s f b.number ≡ 0
  pub last_backend : (t : TierPlan) → f.last_backend t ≡ None
  pub last_place : (b : ℕ) (k : ConnKind) → f.last_place b k ≡ None
  pub mean : (b : ℕ) → f.mean b ≡ 0

-- so many places from one index on, of which none was chosen and none has a viable connection
abbrev pub new_lane : ℕ → ℕ → Lane
new_lane from count = record { from = from; to = from + count; last = None; viable = 0 }

-- a backend on which nothing is pending: its places for regular connections begin at an index, those for bind
-- connections behind them
abbrev pub new_server : ℕ → BackendPlan → Server
new_server from b =
    record {
      plan = b;
      pending = 0;
      regular = new_lane from b.numconns;
      bind = new_lane (from + b.numconns) b.bindconns;
    }

-- these backends, each with its places behind those of the one before it
abbrev pub new_servers : ℕ → List BackendPlan → List Server
new_servers from [] = []
new_servers from (b ∷ bs) = new_server from b ∷ new_servers (from + (b.numconns + b.bindconns)) bs

-- these tiers, of which no backend was picked and no latency was heard; the first backend of the first has an index
-- among all
abbrev pub new_turns : ℕ → List TierPlan → List Turn
new_turns first [] = []
new_turns first (t ∷ ts) = record { tier = standing t []; first = first } ∷ new_turns (first + length t.backends) ts
