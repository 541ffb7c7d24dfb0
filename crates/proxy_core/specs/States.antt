-- For which worlds of the definitions a world stands: pointwise, one fact a table.
use Rattle.std.specs.Prelude.{◌≡◌, ◌≢◌, ◌≤◌, ℕ, Bool, true, false, length, take, drop, None, ⊤}
use Rattle.lload_names.specs.declared.inputs.Input.{Input}
use Rattle.lload_names.specs.declared.inputs.Input.TheVariants.{LinkUp, Reload}
use Rattle.lload_names.specs.declared.names.PartName.{PartName}
use Rattle.lload_names.specs.declared.names.PartName.TheVariants.{Desk, Client, Up as Connection}
use Rattle.lload_names.specs.Plans.{ArePlans}
use Rattle.lload_reload.specs.Bases.{AreNotBelow}
use Rattle.lload_spec.specs.Settings.{Settings}
use Rattle.part_spec.specs.World as run
use Rattle.client_session.specs.Checks as client
use Rattle.load_desk.specs.Part as desk
use Rattle.letter_queues.specs.Queues.{Carries}
use Rattle.proxy_parts.specs.States.{IsSetTo}
use Rattle.proxy_parts.specs.States as connections
use Rattle.proxy_parts.specs.Clients.{ClientIs}
use Rattle.proxy_parts.specs.Clients as clients
use Rattle.proxy_parts.specs.Connections.{ConnectionIs, connection_part}
use Rattle.proxy_core.specs.declared.world.World.{World}

-- the settings have what the world was made of and its plans so far, and later ones for connections above all that were
-- linked
pub record Agrees (s : Settings) (w : World) : Type 0 where
  pub clients : client.Agrees s w.clients.settings
  pub connections : IsSetTo s w.connections.settings
  pub plans : ArePlans s.plans
  pub so_far : take (length w.plans) s.plans ≡ w.plans
  pub above : AreNotBelow w.greatest (drop (length w.plans) s.plans)

-- it stands for a world of the definitions
pub record Is (s : Settings) (v : run.World) (w : World) : Type 0 where
  pub agrees : Agrees s w
  pub number : v.desk.plan ≡ length w.plans
  pub desk : desk.Stands s v.desk w.desk
  pub clients : (c : ℕ) → ClientIs s c (run.client_in v c) w.clients
  pub connections : (u : ℕ) → ConnectionIs s u (run.connection_in s v u) w.connections
  pub letters : Carries v.letters w.letters
  pub known : (u : ℕ) → connection_part w.connections u ≢ None → u ≤ w.greatest

-- the later plans of the settings leave a part where it is
abbrev pub LeavesPart : Settings → World → PartName → Type 0
LeavesPart s w (Connection u) = AreNotBelow u (drop (length w.plans) s.plans)
LeavesPart s w _ = ⊤

-- the settings agree with a world and the one behind it, in which a part moved
pub record Allows (s : Settings) (p : PartName) (old new : World) : Type 0 where
  pub leaves : LeavesPart s old p
  pub agrees : Agrees s new

-- which inputs a part may take
abbrev pub MayTake : Settings → run.World → PartName → Input → Type 0
MayTake s v Desk input = desk.IsTaken s v.desk input
MayTake s v (Client c) input = clients.MayTake (run.client_in v c) input
MayTake s v (Connection u) input = connections.MayTake (run.connection_in s v u) input

-- whether an input is another one than that a link comes up, or another plan
abbrev pub is_plain : Input → Bool
is_plain (LinkUp now) = false
is_plain (Reload now plan base) = false
is_plain _ = true
