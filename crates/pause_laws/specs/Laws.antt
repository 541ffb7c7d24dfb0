-- What is said of pauses.
use Rattle.std.specs.Prelude.{◌≡◌, ℕ, List, IsTrue}
use Rattle.lload_names.specs.declared.names.PartName.{PartName}
use Rattle.lload_names.specs.declared.names.PartName.TheVariants.{Client}
use Rattle.lload_spec.specs.Journal.{Family, IsWhole}
use Rattle.lload_spec.specs.Pauses.{pausing_at}
use Rattle.lload_spec.specs.Settings.{Settings}
use Rattle.lload_spec.specs.Settled.{each_pause_settled}
use Rattle.lload_spec.specs.Strict.{each_pause_owed}
use Rattle.part_spec.specs.ClientState.{client_of}
use Rattle.part_spec.specs.Marked.{Marked}
use Rattle.joined_laws.specs.Joined.{Joined}
use Rattle.settled_laws.specs.Laws.{Rested}

-- a client's state says what it pauses as its list does
abbrev pub PausesAreSaid : Type 0
PausesAreSaid =
    (s : Settings) (F : Family) (marked : PartName → List Marked) → Joined s F marked
    → (c : ℕ) → (client_of s c (marked (Client c))).pausing ≡ pausing_at c (F.client c)

-- a connection pauses for a client, and goes on, at most as often as the client told it
abbrev pub PausesAreOwed : Type 0
PausesAreOwed =
    (s : Settings) (F : Family) (marked : PartName → List Marked) → Joined s F marked → IsTrue (each_pause_owed F)

-- where nothing waits, a regular connection that isn't down holds exactly where a client has paused it
abbrev pub PausesSettle : Type 0
PausesSettle =
    (s : Settings) (F : Family) (marked : PartName → List Marked) → Rested s F marked → IsWhole F
    → IsTrue (each_pause_settled s F)
