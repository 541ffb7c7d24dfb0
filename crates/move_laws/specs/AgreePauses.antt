-- What is said of connections that have come up, and of pauses.
use Rattle.std.specs.Prelude.{◌≡◌, ℕ, ◌+◌, ◌≤◌, Bool, true, List}
use Rattle.move_laws.specs.World.{Kinds, World, Client, ToChooser, ToConn, at}
use Rattle.move_laws.specs.Counts.{num, gos, signals, Alternates}

-- A connection that is chosen for an operation, or that has one, has come up, as the desk heard.
abbrev pub Begun : ℕ → ℕ → Bool → Client → List ToChooser → Type 0
Begun k u up x q = 1 ≤ gos k u q + num (at (x.given k) u) → up ≡ true

abbrev pub BegunAt : World → ℕ → ℕ → ℕ → Type 0
BegunAt w c k u = Begun k u (w.desk.up u) (w.clients c) (w.choices c)

-- The pauses of a connection by a client: `here` whether it pauses, `told` whether it was told so last; whether it
-- serves Binds, and whether the desk heard that it came up.
pub record Pausing (serves_binds up here : Bool) (orders : List ToConn) (told : Bool) : Type 0 where
  pub order : Alternates here orders told
  pub plain : serves_binds ≡ true → signals orders ≡ 0
  pub begun : 1 ≤ signals orders + num told → up ≡ true

abbrev pub PausingAt : Kinds → World → ℕ → ℕ → Type 0
PausingAt kinds w c u =
    Pausing (kinds.bind_conn u) (w.desk.up u) ((w.conns u).paused c) (w.to_conn c u) ((w.clients c).paused u)
