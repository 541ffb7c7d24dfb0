-- How the world that a world stands for goes on: a part's state, and the letters in flight.
use Rattle.std.proofs.Common.{◌≡◌, ◌≢◌, ℕ, Bool, true, false, ◌==◌, Option, refl, ap, ◌∙◌, sym}
use Rattle.std.specs.Prelude.{cond}
use Rattle.std.proofs.lemmas.Bool.{eqb-true, eqb-false}
use Rattle.lload_names.specs.declared.inputs.Effects.{Effects}
use Rattle.lload_spec.specs.Settings.{Settings}
use Rattle.part_spec.specs.Inputs.{marked_by}
use Rattle.part_spec.specs.Marked.{Taken}
use Rattle.part_spec.specs.ClientState.{ClientState, step_clients}
use Rattle.part_spec.specs.ConnectionState.{ConnectionState, step_connections}
use Rattle.part_spec.specs.World.{World, behind, client_in, connection_in}
use Rattle.lload_names.specs.declared.names.PartName.TheVariants.{Client, Up as Connection}
use Rattle.link_laws.proofs.Numbers.{client_here, client_put, clients_number, connection_here, connection_put, connections_number}

-- a client's turn

pub client-behind : (s : Settings) (c n : ℕ) (mark : Option Taken) (e : Effects) (v : World) → client_in (behind s (Client c) mark e v) n ≡ cond (c == n) (step_clients s (client_in v c) (marked_by mark e.entries)) (client_in v n)
client-behind s c n mark e v =
    client_put v (step_clients s (client_in v c) (marked_by mark e.entries)) n
    ∙ ap (λ m. cond (m == n) (step_clients s (client_in v c) (marked_by mark e.entries)) (client_in v n)) (clients_number s (client_in v c) (marked_by mark e.entries) ∙ client_here v c)

-- a connection's

pub connection-behind : (s : Settings) (u n : ℕ) (mark : Option Taken) (e : Effects) (v : World) → connection_in s (behind s (Connection u) mark e v) n ≡ cond (u == n) (step_connections s (connection_in s v u) (marked_by mark e.entries)) (connection_in s v n)
connection-behind s u n mark e v =
    connection_put s v (step_connections s (connection_in s v u) (marked_by mark e.entries)) n
    ∙ ap (λ m. cond (m == n) (step_connections s (connection_in s v u) (marked_by mark e.entries)) (connection_in s v n)) (connections_number s (connection_in s v u) (marked_by mark e.entries) ∙ connection_here s v u)

-- what holds of the part that moved by its state, and of the others as before, holds of each
pub each-client : (A : ℕ → ClientState → Type 0) (s : Settings) (c : ℕ) (mark : Option Taken) (e : Effects) (v : World)
    → A c (step_clients s (client_in v c) (marked_by mark e.entries)) → ((n : ℕ) → n ≢ c → A n (client_in v n)) → (n : ℕ) → A n (client_in (behind s (Client c) mark e v) n)
each-client A s c mark e v here others n = by (c == n) refl
  where
    by : (b : Bool) → (c == n) ≡ b → A n (client_in (behind s (Client c) mark e v) n)
    by true h = rw (client-behind s c n mark e v) (rw h (rw (sym (eqb-true c n h)) here))
    by false h = rw (client-behind s c n mark e v) (rw h (others n (λ k. eqb-false c n h (sym k))))

pub each-connection : (A : ℕ → ConnectionState → Type 0) (s : Settings) (u : ℕ) (mark : Option Taken) (e : Effects) (v : World)
    → A u (step_connections s (connection_in s v u) (marked_by mark e.entries)) → ((n : ℕ) → n ≢ u → A n (connection_in s v n)) → (n : ℕ) → A n (connection_in s (behind s (Connection u) mark e v) n)
each-connection A s u mark e v here others n = by (u == n) refl
  where
    by : (b : Bool) → (u == n) ≡ b → A n (connection_in s (behind s (Connection u) mark e v) n)
    by true h = rw (connection-behind s u n mark e v) (rw h (rw (sym (eqb-true u n h)) here))
    by false h = rw (connection-behind s u n mark e v) (rw h (others n (λ k. eqb-false u n h (sym k))))
