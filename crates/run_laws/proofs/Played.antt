-- The lists of a run are joined, and those of its clients and connections are made by turns of these.
use Rattle.std.proofs.Common.{◌≡◌, ℕ, true, false, List, [], ◌∷◌, refl, ap, ◌∙◌, sym}
use Rattle.lload_names.specs.declared.names.PartName.TheVariants.{Client, Up as Connection}
use Rattle.lload_spec.specs.Laws.{FamilyIsWhole}
use Rattle.lload_spec.specs.Settings.{Settings}
use Rattle.part_laws.specs.Turns.{no_effects}
use Rattle.part_spec.specs.ClientState.{ClientState, empty_client, step_client, step_clients}
use Rattle.part_spec.specs.ClientTurn.{client_sever}
use Rattle.part_spec.specs.ConnectionState.{ConnectionState, empty_connection, step_connection, step_connections}
use Rattle.part_spec.specs.Fit.{ledger_behind}
use Rattle.part_spec.specs.Marked.{Marked}
use Rattle.part_spec.specs.Merge.{Intake, Takes, Severed, PartMove, world_of}
use Rattle.part_spec.specs.Turn.{connection_sever}
use Rattle.part_spec.specs.World.{World, client_in, connection_in, journal_of, list_in}
use Rattle.client_laws.specs.Turns.{client_event, client_list}
use Rattle.connection_laws.specs.Turns.{connection_event, connection_list}
use Rattle.link_laws.specs.Laws.{StatesAreOfLists}
use Rattle.link_laws.specs.Moves.{effects_in, end_rightly, ends_rightly}
use Rattle.link_laws.proofs.PartLists.{event_of, played}
use Rattle.carried_laws.specs.Laws.{IsMade}
use Rattle.run_laws.specs.Runs.{RunsAreJoined, RunsArePlayed}

clients_fold : (s : Settings) (p : ClientState) (ms : List Marked) → ledger_behind (step_client s) p ms ≡ step_clients s p ms
clients_fold s p [] = refl
clients_fold s p (m ∷ ms) = clients_fold s (step_client s p m) ms

connections_fold : (s : Settings) (p : ConnectionState) (ms : List Marked) → ledger_behind (step_connection s) p ms ≡ step_connections s p ms
connections_fold s p [] = refl
connections_fold s p (m ∷ ms) = connections_fold s (step_connection s p m) ms

module _ (s : Settings) (ms : List PartMove) (k : end_rightly ms ≡ true) where
  client_made : (c : ℕ) → IsMade (client_list s c) (list_in (world_of s ms) (Client c))
  client_made c = let h = played s (Client c) (step_client s) (client_event s) (empty_client c) (λ w. client_in w c) state effects ms k in record { events = h.events; same = h.lists }
    where
      state : (w : World) → StatesAreOfLists s w → ledger_behind (step_client s) (empty_client c) (list_in w (Client c)) ≡ client_in w c
      state w h = clients_fold s (empty_client c) (list_in w (Client c)) ∙ sym (h.clients c)

      effects : (w : World) (x : Intake) → ends_rightly x ≡ true → client_event s (client_in w c) (event_of x) ≡ effects_in s w (Client c) x
      effects w (Takes i) e = refl
      effects w (Severed now why) e = ap (λ b. elim b [ true ↦ client_sever (client_in w c) now why | false ↦ no_effects ]) e

  connection_made : (u : ℕ) → IsMade (connection_list s u) (list_in (world_of s ms) (Connection u))
  connection_made u = let h = played s (Connection u) (step_connection s) (connection_event s) (empty_connection s u) (λ w. connection_in s w u) state effects ms k in record { events = h.events; same = h.lists }
    where
      state : (w : World) → StatesAreOfLists s w → ledger_behind (step_connection s) (empty_connection s u) (list_in w (Connection u)) ≡ connection_in s w u
      state w h = connections_fold s (empty_connection s u) (list_in w (Connection u)) ∙ sym (h.connections u)

      effects : (w : World) (x : Intake) → ends_rightly x ≡ true → connection_event s (connection_in s w u) (event_of x) ≡ effects_in s w (Connection u) x
      effects w (Takes i) e = refl
      effects w (Severed now why) e = ap (λ b. elim b [ true ↦ connection_sever (connection_in s w u) now why | false ↦ no_effects ]) e

pub runs_are_played : RunsAreJoined → FamilyIsWhole → RunsArePlayed
runs_are_played joined whole s ms k = record { joined = joined s ms k; whole = whole (journal_of (world_of s ms)); clients = client_made s ms k; connections = connection_made s ms k }
