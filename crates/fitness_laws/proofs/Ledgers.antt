-- The ledger behind a part's list has the part's state.
use Rattle.std.proofs.Common.{◌≡◌, ℕ, List, [], ◌∷◌, ◌++◌, refl, ◌∙◌, sym}
use Rattle.lload_names.specs.declared.names.PartName.TheVariants.{Desk, Client, Up as Connection}
use Rattle.lload_spec.specs.Settings.{Settings}
use Rattle.part_spec.specs.ClientState.{step_clients}
use Rattle.part_spec.specs.ConnectionState.{step_connections}
use Rattle.part_spec.specs.DeskState.{step_desks}
use Rattle.part_spec.specs.Fit.{ClientLedger, ConnectionLedger, DeskLedger, empty_client_ledger, empty_connection_ledger, empty_desk_ledger, ledger_behind, step_client_ledger, step_connection_ledger, step_desk_ledger}
use Rattle.part_spec.specs.Marked.{Marked}
use Rattle.part_spec.specs.World.{World, client_in, connection_in, list_in}
use Rattle.link_laws.specs.Laws.{StatesAreOfLists}
use Rattle.stands_laws.specs.WorldStands.{client_ledger_in, connection_ledger_in, desk_ledger_in}

client_state : (s : Settings) (l : ClientLedger) (ms : List Marked) → (ledger_behind (step_client_ledger s) l ms).state ≡ step_clients s l.state ms
client_state s l [] = refl
client_state s l (m ∷ ms) = client_state s (step_client_ledger s l m) ms

connection_state : (s : Settings) (l : ConnectionLedger) (ms : List Marked) → (ledger_behind (step_connection_ledger s) l ms).state ≡ step_connections s l.state ms
connection_state s l [] = refl
connection_state s l (m ∷ ms) = connection_state s (step_connection_ledger s l m) ms

desk_state : (s : Settings) (l : DeskLedger) (ms : List Marked) → (ledger_behind (step_desk_ledger s) l ms).state ≡ step_desks s l.state ms
desk_state s l [] = refl
desk_state s l (m ∷ ms) = desk_state s (step_desk_ledger s l m) ms

pub client_here : (s : Settings) (w : World) (c : ℕ) → StatesAreOfLists s w → client_in w c ≡ (client_ledger_in s w c).state
client_here s w c h = h.clients c ∙ sym (client_state s (empty_client_ledger c) (list_in w (Client c)))

pub connection_here : (s : Settings) (w : World) (u : ℕ) → StatesAreOfLists s w → connection_in s w u ≡ (connection_ledger_in s w u).state
connection_here s w u h = h.connections u ∙ sym (connection_state s (empty_connection_ledger s u) (list_in w (Connection u)))

pub desk_here : (s : Settings) (w : World) → StatesAreOfLists s w → w.desk ≡ (desk_ledger_in s w).state
desk_here s w h = h.desk ∙ sym (desk_state s empty_desk_ledger (list_in w Desk))

-- behind more entries
pub ledger_more : {A : Type 0} (step : A → Marked → A) (l : A) (ms ns : List Marked) → ledger_behind step l (ms ++ ns) ≡ ledger_behind step (ledger_behind step l ms) ns
ledger_more step l [] ns = refl
ledger_more step l (m ∷ ms) ns = ledger_more step (step l m) ms ns
