-- Each part's state is that of its list.
use Rattle.std.proofs.Common.{◌≡◌, ℕ, Bool, true, false, ◌==◌, List, [], ◌++◌, refl, ap, ◌∙◌, sym}
use Rattle.std.specs.Prelude.{Option, cond}
use Rattle.std.proofs.lemmas.Bool.{eqb-true}
use Rattle.std.proofs.lemmas.List.{append-nil}
use Rattle.lload_names.specs.declared.inputs.Effects.{Effects}
use Rattle.lload_names.specs.declared.names.PartName.{PartName}
use Rattle.lload_names.specs.declared.names.PartName.TheVariants.{Desk, Client, Up as Connection}
use Rattle.lload_spec.specs.Settings.{Settings}
use Rattle.part_spec.specs.ClientState.{client_of, step_clients, empty_client}
use Rattle.part_spec.specs.ConnectionState.{connection_of, step_connections, empty_connection}
use Rattle.part_spec.specs.DeskState.{desk_of, step_desks, empty_desk}
use Rattle.part_spec.specs.Inputs.{marked_by}
use Rattle.part_spec.specs.Marked.{Marked, Taken}
use Rattle.part_spec.specs.Merge.{Intake, letter_in}
use Rattle.part_spec.specs.World.{World, empty_world, behind, client_in, connection_in, list_in}
use Rattle.part_spec.proofs.Folds.{clients-fold, connections-fold, desks-fold}
use Rattle.link_laws.specs.Moves.{effects_in}
use Rattle.link_laws.specs.Laws.{StatesAreOfLists, StatesLaw}
use Rattle.link_laws.proofs.Numbers.{client_here, connection_here, clients_number, connections_number, client_put, connection_put, eqb_turn}
use Rattle.link_laws.proofs.Kept.{letter_out, moves_keep}
use Rattle.link_laws.proofs.Entries.{AreOf, effects_own, list_behind}

module _ (s : Settings) (mark : Option Taken) (e : Effects) (w : World) (h : StatesAreOfLists s w) where
  abbrev new : List Marked
  new = marked_by mark e.entries

  -- the state of a client behind its turn, or another's
  client_grows : (c n : ℕ) (b : Bool) → (n == c) ≡ b → cond (c == n) (step_clients s (client_in w c) new) (client_in w n) ≡ client_of s n (list_in w (Client n) ++ cond b new [])
  client_grows c n true k =
      ap (λ t. cond t (step_clients s (client_in w c) new) (client_in w n)) (eqb_turn c n ∙ k)
      ∙ ap (λ p. step_clients s p new) (h.clients c)
      ∙ ap (λ m. step_clients s (client_of s m (list_in w (Client m))) new) (sym (eqb-true n c k))
      ∙ sym (clients-fold s (empty_client n) (list_in w (Client n)) new)
  client_grows c n false k =
      ap (λ t. cond t (step_clients s (client_in w c) new) (client_in w n)) (eqb_turn c n ∙ k)
      ∙ h.clients n
      ∙ ap (client_of s n) (sym (append-nil (list_in w (Client n))))

  connection_grows : (u n : ℕ) (b : Bool) → (n == u) ≡ b → cond (u == n) (step_connections s (connection_in s w u) new) (connection_in s w n) ≡ connection_of s n (list_in w (Connection n) ++ cond b new [])
  connection_grows u n true k =
      ap (λ t. cond t (step_connections s (connection_in s w u) new) (connection_in s w n)) (eqb_turn u n ∙ k)
      ∙ ap (λ p. step_connections s p new) (h.connections u)
      ∙ ap (λ m. step_connections s (connection_of s m (list_in w (Connection m))) new) (sym (eqb-true n u k))
      ∙ sym (connections-fold s (empty_connection s n) (list_in w (Connection n)) new)
  connection_grows u n false k =
      ap (λ t. cond t (step_connections s (connection_in s w u) new) (connection_in s w n)) (eqb_turn u n ∙ k)
      ∙ h.connections n
      ∙ ap (connection_of s n) (sym (append-nil (list_in w (Connection n))))

  turn_states : (p : PartName) → AreOf p e.entries → StatesAreOfLists s (behind s p mark e w)
  turn_states Desk own =
      record {
        clients = λ n. h.clients n ∙ ap (client_of s n) (sym (append-nil (list_in w (Client n))) ∙ sym (list_behind s Desk mark e w (Client n) own));
        connections = λ n. h.connections n ∙ ap (connection_of s n) (sym (append-nil (list_in w (Connection n))) ∙ sym (list_behind s Desk mark e w (Connection n) own));
        desk = ap (λ p. step_desks s p new) h.desk ∙ sym (desks-fold s empty_desk (list_in w Desk) new) ∙ ap (desk_of s) (sym (list_behind s Desk mark e w Desk own));
      }
  turn_states (Client c) own =
      record {
        clients = λ n. client_put w (step_clients s (client_in w c) new) n
            ∙ ap (λ m. cond (m == n) (step_clients s (client_in w c) new) (client_in w n)) (clients_number s (client_in w c) new ∙ client_here w c)
            ∙ client_grows c n (n == c) refl ∙ ap (client_of s n) (sym (list_behind s (Client c) mark e w (Client n) own));
        connections = λ n. h.connections n ∙ ap (connection_of s n) (sym (append-nil (list_in w (Connection n))) ∙ sym (list_behind s (Client c) mark e w (Connection n) own));
        desk = h.desk ∙ ap (desk_of s) (sym (append-nil (list_in w Desk)) ∙ sym (list_behind s (Client c) mark e w Desk own));
      }
  turn_states (Connection u) own =
      record {
        clients = λ n. h.clients n ∙ ap (client_of s n) (sym (append-nil (list_in w (Client n))) ∙ sym (list_behind s (Connection u) mark e w (Client n) own));
        connections = λ n. connection_put s w (step_connections s (connection_in s w u) new) n
            ∙ ap (λ m. cond (m == n) (step_connections s (connection_in s w u) new) (connection_in s w n)) (connections_number s (connection_in s w u) new ∙ connection_here s w u)
            ∙ connection_grows u n (n == u) refl ∙ ap (connection_of s n) (sym (list_behind s (Connection u) mark e w (Connection n) own));
        desk = h.desk ∙ ap (desk_of s) (sym (append-nil (list_in w Desk)) ∙ sym (list_behind s (Connection u) mark e w Desk own));
      }

-- letters say nothing of states
pub without_letter : (s : Settings) (sender p : PartName) (w : World) → StatesAreOfLists s w → StatesAreOfLists s (letter_out sender p w)
without_letter s sender p w h = record { clients = h.clients; connections = h.connections; desk = h.desk }

pub keep_states : (s : Settings) (p : PartName) (x : Intake) (w : World) → StatesAreOfLists s w → StatesAreOfLists s (behind s p (letter_in x) (effects_in s w p x) w)
keep_states s p x w h = turn_states s (letter_in x) (effects_in s w p x) w h p (effects_own s w p x)

pub no_states : (s : Settings) → StatesAreOfLists s empty_world
no_states s = record { clients = λ c. refl; connections = λ u. refl; desk = refl }

pub states : StatesLaw
states s ms = moves_keep s (StatesAreOfLists s) (without_letter s) (keep_states s) empty_world ms (no_states s)
