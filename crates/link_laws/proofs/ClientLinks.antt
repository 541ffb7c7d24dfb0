-- What a client gave is what its list gives, and its list keeps its share, where links end for reasons that a link has.
use Rattle.std.proofs.Common.{◌≡◌, ℕ, true, false, List, [], ◌∷◌, refl, ap, ◌∙◌, sym, subst}
use Rattle.lload_names.specs.declared.names.PartName.TheVariants.{Client}
use Rattle.lload_spec.specs.Settings.{Settings}
use Rattle.part_spec.specs.ClientState.{ClientState, empty_client, step_client, step_clients}
use Rattle.part_spec.specs.ClientTurn.{client_sever}
use Rattle.part_spec.specs.Fit.{ledger_behind}
use Rattle.part_spec.specs.Gives.{gives}
use Rattle.part_spec.specs.Marked.{Marked, letters_to}
use Rattle.part_spec.specs.Marks.{has_right_marks}
use Rattle.part_spec.specs.Merge.{Intake, Takes, Severed, PartMove, world_of}
use Rattle.part_spec.specs.Share.{Share}
use Rattle.part_spec.specs.World.{World, client_in, list_in}
use Rattle.part_laws.specs.Turns.{no_effects}
use Rattle.client_laws.specs.Turns.{client_event}
use Rattle.client_laws.proofs.ClientGives.{client_gives_so}
use Rattle.client_laws.proofs.ClientMarks.{client_marks}
use Rattle.client_answer_laws.proofs.Shares.{client_shares}
use Rattle.link_laws.specs.Moves.{waiting_between, effects_in, ends_rightly, end_rightly}
use Rattle.link_laws.specs.Laws.{StatesAreOfLists, ClientsGiveLaw, ClientLinksLaw, ClientMarksLaw, ClientSharesLaw}
use Rattle.link_laws.proofs.Links.{links}
use Rattle.link_laws.proofs.PartLists.{Played, event_of, played}

same_fold : (s : Settings) (p : ClientState) (ms : List Marked) → ledger_behind (step_client s) p ms ≡ step_clients s p ms
same_fold s p [] = refl
same_fold s p (m ∷ ms) = same_fold s (step_client s p m) ms

state_is : (s : Settings) (c : ℕ) (w : World) → StatesAreOfLists s w → ledger_behind (step_client s) (empty_client c) (list_in w (Client c)) ≡ client_in w c
state_is s c w h = same_fold s (empty_client c) (list_in w (Client c)) ∙ sym (h.clients c)

same_effects : (s : Settings) (c : ℕ) (w : World) (x : Intake) → ends_rightly x ≡ true → client_event s (client_in w c) (event_of x) ≡ effects_in s w (Client c) x
same_effects s c w (Takes i) k = refl
same_effects s c w (Severed now why) k = ap (λ b. elim b [ true ↦ client_sever (client_in w c) now why | false ↦ no_effects ]) k

-- a client's events in a world
client_played : (s : Settings) (ms : List PartMove) (c : ℕ) → end_rightly ms ≡ true → Played s (Client c) (step_client s) (client_event s) (empty_client c) (λ w. client_in w c) (state_is s c) (same_effects s c) (world_of s ms)
client_played s ms c k = played s (Client c) (step_client s) (client_event s) (empty_client c) (λ w. client_in w c) (state_is s c) (same_effects s c) ms k

pub clients_give_in : ClientsGiveLaw
clients_give_in s ms c k =
    let h = client_played s ms c k in
    ap (gives s (Client c)) (sym h.lists) ∙ client_gives_so s c h.events ∙ h.given

pub client_marks_in : ClientMarksLaw
client_marks_in s ms c k =
    let h = client_played s ms c k in
    subst (λ l. has_right_marks s (Client c) l ≡ true) h.lists (client_marks s c h.events)

pub client_shares_in : ClientSharesLaw
client_shares_in s ms c k =
    let h = client_played s ms c k in
    subst (Share s (Client c)) h.lists (client_shares s c h.events)

pub client_links : ClientLinksLaw
client_links s ms c k marks q = (waiting_between (world_of s ms) (Client c) q, ap (letters_to q) (clients_give_in s ms c k) ∙ links s ms marks (Client c) q)
