-- A connection's list keeps its share, and where each letter was fit, what it gave is what its list gives; links end for
-- reasons that a link has.
use Rattle.std.proofs.Common.{◌≡◌, ℕ, Bool, true, false, List, [], ◌∷◌, ◌++◌, Option, Some, None, refl, ap, ◌∙◌, sym, subst}
use Rattle.lload_names.specs.declared.inputs.Input.{Input}
use Rattle.lload_names.specs.declared.inputs.Effects.{Effects}
use Rattle.lload_names.specs.declared.names.EndWhy.{EndWhy}
use Rattle.lload_names.specs.declared.names.ConnKind.{ConnKind}
use Rattle.lload_names.specs.declared.names.ConnKind.TheVariants.{Regular, Bind}
use Rattle.lload_names.specs.declared.names.PartName.TheVariants.{Up as Connection}
use Rattle.lload_names.specs.declared.names.Posted.{Posted}
use Rattle.lload_names.specs.declared.plans.Place.{Place}
use Rattle.lload_spec.specs.Settings.{Settings, is_kind, is_of_kind, place_at}
use Rattle.lload_spec.specs.Entries.{is_link_reason}
use Rattle.part_spec.specs.ConnectionState.{ConnectionState, empty_connection, step_connection, step_connections}
use Rattle.part_spec.specs.Fit.{ledger_behind, is_all_fit}
use Rattle.part_spec.specs.Gives.{gives}
use Rattle.part_spec.specs.Inputs.{Act, nothing, entries_of, letter_of, marked_by, moment_for}
use Rattle.part_spec.specs.Marked.{Marked, letters_to}
use Rattle.part_spec.specs.Merge.{Intake, Takes, Severed, PartMove, world_of}
use Rattle.part_spec.specs.Share.{Share}
use Rattle.part_spec.specs.Turn.{connection_act, connection_sever}
use Rattle.part_spec.specs.World.{World, connection_in, list_in}
use Rattle.part_laws.specs.Turns.{Event, Comes, Severed as EndOfLink, made, list_from, letters_given, no_effects}
use Rattle.connection_laws.specs.Turns.{connection_event, connection_list}
use Rattle.connection_laws.proofs.RegularShare.{regular_shares}
use Rattle.connection_laws.proofs.RegularGiving.{regular_gives}
use Rattle.bind_laws.proofs.BindShare.{bind_shares}
use Rattle.bind_laws.proofs.BindGiving.{bind_gives}
use Rattle.link_laws.specs.Moves.{waiting_between, effects_in, ends_rightly, end_rightly}
use Rattle.link_laws.specs.Laws.{StatesAreOfLists, ConnectionSharesLaw, ConnectionsGiveLaw, ConnectionLinksLaw}
use Rattle.link_laws.proofs.Links.{links}
use Rattle.link_laws.proofs.PartLists.{Played, event_of, played}

same_fold : (s : Settings) (p : ConnectionState) (ms : List Marked) → ledger_behind (step_connection s) p ms ≡ step_connections s p ms
same_fold s p [] = refl
same_fold s p (m ∷ ms) = same_fold s (step_connection s p m) ms

state_is : (s : Settings) (u : ℕ) (w : World) → StatesAreOfLists s w → ledger_behind (step_connection s) (empty_connection s u) (list_in w (Connection u)) ≡ connection_in s w u
state_is s u w h = same_fold s (empty_connection s u) (list_in w (Connection u)) ∙ sym (h.connections u)

same_effects : (s : Settings) (u : ℕ) (w : World) (x : Intake) → ends_rightly x ≡ true → connection_event s (connection_in s w u) (event_of x) ≡ effects_in s w (Connection u) x
same_effects s u w (Takes i) k = refl
same_effects s u w (Severed now why) k = ap (λ b. elim b [ true ↦ connection_sever (connection_in s w u) now why | false ↦ no_effects ]) k

-- a connection's events in a world
connection_played : (s : Settings) (ms : List PartMove) (u : ℕ) → end_rightly ms ≡ true → Played s (Connection u) (step_connection s) (connection_event s) (empty_connection s u) (λ w. connection_in s w u) (state_is s u) (same_effects s u) (world_of s ms)
connection_played s ms u k = played s (Connection u) (step_connection s) (connection_event s) (empty_connection s u) (λ w. connection_in s w u) (state_is s u) (same_effects s u) ms k

-- A connection without a place: nothing happens to it.

-- what an input makes of a connection that nothing happened to, by its place
abbrev act_at : Settings → ℕ → ℕ → Input → Option Place → Act
act_at s u at i o = elim o [ None ↦ nothing | Some p ↦ connection_act s (empty_connection s u) at i ]

-- what the end of its link makes of it, by whether the reason is one that a link has
abbrev end_by : Settings → ℕ → ℕ → EndWhy → Bool → Effects
end_by s u now why b = elim b [ true ↦ connection_sever (empty_connection s u) now why | false ↦ no_effects ]

module _ (s : Settings) (u : ℕ) (none : place_at s u ≡ None) where
  none_made : (x : Event) → made (connection_event s) (empty_connection s u) x ≡ []
  none_made (Comes i) = ap (λ (o : Option Place). marked_by (letter_of i) (entries_of (Connection u) (moment_for 0 i) (act_at s u (moment_for 0 i) i o).whats)) none
  none_made (EndOfLink now why) = by (is_link_reason why)
    where
      by : (b : Bool) → marked_by None (end_by s u now why b).entries ≡ []
      by true = refl
      by false = refl

  none_given : (x : Event) → (connection_event s (empty_connection s u) x).letters ≡ []
  none_given (Comes i) = ap (λ (o : Option Place). (act_at s u (moment_for 0 i) i o).letters) none
  none_given (EndOfLink now why) = by (is_link_reason why)
    where
      by : (b : Bool) → (end_by s u now why b).letters ≡ []
      by true = refl
      by false = refl

  empty_list : (xs : List Event) → connection_list s u xs ≡ []
  empty_list [] = refl
  empty_list (x ∷ xs) =
      ap (λ l. l ++ list_from (step_connection s) (connection_event s) (ledger_behind (step_connection s) (empty_connection s u) l) xs) (none_made x) ∙ empty_list xs

  no_letters : (xs : List Event) → letters_given (step_connection s) (connection_event s) (empty_connection s u) xs ≡ []
  no_letters [] = refl
  no_letters (x ∷ xs) =
      ap (λ (l : List Posted). l ++ letters_given (step_connection s) (connection_event s) (ledger_behind (step_connection s) (empty_connection s u) (made (connection_event s) (empty_connection s u) x)) xs) (none_given x)
      ∙ ap (λ l. letters_given (step_connection s) (connection_event s) (ledger_behind (step_connection s) (empty_connection s u) l) xs) (none_made x) ∙ no_letters xs

empty_share : (s : Settings) (u : ℕ) → Share s (Connection u) []
empty_share s u = record {
  marks = refl;
  ids_right = refl;
  passed = refl;
  sent_once = refl;
  own_reasoned = refl;
  ups = refl;
  retirements = refl;
  own_bind_ends = refl;
  expired = refl;
  missed = refl;
  idle = refl;
  bad_messages = refl;
  downs = refl;
  moments = refl;
  life = refl;
}

-- Of either kind, or of none.

kind_is : (s : Settings) (u : ℕ) (p : Place) (kind : ConnKind) → place_at s u ≡ Some p → is_kind kind p.kind ≡ true → is_of_kind s kind u ≡ true
kind_is s u p kind e k = ap (λ (o : Option Place). elim o [ None ↦ false | Some q ↦ is_kind kind q.kind ]) e ∙ k

by_kind : (P : Type 0) (k : ConnKind) → (is_kind Regular k ≡ true → P) → (is_kind Bind k ≡ true → P) → P
by_kind P Regular f g = f refl
by_kind P Bind f g = g refl

shares_by : (s : Settings) (u : ℕ) (xs : List Event) (o : Option Place) → place_at s u ≡ o → Share s (Connection u) (connection_list s u xs)
shares_by s u xs None e = subst (Share s (Connection u)) (sym (empty_list s u e xs)) (empty_share s u)
shares_by s u xs (Some p) e = by_kind (Share s (Connection u) (connection_list s u xs)) p.kind (λ k. regular_shares s u (kind_is s u p Regular e k) xs) (λ k. bind_shares s u (kind_is s u p Bind e k) xs)

gives_by : (s : Settings) (u : ℕ) (xs : List Event) (o : Option Place) → place_at s u ≡ o → is_all_fit s (Connection u) (connection_list s u xs) ≡ true
    → gives s (Connection u) (connection_list s u xs) ≡ letters_given (step_connection s) (connection_event s) (empty_connection s u) xs
gives_by s u xs None e f = ap (gives s (Connection u)) (empty_list s u e xs) ∙ sym (no_letters s u e xs)
gives_by s u xs (Some p) e f =
    by_kind (gives s (Connection u) (connection_list s u xs) ≡ letters_given (step_connection s) (connection_event s) (empty_connection s u) xs) p.kind (λ k. regular_gives s u (kind_is s u p Regular e k) xs f) (λ k. bind_gives s u (kind_is s u p Bind e k) xs f)

pub connection_shares_in : ConnectionSharesLaw
connection_shares_in s ms u k =
    let h = connection_played s ms u k in
    subst (Share s (Connection u)) h.lists (shares_by s u h.events (place_at s u) refl)

pub connections_give_in : ConnectionsGiveLaw
connections_give_in s ms u k f =
    let h = connection_played s ms u k in
    ap (gives s (Connection u)) (sym h.lists) ∙ gives_by s u h.events (place_at s u) refl (subst (λ l. is_all_fit s (Connection u) l ≡ true) (sym h.lists) f) ∙ h.given

pub connection_links : ConnectionLinksLaw
connection_links s ms u k f marks q = (waiting_between (world_of s ms) (Connection u) q, ap (letters_to q) (connections_give_in s ms u k f) ∙ links s ms marks (Connection u) q)
