-- A connection is regular, or a bind connection, or has no place, and then its list is empty.
use Rattle.std.proofs.Common.{◌≡◌, ℕ, Bool, true, false, List, [], ◌∷◌, ◌++◌, refl, ap, ◌∙◌, sym, subst}
use Rattle.std.specs.Prelude.{Option, Some, None, is_some, not}
use Rattle.std.specs.List.{list_all}
use Rattle.lload_names.specs.declared.names.ConnKind.{ConnKind}
use Rattle.lload_names.specs.declared.names.ConnKind.TheVariants.{Regular, Bind as BindKind}
use Rattle.lload_names.specs.declared.names.Entry.{Entry}
use Rattle.lload_names.specs.declared.names.PartName.{PartName}
use Rattle.lload_names.specs.declared.names.PartName.TheVariants.{Up as Connection}
use Rattle.lload_names.specs.declared.inputs.Effects.{Effects}
use Rattle.lload_names.specs.declared.plans.Place.{Place}
use Rattle.lload_spec.specs.Entries.{is_link_reason}
use Rattle.lload_spec.specs.Journal.{Family}
use Rattle.lload_spec.specs.Lists.{implies}
use Rattle.lload_spec.specs.Strict.{is_empty}
use Rattle.lload_spec.specs.Settings.{Settings, is_kind, is_of_kind, place_at}
use Rattle.lload_laws.proofs.ListLaws.{all_always}
use Rattle.part_laws.specs.Turns.{Event, Comes, Severed, letter_with, list_from, no_effects}
use Rattle.part_spec.specs.ConnectionState.{empty_connection, step_connection}
use Rattle.part_spec.specs.Fit.{ledger_behind as behind}
use Rattle.part_spec.specs.Inputs.{Act, effects_of, marked_by, moment_for, nothing}
use Rattle.part_spec.specs.Marked.{Marked, entries}
use Rattle.part_spec.specs.Turn.{connection_act, connection_sever}
use Rattle.connection_laws.specs.Turns.{connection_event, connection_list}
use Rattle.connection_laws.proofs.Rules.{placed_at}
use Rattle.carried_laws.specs.Laws.{Played}
use Rattle.upstream_laws.specs.Laws.{ConnectionsArePlaced}

pub by_kind : {C : Type 0} (s : Settings) (u : ℕ) → (is_of_kind s Regular u ≡ true → C) → (is_of_kind s BindKind u ≡ true → C) → (place_at s u ≡ None → C) → C
by_kind {C} s u regular bind none = by (place_at s u) refl
  where
    of_kind : (k : ConnKind) → Option Place → Bool
    of_kind k o = elim o [ None ↦ false | Some q ↦ is_kind k q.kind ]

    sort : (k : ConnKind) (q : Place) → place_at s u ≡ Some q → q.kind ≡ k → C
    sort Regular q e k = regular (ap (of_kind Regular) e ∙ ap (is_kind Regular) k)
    sort BindKind q e k = bind (ap (of_kind BindKind) e ∙ ap (is_kind BindKind) k)

    by : (o : Option Place) → place_at s u ≡ o → C
    by None e = none e
    by (Some q) e = sort q.kind q e refl

-- without a place nothing happens
module _ (s : Settings) (u : ℕ) (none : place_at s u ≡ None) where
  nothing_made : (x : Event) → (connection_event s (empty_connection s u) x).entries ≡ []
  nothing_made (Comes input) = ap (λ o. (effects_of (Connection u) (moment_for 0 input) (text o)).entries) none
    where
      text : Option Place → Act
      text o = elim o [ None ↦ nothing | Some place ↦ connection_act s (empty_connection s u) (moment_for 0 input) input ]
  nothing_made (Severed now why) = by (is_link_reason why)
    where
      effects : Bool → Effects
      effects b = elim b [ true ↦ connection_sever (empty_connection s u) now why | false ↦ no_effects ]

      by : (b : Bool) → (effects b).entries ≡ []
      by true = refl
      by false = refl

  pub placeless : (xs : List Event) → connection_list s u xs ≡ []
  placeless [] = refl
  placeless (x ∷ xs) = ap (λ es. marked_by (letter_with x) es ++ list_from (step_connection s) (connection_event s) (behind (step_connection s) (empty_connection s u) (marked_by (letter_with x) es)) xs) (nothing_made x) ∙ placeless xs

-- what is so of the lists of connections of both kinds, and of the empty list, is so of each connection's
pub each_connection : (s : Settings) (F : Family) (marked : PartName → List Marked) → Played s F marked → (t : ℕ → List Entry → Bool) → ((u : ℕ) → is_of_kind s Regular u ≡ true → t u (entries (marked (Connection u))) ≡ true) → ((u : ℕ) → is_of_kind s BindKind u ≡ true → t u (entries (marked (Connection u))) ≡ true) → ((u : ℕ) → t u [] ≡ true) → list_all (λ u. t u (F.connection u)) F.connections ≡ true
each_connection s F marked h t regular bind none = all_always (λ u. t u (F.connection u)) F.connections (λ u. subst (λ l. t u l ≡ true) (h.joined.shared.same_entries (Connection u)) (by_kind s u (regular u) (bind u) (λ e. subst (λ l. t u (entries l) ≡ true) (sym (placeless s u e (h.connections u).events) ∙ (h.connections u).same) (none u))))

-- a bind connection isn't regular
pub bind_alone : (s : Settings) (u : ℕ) → is_of_kind s BindKind u ≡ true → is_of_kind s Regular u ≡ false
bind_alone s u h = by (place_at s u) h
  where
    sort : (k : ConnKind) → is_kind BindKind k ≡ true → is_kind Regular k ≡ false
    sort Regular e = absurd (let bad : false ≡ true = e in cc)
    sort BindKind e = refl

    by : (o : Option Place) → (elim o [ None ↦ false | Some q ↦ is_kind BindKind q.kind ]) ≡ true → (elim o [ None ↦ false | Some q ↦ is_kind Regular q.kind ]) ≡ false
    by None e = refl
    by (Some q) e = sort q.kind e

-- nor is a regular connection one for Binds
pub regular_alone : (s : Settings) (u : ℕ) → is_of_kind s Regular u ≡ true → is_of_kind s BindKind u ≡ false
regular_alone s u h = by (is_of_kind s BindKind u) refl
  where
    by : (b : Bool) → is_of_kind s BindKind u ≡ b → b ≡ false
    by true e = absurd (let bad : true ≡ false = sym h ∙ bind_alone s u e in cc)
    by false e = refl

-- each connection that has entries has a place
pub placed : ConnectionsArePlaced
placed s F marked h = each_connection s F marked h (λ u list. implies (not (is_empty list)) (is_some (place_at s u))) (λ u kind. always (not (is_empty (entries (marked (Connection u))))) (placed_at s Regular u kind)) (λ u kind. always (not (is_empty (entries (marked (Connection u))))) (placed_at s BindKind u kind)) (λ u. refl)
  where
    always : (a : Bool) {b : Bool} → b ≡ true → implies a b ≡ true
    always true k = k
    always false k = refl
