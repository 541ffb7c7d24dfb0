-- Where nothing waits, each connection is settled: the desk heard its states, and it is in use where it retired and isn't down.
use Rattle.std.proofs.Common.{◌≡◌, ℕ, true, List, [], ◌∷◌, refl, ap, ◌∙◌, sym, subst}
use Rattle.std.specs.List.{list_all, list_any}
use Rattle.lload_names.specs.declared.names.ConnKind.TheVariants.{Regular, Bind as BindKind}
use Rattle.lload_names.specs.declared.names.Entry.{Entry}
use Rattle.lload_names.specs.declared.names.PartName.{PartName}
use Rattle.lload_names.specs.declared.names.PartName.TheVariants.{Up as Connection}
use Rattle.lload_spec.specs.Journal.{Family}
use Rattle.lload_spec.specs.Settings.{Settings, is_of_kind}
use Rattle.lload_spec.specs.Settled.{is_connection_settled, is_retired_in_use}
use Rattle.lload_spec.proofs.Growth.{both, left, right}
use Rattle.part_spec.specs.Marked.{Marked, entries}
use Rattle.carried_laws.specs.Laws.{Played}
use Rattle.settled_laws.specs.Laws.{are_states_heard}
use Rattle.upstream_laws.proofs.Places.{by_kind, placeless}

pub settles : (s : Settings) (F : Family) (us : List ℕ) → list_all (are_states_heard F) us ≡ true → ((u : ℕ) → is_retired_in_use s F u ≡ true) → list_all (is_connection_settled s F) us ≡ true
settles s F [] h f = refl
settles s F (u ∷ us) h f =
    both (is_connection_settled s F u) _
    (both (are_states_heard F u) (is_retired_in_use s F u) (left (are_states_heard F u) _ h) (f u))
    (settles s F us (right (are_states_heard F u) _ h) f)

-- a connection with no entry isn't retired
none_retired : (s : Settings) (F : Family) (u : ℕ) → F.connection u ≡ [] → is_retired_in_use s F u ≡ true
none_retired s F u e = rw e

-- so each connection is in use, where those of both kinds are
pub in_use : (s : Settings) (F : Family) (marked : PartName → List Marked) → Played s F marked → ((u : ℕ) → is_of_kind s Regular u ≡ true → is_retired_in_use s F u ≡ true) → ((u : ℕ) → is_of_kind s BindKind u ≡ true → is_retired_in_use s F u ≡ true) → (u : ℕ) → is_retired_in_use s F u ≡ true
in_use s F marked h regular bind u =
    by_kind s u (regular u) (bind u)
    (λ e. none_retired s F u (sym (h.joined.shared.same_entries (Connection u)) ∙ ap entries (sym (h.connections u).same ∙ placeless s u e (h.connections u).events)))
