-- Lists that the turns of an upstream connection make, and what is proved of them.
use Rattle.std.specs.Prelude.{◌≡◌, ℕ, true, false, List, IsTrue}
use Rattle.lload_names.specs.declared.inputs.Effects.{Effects}
use Rattle.lload_names.specs.declared.names.ConnKind.TheVariants.{Regular}
use Rattle.lload_names.specs.declared.names.PartName.TheVariants.{Up as Connection}
use Rattle.lload_spec.specs.Settings.{Settings, is_of_kind}
use Rattle.lload_spec.specs.Entries.{is_link_reason}
use Rattle.part_spec.specs.Marked.{Marked}
use Rattle.part_spec.specs.ConnectionState.{ConnectionState, empty_connection, step_connection}
use Rattle.part_spec.specs.Turn.{connection_turn, connection_sever}
use Rattle.part_spec.specs.Fit.{is_all_fit}
use Rattle.part_spec.specs.Gives.{gives}
use Rattle.part_spec.specs.Share.{Share}
use Rattle.part_laws.specs.Turns.{Event, Comes, Severed, list_from, letters_given, no_effects}

-- a turn of a connection; a link ends for a reason that a link has
abbrev pub connection_event : Settings → ConnectionState → Event → Effects
connection_event s p (Comes input) = connection_turn s p input
connection_event s p (Severed now why) =
    elim (is_link_reason why) [ true ↦ connection_sever p now why | false ↦ no_effects ]

-- a connection's list by its turns
abbrev pub connection_list : Settings → ℕ → List Event → List Marked
connection_list s u xs = list_from (step_connection s) (connection_event s) (empty_connection s u) xs

-- a regular connection's list keeps its share
abbrev pub RegularShares : Type 0
RegularShares =
    (s : Settings) (u : ℕ) → is_of_kind s Regular u ≡ true → (xs : List Event)
    → Share s (Connection u) (connection_list s u xs)

-- where each letter of a regular connection's list was fit, the letters that the list stands for are those that its
-- turns gave
abbrev pub RegularGives : Type 0
RegularGives =
    (s : Settings) (u : ℕ) → is_of_kind s Regular u ≡ true → (xs : List Event)
    → IsTrue (is_all_fit s (Connection u) (connection_list s u xs))
    → gives s (Connection u) (connection_list s u xs)
    ≡ letters_given (step_connection s) (connection_event s) (empty_connection s u) xs
