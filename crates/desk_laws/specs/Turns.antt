-- Lists that the desk's turns make, and what is proved of them.
use Rattle.std.specs.Prelude.{◌≡◌, List}
use Rattle.lload_names.specs.declared.inputs.Effects.{Effects}
use Rattle.lload_names.specs.declared.names.PartName.TheVariants.{Desk}
use Rattle.lload_spec.specs.Settings.{Settings}
use Rattle.part_spec.specs.Marked.{Marked}
use Rattle.part_spec.specs.DeskState.{DeskState, empty_desk, step_desk}
use Rattle.part_spec.specs.DeskTurn.{desk_turn}
use Rattle.part_spec.specs.Fit.{fit_beginning}
use Rattle.part_spec.specs.Gives.{gives}
use Rattle.part_spec.specs.Says.{DeskSays, DeskSaysViable}
use Rattle.part_spec.specs.Share.{Share}
use Rattle.part_laws.specs.Turns.{Event, Comes, Severed, list_from, letters_given, no_effects}

-- a turn of the desk; no link of it ends
abbrev pub desk_event : Settings → DeskState → Event → Effects
desk_event s p (Comes input) = desk_turn s p input
desk_event s p (Severed now why) = no_effects

-- the desk's list by its turns
abbrev pub desk_list : Settings → List Event → List Marked
desk_list s xs = list_from (step_desk s) (desk_event s) empty_desk xs

-- the desk's list keeps its share
abbrev pub DeskShares : Type 0
DeskShares = (s : Settings) (xs : List Event) → Share s Desk (desk_list s xs)

-- the letters that the desk's list stands for are those that its turns gave
abbrev pub DeskGives : Type 0
DeskGives =
    (s : Settings) (xs : List Event)
    → gives s Desk (desk_list s xs) ≡ letters_given (step_desk s) (desk_event s) empty_desk xs

-- the desk's state says what its list says, whatever the list is
abbrev pub DeskSaysSo : Type 0
DeskSaysSo = (s : Settings) (list : List Marked) → DeskSays s list

-- and which connections are viable, up to the first letter that isn't fit
abbrev pub DeskSaysWhoIsViable : Type 0
DeskSaysWhoIsViable = (s : Settings) (xs : List Event) → DeskSaysViable s (fit_beginning s Desk (desk_list s xs))
