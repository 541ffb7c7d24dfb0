-- A letter that is fit for a part behind its list may be taken by the part's state there.
use Rattle.std.specs.Prelude.{◌≡◌, ℕ, true, List, IsTrue}
use Rattle.lload_names.specs.declared.names.ConnKind.TheVariants.{Regular, Bind as BindKind}
use Rattle.lload_names.specs.declared.names.Letter.{Letter}
use Rattle.lload_names.specs.declared.names.PartName.{PartName}
use Rattle.lload_names.specs.declared.names.PartName.TheVariants.{Desk, Up as Connection}
use Rattle.lload_spec.specs.Settings.{Settings}
use Rattle.part_spec.specs.ConnectionState.{connection_of}
use Rattle.part_spec.specs.DeskState.{desk_of}
use Rattle.part_spec.specs.Fit.{is_all_fit, is_fit}
use Rattle.part_spec.specs.Marked.{Marked}
use Rattle.part_spec.specs.Merge.{AreTurns}
use Rattle.part_spec.specs.Stamps.{Turn, list_of_turns}
use Rattle.taken_laws.specs.Taking.{BindMayTake, DeskMayTake, HoldsOnce, RegularMayTake}

-- a regular connection, behind each list
abbrev pub FitForRegular : Type 0
FitForRegular =
    (s : Settings) (u : ℕ) (list : List Marked) (sender : PartName) (letter : Letter)
    → (connection_of s u list).kind ≡ Regular → is_fit s (Connection u) list sender letter ≡ true
    → RegularMayTake (connection_of s u list) letter

-- a bind connection, behind each list
abbrev pub FitForBind : Type 0
FitForBind =
    (s : Settings) (u : ℕ) (list : List Marked) (sender : PartName) (letter : Letter)
    → (connection_of s u list).kind ≡ BindKind → is_fit s (Connection u) list sender letter ≡ true
    → BindMayTake (connection_of s u list) letter

-- the desk, behind each list of its turns in which each letter was fit
abbrev pub DeskHoldsOnce : Type 0
DeskHoldsOnce =
    (s : Settings) (turns : List Turn) → AreTurns s Desk turns → IsTrue (is_all_fit s Desk (list_of_turns turns))
    → HoldsOnce (desk_of s (list_of_turns turns))

abbrev pub FitForDesk : Type 0
FitForDesk =
    (s : Settings) (turns : List Turn) (sender : PartName) (letter : Letter) → AreTurns s Desk turns
    → IsTrue (is_all_fit s Desk (list_of_turns turns)) → is_fit s Desk (list_of_turns turns) sender letter ≡ true
    → DeskMayTake s (desk_of s (list_of_turns turns)) letter
