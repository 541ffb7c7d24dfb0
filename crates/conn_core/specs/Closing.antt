-- The letters of a connection's end.
use Rattle.std.specs.Prelude.{ℕ, Bool, true, false, List, [], ◌∷◌, ◌++◌, flat_map, Option, Some, None}
use Rattle.lload_names.specs.declared.names.ConnKind.{ConnKind}
use Rattle.lload_names.specs.declared.names.ConnKind.TheVariants.{Regular, Bind}
use Rattle.lload_names.specs.declared.names.OpName.{OpName}
use Rattle.lload_names.specs.declared.names.Refusal.TheVariants.{C4}
use Rattle.lload_names.specs.declared.names.Posted.{Posted}
use Rattle.lload_names.specs.declared.names.PartName.TheVariants.{Desk}
use Rattle.lload_names.specs.declared.names.Letter.TheVariants.{Ended, IsDown, IsRetired}
use Rattle.lload_names.specs.declared.names.What.{What}
use Rattle.lload_names.specs.declared.names.What.TheVariants as what
use Rattle.id_table.specs.declared.row.Row.{Row}
use Rattle.part_spec.specs.Inputs.{to, failed}

-- those of a row that is lost: on a bind connection it is the holder that ends
abbrev pub row_loss : ℕ → ConnKind → Row → List Posted
row_loss number Regular r = failed r.op C4 ++ to Desk (Ended r.op number None)
row_loss number Bind r = failed r.op C4

-- those of all rows
abbrev pub lost_letters : ℕ → ConnKind → List Row → List Posted
lost_letters number kind rows = flat_map (row_loss number kind) rows

-- that of a holder's end
abbrev pub holder_letters : ℕ → Option OpName → List Posted
holder_letters number None = []
holder_letters number (Some h) = to Desk (Ended h number None)

-- all of them
abbrev pub closing_letters : ℕ → ConnKind → List Row → Option OpName → List Posted
closing_letters number kind rows holder =
    lost_letters number kind rows ++ (holder_letters number holder ++ to Desk (IsDown number))

-- what gives an identifier, and behind it that the connection is retired where this is the limit
abbrev pub given_whats : Bool → What → List What
given_whats true entry = entry ∷ what.Retired ∷ []
given_whats false entry = entry ∷ []

-- the letter that the desk hears of this
abbrev pub retired_letters : ℕ → Bool → List Posted
retired_letters number true = to Desk (IsRetired number)
retired_letters number false = []
