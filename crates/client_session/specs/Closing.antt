-- The letters at the end of what a client does, as its part gives them.
use Rattle.std.specs.Prelude.{◌+◌, ℕ, true, false, List, [], ◌++◌, length, flat_map, Option, Some, None}
use Rattle.lload_names.specs.declared.names.Posted.{Posted}
use Rattle.lload_names.specs.declared.names.Letter.TheVariants.{Drop, Leave}
use Rattle.lload_names.specs.declared.names.PartName.TheVariants.{Up as Connection}
use Rattle.lload_spec.specs.Pauses.{resume_letters}
use Rattle.part_spec.specs.Inputs.{to}
use Rattle.client_rows.specs.Rows.{is_bind, went_to}
use Rattle.client_rows.specs.declared.row.Row.{Row}
use Rattle.client_session.specs.declared.part.Held.{Held}
use Rattle.client_session.specs.declared.part.ClientPart.{ClientPart}

-- the Drop of an operation other than a Bind that was forwarded
abbrev pub drop_of : ℕ → Row → List Posted
drop_of number r =
    elim (is_bind r) [
      | true ↦ []
      | false ↦ elim (went_to r.way) [ None ↦ [] | Some u ↦ to (Connection u) (Drop (record { client = number; k = r.k })) ]
    ]

-- the Drops of all of them
abbrev pub drops : ℕ → List Row → List Posted
drops number rows = flat_map (drop_of number) rows

-- the Leave of the bind connection that is held
abbrev pub leave : Option Held → List Posted
leave hold = elim hold [ None ↦ [] | Some h ↦ to (Connection h.conn) (Leave h.holder) ]

-- the letters at the end of all that it does, and of the part
abbrev pub endings : ClientPart → List Posted
endings d = drops d.number d.operations.rows ++ leave d.hold

abbrev pub closing : ClientPart → List Posted
closing d = endings d ++ resume_letters d.number d.paused.keys

-- how many letters the end of all that it does gives at most
abbrev pub most_endings : ClientPart → ℕ
most_endings d = length d.operations.rows + 1

-- and that of the part
abbrev pub most_closing : ClientPart → ℕ
most_closing d = most_endings d + length d.paused.keys
