-- The live operation that an identifier names.
use Rattle.std.specs.Prelude.{ℕ, Bool, ◌==◌, ◌&&◌, not, List, [], find, Option, Some, None}
use Rattle.lload_names.specs.declared.names.Posted.{Posted}
use Rattle.part_spec.specs.ClientState.{ClientState, ClientRow, is_bind_row}
use Rattle.part_spec.specs.ClientTurn.{drop_of}

-- whether an operation is the one, unless it is a Bind
abbrev pub names : ℕ → ClientRow → Bool
names id r = not (is_bind_row r) && id == r.request.id

-- its Drop
abbrev pub named_drop : ClientState → ℕ → List Posted
named_drop p id = elim (find (names id) p.rows) [ None ↦ [] | Some r ↦ drop_of p r ]
