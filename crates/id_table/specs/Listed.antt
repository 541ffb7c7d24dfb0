-- The places of rows in a plain list.
use Rattle.std.specs.Prelude.{ℕ, suc, ◌==◌, List, [], ◌∷◌, if◌then◌else◌, nat_lt}
use Rattle.id_table.specs.declared.row.Row.{Row}

-- the place of the row of an identifier, or the number of rows
abbrev pub place_of : ℕ → List Row → ℕ
place_of id [] = 0
place_of id (r ∷ rs) = if r.id == id then 0 else suc (place_of id rs)

-- the place of the first row above an identifier, or the number of rows
abbrev pub place_above : ℕ → List Row → ℕ
place_above id [] = 0
place_above id (r ∷ rs) = if nat_lt id r.id then 0 else suc (place_above id rs)
