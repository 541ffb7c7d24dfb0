-- The index of the operations by their identifiers.
use Rattle.std.specs.Prelude.{◌≡◌, ℕ, List}
use Rattle.std.specs.BTreeMap.{BTreeMap, get}
use Rattle.std.specs.Option.{option_to_list}
use Rattle.std.specs.Ordering.{nat_cmp}
use Rattle.client_rows.specs.declared.row.Row.{Row}
use Rattle.client_rows.specs.Rows.{numbers_under}

-- the map has the number of the one operation under each identifier
abbrev pub Indexes : BTreeMap ℕ ℕ → List Row → Type 0
Indexes numbers rows = (id : ℕ) → numbers_under id rows ≡ option_to_list (get nat_cmp numbers id)
