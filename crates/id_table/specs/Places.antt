-- The rows of a slab, by the map from identifiers to their places.
use Rattle.std.specs.Prelude.{◌≢◌, ℕ, IsSome, List, [], ◌∷◌, Option, Some, None, ⊤}
use Rattle.std.specs.BTreeMap.{is_at}
use Rattle.std.specs.List.{AllByRecursion}
use Rattle.std.specs.Map.{lookup, set_value}
use Rattle.std.specs.Ordering.{nat_cmp}
use Rattle.slab.specs.Slab.{Slab, get}
use Rattle.id_table.specs.declared.row.Row.{Row}

-- the rows by identifier
abbrev pub entries_at : Slab Row → List (ℕ × ℕ) → List (ℕ × Row)
entries_at s [] = []
entries_at s (p ∷ ps) = elim (get s p.1) [ None ↦ entries_at s ps | Some r ↦ (p.0, r) ∷ entries_at s ps ]

-- each place has a row, and no two are one
abbrev pub ArePlaces : Slab Row → List (ℕ × ℕ) → Type 0
ArePlaces s [] = ⊤
ArePlaces s (p ∷ ps) = IsSome (get s p.1) × AllByRecursion (λ q. q.1 ≢ p.1) ps × ArePlaces s ps

-- the key of the first entry
abbrev pub first_key : List (ℕ × Row) → Option ℕ
first_key [] = None
first_key (e ∷ es) = Some e.0

-- the entries, of which that of the identifier, where it was found, was changed
abbrev pub with_found : (Row → Row) → ℕ → List (ℕ × Row) → Option Row → List (ℕ × Row)
with_found change id es None = es
with_found change id es (Some r) = set_value (is_at (nat_cmp id)) es (change r)

abbrev pub changed_entry : (Row → Row) → ℕ → List (ℕ × Row) → List (ℕ × Row)
changed_entry change id es = with_found change id es (lookup (is_at (nat_cmp id)) es)
