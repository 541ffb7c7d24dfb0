-- Keys by place, and then from the greatest number on.
use Rattle.std.specs.Prelude.{ℕ, ◌-◌, ◌==◌, Bool, List}
use Rattle.std.specs.List.{list_any}
use Rattle.std.specs.declared.cmp.Ordering.{Ordering}
use Rattle.std.specs.Ordering.{nat_cmp, ordering_then}

-- the greatest number of a connection
abbrev pub most_conn : ℕ
most_conn = 4294967295

abbrev pub key_cmp : ℕ × ℕ → ℕ × ℕ → Ordering
key_cmp x y = ordering_then (nat_cmp x.0 y.0) (nat_cmp x.1 y.1)

-- the key of a connection at the place with this index
abbrev pub key_of : ℕ → ℕ → ℕ × ℕ
key_of i n = (i, most_conn - n)

-- whether a number is among these
abbrev pub is_in : ℕ → List ℕ → Bool
is_in n ns = list_any (λ m. m == n) ns
