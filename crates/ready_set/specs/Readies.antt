-- Which connections a set has at which places.
use Rattle.std.specs.Prelude.{◌≡◌, ◌≤◌, ◌<◌, ℕ, Bool, true, ◌==◌, ◌&&◌, List}
use Rattle.std.specs.BTreeSet.{contains}
use Rattle.lload_spec.specs.Settings.{Settings, place_index}
use Rattle.ready_set.specs.Keys.{key_cmp, key_of, most_conn, is_in}
use Rattle.ready_set.specs.declared.ready.Ready.{Ready}

-- whether a set has a connection at the place with this index
abbrev pub has : Ready → ℕ → ℕ → Bool
has r i n = contains key_cmp r.keys (key_of i n)

-- at the places from one index on and before another, a set has exactly these connections, each at its own place
pub record Indexes (s : Settings) (among : List ℕ) (from to : ℕ) (r : Ready) : Type 0 where
  pub small : (n : ℕ) → is_in n among ≡ true → n ≤ most_conn
  pub here : (i n : ℕ) → from ≤ i → i < to → n ≤ most_conn → has r i n ≡ (is_in n among && (place_index s n == i))
