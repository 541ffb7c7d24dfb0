use Rattle.std.specs.Prelude.{◌≡◌, ℕ, ◌*◌, ◌/◌, ◌%◌, ◌<◌, ◌≤◌, ◌==◌, Bool, false, List, length, map, slice_get, slice_index_or, unwrap_or}
use Rattle.std.specs.Int.{bit_at}
use Rattle.lload_spec.specs.Picks.{rising}

-- whether a place is set; none is set beyond the end
abbrev pub is_set : List Bool → ℕ → Bool
is_set flags i = unwrap_or (slice_get flags i) false

-- none of the first so many places is set
abbrev pub NoneSet : ℕ → List Bool → Type 0
NoneSet n flags = (i : ℕ) → i < n → is_set flags i ≡ false

-- whether the bit of a place is set, where each word has the bits of 64 places, the lowest first
abbrev pub word_bit : List ℕ → ℕ → Bool
word_bit words i = bit_at (slice_index_or words (i / 64) 0) (i % 64) == 1

-- the truth values of all bits of some words
abbrev pub bits_of : List ℕ → List Bool
bits_of words = map (word_bit words) (rising 0 (64 * length words))

-- a bit is the first that is set in a word from one on
pub record IsFirstBit (w at place : ℕ) : Type 0 where
  pub least : at ≤ place
  pub small : place < 64
  pub here : bit_at w place ≡ 1
  pub before : (k : ℕ) → at ≤ k → k < place → bit_at w k ≡ 0
