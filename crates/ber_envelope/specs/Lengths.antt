-- Lengths at the front of some bytes.
use Rattle.std.specs.Prelude.{◌≡◌, ℕ, ◌≤◌, ◌<◌, List, [], ◌∷◌, length, take, Some}
use Rattle.ldap_spec.specs.Elements.{length_of, length_size}
use Rattle.ber_envelope.specs.declared.lengths.Length.{Length}
use Rattle.ber_envelope.specs.declared.lengths.Length.TheVariants.{Whole, Short, Unread}

-- how many octets the length has that the bytes begin with; one at least where there are no bytes
abbrev pub size_at_front : List ℕ → ℕ
size_at_front [] = 1
size_at_front (n ∷ xs) = length_size n

-- what the bytes begin with, read as a length
abbrev pub IsLength : List ℕ → Length → Type 0
IsLength bytes (Whole size value) = (1 ≤ size) × (size ≤ length bytes) × (size_at_front bytes ≡ size) × (length_of (take size bytes) ≡ Some value) × (size ≤ 5)
IsLength bytes (Short size) = (length bytes < size) × (size_at_front bytes ≡ size) × (size ≤ 5)
IsLength bytes Unread = size_at_front bytes ≡ 0
