-- Sorted letters: by receiver, then by sender, then by number.
use Rattle.std.specs.Prelude.{ℕ, ◌<◌, Bool, ◌&&◌, List, [], ◌∷◌, filter, map, ⊤, Option, Some, None}
use Rattle.std.specs.declared.cmp.Ordering.{Ordering}
use Rattle.std.specs.List.Sorted.{IsStrictlySortedBy}
use Rattle.std.specs.Map.{keys_of}
use Rattle.lload_names.specs.declared.names.Letter.{Letter}
use Rattle.lload_names.specs.declared.names.PartName.{PartName}
use Rattle.lload_names.specs.contracts.names.PartNameOrd.TheImpl as part_ord
use Rattle.lload_names.specs.contracts.names.PartNamePartialEq.TheImpl as part_eq
use Rattle.lload_names.specs.Same.{same_part}
use Rattle.part_spec.specs.World.{Flight}
use Rattle.letter_queues.specs.declared.spot.Spot.{Spot}
use Rattle.letter_queues.specs.contracts.spot.SpotOrd.TheImpl as spot_ord

-- how parts and spots compare
abbrev pub part_cmp : PartName → PartName → Ordering
part_cmp = (part_ord.ghosts).cmp

abbrev pub spot_cmp : Spot → Spot → Ordering
spot_cmp = (spot_ord.ghosts).cmp

abbrev pub is_part : PartName → PartName → Bool
is_part = (part_eq.ghosts).eq

-- a sorted letter as it is in flight
abbrev pub flight_at : Spot × Letter → Flight
flight_at e = record { from = e.0.sender; posted = record { to = e.0.receiver; letter = e.1 } }

abbrev pub flights_at : List (Spot × Letter) → List Flight
flights_at es = map flight_at es

-- the numbers of all are above one and below another
abbrev pub AreNumbered : ℕ → ℕ → List (Spot × Letter) → Type 0
AreNumbered low high [] = ⊤
AreNumbered low high (e ∷ es) = (low < e.0.number) × ((e.0.number < high) × AreNumbered low high es)

-- the spots rise, and the numbers lie between two
abbrev pub AreRows : ℕ → ℕ → List (Spot × Letter) → Type 0
AreRows low high es = (low < high) × (IsStrictlySortedBy spot_cmp (keys_of es) × AreNumbered low high es)

-- whether a spot is in the queue of this sender and receiver
abbrev pub is_spot_between : PartName → PartName → Spot → Bool
is_spot_between sender receiver spot = same_part sender spot.sender && same_part receiver spot.receiver

-- the first spot of these letters
abbrev pub first_spot : List (Spot × Letter) → Option Spot
first_spot [] = None
first_spot (e ∷ es) = Some e.0

-- the first spot of a queue
abbrev pub first_spot_between : PartName → PartName → List (Spot × Letter) → Option Spot
first_spot_between sender receiver es = first_spot (filter (λ e. is_spot_between sender receiver e.0) es)
