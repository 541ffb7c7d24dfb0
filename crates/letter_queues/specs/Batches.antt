-- Letters that aren't sorted yet.
use Rattle.std.specs.Prelude.{List, [], ◌∷◌, ◌++◌, Option, Some, None}
use Rattle.part_spec.specs.World.{Flight, flights}
use Rattle.letter_queues.specs.declared.batch.Batch.{Batch}
use Rattle.letter_queues.specs.declared.returned.Returned.{Returned}

-- the letters of a batch, as they are in flight
abbrev pub batch_flights : Batch → List Flight
batch_flights b = flights b.from b.letters.items

-- the letters of batches
abbrev pub flights_in : List Batch → List Flight
flights_in [] = []
flights_in (b ∷ bs) = batch_flights b ++ flights_in bs

-- a letter that was put back, as it is in flight
abbrev pub flights_back : Option Returned → List Flight
flights_back None = []
flights_back (Some r) = flights r.from (r.posted ∷ [])
