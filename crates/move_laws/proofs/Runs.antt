-- Worked runs, computed: the moves do what they are named for.
use Rattle.std.proofs.Common.{◌≡◌, true, false, ◌==◌, List, [], ◌∷◌, Some, refl}
use Rattle.move_laws.specs.World.{Kinds, World, Move, Forward, Failed, Ended, IsDown, Asks, Binds, Ends, TakesChoice, TakesAnswer, TakesOrder, Finishes, ComesUp, Breaks, Decides, Hears, is}
use Rattle.move_laws.specs.Moves.{moves, empty}

-- the operations of client 2 are Binds, and connection 3 serves them
abbrev kinds : Kinds
kinds = record { bind_op = λ c k. c == 2; bind_conn = λ u. u == 3 }

abbrev after : List Move → World
after ms = moves kinds empty ms

-- an operation is asked for, chosen and forwarded; then its client ends it
abbrev asked : List Move
asked = ComesUp 1 ∷ Hears 1 ∷ Asks 1 ∷ Decides 1 (Some 1) ∷ TakesChoice 1 ∷ TakesOrder 1 1 ∷ Ends 1 0 ∷ TakesOrder 1 1 ∷ []

dropped : (after asked).reports 1 ≡ Ended 1 0 ∷ []
dropped = refl

-- the first step of an exchange: the client is pinned, and its second Bind waits under the first as its holder
abbrev pinned : List Move
pinned = ComesUp 3 ∷ Hears 3 ∷ Asks 2 ∷ Decides 2 (Some 3) ∷ TakesChoice 2 ∷ TakesOrder 3 2 ∷ Finishes 3 2 0 false true ∷ TakesAnswer 2 3 ∷ Binds 2 ∷ []

second : (after pinned).to_conn 2 3 ≡ Forward 1 0 ∷ []
second = refl

held : is ((after pinned).conns 3).holder 2 0 ≡ true
held = refl

-- the connection goes down before the second Bind comes there: that is missed, and the holder isn't reported twice
abbrev lost : List Move
lost = ComesUp 3 ∷ Hears 3 ∷ Asks 2 ∷ Decides 2 (Some 3) ∷ TakesChoice 2 ∷ TakesOrder 3 2 ∷ Finishes 3 2 0 false true ∷ TakesAnswer 2 3 ∷ Binds 2 ∷ Breaks 3 ∷ TakesOrder 3 2 ∷ []

missed : (after lost).to_client 2 3 ≡ Failed 1 ∷ []
missed = refl

once : (after lost).reports 3 ≡ Ended 2 0 ∷ IsDown ∷ []
once = refl
