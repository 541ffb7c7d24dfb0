-- The letters in flight, seen as one queue for each sender and receiver.
use Rattle.std.specs.Prelude.{◌≡◌, ℕ, Bool, false, ◌&&◌, List, [], ◌∷◌, ◌++◌, filter, map, Option, Some, None}
use Rattle.lload_names.specs.declared.names.Letter.{Letter}
use Rattle.lload_names.specs.declared.names.PartName.{PartName}
use Rattle.lload_names.specs.declared.names.Posted.{Posted}
use Rattle.lload_names.specs.Same.{same_part}
use Rattle.part_spec.specs.World.{Flight, is_between, is_to, flights, lower}

-- the letters from a sender to a receiver among letters in flight, in their order
abbrev pub queue : PartName → PartName → List Flight → List Letter
queue sender receiver letters = map (λ f. f.posted.letter) (filter (is_between sender receiver) letters)

-- the receivers of letters in flight, and the senders of those to a receiver
abbrev pub receivers : List Flight → List PartName
receivers letters = map (λ f. f.posted.to) letters

abbrev pub senders_to : PartName → List Flight → List PartName
senders_to receiver letters = map (λ f. f.from) (filter (is_to receiver) letters)

-- the first of a queue, and the others
abbrev pub first_letter : List Letter → Option Letter
first_letter [] = None
first_letter (l ∷ ls) = Some l

abbrev pub later_letters : List Letter → List Letter
later_letters [] = []
later_letters (l ∷ ls) = ls

-- letters in flight, in some order that keeps each queue; whether all of them are sorted; for how many more batches
-- there is room
pub record Queues : Type 0 where
  pub letters : List Flight
  pub is_sorted : Bool
  pub spare : ℕ

-- the queue from a sender to a receiver
abbrev pub between : PartName → PartName → Queues → List Letter
between sender receiver q = queue sender receiver q.letters

-- all queues of two lists are the same
abbrev pub AreSame : List Flight → List Flight → Type 0
AreSame letters others = (sender receiver : PartName) → queue sender receiver letters ≡ queue sender receiver others

-- the queues are those of a list of letters in flight
abbrev pub Carries : List Flight → Queues → Type 0
Carries letters q = (sender receiver : PartName) → queue sender receiver letters ≡ between sender receiver q

-- no queue changed
abbrev pub StaySame : Queues → Queues → Type 0
StaySame before after = (s r : PartName) → between s r after ≡ between s r before

-- no other queue than that of this sender and receiver changed
abbrev pub OthersStay : PartName → PartName → Queues → Queues → Type 0
OthersStay sender receiver before after =
    (s r : PartName) → (same_part s sender && same_part r receiver) ≡ false → between s r after ≡ between s r before

-- each queue has the letters of this sender behind those that it had
abbrev pub Gains : PartName → List Posted → Queues → Queues → Type 0
Gains sender letters before after =
    (s r : PartName) → between s r after ≡ between s r before ++ queue s r (flights sender letters)

-- the lower of two parts, where there are some
abbrev pub lower_of : Option PartName → Option PartName → Option PartName
lower_of None q = q
lower_of (Some p) q = Some (lower p q)
