-- The merge of a family: the turns of all parts in one order, by their stamps. The law on merging says that it is a run
-- of the world of all parts.
use Rattle.std.specs.Prelude.{◌≡◌, ◌⊎◌, ℕ, zero, suc, Bool, ◌==◌, ◌&&◌, ◌||◌, nat_lt, if◌then◌else◌, List, [], ◌∷◌, ◌++◌, length, filter, flat_map, map, sum, Option, Some, None}
use Rattle.lload_names.specs.declared.inputs.Input.{Input}
use Rattle.lload_names.specs.declared.inputs.Event.{Event}
use Rattle.lload_names.specs.declared.inputs.Effects.{Effects}
use Rattle.lload_names.specs.declared.names.EndWhy.{EndWhy}
use Rattle.lload_names.specs.declared.names.PartName.{PartName}
use Rattle.lload_names.specs.declared.names.PartName.TheVariants.{Desk, Client, Up as Connection}
use Rattle.lload_spec.specs.Settings.{Settings}
use Rattle.lload_spec.specs.Journal.{Family, IsWhole, same_part}
use Rattle.part_spec.specs.Marked.{Marked, Taken}
use Rattle.part_spec.specs.Inputs.{letter_of, marked_by}
use Rattle.part_spec.specs.ClientState.{client_of}
use Rattle.part_spec.specs.ClientTurn.{client_turn, client_sever}
use Rattle.part_spec.specs.ConnectionState.{connection_of}
use Rattle.part_spec.specs.DeskState.{desk_of}
use Rattle.part_spec.specs.DeskTurn.{desk_turn}
use Rattle.part_spec.specs.Turn.{connection_turn, connection_sever}
use Rattle.part_spec.specs.Stamps.{Turn, StampedLinked, list_of_turns}
use Rattle.part_spec.specs.World.{World, PartTurn, empty_world, flights, happens, is_below, severs}

-- The merge.

-- a part's turns that aren't taken yet
pub record Remaining : Type 0 where
  pub part : PartName
  pub turns : List Turn

-- the first turn of a part, if one remains
abbrev pub first_turn : Remaining → List PartTurn
first_turn r = elim r.turns [ [] ↦ [] | t ∷ ts ↦ record { part = r.part; turn = t } ∷ [] ]

-- whether a turn comes before another: it has a smaller stamp, or the same and a lower part
abbrev pub comes_before : PartTurn → PartTurn → Bool
comes_before a b = nat_lt a.turn.stamp b.turn.stamp || a.turn.stamp == b.turn.stamp && is_below a.part b.part

-- the turn of these that comes before all others, where this one comes first
abbrev pub earliest_of : PartTurn → List PartTurn → PartTurn
earliest_of a [] = a
earliest_of a (b ∷ bs) = earliest_of (if comes_before b a then b else a) bs

abbrev pub earliest : List PartTurn → Option PartTurn
earliest [] = None
earliest (a ∷ as') = Some (earliest_of a as')

-- these turns without the first
abbrev pub later_turns : List Turn → List Turn
later_turns [] = []
later_turns (t ∷ ts) = ts

-- what remains behind a turn of this part
abbrev pub without_turn : PartName → Remaining → Remaining
without_turn p r = record r { turns = if same_part p r.part then later_turns r.turns else r.turns }

-- the turn that comes first is taken, again and again, at most so often
abbrev pub merge_within : ℕ → List Remaining → List PartTurn
merge_within zero rs = []
merge_within (suc k) rs =
    elim (earliest (flat_map first_turn rs)) [
      | None ↦ []
      | Some t ↦ t ∷ merge_within k (map (without_turn t.part) rs)
    ]

-- all turns of these parts in one order
abbrev pub remaining_of : (PartName → List Turn) → PartName → Remaining
remaining_of turns p = record { part = p; turns = turns p }

abbrev pub merge : List PartName → (PartName → List Turn) → List PartTurn
merge ps turns = merge_within (sum (map (λ p. length (turns p)) ps)) (map (remaining_of turns) ps)

-- the parts that a family names
abbrev pub parts_of : Family → List PartName
parts_of F = Desk ∷ (map Client F.clients ++ map Connection F.connections)

-- the turns of a part among these
abbrev pub turns_of : PartName → List PartTurn → List Turn
turns_of p ts = map (λ t. t.turn) (filter (λ t. same_part p t.part) ts)

-- The law.

-- what a part takes in: an input, or the end of its link
pub data Intake : Type 0 where
  Takes : Input → Intake
  Severed : ℕ → EndWhy → Intake

-- what it gives, behind this list of the part
abbrev pub turn_behind : Settings → PartName → List Marked → Intake → Effects
turn_behind s Desk list (Takes input) = desk_turn s (desk_of s list) input
turn_behind s Desk list (Severed now why) = record { entries = []; letters = [] }
turn_behind s (Client c) list (Takes input) = client_turn s (client_of s c list) input
turn_behind s (Client c) list (Severed now why) = client_sever (client_of s c list) now why
turn_behind s (Connection u) list (Takes input) = connection_turn s (connection_of s u list) input
turn_behind s (Connection u) list (Severed now why) = connection_sever (connection_of s u list) now why

-- the letter that it takes
abbrev pub letter_in : Intake → Option Taken
letter_in (Takes input) = letter_of input
letter_in (Severed now why) = None

-- a turn makes nothing
pub record IsEmptyTurn (t : Turn) : Type 0 where
  pub no_entries : t.entries ≡ []
  pub no_letters : t.letters ≡ []

-- a turn is what an intake gives behind this list of the part
pub record IsTurnOf (s : Settings) (p : PartName) (list : List Marked) (t : Turn) : Type 0 where
  pub intake : Intake
  pub entries : t.entries ≡ marked_by (letter_in intake) (turn_behind s p list intake).entries
  pub letters : t.letters ≡ (turn_behind s p list intake).letters

-- each of these turns of a part is empty, or is one behind this list and those before
abbrev pub AreTurnsFrom : Settings → PartName → List Marked → List Turn → Type 0
AreTurnsFrom s p list [] = Unit {0}
AreTurnsFrom s p list (t ∷ ts) = (IsEmptyTurn t ⊎ IsTurnOf s p list t) × AreTurnsFrom s p (list ++ t.entries) ts

abbrev pub AreTurns : Settings → PartName → List Turn → Type 0
AreTurns s p turns = AreTurnsFrom s p [] turns

-- what moves a world on: an event of a part, or the end of its link
pub data Move : Type 0 where
  Happens : Event → Move
  Severs : ℕ → EndWhy → Move

abbrev pub moved : Settings → PartName → Move → World → World
moved s p (Happens event) w = happens s p event w
moved s p (Severs now why) w = severs s p now why w

-- a move, and the part that makes it
pub record PartMove : Type 0 where
  pub part : PartName
  pub move : Move

-- the world behind these moves, and the one that they make from the beginning
abbrev pub behind_moves : Settings → World → List PartMove → World
behind_moves s w [] = w
behind_moves s w (m ∷ ms) = behind_moves s (moved s m.part m.move w) ms

abbrev pub world_of : Settings → List PartMove → World
world_of s ms = behind_moves s empty_world ms

-- a turn is what a move of its part makes in this world
pub record IsMoveOf (s : Settings) (w : World) (t : PartTurn) : Type 0 where
  pub move : Move
  pub entries : (moved s t.part move w).journal ≡ w.journal ++ t.turn.entries
  pub letters : (moved s t.part move w).given ≡ w.given ++ flights t.part t.turn.letters

-- each of these turns is empty, or is what a move makes in the world behind those before
abbrev pub IsRun : Settings → World → List PartTurn → Type 0
IsRun s w [] = Unit {0}
IsRun s w (t ∷ ts) =
    (IsEmptyTurn t.turn × IsRun s w ts) ⊎ ((m : IsMoveOf s w t) × IsRun s (moved s t.part m.move w) ts)

-- the merge of a whole family of turns, which is linked with stamps, is a run of the world of all parts, and has each
-- part's turns
pub record IsMerged (s : Settings) (F : Family) (turns : PartName → List Turn) : Type 0 where
  pub run : IsRun s empty_world (merge (parts_of F) turns)
  pub same_turns : (p : PartName) → list_of_turns (turns_of p (merge (parts_of F) turns)) ≡ list_of_turns (turns p)

abbrev pub MergeLaw : Type 0
MergeLaw =
    (s : Settings) (F : Family) (turns : PartName → List Turn) → IsWhole F → StampedLinked s F turns
    → ((p : PartName) → AreTurns s p (turns p)) → IsMerged s F turns
