-- Families of turns: those of a world that played a script, with the stamps that each part gives by itself.
use Rattle.std.specs.Prelude.{ℕ, List, [], ◌∷◌, ◌++◌, length, flat_map, map, slice_get, Option, Some, None}
use Rattle.lload_names.specs.declared.names.Entry.{Entry}
use Rattle.lload_names.specs.declared.names.PartName.{PartName}
use Rattle.lload_names.specs.declared.names.PartName.TheVariants.{Desk, Up as Connection}
use Rattle.lload_spec.specs.Lists.{first, last}
use Rattle.part_spec.specs.Marked.{Taken}
use Rattle.part_spec.specs.Stamps.{Turn, next_stamp, stamps_given, stamps_taken}
use Rattle.part_spec.specs.World.{World, PartTurn}
use Rattle.part_spec.specs.Merge.{turns_of}

-- the last stamp of a part among these turns; before its first turn that of the desk for a connection, else 0
abbrev pub stamp_of : Option Turn → ℕ
stamp_of None = 0
stamp_of (Some t) = t.stamp

abbrev pub last_stamp : List PartTurn → PartName → ℕ
last_stamp done (Connection u) =
    elim (last (turns_of (Connection u) done)) [ None ↦ stamp_of (last (turns_of Desk done)) | Some t ↦ t.stamp ]
last_stamp done p = stamp_of (last (turns_of p done))

-- the letter that a turn took
abbrev pub letter_taken : Turn → Option Taken
letter_taken t = elim (first t.entries) [ None ↦ None | Some m ↦ m.mark ]

-- the stamp of the letter that a part takes next of a sender
abbrev pub letter_stamp : List PartTurn → PartName → Option Taken → Option ℕ
letter_stamp done p None = None
letter_stamp done p (Some l) =
    slice_get (stamps_given p (turns_of l.sender done)) (length (stamps_taken l.sender (turns_of p done)))

-- a turn with the stamp that its part gives it by itself, behind those that are done
abbrev pub stamped : List PartTurn → PartTurn → PartTurn
stamped done t =
    record t {
      turn = record t.turn {
        stamp = next_stamp (last_stamp done t.part) (letter_stamp done t.part (letter_taken t.turn));
      };
    }

abbrev pub all_stamped : List PartTurn → List PartTurn → List PartTurn
all_stamped done [] = done
all_stamped done (t ∷ ts) = all_stamped (done ++ stamped done t ∷ []) ts

-- the turns of each part in a world, with these stamps
abbrev pub family_of : World → PartName → List Turn
family_of w p = turns_of p (all_stamped [] w.turns)

-- the entries of turns, in their order
abbrev pub journal_of : List PartTurn → List Entry
journal_of ts = map (λ m. m.entry) (flat_map (λ t. t.turn.entries) ts)
