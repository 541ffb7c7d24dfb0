-- Moves that mark the letters that they take, and the letters between each two parts in a world.
use Rattle.std.specs.Prelude.{◌≡◌, Bool, true, false, ◌&&◌, List, [], ◌∷◌, ◌++◌, filter, find, map, Some, None}
use Rattle.lload_names.specs.declared.inputs.Event.{Event}
use Rattle.lload_names.specs.declared.inputs.Event.TheVariants as event
use Rattle.lload_names.specs.declared.inputs.Input.TheVariants.{LetterFrom}
use Rattle.lload_names.specs.declared.inputs.Effects.{Effects}
use Rattle.lload_names.specs.declared.names.Letter.{Letter}
use Rattle.lload_names.specs.declared.names.PartName.{PartName}
use Rattle.std.specs.List.{list_all}
use Rattle.lload_spec.specs.Settings.{Settings}
use Rattle.lload_spec.specs.Entries.{is_link_reason}
use Rattle.part_spec.specs.Marked.{taken_from, letters_to}
use Rattle.part_spec.specs.Merge.{Intake, Takes, Severed, Move, Happens, Severs, moved, PartMove}
use Rattle.part_spec.specs.World.{World, turn_of, sever_of, is_between, list_in, given_in}

-- what an intake gives in a world
abbrev pub effects_in : Settings → World → PartName → Intake → Effects
effects_in s w p (Takes input) = turn_of s w p input
effects_in s w p (Severed now why) = sever_of s w p now why

-- whether a turn has an entry, so that the letter that it took has a mark
abbrev pub has_entry : Effects → Bool
has_entry e = elim e.entries [ [] ↦ false | x ∷ xs ↦ true ]

-- whether the letter that an event takes, if it takes one, has a mark
abbrev pub marks_event : Settings → World → PartName → Event → Bool
marks_event s w p (event.Letter now word sender) =
    elim (find (is_between sender p) w.letters) [
      | None ↦ true
      | Some f ↦ has_entry (turn_of s w p (LetterFrom now word sender f.posted.letter))
    ]
marks_event s w p _ = true

abbrev pub marks_move : Settings → World → PartName → Move → Bool
marks_move s w p (Happens x) = marks_event s w p x
marks_move s w p (Severs now why) = true

-- whether each letter has a mark that these moves take
abbrev pub marks_moves : Settings → World → List PartMove → Bool
marks_moves s w [] = true
marks_moves s w (m ∷ ms) = marks_move s w m.part m.move && marks_moves s (moved s m.part m.move w) ms

-- whether a link that ends does so for a reason that a link has
abbrev pub ends_rightly : Intake → Bool
ends_rightly (Takes input) = true
ends_rightly (Severed now why) = is_link_reason why

abbrev pub move_ends_rightly : Move → Bool
move_ends_rightly (Happens x) = true
move_ends_rightly (Severs now why) = is_link_reason why

abbrev pub end_rightly : List PartMove → Bool
end_rightly ms = list_all (λ m. move_ends_rightly m.move) ms

-- the letters that wait from a sender to a receiver, in order
abbrev pub waiting_between : World → PartName → PartName → List Letter
waiting_between w sender receiver = map (λ f. f.posted.letter) (filter (is_between sender receiver) w.letters)

-- what a part gave another is what this one took, and then what waits
abbrev pub Links : World → Type 0
Links w =
    (p q : PartName) → letters_to q (given_in w p) ≡ taken_from p (list_in w q) ++ waiting_between w p q
