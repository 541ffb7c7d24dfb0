-- The induction over moves: what each turn keeps, of which the letters in flight say nothing, holds behind all moves.
use Rattle.std.proofs.Common.{◌≡◌, ℕ, true, List, [], ◌∷◌, refl, ap, ◌∙◌}
use Rattle.std.specs.Prelude.{Option, Some, None, find}
use Rattle.lload_names.specs.declared.inputs.Event.{Event}
use Rattle.lload_names.specs.declared.inputs.Event.TheVariants as event
use Rattle.lload_names.specs.declared.inputs.Input.{Input}
use Rattle.lload_names.specs.declared.inputs.Input.TheVariants as input
use Rattle.lload_names.specs.declared.inputs.Effects.{Effects}
use Rattle.lload_names.specs.declared.names.PartName.{PartName}
use Rattle.lload_names.specs.declared.names.PartName.TheVariants.{Desk, Client, Up as Connection}
use Rattle.lload_spec.proofs.Growth.{left, right}
use Rattle.link_laws.proofs.Entries.{AreOf, effects_own}
use Rattle.lload_spec.specs.Settings.{Settings}
use Rattle.part_spec.specs.Merge.{Intake, Takes, Severed, Move, Happens, Severs, PartMove, moved, behind_moves, letter_in}
use Rattle.part_spec.specs.World.{World, Flight, behind, happens, takes, takes_from, turn_of, is_between, without_first}
use Rattle.link_laws.specs.Moves.{effects_in, has_entry, marks_move, marks_moves, ends_rightly, move_ends_rightly, end_rightly}

-- the world without the letter that a part takes
abbrev pub letter_out : PartName → PartName → World → World
letter_out sender p w = record w { letters = without_first (is_between sender p) w.letters }

module _ (s : Settings) (P : World → Type 0) (out : (sender p : PartName) (w : World) → P w → P (letter_out sender p w)) (turn : (p : PartName) (i : Input) (w : World) → P w → P (takes s p i w)) where
  taken : (p : PartName) (now word : ℕ) (sender : PartName) (w : World) → P w → P (takes_from s p now word sender w)
  taken p now word sender w h = by (find (is_between sender p) w.letters)
    where
      by : (f : Option Flight) → P (elim f [ None ↦ w | Some x ↦ takes s p (input.LetterFrom now word sender x.posted.letter) (letter_out sender p w) ])
      by None = h
      by (Some f) = turn p (input.LetterFrom now word sender f.posted.letter) (letter_out sender p w) (out sender p w h)

  event_keeps : (p : PartName) (x : Event) (w : World) → P w → P (happens s p x w)
  event_keeps p (event.Arrive now) w h = turn p (input.Arrive now) w h
  event_keeps p (event.LinkUp now) w h = turn p (input.LinkUp now) w h
  event_keeps p (event.Message now id rest) w h = turn p (input.Message now id rest) w h
  event_keeps p (event.Letter now word sender) w h = taken p now word sender w h
  event_keeps p (event.Tick now) w h = turn p (input.Tick now) w h
  event_keeps p (event.LinkGone now why) w h = turn p (input.LinkGone now why) w h
  event_keeps p (event.Stall now) w h = turn p (input.Stall now) w h
  event_keeps p (event.Flow now) w h = turn p (input.Flow now) w h
  event_keeps p (event.Reload now plan base) w h = turn p (input.Reload now plan base) w h

module _ (s : Settings) (P : World → Type 0) (out : (sender p : PartName) (w : World) → P w → P (letter_out sender p w)) where
  -- of all moves
  module _ (turn : (p : PartName) (x : Intake) (w : World) → P w → P (behind s p (letter_in x) (effects_in s w p x) w)) where
    move_keeps : (p : PartName) (move : Move) (w : World) → P w → P (moved s p move w)
    move_keeps p (Happens x) w h = event_keeps s P out (λ q i v k. turn q (Takes i) v k) p x w h
    move_keeps p (Severs now why) w h = turn p (Severed now why) w h

    pub moves_keep : (w : World) (ms : List PartMove) → P w → P (behind_moves s w ms)
    moves_keep w [] h = h
    moves_keep w (m ∷ ms) h = moves_keep (moved s m.part m.move w) ms (move_keeps m.part m.move w h)

  -- of moves in which links end for reasons that a link has
  module _ (turn : (p : PartName) (x : Intake) (w : World) → ends_rightly x ≡ true → P w → P (behind s p (letter_in x) (effects_in s w p x) w)) where
    right_move : (p : PartName) (move : Move) (w : World) → move_ends_rightly move ≡ true → P w → P (moved s p move w)
    right_move p (Happens x) w k h = event_keeps s P out (λ q i v g. turn q (Takes i) v refl g) p x w h
    right_move p (Severs now why) w k h = turn p (Severed now why) w k h

    pub right_moves : (w : World) (ms : List PartMove) → end_rightly ms ≡ true → P w → P (behind_moves s w ms)
    right_moves w [] k h = h
    right_moves w (m ∷ ms) k h = right_moves (moved s m.part m.move w) ms (right (move_ends_rightly m.move) _ k) (right_move m.part m.move w (left (move_ends_rightly m.move) _ k) h)

-- the letters in flight say nothing of a part's turn
pub same_turn : (s : Settings) (w : World) (sender p : PartName) (i : Intake) → effects_in s (letter_out sender p w) p i ≡ effects_in s w p i
same_turn s w sender Desk (Takes i) = refl
same_turn s w sender (Client c) (Takes i) = refl
same_turn s w sender (Connection u) (Takes i) = refl
same_turn s w sender Desk (Severed now why) = refl
same_turn s w sender (Client c) (Severed now why) = refl
same_turn s w sender (Connection u) (Severed now why) = refl

-- the intake of a letter in flight
abbrev pub intake_of : ℕ → ℕ → PartName → Flight → Intake
intake_of now word sender f = Takes (input.LetterFrom now word sender f.posted.letter)

-- the same, of moves that mark each letter that they take
module _ (s : Settings) (P : World → Type 0) (plain : (p : PartName) (e : Effects) (w : World) → AreOf p e.entries → P w → P (behind s p None e w)) (letter : (p sender : PartName) (f : Flight) (e : Effects) (w : World) → AreOf p e.entries → has_entry e ≡ true → find (is_between sender p) w.letters ≡ Some f → P w → P (behind s p (Some (record { sender = sender; letter = f.posted.letter })) e (letter_out sender p w))) where
  taken_marked : (p : PartName) (now word : ℕ) (sender : PartName) (w : World) → marks_move s w p (Happens (event.Letter now word sender)) ≡ true → P w → P (takes_from s p now word sender w)
  taken_marked p now word sender w k h = by (find (is_between sender p) w.letters) refl k
    where
      by : (f : Option Flight) → find (is_between sender p) w.letters ≡ f → (elim f [ None ↦ true | Some x ↦ has_entry (turn_of s w p (input.LetterFrom now word sender x.posted.letter)) ]) ≡ true → P (elim f [ None ↦ w | Some x ↦ takes s p (input.LetterFrom now word sender x.posted.letter) (letter_out sender p w) ])
      by None e z = h
      by (Some f) e z =
          letter p sender f (effects_in s (letter_out sender p w) p (intake_of now word sender f)) w
          (effects_own s (letter_out sender p w) p (intake_of now word sender f))
          (ap has_entry (same_turn s w sender p (intake_of now word sender f)) ∙ z) e h

  plain_turn : (p : PartName) (x : Intake) (w : World) → P w → P (behind s p None (effects_in s w p x) w)
  plain_turn p x w h = plain p (effects_in s w p x) w (effects_own s w p x) h

  pub marked_keeps : (p : PartName) (move : Move) (w : World) → marks_move s w p move ≡ true → P w → P (moved s p move w)
  marked_keeps p (Happens (event.Arrive now)) w k h = plain_turn p (Takes (input.Arrive now)) w h
  marked_keeps p (Happens (event.LinkUp now)) w k h = plain_turn p (Takes (input.LinkUp now)) w h
  marked_keeps p (Happens (event.Message now id rest)) w k h = plain_turn p (Takes (input.Message now id rest)) w h
  marked_keeps p (Happens (event.Letter now word sender)) w k h = taken_marked p now word sender w k h
  marked_keeps p (Happens (event.Tick now)) w k h = plain_turn p (Takes (input.Tick now)) w h
  marked_keeps p (Happens (event.LinkGone now why)) w k h = plain_turn p (Takes (input.LinkGone now why)) w h
  marked_keeps p (Happens (event.Stall now)) w k h = plain_turn p (Takes (input.Stall now)) w h
  marked_keeps p (Happens (event.Flow now)) w k h = plain_turn p (Takes (input.Flow now)) w h
  marked_keeps p (Happens (event.Reload now plan base)) w k h = plain_turn p (Takes (input.Reload now plan base)) w h
  marked_keeps p (Severs now why) w k h = plain_turn p (Severed now why) w h

  pub marked_keep : (w : World) (ms : List PartMove) → marks_moves s w ms ≡ true → P w → P (behind_moves s w ms)
  marked_keep w [] k h = h
  marked_keep w (m ∷ ms) k h = marked_keep (moved s m.part m.move w) ms (right (marks_move s w m.part m.move) _ k) (marked_keeps m.part m.move w (left (marks_move s w m.part m.move) _ k) h)
