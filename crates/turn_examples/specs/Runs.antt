-- Runs of all parts with turns that may be wrong: each wrong one is the right turn with one change, for one kind of part.
use Rattle.std.specs.Prelude.{ℕ, zero, suc, Bool, ◌==◌, ◌&&◌, not, List, [], ◌∷◌, filter, find, length, Some, None}
use Rattle.std.specs.List.{list_any}
use Rattle.lload_names.specs.declared.inputs.Input.{Input}
use Rattle.lload_names.specs.declared.inputs.Input.TheVariants.{LetterFrom}
use Rattle.lload_names.specs.declared.inputs.Effects.{Effects}
use Rattle.lload_names.specs.declared.names.EndWhy.TheVariants.{Lost}
use Rattle.lload_names.specs.declared.names.PartName.{PartName}
use Rattle.lload_names.specs.declared.names.PartName.TheVariants.{Desk, Client, Up as Connection}
use Rattle.lload_spec.specs.Good.{keeps_good}
use Rattle.lload_spec.specs.Journal.{Family, family}
use Rattle.lload_spec.specs.Settings.{Settings}
use Rattle.lload_spec.specs.Verdict.{keeps_strict, is_settled}
use Rattle.part_spec.specs.Inputs.{letter_of}
use Rattle.part_spec.specs.World.{World, behind, empty_world, is_between, journal_of, lowest_waiting, severs, turn_of, waiting, without_first}
use Rattle.wrong_examples.specs.Alone.{resting_clauses}

-- what each part makes of an input
abbrev pub Turning : Type 0
Turning = Settings → World → PartName → Input → Effects

-- one kind of part takes turns of its own, and the others the right ones
abbrev pub with_clients : (Settings → World → ℕ → Input → Effects) → Turning
with_clients turn s w (Client c) input = turn s w c input
with_clients turn s w p input = turn_of s w p input

abbrev pub with_connections : (Settings → World → ℕ → Input → Effects) → Turning
with_connections turn s w (Connection u) input = turn s w u input
with_connections turn s w p input = turn_of s w p input

abbrev pub with_desk : (Settings → World → Input → Effects) → Turning
with_desk turn s w Desk input = turn s w input
with_desk turn s w p input = turn_of s w p input

-- what happens in a run: an input comes to a part from outside, a part takes the first letter of a sender, a part's link
-- is lost, or letters are taken until none waits
pub data Move : Type 0 where
  Comes : PartName → Input → Move
  Takes : PartName → PartName → Move
  Loses : PartName → Move
  Settles : Move

-- behind an input that a part takes by these turns
abbrev pub behind_input : Turning → Settings → PartName → Input → World → World
behind_input turns s p input w = behind s p (letter_of input) (turns s w p input) w

-- behind the first letter of a sender, where one waits
abbrev pub behind_letter : Turning → Settings → PartName → PartName → World → World
behind_letter turns s p sender w =
    elim (find (is_between sender p) w.letters) [
      | None ↦ w
      | Some f ↦ behind_input turns s p (LetterFrom 0 0 sender f.posted.letter)
          (record w { letters = without_first (is_between sender p) w.letters })
    ]

-- letters are taken, each from the lowest sender to the lowest part that has one, until none waits, at most so often
abbrev pub settles_within : Turning → Settings → ℕ → World → World
settles_within turns s zero w = w
settles_within turns s (suc k) w =
    elim (lowest_waiting w) [
      | None ↦ w
      | Some p ↦ elim (waiting w p) [
        | None ↦ w
        | Some sender ↦ settles_within turns s k (behind_letter turns s p sender w)
      ]
    ]

-- behind a move, and behind these
abbrev pub moved : Turning → Settings → World → Move → World
moved turns s w (Comes p input) = behind_input turns s p input w
moved turns s w (Takes p sender) = behind_letter turns s p sender w
moved turns s w (Loses p) = severs s p 0 Lost w
moved turns s w Settles = settles_within turns s 100 w

abbrev pub moves_from : Turning → Settings → World → List Move → World
moves_from turns s w [] = w
moves_from turns s w (m ∷ ms) = moves_from turns s (moved turns s w m) ms

abbrev pub run : Turning → Settings → List Move → World
run turns s script = moves_from turns s empty_world script

-- whether no letter waits behind a run
abbrev pub is_at_rest : World → Bool
is_at_rest w = length w.letters == 0

-- whether a run keeps the six promises and what is promised beside them, and is at rest
abbrev pub keeps_promises : Settings → World → Bool
keeps_promises s w =
    is_at_rest w && keeps_good s (family (journal_of w)) && keeps_strict s (family (journal_of w))
    && is_settled s (family (journal_of w))

-- whether a run comes to rest, and these clauses refuse its journal, and no others of these
abbrev pub are_refusing : (Family → List Bool) → List (Family → Bool) → World → Bool
are_refusing all clauses w =
    is_at_rest w && not (list_any (λ clause. clause (family (journal_of w))) clauses)
    && length (filter not (all (family (journal_of w)))) == length clauses

-- whether the right turns keep all promises in what happens, and with the wrong ones these clauses alone refuse it
abbrev pub breaks : Settings → List Move → Turning → List (Family → Bool) → Bool
breaks s script wrong clauses =
    keeps_promises s (run turn_of s script) && are_refusing (resting_clauses s) clauses (run wrong s script)
