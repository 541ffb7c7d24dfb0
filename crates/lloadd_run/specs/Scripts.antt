-- The lines of a script's text (this project's own), and the histories that they make. A whole line is ended by the
-- octet LF; what stands behind the last LF is unfinished.
use Rattle.std.specs.Prelude.{◌≡◌, ℕ, ◌==◌, Bool, true, not, if◌then◌else◌, List, [], ◌∷◌, Option, Some, None}
use Rattle.std.specs.List.{list_any}
use Rattle.lload_names.specs.declared.command.Command.{Command}
use Rattle.small_spec.specs.Follows.{Follows}
use Rattle.small_spec.specs.History.{Line, commands}
use Rattle.small_spec.specs.Plain.{plain}
use Rattle.lload_spec.specs.Script.{command_of}
use Rattle.small_spec.specs.Standing.{stands}
use Rattle.small_play.specs.Plays.{HasKept}

-- these lines with a byte in front of the first; without a line the byte is in none
abbrev pub onto_line : ℕ → List (List ℕ) → List (List ℕ)
onto_line c [] = []
onto_line c (l ∷ ls) = (c ∷ l) ∷ ls

-- the whole lines of a text, each without its end
abbrev pub whole_lines : List ℕ → List (List ℕ)
whole_lines [] = []
whole_lines (c ∷ cs) = if c == 10 then [] ∷ whole_lines cs else onto_line c (whole_lines cs)

-- whether a line ends in a text
abbrev pub has_end : List ℕ → Bool
has_end text = list_any (λ c. c == 10) text

-- what stands behind the last end of a line, or all of a text without one
abbrev pub unfinished : List ℕ → List ℕ
unfinished [] = []
unfinished (c ∷ cs) = if has_end (c ∷ cs) then unfinished cs else c ∷ cs

-- a command and these, where they are commands
abbrev pub with_command : Option Command → Option (List Command) → Option (List Command)
with_command (Some c) (Some cs) = Some (c ∷ cs)
with_command _ _ = None

-- the commands of lines, where each line is one
abbrev pub commands_of : List (List ℕ) → Option (List Command)
commands_of [] = Some []
commands_of (l ∷ ls) = with_command (command_of l) (commands_of ls)

-- the history is one of these lines: their commands follow their script, and what is promised was kept behind each line
pub record Replays (lines : List (List ℕ)) (history : List Line) : Type 0 where
  pub are_commands : commands_of lines ≡ Some (commands history)
  pub follows : Follows plain history
  pub kept : HasKept history

-- whether a line, by its command, is refused behind a history: it isn't a command, or doesn't stand
abbrev pub refuses : List Line → Option Command → Bool
refuses history None = true
refuses history (Some command) = not (stands plain history command)
