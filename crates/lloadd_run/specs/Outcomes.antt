-- How a replay ends: what was taken of the script, the history of it, and what was written. The text that is taken has
-- a limit; `take limit taken` is what was taken within it.
use Rattle.std.specs.Prelude.{◌≡◌, ◌≢◌, ℕ, suc, ◌≤◌, ◌<◌, true, IsTrue, List, [], ◌∷◌, ◌++◌, length, take, drop, Option, Some, ◌⊎◌}
use Rattle.lload_names.specs.declared.command.Command.{Command}
use Rattle.lload_outside.specs.Causes.{Rose}
use Rattle.lload_outside.specs.Told.{Told}
use Rattle.small_spec.specs.Follows.{Follows}
use Rattle.small_spec.specs.History.{Line, commands, journal}
use Rattle.small_spec.specs.Plain.{plain}
use Rattle.lload_spec.specs.Script.{command_of}
use Rattle.small_spec.specs.Standing.{stands}
use Rattle.lload_spec.specs.Transcript.{journal_text, transcript}
use Rattle.small_play.specs.Plays.{HasKept}
use Rattle.lloadd_run.specs.declared.status.Status.{Status}
use Rattle.lloadd_run.specs.declared.status.Status.TheVariants.{Done, Usage, ConfRefused, ScriptRefused, ReadFault, WriteFault, NoMemory, TooLong, ListenFault}
use Rattle.lloadd_run.specs.Amounts.{Took, WroteAll, WrotePart}
use Rattle.lloadd_run.specs.Scripts.{whole_lines, unfinished, commands_of, refuses, Replays}

-- the script was read to its end, within the limit, and all of it is whole lines; the whole text of their journal was written
pub record ReplayedAll (limit : ℕ) (left now_left written now_written : Option (List ℕ)) : Type 0 where
  pub text : List ℕ
  pub history : List Line
  pub taken : Took left now_left text
  pub ended : Told (λ rest. rest ≡ []) now_left
  pub within : length text ≤ limit
  pub finished : unfinished text ≡ []
  pub replays : Replays (whole_lines text) history
  pub wrote : WroteAll written now_written (transcript (journal history))

-- all whole lines that were taken, within the limit, were replayed; the lines of their journal were written
pub record ReplayedTaken (limit : ℕ) (left now_left written now_written : Option (List ℕ)) : Type 0 where
  pub text : List ℕ
  pub history : List Line
  pub taken : Took left now_left text
  pub within : length text ≤ limit
  pub replays : Replays (whole_lines text) history
  pub wrote : WroteAll written now_written (journal_text (journal history))

-- more than the limit was taken; all whole lines within the limit were replayed, and the lines of their journal were written
pub record ReplayedWithin (limit : ℕ) (left now_left written now_written : Option (List ℕ)) : Type 0 where
  pub text : List ℕ
  pub history : List Line
  pub taken : Took left now_left text
  pub over : limit < length text
  pub replays : Replays (whole_lines (take limit text)) history
  pub wrote : WroteAll written now_written (journal_text (journal history))

-- what is wrong behind a history with what comes next: the next whole line is refused, or there is none and the script
-- ends within the limit in a line that isn't finished
abbrev pub IsWrong : ℕ → List Line → List (List ℕ) → List ℕ → Option (List ℕ) → Type 0
IsWrong limit history (line ∷ lines) text now_left = refuses history (command_of line) ≡ true
IsWrong limit history [] text now_left = (length text ≤ limit) × (unfinished text ≢ []) × Told (λ rest. rest ≡ []) now_left

-- the line of this number, counted from 1, is the first that is refused or isn't finished; those before it were
-- replayed, and the lines of their journal were written
pub record RefusedAt (limit line : ℕ) (left now_left written now_written : Option (List ℕ)) : Type 0 where
  pub text : List ℕ
  pub history : List Line
  pub taken : Took left now_left text
  pub number : line ≡ suc (length history)
  pub replays : Replays (take (length history) (whole_lines (take limit text))) history
  pub wrong : IsWrong limit history (drop (length history) (whole_lines (take limit text))) text now_left
  pub wrote : WroteAll written now_written (journal_text (journal history))

-- the text that a history gives: the lines of its journal, or the whole text where the script ended within the limit and
-- the history is one of all of it
abbrev pub IsTextOf : ℕ → List ℕ → List Line → Option (List ℕ) → List ℕ → Type 0
IsTextOf limit taken history now_left text = (text ≡ journal_text (journal history)) ⊎ ((length taken ≤ limit) × (unfinished taken ≡ []) × (length history ≡ length (whole_lines taken)) × Told (λ rest. rest ≡ []) now_left × (text ≡ transcript (journal history)))

-- some of the lines that were taken, from the first on, were replayed, and a part of the text of their history was written
pub record ReplayedPart (limit : ℕ) (left now_left written now_written : Option (List ℕ)) : Type 0 where
  pub text : List ℕ
  pub history : List Line
  pub output : List ℕ
  pub taken : Took left now_left text
  pub replays : Replays (take (length history) (whole_lines (take limit text))) history
  pub is_text : IsTextOf limit text history now_left output
  pub wrote : WrotePart written now_written output

-- what is known at each status of a replay, by the counts of faults and what was left and written before and behind it
abbrev pub Ends : ℕ → Status → ℕ → ℕ → Option (List ℕ) → Option (List ℕ) → ℕ → ℕ → Option (List ℕ) → Option (List ℕ) → Type 0
Ends limit Done r rr left now_left w ww written now_written = ReplayedAll limit left now_left written now_written
Ends limit (ScriptRefused line) r rr left now_left w ww written now_written = RefusedAt limit line left now_left written now_written
Ends limit ReadFault r rr left now_left w ww written now_written = Rose r rr × ReplayedTaken limit left now_left written now_written
Ends limit WriteFault r rr left now_left w ww written now_written = Rose w ww × ReplayedPart limit left now_left written now_written
Ends limit NoMemory r rr left now_left w ww written now_written = ReplayedPart limit left now_left written now_written
Ends limit TooLong r rr left now_left w ww written now_written = ReplayedWithin limit left now_left written now_written
Ends limit Usage r rr left now_left w ww written now_written = ⊥
Ends limit (ConfRefused line kind) r rr left now_left w ww written now_written = ⊥
Ends limit ListenFault r rr left now_left w ww written now_written = ⊥

-- each command stands behind each history that follows the commands before it and keeps what is promised
abbrev pub EachStands : List Command → Type 0
EachStands cs = (history : List Line) (command : Command) (behind : List Command) → cs ≡ commands history ++ command ∷ behind → Follows plain history → HasKept history → IsTrue (stands plain history command)

-- a script within the limit, of whole lines that are commands, each of which stands where it is
pub record CanBeReplayed (limit : ℕ) (text : List ℕ) : Type 0 where
  pub script : List Command
  pub within : length text ≤ limit
  pub finished : unfinished text ≡ []
  pub are_commands : commands_of (whole_lines text) ≡ Some script
  pub each_stands : EachStands script

-- a script that is longer than the limit, whose whole lines within it are commands, each of which stands where it is
pub record IsTooLong (limit : ℕ) (text : List ℕ) : Type 0 where
  pub script : List Command
  pub over : limit < length text
  pub are_commands : commands_of (whole_lines (take limit text)) ≡ Some script
  pub each_stands : EachStands script

-- what comes behind these commands is wrong whatever their history: the next line is no command or doesn't stand, or
-- there is none and the script ends within the limit in a line that isn't finished
abbrev pub IsWrongBehind : ℕ → List Command → List (List ℕ) → List ℕ → Type 0
IsWrongBehind limit script (line ∷ lines) text = (history : List Line) → commands history ≡ script → Follows plain history → HasKept history → refuses history (command_of line) ≡ true
IsWrongBehind limit script [] text = (length text ≤ limit) × (unfinished text ≢ [])

-- the line of this number, counted from 1, is the first of a script that is wrong
pub record IsWrongAt (limit line : ℕ) (text : List ℕ) : Type 0 where
  pub before : List (List ℕ)
  pub rest : List (List ℕ)
  pub script : List Command
  pub lines_are : whole_lines (take limit text) ≡ before ++ rest
  pub number : line ≡ suc (length before)
  pub are_commands : commands_of before ≡ Some script
  pub each_stands : EachStands script
  pub wrong : IsWrongBehind limit script rest text
