-- What a player's state says of the bytes that it took.
use Rattle.std.specs.Prelude.{◌≡◌, ◌≢◌, ℕ, ◌+◌, true, List, [], ◌∷◌, ◌++◌, length, codes, Option, Some, Result, Ok, Err, ◌⊎◌}
use Rattle.std.specs.Fmt.{decimal}
use Rattle.lload_names.specs.declared.names.Entry.{Entry}
use Rattle.lload_names.specs.declared.command.Command.{Command}
use Rattle.small_spec.specs.History.{Line, commands, journal}
use Rattle.lload_spec.specs.Script.{command_of}
use Rattle.lload_spec.specs.Transcript.{journal_text}
use Rattle.small_play.specs.PlayState.{PlayState}
use Rattle.small_play.specs.Plays.{Plays}
use Rattle.lloadd_run.specs.declared.player.Halt.{Halt}
use Rattle.lloadd_run.specs.declared.player.Halt.TheVariants.{Refused, WriteFault, NoMemory}
use Rattle.lloadd_run.specs.declared.player.Player.{Player}
use Rattle.lloadd_run.specs.Amounts.{Took, WroteAll, WrotePart}
use Rattle.lloadd_run.specs.Scripts.{whole_lines, unfinished, commands_of, refuses, Replays}

-- Behind each history that the old play stands for, the new one stands for that history with a line more.
abbrev pub GrowsBy : PlayState → PlayState → Line → Type 0
GrowsBy old new line = (history : List Line) → Plays old history → Plays new (history ++ line ∷ [])

-- The player took these bytes: it stands for the history of their whole lines, whose text was written.
pub record Stood (p : Player) (taken : List ℕ) (written now_written : Option (List ℕ)) : Type 0 where
  pub history : List Line
  pub plays : Plays p.play history
  pub are_commands : commands_of (whole_lines taken) ≡ Some (commands history)
  pub line : p.line.items ≡ unfinished taken
  pub lines : p.lines ≡ length history
  pub entries : p.entries ≡ length (journal history)
  pub wrote : WroteAll written now_written (journal_text (journal history))

-- The player played its line, and wrote the text of what it made.
pub record Played (old new : Player) (written now_written : Option (List ℕ)) : Type 0 where
  pub command : Command
  pub piece : List Entry
  pub reads : command_of old.line.items ≡ Some command
  pub grows : GrowsBy old.play new.play (record { command = command; piece = piece })
  pub line : new.line.items ≡ []
  pub lines : new.lines ≡ old.lines + 1
  pub entries : new.entries ≡ old.entries + length piece
  pub wrote : WroteAll written now_written (journal_text piece)

-- The player played its line, and wrote a part of the text of what it made.
pub record PartPlayed (old : Player) (written now_written : Option (List ℕ)) : Type 0 where
  pub command : Command
  pub piece : List Entry
  pub behind : PlayState
  pub reads : command_of old.line.items ≡ Some command
  pub grows : GrowsBy old.play behind (record { command = command; piece = piece })
  pub wrote : WrotePart written now_written (journal_text piece)

-- The player's line is refused, and nothing was written.
pub record LineRefused (old new : Player) (written now_written : Option (List ℕ)) : Type 0 where
  pub refused : (history : List Line) → Plays old.play history → refuses history (command_of old.line.items) ≡ true
  pub lines : new.lines ≡ old.lines
  pub wrote : now_written ≡ written

-- At the end of its line the player played it, or refused it, or stopped with nothing or a part of its text written.
abbrev pub EndsLine : Result (Unit {0}) Halt → Player → Player → Option (List ℕ) → Option (List ℕ) → Type 0
EndsLine (Ok _) old new written now_written = Played old new written now_written
EndsLine (Err Refused) old new written now_written = LineRefused old new written now_written
EndsLine (Err WriteFault) old new written now_written = (now_written ≡ written) ⊎ PartPlayed old written now_written
EndsLine (Err NoMemory) old new written now_written = (now_written ≡ written) ⊎ PartPlayed old written now_written

-- The first lines of the bytes were played, and the next one is refused.
pub record RefusedIn (lines : ℕ) (bytes : List ℕ) (written now_written : Option (List ℕ)) : Type 0 where
  pub history : List Line
  pub before : List (List ℕ)
  pub next : List ℕ
  pub behind : List (List ℕ)
  pub lines_are : whole_lines bytes ≡ before ++ next ∷ behind
  pub replays : Replays before history
  pub number : lines ≡ length history
  pub refused : refuses history (command_of next) ≡ true
  pub wrote : WroteAll written now_written (journal_text (journal history))

-- The first lines of the bytes were played, and a part of the text of their history was written.
pub record PartIn (bytes : List ℕ) (written now_written : Option (List ℕ)) : Type 0 where
  pub history : List Line
  pub before : List (List ℕ)
  pub behind : List (List ℕ)
  pub lines_are : whole_lines bytes ≡ before ++ behind
  pub replays : Replays before history
  pub wrote : WrotePart written now_written (journal_text (journal history))

-- What is known of a player that takes bytes, whatever it took before.
abbrev pub Takes : Result (Unit {0}) Halt → Player → Player → List ℕ → Option (List ℕ) → Option (List ℕ) → Type 0
Takes (Ok _) old new bytes was now = (taken : List ℕ) (first : Option (List ℕ)) → Stood old taken first was → Stood new (taken ++ bytes) first now
Takes (Err Refused) old new bytes was now = (taken : List ℕ) (first : Option (List ℕ)) → Stood old taken first was → RefusedIn new.lines (taken ++ bytes) first now
Takes (Err WriteFault) old new bytes was now = (taken : List ℕ) (first : Option (List ℕ)) → Stood old taken first was → PartIn (taken ++ bytes) first now
Takes (Err NoMemory) old new bytes was now = (taken : List ℕ) (first : Option (List ℕ)) → Stood old taken first was → PartIn (taken ++ bytes) first now

-- The line behind a journal of so many entries.
abbrev pub last_line_text : ℕ → List ℕ
last_line_text count = codes "end " ++ (decimal count ++ codes "\n")

-- The end of the text: where it ends in a whole line, the last line of the journal's text is written.
abbrev pub Finishes : Result (Unit {0}) Halt → Player → Option (List ℕ) → Option (List ℕ) → Type 0
Finishes (Ok _) p was now = (p.line.items ≡ []) × WroteAll was now (last_line_text p.entries)
Finishes (Err Refused) p was now = (p.line.items ≢ []) × (now ≡ was)
Finishes (Err WriteFault) p was now = (p.line.items ≡ []) × WrotePart was now (last_line_text p.entries)
Finishes (Err NoMemory) p was now = (p.line.items ≡ []) × WrotePart was now (last_line_text p.entries)

-- Where a replay is: the player took the bytes that were read, which leave this room within the limit.
pub record Reading (limit room : ℕ) (p : Player) (left now_left written now_written : Option (List ℕ)) : Type 0 where
  pub taken : List ℕ
  pub took : Took left now_left taken
  pub size : length taken + room ≡ limit
  pub stood : Stood p taken written now_written
