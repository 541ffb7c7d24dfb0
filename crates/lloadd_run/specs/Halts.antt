-- Why a player stopped, by what stopped it.
use Rattle.std.specs.Prelude.{ℕ, Result, Ok, Err}
use Rattle.replay_script.specs.declared.read.LineFault.{LineFault}
use Rattle.replay_script.specs.declared.read.LineFault.TheVariants.{NotACommand, NoMemory as NoRoomForLine}
use Rattle.small_play.specs.declared.play.Unplayed.{Unplayed}
use Rattle.small_play.specs.declared.play.Unplayed.TheVariants.{DoesNotStand, NoMemory as NoRoomForPlay}
use Rattle.lloadd_run.specs.declared.player.Halt.{Halt}
use Rattle.lloadd_run.specs.declared.player.Halt.TheVariants.{Refused, WriteFault, NoMemory}
use Rattle.lloadd_run.specs.declared.status.Status.{Status}
use Rattle.lloadd_run.specs.declared.status.Status.TheVariants.{Done, ScriptRefused, WriteFault as EndsInFault, NoMemory as EndsWithoutMemory}
use Rattle.lloadd_run.specs.declared.writing.Unwritten.{Unwritten}
use Rattle.lloadd_run.specs.declared.writing.Unwritten.TheVariants.{Fault, NoMemory as NoRoomForText}

-- a line that isn't read
abbrev pub of_line : LineFault → Halt
of_line NotACommand = Refused
of_line NoRoomForLine = NoMemory

-- a command that isn't played
abbrev pub of_play : Unplayed → Halt
of_play DoesNotStand = Refused
of_play NoRoomForPlay = NoMemory

-- a text that isn't written
abbrev pub of_writing : Unwritten → Halt
of_writing Fault = WriteFault
of_writing NoRoomForText = NoMemory

-- the status of a player that stopped at a line
abbrev pub status_of : Halt → ℕ → Status
status_of Refused line = ScriptRefused line
status_of WriteFault line = EndsInFault
status_of NoMemory line = EndsWithoutMemory

-- the status behind the end of the script
abbrev pub status_at_end : Result (Unit {0}) Halt → ℕ → Status
status_at_end (Ok _) line = Done
status_at_end (Err halt) line = status_of halt line
