use Rattle.replay_script.proofs.EntryTexts.{none_has_the_line, read_is_written, written_is_read}
use Rattle.replay_script.proofs.entry_lines.entries_are_read.Goals as goal

pub returns-clause-written : goal.returns-clause-written
returns-clause-written c = written_is_read

pub returns-clause-read : goal.returns-clause-read
returns-clause-read c = read_is_written

pub returns-clause-none : goal.returns-clause-none
returns-clause-none c = none_has_the_line
