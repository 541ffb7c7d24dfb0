-- The number and the words of each status (this project's own).
use Rattle.std.specs.Prelude.{ℕ, List, ◌++◌, codes}
use Rattle.std.specs.Fmt.{decimal}
use Rattle.lloadd_run.specs.declared.status.Status.{Status}
use Rattle.lloadd_run.specs.declared.status.Status.TheVariants.{Done, Usage, ConfRefused, ScriptRefused, ReadFault, WriteFault, NoMemory, TooLong, ListenFault}

abbrev pub status_number : Status → ℕ
status_number Done = 0
status_number Usage = 2
status_number (ConfRefused line kind) = 3
status_number (ScriptRefused line) = 4
status_number ReadFault = 5
status_number WriteFault = 6
status_number NoMemory = 7
status_number TooLong = 8
status_number ListenFault = 9

abbrev pub status_text : Status → List ℕ
status_text Done = codes "done"
status_text Usage = codes "usage"
status_text (ConfRefused line kind) = codes "configuration line " ++ (decimal line ++ (codes ", kind " ++ decimal kind))
status_text (ScriptRefused line) = codes "script line " ++ decimal line
status_text ReadFault = codes "read fault"
status_text WriteFault = codes "write fault"
status_text NoMemory = codes "out of memory"
status_text TooLong = codes "input too long"
status_text ListenFault = codes "listen fault"
