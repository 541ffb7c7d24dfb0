-- How the check of a configuration ends: what its file holds, which configuration or which fault that has, and what was
-- written. What isn't told of a file is `None`.
use Rattle.std.specs.Prelude.{◌≡◌, ◌≢◌, ℕ, ◌≤◌, ◌<◌, Bool, true, false, nat_lt, if◌then◌else◌, List, length, codes, bytes_eq, Option, Some, Result, Ok, Err, ◌⊎◌}
use Rattle.lload_conf.specs.Configuration.{Fault, check_text, configuration, plain_text}
use Rattle.lload_conf.specs.declared.config.Config.{Config}
use Rattle.lload_outside.specs.Causes.{Rose}
use Rattle.lload_outside.specs.Told.{Told}
use Rattle.lloadd_run.specs.Amounts.{WroteAll, WrotePart}
use Rattle.lloadd_run.specs.declared.status.Status.{Status}
use Rattle.lloadd_run.specs.declared.status.Status.TheVariants.{Done, Usage, ConfRefused, ScriptRefused, ReadFault, WriteFault, NoMemory, TooLong, ListenFault}

-- the text of the configuration with this name, where it is told: that of the built-in one, or what the file holds
abbrev pub text_of : (List ℕ → Option (List ℕ)) → List ℕ → Option (List ℕ)
text_of held conf = if bytes_eq conf (codes "plain") then Some plain_text else held conf

-- the text, which is the one that is told, is within the limit and has this configuration or this fault
pub record Has (limit : ℕ) (told : Option (List ℕ)) (answer : Result Config Fault) : Type 0 where
  pub text : List ℕ
  pub is_told : Told (λ xs. text ≡ xs) told
  pub within : length text ≤ limit
  pub answer_is : configuration text ≡ answer

-- the text has a configuration, and the line of it was written
pub record Checked (limit : ℕ) (told written now_written : Option (List ℕ)) : Type 0 where
  pub config : Config
  pub has : Has limit told (Ok config)
  pub wrote : WroteAll written now_written (check_text config)

-- the text has a configuration, and a part of the line of it was written
pub record CheckedPart (limit : ℕ) (told written now_written : Option (List ℕ)) : Type 0 where
  pub config : Config
  pub has : Has limit told (Ok config)
  pub wrote : WrotePart written now_written (check_text config)

-- the text has this fault first
abbrev pub HasFault : ℕ → ℕ → ℕ → Option (List ℕ) → Type 0
HasFault limit line kind told = Has limit told (Err (record { line = line; kind = kind }))

-- the file of a configuration that isn't built in failed
abbrev pub FileFailed : List ℕ → ℕ → ℕ → Type 0
FileFailed conf f ff = (conf ≢ codes "plain") × Rose f ff

-- the text is longer than the limit, where it is told
abbrev pub IsOver : ℕ → Option (List ℕ) → Type 0
IsOver limit told = Told (λ xs. limit < length xs) told

-- what is known where a configuration was asked for, and where none was given for the reason that the status says
abbrev pub Loads : ℕ → Result Config Status → List ℕ → Option (List ℕ) → ℕ → ℕ → Type 0
Loads limit (Ok config) conf told f ff = Has limit told (Ok config)
Loads limit (Err (ConfRefused line kind)) conf told f ff = HasFault limit line kind told
Loads limit (Err ReadFault) conf told f ff = FileFailed conf f ff
Loads limit (Err TooLong) conf told f ff = IsOver limit told
Loads limit (Err NoMemory) conf told f ff = Unit {0}
Loads limit (Err Done) conf told f ff = ⊥
Loads limit (Err Usage) conf told f ff = ⊥
Loads limit (Err (ScriptRefused line)) conf told f ff = ⊥
Loads limit (Err WriteFault) conf told f ff = ⊥
Loads limit (Err ListenFault) conf told f ff = ⊥

-- what is known where the configuration of a text was asked for
abbrev pub ReadsText : Result Config Status → List ℕ → Type 0
ReadsText (Ok config) text = configuration text ≡ Ok config
ReadsText (Err (ConfRefused line kind)) text = configuration text ≡ Err (record { line = line; kind = kind })
ReadsText (Err NoMemory) text = Unit {0}
ReadsText (Err _) text = ⊥

-- what is known where the line of a configuration was to be written
abbrev pub WritesLine : Status → Config → ℕ → ℕ → Option (List ℕ) → Option (List ℕ) → Type 0
WritesLine Done config w ww written now_written = WroteAll written now_written (check_text config)
WritesLine WriteFault config w ww written now_written = Rose w ww × WrotePart written now_written (check_text config)
WritesLine NoMemory config w ww written now_written = WrotePart written now_written (check_text config)
WritesLine _ config w ww written now_written = ⊥

-- what is known at each status of a check, by the counts of faults and what was written before and behind it
abbrev pub Checks : ℕ → Status → List ℕ → Option (List ℕ) → ℕ → ℕ → ℕ → ℕ → Option (List ℕ) → Option (List ℕ) → Type 0
Checks limit Done conf told f ff w ww written now_written = Checked limit told written now_written
Checks limit (ConfRefused line kind) conf told f ff w ww written now_written = HasFault limit line kind told
Checks limit ReadFault conf told f ff w ww written now_written = FileFailed conf f ff
Checks limit TooLong conf told f ff w ww written now_written = IsOver limit told
Checks limit WriteFault conf told f ff w ww written now_written = Rose w ww × CheckedPart limit told written now_written
Checks limit NoMemory conf told f ff w ww written now_written = (now_written ≡ written) ⊎ CheckedPart limit told written now_written
Checks limit Usage conf told f ff w ww written now_written = ⊥
Checks limit (ScriptRefused line) conf told f ff w ww written now_written = ⊥
Checks limit ListenFault conf told f ff w ww written now_written = ⊥

-- whether a check ends so before it writes
abbrev pub ends_before_writing : Status → Bool
ends_before_writing (ConfRefused line kind) = true
ends_before_writing ReadFault = true
ends_before_writing TooLong = true
ends_before_writing _ = false

-- the status of a text's configuration
abbrev pub status_of_answer : Result Config Fault → Status
status_of_answer (Ok config) = Done
status_of_answer (Err fault) = ConfRefused fault.line fault.kind

-- the status that the check of a text ends in, where nothing fails
abbrev pub check_status : ℕ → List ℕ → Status
check_status limit text = if nat_lt limit (length text) then TooLong else status_of_answer (configuration text)
