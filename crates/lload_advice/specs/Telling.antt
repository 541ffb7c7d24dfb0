-- What is told of a file.
use Rattle.std.specs.Prelude.{◌≡◌, ◌↔◌, ℕ, List, map, true, false, Result, IsOk}
use Rattle.std.specs.List.{flat_map}
use Rattle.lload_conf.specs.AllFaults.{all_faults}
use Rattle.lload_conf.specs.Configuration.{Fault}
use Rattle.lload_conf.specs.declared.config.Config.{Config}
use Rattle.lload_advice.specs.Advice.{fault_of}
use Rattle.lload_advice.specs.Texts.{advice_text}
use Rattle.lload_advice.specs.declared.advice.Advice.{Advice}
use Rattle.lload_advice.specs.declared.telling.Told.{Told}

-- the lines of some advices on a file of this name
abbrev pub lines_text : List ℕ → List Advice → List ℕ
lines_text file advices = flat_map (advice_text file) advices

-- a file is called good exactly where the answer is a configuration
abbrev pub IsGoodExactly : Told → Result Config Fault → Type 0
IsGoodExactly told answer = (told.is_good ≡ true) ↔ IsOk answer

-- where a text isn't good, a line was written for each of its faults, and nothing else
abbrev pub NamesAllFaults : List ℕ → List ℕ → Told → Type 0
NamesAllFaults file text told =
    (told.is_good ≡ false) → ((advices : List Advice) × ((map fault_of advices ≡ all_faults text) × (told.out ≡ lines_text file advices)))
