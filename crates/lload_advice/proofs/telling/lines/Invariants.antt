use Rattle.std.proofs.Common.{◌≡◌, string_bytes, take}
use Rattle.lload_advice.specs.Telling.{lines_text}
use Rattle.lload_advice.proofs.telling.lines.Given as goal

abbrev pub invariant-loop-advice : goal.invariant-loop-advice
invariant-loop-advice l = string_bytes l.out ≡ lines_text l.file (take l.advice-index l.advices)
