use Rattle.std.proofs.Common.{◌≡◌, true, string_bytes}
use Rattle.std.specs.List.{list_all}
use Rattle.lload_advice.specs.Shown.{is_shown}
use Rattle.lload_advice.proofs.shown.shown.Given as goal

abbrev pub invariant-loop-c : goal.invariant-loop-c
invariant-loop-c l = list_all is_shown (string_bytes l.shown) ≡ true
