use Rattle.std.proofs.Common.{◌≡◌, ◌<◌, ◌^◌, drop}
use Rattle.replay_script.specs.Digits.{digits_behind}
use Rattle.replay_script.proofs.numbers.read_digits.Given as goal

abbrev pub invariant-loop-digit : goal.invariant-loop-digit
invariant-loop-digit l = record {
  fits : l.number < 2 ^ 64;
  rest : digits_behind (2 ^ 64) l.number (drop l.digit-index l.digits) ≡ digits_behind (2 ^ 64) 0 l.digits;
}
