use Rattle.std.proofs.Common.{arith}
use Rattle.std.proofs.lemmas.Grind.{common_steps}
use Rattle.replay_script.proofs.Digits.{digits_behind-full, digits_behind-end}
use Rattle.replay_script.proofs.numbers.read_digits.Goals as goal

pub returns-in_err-number : goal.returns-in_err-number
returns-in_err-number c = grind (arith, common_steps, c.loop-digit.invariant.rest, digits_behind-full)

pub returns : goal.returns
returns c = grind (arith, common_steps, c.loop-digit.invariant.rest, digits_behind-end)
