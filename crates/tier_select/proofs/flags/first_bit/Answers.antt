use Rattle.std.proofs.Common.{◌-◌, ◌*◌, ◌^◌, ◌%◌, arith}
use Rattle.std.proofs.lemmas.Nat.{and_le_l}
use Rattle.tier_select.proofs.Bits.{no-bit, lowest-bit}
use Rattle.tier_select.proofs.flags.first_bit.Goals as goal

pub returns-then-rest-eq0-clause-none : goal.returns-then-rest-eq0-clause-none
returns-then-rest-eq0-clause-none c = no-bit c.args.word c.args.from c.requires c.if-rest-eq0.true

pub returns-else-rest-eq0-clause-first : goal.returns-else-rest-eq0-clause-first
returns-else-rest-eq0-clause-first c =
    let some = c.if-rest-eq0.false in
    let least = and_le_l c.args.word ((2 ^ 64 - 1) * 2 ^ c.args.from % 2 ^ 64) in
    let fits = c.ranges.word.fits in
    lowest-bit c.args.word c.args.from c.requires (omega (arith, some)) (omega (arith, least, fits))
