use Rattle.std.proofs.Common.{◌+◌, ◌*◌, ◌/◌, sym, arith}
use Rattle.tier_select.specs.Flags.{word_bit}
use Rattle.tier_select.proofs.Bits.{first-none, first-some, step-first}
use Rattle.tier_select.proofs.flags.first_in_words.Goals as goal

pub returns-then-place-to-clause-first : goal.returns-then-place-to-clause-first
returns-then-place-to-clause-first c =
    let words = c.args.words.now in
    let next = c.loop-next.next in
    let within = c.loop-next-test.true in
    let from = c.loop-next.invariant.from in
    let bit = c.in-Some.ensures.first in
    let found = step-first words c.args.from next c.in-Some.bit (λ k low high. c.loop-next.invariant.none k low high (omega (arith, high, within))) bit in
    let least = bit.least in
    sym (first-some (word_bit words) c.args.from c.args.to (next / 64 * 64 + c.in-Some.bit) (omega (arith, from, least)) c.if-place-to.true found.0 found.1)

pub returns-else-place-to-clause-first : goal.returns-else-place-to-clause-first
returns-else-place-to-clause-first c =
    let words = c.args.words.now in
    let next = c.loop-next.next in
    let within = c.loop-next-test.true in
    let beyond = c.if-place-to.false in
    let found = step-first words c.args.from next c.in-Some.bit (λ k low high. c.loop-next.invariant.none k low high (omega (arith, high, within))) c.in-Some.ensures.first in
    sym (first-none (word_bit words) c.args.from c.args.to (λ k low high. found.1 k low (omega (arith, high, beyond))))

pub returns-clause-first : goal.returns-clause-first
returns-clause-first c =
    let done = c.loop-next-test.false in
    sym (first-none (word_bit c.args.words.now) c.args.from c.args.to (λ k low high. c.loop-next.invariant.none k low (omega (arith, high, done)) high))
