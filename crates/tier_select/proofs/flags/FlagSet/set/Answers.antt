use Rattle.std.proofs.Common.{List, Bool, ◌*◌, ◌/◌, ◌<◌, length, set, length-set, ap, ◌∙◌, arith}
use Rattle.tier_select.specs.Flags.{is_set}
use Rattle.tier_select.proofs.Bits.{length-bits, set-here, set-other}
use Rattle.tier_select.proofs.flags.FlagSet.set.Goals as goal

pub returns-clause-size : goal.returns-clause-size
returns-clause-size g c =
    let words = c.self.inside.words in
    length-bits (set words (c.args.i / 64) c.with_bit.result)
    ∙ ap (λ n. 64 * n) (length-set words (c.args.i / 64) c.with_bit.result ∙ c.self.told)

pub returns-clause-here : goal.returns-clause-here
returns-clause-here g c =
    let words = c.self.inside.words in
    let within : c.args.i / 64 < length words = omega (arith, c.requires, c.self.told) in
    set-here words c.args.i c.with_bit.result c.args.on within c.with_bit.ensures.here

pub returns-clause-others : goal.returns-clause-others
returns-clause-others g c = λ k differ.
    let words = c.self.inside.words in
    let within : c.args.i / 64 < length words = omega (arith, c.requires, c.self.told) in
    set-other words c.args.i k c.with_bit.result within c.with_bit.ensures.others differ
    ∙ ap (λ (flags : List Bool). is_set flags k) c.self.view_is
