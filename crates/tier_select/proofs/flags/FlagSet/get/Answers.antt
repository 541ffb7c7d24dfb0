use Rattle.std.proofs.Common.{List, Bool, ◌==◌, ◌%◌, ◌/◌, ap, sym, ◌∙◌}
use Rattle.std.specs.Int.{bit_at}
use Rattle.std.proofs.lemmas.Nat.Bits.{bit_at-zero, shr_and_one}
use Rattle.tier_select.specs.Flags.{is_set}
use Rattle.tier_select.proofs.Bits.{is_set-bits, past, same-default}
use Rattle.tier_select.proofs.flags.FlagSet.get.Goals as goal

pub returns-in-Some : goal.returns-in-Some
returns-in-Some g c =
    let words = c.self.inside.words in
    let lookup = c.in-Some.ensures.lookup in
    let word = lookup.1 ∙ same-default words (c.args.i / 64) c.in-Some.word.now 0 lookup.3.0 in
    ap (λ n. n == 1) (shr_and_one c.in-Some.word.now (c.args.i % 64))
    ∙ ap (λ w. bit_at w (c.args.i % 64) == 1) word
    ∙ sym (is_set-bits words c.args.i)
    ∙ ap (λ (flags : List Bool). is_set flags c.args.i) c.self.view_is

pub returns-in-None : goal.returns-in-None
returns-in-None g c =
    let words = c.self.inside.words in
    sym (is_set-bits words c.args.i
    ∙ ap (λ w. bit_at w (c.args.i % 64) == 1) (past words (c.args.i / 64) c.in-None.ensures.lookup.3)
    ∙ ap (λ n. n == 1) (bit_at-zero (c.args.i % 64)))
    ∙ ap (λ (flags : List Bool). is_set flags c.args.i) c.self.view_is
