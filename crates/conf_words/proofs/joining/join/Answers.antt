use Rattle.std.proofs.Common.{◌≡◌, ◌∙◌, length, sym, ap, arith, refl}
use Rattle.std.proofs.lemmas.Grind.{common_steps}
use Rattle.conf_words.specs.Reading.{continuations, physical}
use Rattle.conf_words.proofs.Groups.{behind-none, extended, joined-extended, lines_from-joined}
use Rattle.conf_words.proofs.joining.join.Goals as goal

pub loop-line-init : goal.loop-line-init
loop-line-init c =
    let items : c.in_ok-text.text.items ≡ c.args.first.line.now = grind (arith, common_steps) in
    let more = continuations (physical c.args.first.after) in
    (ap (λ text. extended text more) items ∙ sym (joined-extended c.args.first.line.now more), refl, refl)

pub returns : goal.returns
returns c =
    let none = c.in_default.ensures.none in
    let count : length (continuations (physical c.loop-line.place)) ≡ 0 = ap length none in
    lines_from-joined c.args.first c.loop-line.place c.loop-line.text.items c.requires.not_blank c.requires.no_comment c.requires.number
    (ap (extended c.loop-line.text.items) (sym none) ∙ c.loop-line.invariant.0)
    (sym (behind-none (physical c.loop-line.place) none) ∙ c.loop-line.invariant.1)
    (omega (arith, c.loop-line.invariant.2, count))
