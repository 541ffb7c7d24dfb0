use Rattle.std.proofs.Common.{arith, ◌≡◌, ◌∷◌, ◌+◌, ◌≤◌, ◌∙◌, sym, length, drop, ap, length-drop}
use Rattle.std.proofs.lemmas.List.{take_rest}
use Rattle.ber_envelope.proofs.Fronts.{element_made, is_tag-other}
use Rattle.ber_envelope.proofs.elements.element_at.Goals as goal

pub returns : goal.returns
returns c =
    let front : drop c.args.at c.args.bytes.now ≡ c.in_ok-tag.tag.now ∷ c.in_ok-tag.behind.now = sym (take_rest c.args.bytes.now c.args.at) ∙ (sym c.in_ok-get.ensures.lookup.0.2 ∙ c.in_ok-tag.ensures.cases.0) in
    let fits : c.args.at + 1 + c.in-Whole.size + c.in-Whole.value ≤ length c.args.bytes.now = omega (arith, length-drop c.args.at c.args.bytes.now, ap length front, c.in-Whole.ensures.1) in
    element_made c.args.bytes.now c.args.at c.in_ok-tag.tag.now c.in-Whole.size c.in-Whole.value c.in_ok-tag.behind.now front (is_tag-other _ c.if-tag-eq31.false) c.in-Whole.ensures fits
