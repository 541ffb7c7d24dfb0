use Rattle.std.proofs.Common.{◌≡◌, ◌∙◌, length, sym, ap, arith}
use Rattle.conf_words.specs.Reading.{continuations, physical}
use Rattle.conf_words.proofs.Groups.{behind-none}
use Rattle.conf_words.proofs.place.Place.pass_continuations.Goals as goal

pub returns : goal.returns
returns c =
    let none : length (continuations (physical c.loop-after.place)) ≡ 0 = ap length c.in_default.ensures.none in
    record {
      lines = sym (behind-none (physical c.loop-after.place) c.in_default.ensures.none) ∙ c.loop-after.invariant.0;
      number = omega (arith, c.loop-after.invariant.1, none);
      no_longer = c.loop-after.invariant.2;
    }
