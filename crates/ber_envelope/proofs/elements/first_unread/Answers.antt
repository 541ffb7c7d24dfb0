use Rattle.ber_envelope.proofs.Fronts.{read_next, place_next}
use Rattle.std.proofs.Common.{◌∙◌, sym}
use Rattle.ber_envelope.proofs.elements.first_unread.Goals as goal

pub loop-at-preserved : goal.loop-at-preserved
loop-at-preserved c = record {
  within = c.in-Some.ensures.within;
  read = sym (read_next _ _ _ c.in-Some.ensures) ∙ c.loop-at.invariant.read;
  place = sym (place_next _ _ _ c.in-Some.ensures) ∙ c.loop-at.invariant.place;
}
