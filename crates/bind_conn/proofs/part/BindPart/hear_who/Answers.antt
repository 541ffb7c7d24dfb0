use Rattle.std.proofs.Common.{ap, sym, ◌∙◌}
use Rattle.bind_conn.specs.Told.{who_told}
use Rattle.bind_conn.proofs.part.BindPart.hear_who.Goals as goal

pub who_misfit-requires-clause-row : goal.who_misfit-requires-clause-row
who_misfit-requires-clause-row c = λ r e. (c.requires.row r e).1

pub who_misfit-requires-clause-told : goal.who_misfit-requires-clause-told
who_misfit-requires-clause-told c = ap who_told (sym c.as_slice.ensures) ∙ sym c.who_told.ensures ∙ c.in-Unfit.is

pub wait_on-requires-clause-row : goal.wait_on-requires-clause-row
wait_on-requires-clause-row c = λ r e. (c.requires.row r e).1

pub wait_on-requires-clause-told : goal.wait_on-requires-clause-told
wait_on-requires-clause-told c = ap who_told (sym c.as_slice.ensures) ∙ sym c.who_told.ensures ∙ c.in-More.is

pub tell-requires-clause-told : goal.tell-requires-clause-told
tell-requires-clause-told c = ap who_told (sym c.as_slice.ensures) ∙ sym c.who_told.ensures ∙ c.in-Tells.is

pub refuse-requires-clause-row : goal.refuse-requires-clause-row
refuse-requires-clause-row c = λ r e. let f = c.requires.row r e in (f.0, f.1)

pub refuse-requires-clause-told : goal.refuse-requires-clause-told
refuse-requires-clause-told c = ap who_told (sym c.as_slice.ensures) ∙ sym c.who_told.ensures ∙ c.in-Refuses.is
