use Rattle.std.proofs.Common.{ap, sym, ◌∙◌}
use Rattle.upstream_conn.specs.Told.{own_told}
use Rattle.upstream_conn.proofs.part.UpstreamPart.hear_own.Goals as goal

pub own_success-requires-clause-told : goal.own_success-requires-clause-told
own_success-requires-clause-told c = ap own_told (sym c.as_slice.ensures) ∙ sym c.own_told.ensures ∙ c.in-Success.is

pub own_refused-requires-clause-told : goal.own_refused-requires-clause-told
own_refused-requires-clause-told c = ap own_told (sym c.as_slice.ensures) ∙ sym c.own_told.ensures ∙ c.in-Refused.is

pub own_misfit-requires-clause-told : goal.own_misfit-requires-clause-told
own_misfit-requires-clause-told c = ap own_told (sym c.as_slice.ensures) ∙ sym c.own_told.ensures ∙ c.in-Unfit.is
