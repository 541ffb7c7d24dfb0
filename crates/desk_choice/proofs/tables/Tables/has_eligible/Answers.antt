use Rattle.std.proofs.Common.{◌+◌, is_some, ap, ◌∙◌}
use Rattle.lload_spec.specs.Choice.{connection_for}
use Rattle.desk_choice.proofs.Tiers.{plan-at, none-at}
use Rattle.desk_choice.proofs.tables.Tables.has_eligible.Goals as goal

pub returns-in-Some : goal.returns-in-Some
returns-in-Some c = λ s f i t b k h g.
    let at = c.args.round.now.first + c.args.place in
    rw c.is_some.ensures (ap is_some (c.connection_for.ensures s f at k c.in-Some.ensures) ∙ ap (λ p. is_some (connection_for s f c.args.kind p)) (plan-at s f c.args.self.now i t c.args.round.now c.args.place c.in-Some.server.now b k h c.in-Some.ensures g))

pub returns-in-None : goal.returns-in-None
returns-in-None c = λ s f i t b k h g. absurd (let bad = none-at s f c.args.self.now i t c.args.round.now c.args.place b k h c.in-None.ensures g in cc)
