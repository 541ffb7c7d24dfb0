use Rattle.std.proofs.Common.{◌++◌, refl, subst}
use Rattle.msg_framer.specs.Held.{Held}
use Rattle.msg_framer.specs.History.{Stands}
use Rattle.msg_framer.proofs.Histories.{has_not_ended, stands_kept}
use Rattle.msg_framer.proofs.framer.Framer.feed.Goals as goal

pub returns-clause-history : goal.returns-clause-history
returns-clause-history c fed passed =
    let old : Held = record { left = c.self.inside.held.items; spare = c.self.inside.held.spare; limit = c.self.inside.limit } in
    let new : Held = record { left = c.extend_from_slice.new.self.items; spare = c.extend_from_slice.new.self.spare; limit = c.self.inside.limit } in
    subst (λ (f : Held). Stands fed passed f → Stands (fed ++ c.args.piece.now) passed new) c.self.view_is
    (λ h. stands_kept fed c.args.piece.now passed old new h refl c.in_ok-extend_from_slice.ensures.ok (has_not_ended c.self.inside.limit c.self.inside.held.items c.self.inside.first c.has_ended.result c.self.invariant c.has_ended.ensures c.if-has_ended.false))
