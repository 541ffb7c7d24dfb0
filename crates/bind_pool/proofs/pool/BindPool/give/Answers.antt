use Rattle.std.proofs.Common.{◌≡◌, true, refl, ap, ◌∙◌}
use Rattle.bind_pool.specs.Holders.{holder_of, holds}
use Rattle.bind_pool.proofs.Index.{index-given, is-holder}
use Rattle.bind_pool.proofs.pool.BindPool.give.Goals as goal

pub invariant_of-self : goal.invariant_of-self
invariant_of-self c =
    let held : holds c.args.op (holder_of c.args.conn c.args.self.now) ≡ true = is-holder _ c.args.op c.holder.result _ (λ p. refl) c.holder.ensures.holder c.if-ne.ensures in
    (c.remove.ensures.ordered, index-given c.self.inside.conns c.remove-2.new.self c.self.inside.holders.entries _ c.args.op c.args.conn c.self.invariant.1 (ap (λ pairs. holds c.args.op (holder_of c.args.conn pairs)) c.self.view_is ∙ held) c.remove-2.ensures.updates.0 c.remove.ensures.updates.1 c.remove.ensures.updates.2)
