use Rattle.std.proofs.Common.{sym, ◌∙◌}
use Rattle.bind_pool.proofs.Index.{index-taken, index-undone, on-ok, on-err, is-free}
use Rattle.bind_pool.proofs.pool.BindPool.take.Goals as goal

pub invariant_of-self-then-is_err : goal.invariant_of-self-then-is_err
invariant_of-self-then-is_err c =
    let same = on-err c.insert-2.result _ (sym c.is_err.ensures.value ∙ c.if-is_err.true) c.insert-2.ensures.err in
    rw same (c.self.invariant.0, index-undone c.self.inside.conns c.insert.new.self c.remove.new.self c.self.inside.holders.entries c.args.op c.args.conn c.self.invariant.1 (is-free _ (sym c.contains_key.ensures ∙ c.if-contains_key.false)) c.in_ok-insert.ensures.updates.0 c.remove.ensures.updates.0)

pub invariant_of-self-else-is_err : goal.invariant_of-self-else-is_err
invariant_of-self-else-is_err c =
    let ok = on-ok c.insert-2.result _ (sym c.is_err.ensures.value ∙ c.if-is_err.false) c.insert-2.ensures.updates in
    (c.insert-2.ensures.ordered, index-taken c.self.inside.conns c.insert.new.self c.self.inside.holders.entries _ c.args.op c.args.conn c.self.invariant.1 (is-free _ (sym c.contains_key.ensures ∙ c.if-contains_key.false)) c.in_ok-insert.ensures.updates.0 ok.1 ok.2)
