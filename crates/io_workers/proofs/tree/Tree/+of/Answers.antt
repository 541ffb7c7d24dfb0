use Rattle.std.proofs.Common.{◌≡◌, ◌+◌, ◌/◌, List, length, ap, subst, sym, arith, ◌∙◌}
use Rattle.std.specs.Prelude.{IfOk}
use Rattle.io_workers.specs.declared.rows.Row.{Row}
use Rattle.io_workers.proofs.Sides.{fresh-joined, length-fresh}
use Rattle.io_workers.proofs.tree.Tree.+of.Goals as goal

pub fork-requires-clause-count : goal.fork-requires-clause-count
fork-requires-clause-count t c =
    sym (ap length c.in_ok-low-in_default.ensures ∙ length-fresh c.args.first c.split_at.result.0.now ∙ c.split_at.ensures.front_len)

pub fork-requires-clause-high : goal.fork-requires-clause-high
fork-requires-clause-high t c =
    let same = ap length c.in_ok-high-in_default.ensures ∙ length-fresh (c.args.first + length c.args.retries.now / 2) c.split_at.result.1.now in
    omega (arith, same, c.split_at.ensures.back_len, c.in_default.len_at_least)

pub returns-in_ok-high-in_default : goal.returns-in_ok-high-in_default
returns-in_ok-high-in_default t c =
    let joined = fresh-joined c.args.first (length c.args.retries.now / 2) c.args.retries.now c.split_at.result.0.now c.split_at.result.1.now c.in_ok-low-in_default.low c.in_ok-high-in_default.high c.split_at.ensures.front c.split_at.ensures.back c.split_at.ensures.front_len c.in_ok-low-in_default.ensures c.in_ok-high-in_default.ensures in
    subst (λ (rows : List Row). IfOk c.fork.result (λ tree. tree ≡ rows)) joined c.fork.ensures
