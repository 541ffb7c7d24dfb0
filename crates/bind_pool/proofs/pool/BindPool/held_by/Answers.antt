use Rattle.std.proofs.Common.{◌≡◌, true, false, ap, sym, ◌∙◌, unwrap_or}
use Rattle.std.proofs.lemmas.Bool.{false_from_ne_true}
use Rattle.lload_names.specs.Same.{same_op}
use Rattle.bind_pool.specs.Holders.{holder_of, holds}
use Rattle.bind_pool.proofs.Index.{from-first, conn-le, between, least-key, first-key}
use Rattle.bind_pool.proofs.pool.BindPool.held_by.Goals as goal

pub returns-in_err-found-clause-none : goal.returns-in_err-found-clause-none
returns-in_err-found-clause-none c = λ r n. ap (λ pairs. holds c.args.op (holder_of n pairs)) (sym c.self.view_is) ∙ sym (c.self.invariant.1 c.args.op n) ∙ (c.range.ensures.in_range tt).5 c.in_err-found.ensures.steps.0 (c.args.op, n) (from-first c.args.op n, tt)

pub returns-then-eq-clause-lowest : goal.returns-then-eq-clause-lowest
returns-then-eq-clause-lowest c = λ conn e n h.
    let op = c.args.op in
    let key = c.in_ok-found.field-0.now in
    let is = ap (λ o. unwrap_or o conn) e in
    let same : same_op key.0 op ≡ true = sym c.eq.ensures ∙ c.if-eq.true in
    let here = c.self.invariant.1 op n ∙ ap (λ pairs. holds op (holder_of n pairs)) c.self.view_is ∙ h in
    rw (sym is) (conn-le op key.0 key.1 n same (least-key c.range.result _ key (op, n) c.in_ok-found.ensures.steps ((c.range.ensures.in_range tt).2 (op, n) (from-first op n, tt) here)))

pub returns-else-eq-clause-none : goal.returns-else-eq-clause-none
returns-else-eq-clause-none c = λ r n.
    let op = c.args.op in
    let key = c.in_ok-found.field-0.now in
    let other : same_op key.0 op ≡ false = sym c.eq.ensures ∙ c.if-eq.false in
    let first = first-key c.range.result _ key _ c.in_ok-found.ensures.steps (c.range.ensures.in_range tt).1 in
    false_from_ne_true _ (λ h.
    let here = c.self.invariant.1 op n ∙ ap (λ pairs. holds op (holder_of n pairs)) c.self.view_is ∙ h in
    let bad : true ≡ false = sym (between op key.0 key.1 n first.0.0 (least-key c.range.result _ key (op, n) c.in_ok-found.ensures.steps ((c.range.ensures.in_range tt).2 (op, n) (from-first op n, tt) here))) ∙ other in cc)
